-- A step of the program in the whole state.
use Rattle.std.specs.Prelude.{ℕ, Option, Some, None}
use Rattle.kernel_values.specs.declared.state.CoreState.{CoreState}
use Rattle.kernel_values.specs.declared.world.World.{World}
use Rattle.kernel_values.specs.declared.state.State.{State}
use Rattle.core_changes.specs.declared.outcomes.CallOutcome.{CallOutcome}
use Rattle.kernel_types.specs.Opening.{world_without_clients}
use Rattle.kernel_types.specs.Outcome.{Outcome, no_seqs}
use Rattle.kernel_types.specs.CoreStep.{least_deadline, core_idle, idle_answer}
use Rattle.kernel_types.specs.Step.{Stepped}
use Rattle.kernel_types.specs.Sweep.{sweep}

-- the normal world of a kernel: no client is there, and the driver began with queues of this size
unfoldable pub clientless : ℕ → World
clientless queue = world_without_clients queue

abbrev pub whole : CoreState → ℕ → State
whole core queue = record { core = core; world = clientless queue }

abbrev pub stepped : CallOutcome → CoreState → World → Stepped
stepped told core world = record { answer = told.answer; seqs = told.seqs; state = record { core = core; world = world } }

abbrev pub stepped_if : Option CallOutcome → CoreState → World → Option Stepped
stepped_if None core world = None
stepped_if (Some told) core world = Some (stepped told core world)

abbrev pub idle_outcome : CoreState → Outcome
idle_outcome c = record { answer = idle_answer (least_deadline c); seqs = no_seqs; core = sweep (core_idle (least_deadline c) c) }
