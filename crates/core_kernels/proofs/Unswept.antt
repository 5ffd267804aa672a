-- The step of an event is what the event leaves, and then the sweep.
use Rattle.std.proofs.Common.{◌≡◌, Bool, true, false, Some, None, refl}
use Rattle.std.specs.Prelude.{if◌then◌else◌}
use Rattle.std.specs.Option.{option_map}
use Rattle.kernel_values.specs.declared.entry.Event.{Event}
use Rattle.kernel_values.specs.declared.entry.Event.TheVariants as event
use Rattle.kernel_values.specs.declared.state.CoreState.{CoreState}
use Rattle.kernel_types.specs.CoreStep.{swept}
use Rattle.core_waits.specs.Unswept.{idled, taken}
use Rattle.core_waits.proofs.Sweeping.{swept_begun, swept_wait_ended}
use Rattle.core_kernels.specs.CoreSteps.{core_idle_lawful, core_step}
use Rattle.core_kernels.specs.Steps.{idle_outcome}

idle_if : (c : CoreState) (b : Bool) → (if b then Some (idle_outcome c) else None) ≡ option_map swept (if b then Some (idled c) else None)
idle_if c true = refl
idle_if c false = refl

pub swept_taken : (c : CoreState) (e : Event) → core_step c e ≡ option_map swept (taken c (core_idle_lawful c) e)
unfolding core_step taken
swept_taken c (event.Begin actor start call) = swept_begun c actor.0 start call
swept_taken c (event.Resume actor start) = swept_wait_ended c actor.0 start
swept_taken c event.Device = refl
swept_taken c event.Idle = idle_if c (core_idle_lawful c)
