-- What the program's own values stand for.
use Rattle.std.specs.Prelude.{ℕ, List, Option, Some, None, if◌then◌else◌}
use Rattle.kernel_values.specs.declared.errno.Errno.{Errno}
use Rattle.kernel_values.specs.declared.flags.ConnectFlags.{ConnectFlags}
use Rattle.kernel_values.specs.declared.reply.Answer.TheVariants as answer
use Rattle.kernel_values.specs.declared.reply.Reply.{Reply}
use Rattle.kernel_values.specs.declared.reply.Reply.TheVariants as reply
use Rattle.kernel_values.specs.declared.entry.Seqs.{Seqs}
use Rattle.kernel_values.specs.declared.state.CoreState.{CoreState}
use Rattle.kernel_values.specs.declared.state.WaitOn.TheVariants as wait_on
use Rattle.plain_calls.specs.declared.told.CallOutcome.{CallOutcome}
use Rattle.kernel_types.specs.Outcome.{Outcome, gives, no_seqs}
use Rattle.kernel_types.specs.Tables.{install}
use Rattle.kernel_types.specs.Threads.{waits_on}
use Rattle.kernel_types.specs.Connects.{Way, connect_by, is_asynchronous}

-- what was told, with the state that it left
abbrev pub outcome : CallOutcome → CoreState → Outcome
outcome told c = record { answer = told.answer; seqs = told.seqs; core = c }

abbrev pub outcome_if : Option CallOutcome → CoreState → Option Outcome
outcome_if None c = None
outcome_if (Some told) c = Some (outcome told c)

abbrev pub told_gives : Reply → CallOutcome
told_gives reply = record { answer = answer.Gives reply; seqs = no_seqs }

abbrev pub told_gives_with : Reply → Seqs → CallOutcome
told_gives_with reply seqs = record { answer = answer.Gives reply; seqs = seqs }

abbrev pub told_refuses : Errno → CallOutcome
told_refuses errno = record { answer = answer.Refuses errno; seqs = no_seqs }

-- a connect whose end has this number and was promised this handle goes through
abbrev pub connected_as : ℕ → ℕ → ℕ → ℕ → ConnectFlags → CoreState → Outcome
connected_as end handle thread app flags made =
    (if is_asynchronous flags then gives (reply.Handle handle) (install app end made)
    else waits_on thread (wait_on.Connect end handle) None (install app end made))

-- a connect by a way that is not looked into
unfoldable pub connect_way : Way → CoreState → ℕ → ℕ → List ℕ → ConnectFlags → Outcome
connect_way way c thread app path flags = connect_by way c thread app path flags
