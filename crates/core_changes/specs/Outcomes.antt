-- What the program's own values stand for.
use Rattle.std.specs.Prelude.{◌≡◌, ⊤, Option, Some, None}
use Rattle.kernel_values.specs.declared.errno.Errno.{Errno}
use Rattle.kernel_values.specs.declared.reply.Answer.TheVariants as answer
use Rattle.kernel_values.specs.declared.reply.Reply.{Reply}
use Rattle.kernel_values.specs.declared.entry.Seqs.{Seqs}
use Rattle.kernel_values.specs.declared.state.CoreState.{CoreState}
use Rattle.core_changes.specs.declared.outcomes.CallOutcome.{CallOutcome}
use Rattle.kernel_types.specs.Outcome.{Outcome, no_seqs}

-- what was told, with the state that it left
abbrev pub outcome : CallOutcome → CoreState → Outcome
outcome told c = record { answer = told.answer; seqs = told.seqs; core = c }

abbrev pub outcome_if : Option CallOutcome → CoreState → Option Outcome
outcome_if None c = None
outcome_if (Some told) c = Some (outcome told c)

-- where nothing is told, the state stays
abbrev pub stays_unless : Option CallOutcome → CoreState → CoreState → Type 0
stays_unless None old new = new ≡ old
stays_unless (Some told) old new = ⊤

abbrev pub told_gives : Reply → CallOutcome
told_gives reply = record { answer = answer.Gives reply; seqs = no_seqs }

abbrev pub told_gives_with : Reply → Seqs → CallOutcome
told_gives_with reply seqs = record { answer = answer.Gives reply; seqs = seqs }

abbrev pub told_refuses : Errno → CallOutcome
told_refuses errno = record { answer = answer.Refuses errno; seqs = no_seqs }

abbrev pub told_waits : CallOutcome
told_waits = record { answer = answer.Waits; seqs = no_seqs }
