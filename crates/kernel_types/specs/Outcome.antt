-- What a call or the end of a wait comes to: its answer, which messages it sent, opened and retired, and the state after it.
use Rattle.std.specs.Prelude.{ℕ, Some, None}
use Rattle.kernel_values.specs.declared.reply.Answer.{Answer}
use Rattle.kernel_values.specs.declared.reply.Answer.TheVariants.{Waits, Gives, Refuses}
use Rattle.kernel_values.specs.declared.reply.Reply.{Reply}
use Rattle.kernel_values.specs.declared.errno.Errno.{Errno}
use Rattle.kernel_values.specs.declared.entry.Seqs.{Seqs}
use Rattle.kernel_values.specs.declared.entry.EndSeq.{EndSeq}
use Rattle.kernel_values.specs.declared.state.CoreState.{CoreState}

pub record Outcome : Type 0 where
  pub answer : Answer
  pub seqs : Seqs
  pub core : CoreState

abbrev pub no_seqs : Seqs
no_seqs = record { sent = None; opened = None; retired = None }

-- a message by its end and its number there
abbrev pub end_seq : ℕ → ℕ → EndSeq
end_seq end seq = record { end = record { 0 = end }; seq = seq }

abbrev pub sent_seq : ℕ → ℕ → Seqs
sent_seq end seq = record { sent = Some (end_seq end seq); opened = None; retired = None }

abbrev pub opened_seq : ℕ → ℕ → Seqs
opened_seq end seq = record { sent = None; opened = Some (end_seq end seq); retired = None }

abbrev pub retired_seq : ℕ → ℕ → Seqs
retired_seq end seq = record { sent = None; opened = None; retired = Some (end_seq end seq) }

abbrev pub gives : Reply → CoreState → Outcome
gives reply c = record { answer = Gives reply; seqs = no_seqs; core = c }

abbrev pub gives_with : Reply → Seqs → CoreState → Outcome
gives_with reply seqs c = record { answer = Gives reply; seqs = seqs; core = c }

abbrev pub refuses : Errno → CoreState → Outcome
refuses errno c = record { answer = Refuses errno; seqs = no_seqs; core = c }

abbrev pub answers_waits : CoreState → Outcome
answers_waits c = record { answer = Waits; seqs = no_seqs; core = c }
