-- Where each actor stands at its script: one that runs has a next call, and one that waits, its command's call to be answered.
use Rattle.std.proofs.Common.{◌≡◌, ℕ, Bool, List, [], ◌∷◌, ◌++◌, Option, Some, None, refl, ap, sym, ◌∙◌, subst, arith, append-nil}
use Rattle.std.specs.Prelude.{slice_get, ⊤}
use Rattle.kernel_values.specs.declared.call.Call.{Call}
use Rattle.kernel_values.specs.declared.entry.ActorStatus.{ActorStatus}
use Rattle.kernel_values.specs.declared.entry.ActorStatus.TheVariants as status
use Rattle.kernel_values.specs.declared.entry.Entry.{Entry}
use Rattle.kernel_values.specs.declared.entry.Event.TheVariants as event
use Rattle.kernel_values.specs.declared.reply.Answer.{Answer}
use Rattle.kernel_values.specs.declared.reply.Answer.TheVariants as answer
use Rattle.kernel_values.specs.declared.script.Command.{Command}
use Rattle.kernel_types.specs.Scripts.{Stand, script_begin, stand_on, answered}
use Rattle.kernel_types.specs.Whole.{answers_in, answer_by, final_answer}
use Rattle.kernel_values.specs.Calls.{is_of_client, is_of_thread}
use Rattle.run_laws.proofs.Calling.{IsCallable, HasCall, HasCommand, has_call, answer_goes_on}
use Rattle.run_laws.proofs.Entries.{answers_more}
use Rattle.run_laws.proofs.Longer.{FitsCall, IsOf, begin_is_of, entry_with}
use Rattle.run_laws.proofs.Scripting.{stand_more}
use Rattle.run_laws.proofs.Standings.{IsSilent, Standings}

abbrev pub stood : List Command → ℕ → ℕ → List Entry → Stand
stood script k start entries = stand_on script script_begin (answers_in k start entries)

abbrev pub HasNext : List Entry → ℕ → List Command → ActorStatus → Type 0
HasNext entries k script status.Off = ⊤
HasNext entries k script (status.Running start) = HasCall script (stood script k start entries)
HasNext entries k script (status.Waiting start) = HasCommand script (stood script k start entries)
HasNext entries k script (status.Ended start) = ⊤

-- an actor with a script of this kind
pub record HasScript (of_kind : Call → Bool) (scripts : List (List Command)) (k : ℕ) : Type 0 where
  pub script : List Command
  pub script_is : slice_get scripts k ≡ Some script
  pub callable : IsCallable of_kind script

abbrev pub FitsAt : List (List Command) → List Entry → ℕ → ActorStatus → Type 0
FitsAt scripts entries k x = (script : List Command) → slice_get scripts k ≡ Some script → HasNext entries k script x

-- at the beginning of its script
pub at_beginning : (entries : List Entry) (k start : ℕ) (script : List Command) → answers_in k start entries ≡ [] → HasCall script (stood script k start entries)
unfolding script_begin
at_beginning entries k start script none_yet = rw none_yet (omega arith)

module _ (entries : List Entry) (entry : Entry) where
  -- an entry that answers nothing of an actor's start
  pub silent_same : (j s : ℕ) → answer_by j s entry ≡ None → answers_in j s (entries ++ entry ∷ []) ≡ answers_in j s entries
  silent_same j s silent = answers_more j s entries entry None silent ∙ append-nil _

  stood_same : (script : List Command) (j s : ℕ) → answer_by j s entry ≡ None → stood script j s (entries ++ entry ∷ []) ≡ stood script j s entries
  stood_same script j s silent = ap (λ (answers : List Answer). stand_on script script_begin answers) (silent_same j s silent)

  stood_on : (script : List Command) (j s : ℕ) (given : Answer) → answer_by j s entry ≡ Some given
      → stood script j s (entries ++ entry ∷ []) ≡ answered script (stood script j s entries) given
  stood_on script j s given is =
      ap (λ (answers : List Answer). stand_on script script_begin answers) (answers_more j s entries entry (Some given) is) ∙ stand_more script script_begin (answers_in j s entries) given

  pub fits_longer : (j : ℕ) (script : List Command) (x : ActorStatus) → ((s : ℕ) → IsSilent j s entry) → HasNext entries j script x → HasNext (entries ++ entry ∷ []) j script x
  fits_longer j script status.Off silent fits = tt
  fits_longer j script (status.Running start) silent fits = subst (λ stand. HasCall script stand) (sym (stood_same script j start (silent start).1)) fits
  fits_longer j script (status.Waiting start) silent fits = subst (λ stand. HasCommand script stand) (sym (stood_same script j start (silent start).1)) fits
  fits_longer j script (status.Ended start) silent fits = tt

  -- the command's call is answered, or it waits
  after_answer : (k start : ℕ) (script : List Command) (given : Option Answer) → answer_by k start entry ≡ given → HasCommand script (stood script k start entries)
      → HasCall script (stood script k start (entries ++ entry ∷ []))
  after_answer k start script None is has = subst (λ stand. HasCall script stand) (sym (stood_same script k start is)) (has_call script (stood script k start entries) has)
  after_answer k start script (Some given) is has =
      subst (λ stand. HasCall script stand) (sym (stood_on script k start given is)) (answer_goes_on script (stood script k start entries) given has)

  pub answered_fits : (k start : ℕ) (script : List Command) → HasCommand script (stood script k start entries) → HasCall script (stood script k start (entries ++ entry ∷ []))
  answered_fits k start script has = after_answer k start script (answer_by k start entry) refl has

  waits_fits : (k start : ℕ) (script : List Command) → IsOf k start entry → final_answer entry.answer ≡ None → HasCommand script (stood script k start entries)
      → HasCommand script (stood script k start (entries ++ entry ∷ []))
  waits_fits k start script of none has = subst (λ stand. HasCommand script stand) (sym (stood_same script k start (of.own ∙ none))) has

abbrev pub at_scripts : List (List Command) → Standings
at_scripts scripts = record {
  thread = HasScript is_of_thread scripts;
  client = HasScript is_of_client scripts;
  unused = λ entries k start. answers_in k start entries ≡ [];
  fits = FitsAt scripts;
  off = λ entries k script script_is. tt;
  ended = λ entries k start script script_is. tt;
  begins = λ entries k start none_yet script script_is. at_beginning entries k start script none_yet;
  unused_longer = λ entries entry k start silent none_yet. silent_same entries entry k start silent.1 ∙ none_yet;
  fits_longer = λ entries entry k x silent fits script script_is. fits_longer entries entry k script x silent (fits script script_is);
}

-- the call of a command
pub fits_call : (scripts : List (List Command)) (entries : List Entry) (k start : ℕ) (asked : Call) (script : List Command) → slice_get scripts k ≡ Some script
    → HasCommand script (stood script k start entries) → FitsCall (at_scripts scripts) entries k start asked
fits_call scripts entries k start asked script script_is has =
    let here : (found : List Command) → slice_get scripts k ≡ Some found → HasCommand found (stood found k start entries) =
    λ found found_is. subst (λ (s : List Command). HasCommand s (stood s k start entries)) (let same : script ≡ found = cc in same) has in
    let e : _ = event.Begin (record { 0 = k }) start asked in
    record {
      answered = λ given seqs final found found_is. answered_fits entries (entry_with e given seqs) k start found (here found found_is);
      waits = λ seqs found found_is. waits_fits entries (entry_with e answer.Waits seqs) k start found (begin_is_of k start asked (entry_with e answer.Waits seqs) refl) refl (here found found_is);
    }

-- the end of its wait
pub fits_end : (scripts : List (List Command)) (entries : List Entry) (entry : Entry) (k start : ℕ) → FitsAt scripts entries k (status.Waiting start)
    → FitsAt scripts (entries ++ entry ∷ []) k (status.Running start)
fits_end scripts entries entry k start fits script script_is = answered_fits entries entry k start script (fits script script_is)
