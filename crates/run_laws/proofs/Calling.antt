-- The next call of a script, which is of the kind of its commands, and what its step comes to.
use Rattle.std.proofs.Common.{◌≡◌, ℕ, zero, suc, ◌+◌, ◌<◌, ◌≤◌, Bool, true, false, List, [], ◌∷◌, length, Option, Some, None, refl, ap, sym, ◌∙◌, arith}
use Rattle.std.proofs.lemmas.Bool.Decides.{nat_tests}
use Rattle.std.proofs.lemmas.Option.{slice_get_within}
use Rattle.std.specs.Prelude.{slice_get, ◌==◌}
use Rattle.std.specs.List.{fold}
use Rattle.std.specs.Option.{is_some}
use Rattle.kernel_values.specs.declared.call.Call.{Call}
use Rattle.kernel_values.specs.declared.call.Call.TheVariants as call
use Rattle.kernel_values.specs.declared.reply.Answer.{Answer}
use Rattle.kernel_values.specs.declared.script.Command.{Command}
use Rattle.kernel_values.specs.declared.script.RegRead.{RegRead}
use Rattle.kernel_values.specs.declared.state.CoreState.{CoreState}
use Rattle.kernel_values.specs.declared.world.World.{World}
use Rattle.kernel_types.specs.Clients.{Acted, ns_act}
use Rattle.kernel_types.specs.Outcome.{Outcome}
use Rattle.kernel_types.specs.Scripts.{Stand, read_register, value_in, call_of, call_at, next_call, answered, stand_after, is_exit}
use Rattle.kernel_values.specs.Calls.{with_number, is_of_thread, is_of_client}
use Rattle.kernel_types.specs.CoreStep.{act}
use Rattle.step_laws.specs.Walks.{is_ending}
use Rattle.run_laws.proofs.Callers.{IsKind, of_thread, of_client, thread_body, client_body}

-- every command's call is of this kind
abbrev pub IsCallable : (Call → Bool) → List Command → Type 0
IsCallable of_kind script = (place : ℕ) (command : Command) → slice_get script place ≡ Some command → of_kind command.call ≡ true

-- a call is next
abbrev pub HasCall : List Command → Stand → Type 0
HasCall script stand = stand.position ≤ length script

-- a command is next, and no exit
abbrev pub HasCommand : List Command → Stand → Type 0
HasCommand script stand = (command : Command) × (slice_get script stand.position ≡ Some command) × (is_exit command.call ≡ false)

-- Registers change no call's kind.

exit_stays : (place value : ℕ) (asked : Call) → is_exit (with_number place value asked) ≡ is_exit asked
exit_stays place value call.Finish = refl
exit_stays place value _ = refl

fold_stays : (p : Call → Bool) → ((place value : ℕ) (asked : Call) → p (with_number place value asked) ≡ p asked) → (registers : List ℕ) (reads : List RegRead) (asked : Call)
    → p (fold (read_register registers) asked reads) ≡ p asked
fold_stays p stays registers [] asked = refl
fold_stays p stays registers (read ∷ reads) asked =
    fold_stays p stays registers reads (read_register registers asked read) ∙ stays read.place (value_in registers read.reg) asked

kind_of : (of_kind : Call → Bool) → IsKind of_kind → (registers : List ℕ) (command : Command) → of_kind (call_of registers command) ≡ of_kind command.call
unfolding call_of
kind_of of_kind k registers command = fold_stays of_kind k.stays registers command.reads command.call

exit_of : (registers : List ℕ) (command : Command) → is_exit (call_of registers command) ≡ is_exit command.call
unfolding call_of
exit_of registers command = fold_stays is_exit exit_stays registers command.reads command.call

goes_on : (asked : Call) → is_ending asked ≡ false → is_exit asked ≡ false
goes_on (call.Exit code) goes = absurd (cc)
goes_on _ goes = refl

-- The next call.

pub record IsNext (of_kind : Call → Bool) (script : List Command) (stand : Stand) (asked : Call) : Type 0 where
  pub next : next_call script stand ≡ Some asked
  pub kind : of_kind asked ≡ true
  pub in_command : is_ending asked ≡ false → HasCommand script stand

get_past : (script : List Command) (k : ℕ) → slice_get script k ≡ None → length script ≤ k
get_past [] k is = omega arith
get_past (command ∷ script) zero is = absurd (cc)
get_past (command ∷ script) (suc k) is = omega (arith, get_past script k is)

same_is : (a b : ℕ) → a ≡ b → (a == b) ≡ true
same_is a b is = grind (arith, nat_tests)

next_at : (of_kind : Call → Bool) → IsKind of_kind → (script : List Command) (stand : Stand) (found : Option Command) → slice_get script stand.position ≡ found
    → IsCallable of_kind script → HasCall script stand → (asked : Call) × IsNext of_kind script stand asked
unfolding next_call
next_at of_kind k script stand None is callable has =
    let last : stand.position ≡ length script = omega (arith, get_past script stand.position is, has) in (
      call.Finish,
      record {
        next = ap (λ (o : Option Command). call_at stand (length script) o) is ∙ rw (same_is stand.position (length script) last) refl;
        kind = k.finish;
        in_command = λ goes. absurd (cc (goes));
      },
    )
next_at of_kind k script stand (Some command) is callable has = (
  call_of stand.registers command,
  record {
    next = ap (λ (o : Option Command). call_at stand (length script) o) is;
    kind = kind_of of_kind k stand.registers command ∙ callable stand.position command is;
    in_command = λ goes. (command, is, sym (exit_of stand.registers command) ∙ goes_on (call_of stand.registers command) goes);
  },
)

-- of a thread, and of a client

pub thread_next : (script : List Command) (stand : Stand) → IsCallable is_of_thread script → HasCall script stand → (asked : Call) × IsNext is_of_thread script stand asked
thread_next script stand callable has = next_at is_of_thread of_thread script stand (slice_get script stand.position) refl callable has

pub client_next : (script : List Command) (stand : Stand) → IsCallable is_of_client script → HasCall script stand → (asked : Call) × IsNext is_of_client script stand asked
client_next script stand callable has = next_at is_of_client of_client script stand (slice_get script stand.position) refl callable has

-- Where a command is next that is no exit, a call is next, before its answer and after it.

pub has_call : (script : List Command) (stand : Stand) → HasCommand script stand → HasCall script stand
has_call script stand has = omega (arith, slice_get_within script stand.position has.0 has.1)

pub answer_goes_on : (script : List Command) (stand : Stand) (given : Answer) → HasCommand script stand → HasCall script (answered script stand given)
unfolding answered
answer_goes_on script stand given has =
    let within : stand.position < length script = slice_get_within script stand.position has.0 has.1 in
    let moved : (stand_after script stand given (slice_get script stand.position)).position ≡ stand.position + 1 = rw (has.1, has.2) refl in
    omega (arith, within, moved)

-- What its step comes to.

pub some_of : {X : Type 0} (o : Option X) → is_some o ≡ true → (x : X) × (o ≡ Some x)
some_of None is = absurd (cc)
some_of (Some x) is = (x, refl)

pub outcome_of : (c : CoreState) (thread app : ℕ) (asked : Call) → is_of_thread asked ≡ true → (outcome : Outcome) × (act c thread app asked ≡ Some outcome)
outcome_of c thread app asked kind = some_of (act c thread app asked) (thread_body c thread app asked kind)

pub acted_of : (clock client : ℕ) (w : World) (asked : Call) → is_of_client asked ≡ true → (acted : Acted) × (ns_act clock client asked w ≡ Some acted)
acted_of clock client w asked kind = some_of (ns_act clock client asked w) (client_body clock client w asked kind)
