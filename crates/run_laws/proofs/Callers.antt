-- The calls that threads make, those that clients make, and `finish` with both; the kernel has a body for each.
use Rattle.std.proofs.Common.{◌≡◌, ℕ, Bool, true, Option, Some, refl, sym, ap, ◌∙◌}
use Rattle.std.specs.Option.{is_some}
use Rattle.kernel_values.specs.Calls.{is_client_call, is_kind_in_client, is_kind_in_thread, is_kind_of_client, is_kind_of_thread, is_of_client, is_of_thread, is_thread_call, kind_of, with_number}
use Rattle.kernel_values.specs.declared.call.Call.{Call}
use Rattle.kernel_values.specs.declared.call.Call.TheVariants as call
use Rattle.kernel_values.specs.declared.call.CallKind.{CallKind}
use Rattle.kernel_values.specs.declared.call.CallKind.TheVariants as kind
use Rattle.kernel_values.specs.declared.state.CoreState.{CoreState}
use Rattle.kernel_values.specs.declared.world.World.{World}
use Rattle.kernel_types.specs.Clients.{Acted, ns_act}
use Rattle.kernel_types.specs.CoreStep.{act}
use Rattle.kernel_types.specs.Outcome.{Outcome}
use Rattle.step_laws.proofs.Bodies.{client_kind, thread_kind}

-- calls of one kind: a register changes no call's kind, and `finish` is of it
pub record IsKind (of_kind : Call → Bool) : Type 0 where
  pub finish : of_kind call.Finish ≡ true
  pub stays : (place value : ℕ) (asked : Call) → of_kind (with_number place value asked) ≡ of_kind asked

thread_stays : (place value : ℕ) (asked : Call) → is_of_thread (with_number place value asked) ≡ is_of_thread asked
thread_stays place value call.Finish = refl
thread_stays place value _ = refl

client_stays : (place value : ℕ) (asked : Call) → is_of_client (with_number place value asked) ≡ is_of_client asked
client_stays place value call.Finish = refl
client_stays place value _ = refl

pub of_thread : IsKind is_of_thread
of_thread = record { finish = refl; stays = thread_stays }

pub of_client : IsKind is_of_client
of_client = record { finish = refl; stays = client_stays }

-- what a scene's scripts may hold

by_kind_of_thread : (of : CallKind) → is_kind_in_thread of ≡ true → is_kind_of_thread of ≡ true
by_kind_of_thread kind.Thread h = refl
by_kind_of_thread _ h = absurd (cc)

by_kind_of_client : (of : CallKind) → is_kind_in_client of ≡ true → is_kind_of_client of ≡ true
by_kind_of_client kind.Thread h = absurd (cc)
by_kind_of_client _ h = refl

pub by_thread : (asked : Call) → is_thread_call asked ≡ true → is_of_thread asked ≡ true
by_thread asked h = by_kind_of_thread (kind_of asked) h

pub by_client : (asked : Call) → is_client_call asked ≡ true → is_of_client asked ≡ true
by_client asked h = by_kind_of_client (kind_of asked) h

-- the kernel has a body for each

pub thread_body : (c : CoreState) (thread app : ℕ) (asked : Call) → is_of_thread asked ≡ true → is_some (act c thread app asked) ≡ true
thread_body c thread app asked h = thread_kind c thread app asked ∙ h

pub client_body : (clock client : ℕ) (w : World) (asked : Call) → is_of_client asked ≡ true → is_some (ns_act clock client asked w) ≡ true
client_body clock client w asked h = client_kind clock client asked w ∙ h

pub has_thread_body : (c : CoreState) (thread app : ℕ) (asked : Call) (outcome : Outcome) → act c thread app asked ≡ Some outcome → is_of_thread asked ≡ true
has_thread_body c thread app asked outcome is = sym (thread_kind c thread app asked) ∙ ap (λ (o : Option Outcome). is_some o) is

pub has_client_body : (clock client : ℕ) (asked : Call) (w : World) (acted : Acted) → ns_act clock client asked w ≡ Some acted → is_of_client asked ≡ true
has_client_body clock client asked w acted is = sym (client_kind clock client asked w) ∙ ap (λ (o : Option Acted). is_some o) is
