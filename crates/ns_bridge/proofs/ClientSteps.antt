-- A client's step in the whole kernel.
use Rattle.std.proofs.Common.{◌≡◌, ◌<◌, ℕ, ◌+◌, ◌&&◌, Bool, true, false, cond, not, length, map, Option, Some, None, refl, sym, ◌∙◌, ap, subst, arith, tests, length-append}
use Rattle.std.specs.Prelude.{nat_le, slice_get}
use Rattle.std.specs.Option.{option_map}
use Rattle.std.proofs.lemmas.List.{length-map}
use Rattle.std.proofs.lemmas.Option.{slice_get_within}
use Rattle.kernel_values.specs.declared.entry.ActorStatus.{ActorStatus}
use Rattle.kernel_values.specs.declared.entry.Event.{Event}
use Rattle.kernel_values.specs.declared.entry.Event.TheVariants as event
use Rattle.kernel_values.specs.declared.reply.Answer.{Answer}
use Rattle.kernel_values.specs.declared.state.CoreState.{CoreState}
use Rattle.kernel_values.specs.declared.state.State.{State}
use Rattle.kernel_values.specs.declared.state.Thread.{Thread}
use Rattle.kernel_values.specs.declared.world.ClientState.{ClientState}
use Rattle.kernel_values.specs.declared.world.Device.{Device}
use Rattle.kernel_types.specs.CoreStep.{status_of}
use Rattle.kernel_types.specs.Facts.{is_client}
use Rattle.kernel_types.specs.History.{entry_of, state_or}
use Rattle.kernel_types.specs.Kernel.{Did, Refused, status_for, step_limit}
use Rattle.kernel_types.specs.Limits.{FitsIn, full_room, no_room, room_by, room_of}
use Rattle.kernel_types.specs.Outcome.{no_seqs}
use Rattle.kernel_types.specs.Step.{client_status, statuses, step}
use Rattle.kernel_types.specs.declared.kernel.StepCause.TheVariants.{NotMovable}
use Rattle.ns_bridge.specs.Acts.{Answered, answered_if, beside, client_acted, client_resumed, resumed_of}
use Rattle.ns_bridge.specs.Parts.{Normal, state_of}
use Rattle.ns_bridge.specs.Wholes.{IsOfClient}
use Rattle.ns_bridge.proofs.Lifting.{client_step}

pub client_did : (e : Event) (c : CoreState) (d : Device) (n after : Normal) (answer : Answer) (client made : ℕ) → IsOfClient (length c.threads) client e → made < step_limit
    → answered_if (Some answer) after ≡ client_acted c.clock client e n
    → Did e (state_of c d n) (state_of c d after) made (made + 1) (record { event = e; answer = answer; seqs = no_seqs })
client_did e c d n after answer client made of below done =
    let s : State = state_of c d n in
    let stepped : step s e ≡ Some (beside c d (record { answer = answer; normal = after })) =
    client_step s (length c.threads) client e refl of ∙ ap (option_map (beside c d)) (sym done) in
    record {
      event_is = refl;
      entry_is = ap (option_map (entry_of e)) stepped;
      state_is = sym (ap (state_or s) stepped);
      made_is = refl;
      below = below;
    }

pub client_refused : (e : Event) (c : CoreState) (d : Device) (n after : Normal) (client made : ℕ) → IsOfClient (length c.threads) client e
    → answered_if None after ≡ client_acted c.clock client e n → after ≡ n
    → Refused e (state_of c d n) (state_of c d after) made made (record { event = e; cause = NotMovable (status_for (state_of c d n) e) })
client_refused e c d n after client made of none same =
    let s : State = state_of c d n in
    record {
      event_is = refl;
      state_is = ap (λ (m : Normal). state_of c d m) same;
      made_is = refl;
      cause = (client_step s (length c.threads) client e refl of ∙ ap (option_map (beside c d)) (sym none), refl);
    }

-- the room of a client's event

pub statuses_long : (s : State) → length (statuses s) ≡ length s.core.threads + length s.world.clients
unfolding statuses
statuses_long s =
    let f : Thread → ActorStatus = λ thread. status_of thread.activity in
    let g : ClientState → ActorStatus = λ client. client_status client.activity in
    omega (arith, length-append (map f s.core.threads) (map g s.world.clients), length-map s.core.threads f, length-map s.world.clients g)

pub is_client_by : (s : State) (k : ℕ) → is_client s k ≡ (nat_le (length s.core.threads) k && not (nat_le (length s.core.threads + length s.world.clients) k))
is_client_by s k = ap (λ n. nat_le (length s.core.threads) k && not (nat_le n k)) (statuses_long s)

there_is_client : (s : State) (k client : ℕ) → k ≡ length s.core.threads + client → client < length s.world.clients → is_client s k ≡ true
there_is_client s k client is below =
    let first : nat_le (length s.core.threads) k ≡ true = grind (arith, tests) in
    let last : nat_le (length s.core.threads + length s.world.clients) k ≡ false = grind (arith, tests) in
    is_client_by s k ∙ (ap (λ b. b && not (nat_le (length s.core.threads + length s.world.clients) k)) first ∙ ap not last)

resumed_within : (clock client start : ℕ) (n : Normal) (a : Answered) → client_resumed clock client start n ≡ Some a → client < length n.clients
unfolding client_resumed
resumed_within clock client start n a is =
    let P : Option ClientState → Type 0 = λ o. slice_get n.clients client ≡ o → resumed_of clock client start n (option_map (λ (state : ClientState). state.activity) o) ≡ Some a → client < length n.clients in
    let go : (o : Option ClientState) → P o = λ o. elim o as (λ v. P v) [ None ↦ (λ there h. absurd (cc)) | Some found ↦ (λ there h. slice_get_within n.clients client found there) ] in
    go (slice_get n.clients client) refl is

pub client_fits : (e : Event) (c : CoreState) (d : Device) (n after : Normal) (answer : Answer) (client : ℕ) → IsOfClient (length c.threads) client e
    → answered_if (Some answer) after ≡ client_acted c.clock client e n → FitsIn (room_by true e) answer → FitsIn (room_of (state_of c d n) e) answer
unfolding client_acted
client_fits (event.Begin actor start asked) c d n after answer client of done fits = fits
client_fits (event.Resume actor start) c d n after answer client of done fits =
    subst (λ (b : Bool). FitsIn (cond b full_room no_room) answer)
    (sym (there_is_client (state_of c d n) actor.0 client of (resumed_within c.clock client start n _ (sym done)))) fits
client_fits event.Device c d n after answer client of done fits = absurd of
client_fits event.Idle c d n after answer client of done fits = absurd of
