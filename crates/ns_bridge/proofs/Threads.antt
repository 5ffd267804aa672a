-- A thread's step is the core's, and leaves the rest.
use Rattle.std.proofs.Common.{◌≡◌, ◌≤◌, ◌<◌, ℕ, zero, suc, ◌+◌, ◌&&◌, Bool, false, cond, not, List, [], ◌∷◌, ◌++◌, length, map, Option, Some, None, refl, sym, ◌∙◌, ap, subst, arith, tests, length-append}
use Rattle.std.specs.Prelude.{nat_le, slice_get}
use Rattle.std.specs.Option.{option_map}
use Rattle.std.proofs.lemmas.List.{length-map}
use Rattle.kernel_values.specs.declared.entry.ActorStatus.{ActorStatus}
use Rattle.kernel_values.specs.declared.entry.Entry.{Entry}
use Rattle.kernel_values.specs.declared.entry.Event.{Event}
use Rattle.kernel_values.specs.declared.entry.Event.TheVariants as event
use Rattle.kernel_values.specs.declared.reply.Answer.{Answer}
use Rattle.kernel_values.specs.declared.state.CoreState.{CoreState}
use Rattle.kernel_values.specs.declared.state.State.{State}
use Rattle.kernel_values.specs.declared.state.Thread.{Thread}
use Rattle.kernel_values.specs.declared.world.ClientState.{ClientState}
use Rattle.kernel_values.specs.declared.world.Device.{Device}
use Rattle.kernel_values.specs.declared.world.World.{World}
use Rattle.kernel_types.specs.CoreStep.{core_begin, core_resume, status_of}
use Rattle.kernel_types.specs.Facts.{is_client, status_at}
use Rattle.kernel_types.specs.History.{entry_of, state_or}
use Rattle.kernel_types.specs.Kernel.{CauseHolds, Did, Refused, status_for, step_limit}
use Rattle.kernel_types.specs.Limits.{FitsIn, full_room, no_room, room_of}
use Rattle.kernel_types.specs.Outcome.{Outcome}
use Rattle.kernel_types.specs.Step.{Stepped, client_status, step, in_world, statuses}
use Rattle.kernel_types.specs.declared.kernel.StepCause.{StepCause}
use Rattle.kernel_types.specs.declared.kernel.StepCause.TheVariants.{NotMovable, Full, NoMemory}
use Rattle.kernel_types.specs.declared.kernel.StepRefused.{StepRefused}
use Rattle.kernel_types.proofs.Actors.{begin_of_thread, below_is_thread, resume_of_thread}
use Rattle.kernel_laws.specs.Actors.{HasSameActors, kinds}
use Rattle.kernel_laws.proofs.SameActors.{steps_keep}
use Rattle.ns_bridge.specs.Parts.{Normal, state_of, world_of}
use Rattle.ns_bridge.specs.Wholes.{IsOfThread, IsWhole}

-- the same step in another world
abbrev moved : World → Stepped → Stepped
moved w r = record { answer = r.answer; seqs = r.seqs; state = record { core = r.state.core; world = w } }

moved_in : (v w : World) (o : Option Outcome) → option_map (in_world w) o ≡ option_map (moved w) (option_map (in_world v) o)
moved_in v w None = refl
moved_in v w (Some outcome) = refl

thread_step : (c : CoreState) (v w : World) (e : Event) → IsOfThread (length c.threads) e
    → step (record { core = c; world = w }) e ≡ option_map (moved w) (step (record { core = c; world = v }) e)
unfolding step
thread_step c v w (event.Begin actor start asked) of =
    let s : State = record { core = c; world = w } in
    let t : State = record { core = c; world = v } in
    begin_of_thread s actor.0 start asked (below_is_thread s actor.0 of)
    ∙ (moved_in v w (core_begin c actor.0 start asked) ∙ ap (option_map (moved w)) (sym (begin_of_thread t actor.0 start asked (below_is_thread t actor.0 of))))
thread_step c v w (event.Resume actor start) of =
    let s : State = record { core = c; world = w } in
    let t : State = record { core = c; world = v } in
    resume_of_thread s actor.0 start (below_is_thread s actor.0 of)
    ∙ (moved_in v w (core_resume c actor.0 start) ∙ ap (option_map (moved w)) (sym (resume_of_thread t actor.0 start (below_is_thread t actor.0 of))))
thread_step c v w event.Device of = absurd of
thread_step c v w event.Idle of = absurd of

-- it goes through

entry_moved : (e : Event) (w : World) (o : Option Stepped) → option_map (entry_of e) (option_map (moved w) o) ≡ option_map (entry_of e) o
entry_moved e w None = refl
entry_moved e w (Some r) = refl

state_moved : (s : State) (w : World) (e : Event) (o : Option Stepped) (entry : Entry) → option_map (entry_of e) o ≡ Some entry
    → record { core = (state_or s o).core; world = w } ≡ state_or (record { core = s.core; world = w }) (option_map (moved w) o)
state_moved s w e None entry is = absurd (cc)
state_moved s w e (Some r) entry is = refl

pub thread_did : (e : Event) (s t : State) (core_made core_remade made : ℕ) (entry : Entry) (d : Device) (n : Normal) → IsOfThread (length s.core.threads) e → made < step_limit
    → Did e s t core_made core_remade entry → Did e (state_of s.core d n) (state_of t.core d n) made (made + 1) entry
thread_did e s t core_made core_remade made entry d n of below did =
    let w : World = world_of d n in
    let same : step (state_of s.core d n) e ≡ option_map (moved w) (step s e) = thread_step s.core s.world w e of in
    record {
      event_is = did.event_is;
      entry_is = ap (option_map (entry_of e)) same ∙ (entry_moved e w (step s e) ∙ did.entry_is);
      state_is = ap (λ (x : State). record { core = x.core; world = w }) did.state_is
          ∙ (state_moved s w e (step s e) entry did.entry_is ∙ ap (state_or (state_of s.core d n)) (sym same));
      made_is = refl;
      below = below;
    }

-- or is refused

front : {Z : Type 0} (xs ys zs : List Z) (k : ℕ) → k < length xs → slice_get (xs ++ ys) k ≡ slice_get (xs ++ zs) k
front [] ys zs k h = absurd (omega arith)
front (x ∷ xs) ys zs zero h = refl
front (x ∷ xs) ys zs (suc k) h = front xs ys zs k (omega arith)

pub thread_status : (c : CoreState) (v w : World) (k : ℕ) → k < length c.threads → status_at (record { core = c; world = v }) k ≡ status_at (record { core = c; world = w }) k
unfolding statuses
thread_status c v w k h =
    let f : Thread → ActorStatus = λ thread. status_of thread.activity in
    let g : ClientState → ActorStatus = λ client. client_status client.activity in
    front (map f c.threads) (map g v.clients) (map g w.clients) k (omega (arith, h, length-map c.threads f))

status_moved : (c : CoreState) (v w : World) (e : Event) → IsOfThread (length c.threads) e → status_for (record { core = c; world = v }) e ≡ status_for (record { core = c; world = w }) e
status_moved c v w (event.Begin actor start asked) of = thread_status c v w actor.0 of
status_moved c v w (event.Resume actor start) of = thread_status c v w actor.0 of
status_moved c v w event.Device of = absurd of
status_moved c v w event.Idle of = absurd of

cause_moved : (e : Event) (s : State) (w : World) (core_made made : ℕ) (cause : StepCause) → IsOfThread (length s.core.threads) e → core_made ≤ made → made < step_limit
    → CauseHolds e s core_made cause → CauseHolds e (record { core = s.core; world = w }) made cause
cause_moved e s w core_made made (NotMovable status) of fewer below holds =
    let same : step (record { core = s.core; world = w }) e ≡ option_map (moved w) (step s e) = thread_step s.core s.world w e of in
    (same ∙ ap (option_map (moved w)) holds.0, holds.1 ∙ status_moved s.core s.world w e of)
cause_moved e s w core_made made Full of fewer below holds = absurd (omega (arith, fewer, below, holds.1))
cause_moved e s w core_made made NoMemory of fewer below holds = tt

pub thread_refused : (e : Event) (s t : State) (core_made core_remade made : ℕ) (refused : StepRefused) (d : Device) (n : Normal) → IsOfThread (length s.core.threads) e
    → core_made ≤ made → made < step_limit
    → Refused e s t core_made core_remade refused → Refused e (state_of s.core d n) (state_of t.core d n) made made refused
thread_refused e s t core_made core_remade made refused d n of fewer below r = record {
  event_is = r.event_is;
  state_is = ap (λ (x : State). state_of x.core d n) r.state_is;
  made_is = refl;
  cause = cause_moved e s (world_of d n) core_made made refused.cause of fewer below r.cause;
}

-- what it answers fits as in the core

no_client : (s : State) (k : ℕ) → k < length s.core.threads → is_client s k ≡ false
no_client s k h =
    let first : nat_le (length s.core.threads) k ≡ false = grind (arith, tests) in
    ap (λ b. b && not (nat_le (length (statuses s)) k)) first

pub thread_fits : (e : Event) (s : State) (answer : Answer) (d : Device) (n : Normal) → IsOfThread (length s.core.threads) e → FitsIn (room_of s e) answer
    → FitsIn (room_of (state_of s.core d n) e) answer
thread_fits (event.Begin actor start asked) s answer d n of fits = fits
thread_fits (event.Resume actor start) s answer d n of fits =
    let here : FitsIn no_room answer = subst (λ (b : Bool). FitsIn (cond b full_room no_room) answer) (no_client s actor.0 of) fits in
    subst (λ (b : Bool). FitsIn (cond b full_room no_room) answer) (sym (no_client (state_of s.core d n) actor.0 of)) here
thread_fits event.Device s answer d n of fits = absurd of
thread_fits event.Idle s answer d n of fits = absurd of

-- no step changes how many threads there are

kinds_long : (s : State) → length (kinds s) ≡ length s.core.threads + length s.world.clients
kinds_long s =
    let f : Thread → Option ℕ = λ thread. Some thread.app in
    let g : ClientState → Option ℕ = λ client. None in
    omega (arith, length-append (map f s.core.threads) (map g s.world.clients), length-map s.core.threads f, length-map s.world.clients g)

pub threads_stay : (s t : State) → HasSameActors s t → length t.world.clients ≡ length s.world.clients → length t.core.threads ≡ length s.core.threads
threads_stay s t same clients = omega (arith, ap length same.kinds, kinds_long s, kinds_long t, clients)

next_same : (s : State) (e : Event) (o : Option Stepped) (entry : Entry) → option_map (entry_of e) o ≡ Some entry → ((r : Stepped) → o ≡ Some r → HasSameActors s r.state)
    → HasSameActors s (state_or s o)
next_same s e None entry is keeps = absurd (cc)
next_same s e (Some r) entry is keeps = keeps r refl

pub did_threads : (e : Event) (s t : State) (core_made core_remade : ℕ) (entry : Entry) → Did e s t core_made core_remade entry → s.world.clients ≡ [] → t.world.clients ≡ []
    → length t.core.threads ≡ length s.core.threads
did_threads e s t core_made core_remade entry did none still =
    let same : HasSameActors s t = subst (λ (x : State). HasSameActors s x) (sym did.state_is) (next_same s e (step s e) entry did.entry_is (λ r is. steps_keep s e r is)) in
    threads_stay s t same (ap length still ∙ sym (ap length none))

pub did_whole : (e : Event) (s t : State) (core_made core_remade threads made : ℕ) (entry : Entry) → Did e s t core_made core_remade entry → s.world.clients ≡ [] → t.world.clients ≡ []
    → IsWhole s.core core_made threads made → IsWhole t.core core_remade threads (made + 1)
did_whole e s t core_made core_remade threads made entry did none still whole = record {
  fewer = omega (arith, did.made_is, whole.fewer);
  count = did_threads e s t core_made core_remade entry did none still ∙ whole.count;
}

pub refused_whole : (e : Event) (s t : State) (core_made core_remade threads made : ℕ) (refused : StepRefused) → Refused e s t core_made core_remade refused
    → IsWhole s.core core_made threads made → IsWhole t.core core_remade threads made
refused_whole e s t core_made core_remade threads made refused r whole = record {
  fewer = omega (arith, r.made_is, whole.fewer);
  count = ap (λ (x : State). length x.core.threads) r.state_is ∙ whole.count;
}
