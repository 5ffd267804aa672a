-- Along a history: what was taken off is what was on its way and was added, but for what is still on its way.
use Rattle.std.proofs.Common.{◌≡◌, ℕ, zero, suc, ◌+◌, ◌-◌, ◌<◌, ◌≤◌, true, List, [], ◌∷◌, ◌++◌, Option, Some, None, length, map, refl, sym, ap, ◌∙◌, arith, append_assoc}
use Rattle.std.specs.Prelude.{slice_get}
use Rattle.std.specs.List.{enumerate_from, flat_map, list_all}
use Rattle.std.specs.Option.{option_map}
use Rattle.std.proofs.lemmas.Bool.{ltb-false}
use Rattle.std.proofs.lemmas.List.{append-nil, length-append, length-map}
use Rattle.std.proofs.lemmas.List.Elements.{recursion_from_All}
use Rattle.kernel_values.specs.SceneLaw.{SceneValue, is_queue_size, scripts_of}
use Rattle.kernel_values.specs.declared.entry.Entry.{Entry}
use Rattle.kernel_values.specs.declared.entry.Event.{Event}
use Rattle.kernel_values.specs.declared.entry.Event.TheVariants as event
use Rattle.kernel_values.specs.declared.scene.App.{App}
use Rattle.kernel_values.specs.declared.scene.Client.{Client}
use Rattle.kernel_values.specs.declared.script.Command.{Command}
use Rattle.kernel_values.specs.declared.state.Object.{Object}
use Rattle.kernel_values.specs.declared.state.State.{State}
use Rattle.kernel_values.specs.declared.state.Thread.{Thread}
use Rattle.kernel_values.specs.declared.world.ClientState.{ClientState}
use Rattle.kernel_types.specs.Carried.{IsCarried, is_honest, offered, offered_in, taken, taken_in, given_in, given_out, drained_in, read_back}
use Rattle.kernel_types.specs.History.{Legal, entry_of, next_state, state_after, state_or}
use Rattle.kernel_types.specs.Limits.{IsBodyWithin, IsWithinLimits}
use Rattle.kernel_types.specs.Opening.{opening, opening_client, opening_threads, opening_activity}
use Rattle.kernel_types.specs.Step.{Stepped, step}
use Rattle.kernel_types.specs.Whole.{FollowsScripts}
use Rattle.kernel_laws.specs.Actors.{HasSameActors}
use Rattle.kernel_laws.proofs.SameActors.{steps_keep}
use Rattle.kernel_laws.proofs.Small.{opening_within, steps_within}
use Rattle.carry_laws.proofs.Carrying.{Carrying}
use Rattle.carry_laws.proofs.Dues.{AreWithin}
use Rattle.carry_laws.proofs.Honest.{IsHonestEntry, all_honest}
use Rattle.carry_laws.proofs.Lists.{AllOf}
use Rattle.carry_laws.proofs.Moves.{Moved}
use Rattle.carry_laws.proofs.Opened.{opening_carries}
use Rattle.carry_laws.proofs.Steps.{IsHonestEvent, Moves, step_moves}

-- The actors stay, and all stays within its limits.

abbrev threads_in : List (Option ℕ) → ℕ
threads_in [] = 0
threads_in (None ∷ kinds) = threads_in kinds
threads_in (Some app ∷ kinds) = suc (threads_in kinds)

abbrev kinds_of : List Thread → List ClientState → List (Option ℕ)
kinds_of threads clients = map (λ thread. Some thread.app) threads ++ map (λ client. None) clients

no_threads : (clients : List ClientState) → threads_in (map (λ (client : ClientState). None) clients) ≡ 0
no_threads [] = refl
no_threads (client ∷ clients) = no_threads clients

threads_are : (threads : List Thread) (clients : List ClientState) → threads_in (kinds_of threads clients) ≡ length threads
threads_are [] clients = no_threads clients
threads_are (thread ∷ threads) clients = ap (λ n. suc n) (threads_are threads clients)

kinds_long : (threads : List Thread) (clients : List ClientState) → length (kinds_of threads clients) ≡ length threads + length clients
kinds_long threads clients =
    let of_client : ClientState → Option ℕ = λ client. None in
    length-append (map (λ (thread : Thread). Some thread.app) threads) (map of_client clients)
    ∙ ap (λ n. n + length (map of_client clients)) (length-map threads (λ (thread : Thread). Some thread.app))
    ∙ ap (λ n. length threads + n) (length-map clients of_client)

pub record IsOfScene (scene : SceneValue) (s : State) : Type 0 where
  pub threads : length s.core.threads ≡ length (flat_map (λ app. app.threads) scene.apps)
  pub clients : length s.world.clients ≡ length scene.clients
  pub within : IsWithinLimits s

fits_on : (scene : SceneValue) (s : State) (e : Event) (r : Stepped) → IsOfScene scene s → step s e ≡ Some r → IsOfScene scene r.state
fits_on scene s e r fits is =
    let same : HasSameActors s r.state = steps_keep s e r is in
    let threads : length r.state.core.threads ≡ length s.core.threads =
    sym (threads_are r.state.core.threads r.state.world.clients) ∙ ap threads_in same.kinds ∙ threads_are s.core.threads s.world.clients in
    let all : length r.state.core.threads + length r.state.world.clients ≡ length s.core.threads + length s.world.clients =
    sym (kinds_long r.state.core.threads r.state.world.clients) ∙ ap length same.kinds ∙ kinds_long s.core.threads s.world.clients in
    record {
      threads = threads ∙ fits.threads;
      clients = omega (arith, fits.clients);
      within = (steps_within s e r fits.within is).0;
    }

threads_from : (n : ℕ) (apps : List App) → length (flat_map opening_threads (enumerate_from n apps)) ≡ length (flat_map (λ app. app.threads) apps)
threads_from n [] = refl
threads_from n (app ∷ apps) =
    length-append (opening_threads (n, app)) (flat_map opening_threads (enumerate_from (n + 1) apps))
    ∙ ap (λ len. len + length (flat_map opening_threads (enumerate_from (n + 1) apps))) (length-map app.threads (λ (script : List Command). record { app = n; activity = opening_activity app.manifest }))
    ∙ ap (λ len. length app.threads + len) (threads_from (n + 1) apps)
    ∙ sym (length-append app.threads (flat_map (λ (other : App). other.threads) apps))

opening_fits : (scene : SceneValue) → IsOfScene scene (opening scene)
unfolding opening
opening_fits scene = record { threads = threads_from 0 scene.apps; clients = length-map scene.clients opening_client; within = opening_within scene }

within_core : (s : State) → IsWithinLimits s → AreWithin s.core
within_core s w = recursion_from_All (λ (object : Object). IsBodyWithin object.body) s.core.objects w.objects

-- An honest entry is an honest event, as the clients are those of the scene.

below_length : {X : Type 0} (xs : List X) (at : ℕ) (x : X) → slice_get xs at ≡ Some x → at < length xs
below_length [] at x is = absurd (cc)
below_length (y ∷ ys) zero x is = omega arith
below_length (y ∷ ys) (suc at) x is = let less : at < length ys = below_length ys at x is in omega arith

found_below : {X : Type 0} (xs : List X) (at : ℕ) → at < length xs → (x : X) × (slice_get xs at ≡ Some x)
found_below [] at lt = absurd (omega arith)
found_below (x ∷ xs) zero lt = (x, refl)
found_below (x ∷ xs) (suc at) lt = found_below xs at (omega arith)

honest_event : (scene : SceneValue) (s : State) (e : Event) → IsOfScene scene s → IsHonestEntry scene e → IsHonestEvent s e
honest_event scene s (event.Begin actor start asked) fits honest =
    λ client state found.
    let behind : length s.core.threads ≤ actor.0 = ltb-false actor.0 (length s.core.threads) client in
    let less : actor.0 - length s.core.threads < length s.world.clients = below_length s.world.clients (actor.0 - length s.core.threads) state found in
    let threads : length s.core.threads ≡ length (flat_map (λ app. app.threads) scene.apps) = fits.threads in
    let there : (c : Client) × (slice_get scene.clients (actor.0 - length (flat_map (λ app. app.threads) scene.apps)) ≡ Some c) =
    found_below scene.clients (actor.0 - length (flat_map (λ app. app.threads) scene.apps)) (omega (arith, fits.clients)) in
    honest there.0 (omega arith) there.1
honest_event scene s (event.Resume actor start) fits honest = tt
honest_event scene s event.Device fits honest = tt
honest_event scene s event.Idle fits honest = tt

-- Along a history.

pub record Went (sent gave : List (List ℕ)) (s : State) (entries : List Entry) : Type 0 where
  pub sent_on : List (List ℕ)
  pub gave_on : List (List ℕ)
  pub carries : Carrying (state_after s entries).world sent_on gave_on
  pub to_device : sent ++ offered s entries ≡ taken s entries ++ sent_on
  pub to_driver : gave ++ given_out s entries ≡ read_back s entries ++ gave_on

joined : (a o t b os ts z : List (List ℕ)) → a ++ o ≡ t ++ b → b ++ os ≡ ts ++ z → a ++ (o ++ os) ≡ (t ++ ts) ++ z
joined a o t b os ts z one two =
    sym (append_assoc a o os) ∙ ap (λ l. l ++ os) one ∙ append_assoc t b os ∙ ap (λ l. t ++ l) two ∙ sym (append_assoc t ts z)

pub record Stepping (sent gave : List (List ℕ)) (scene : SceneValue) (s : State) (e : Event) (next : State) : Type 0 where
  pub moved : Moved sent gave (offered_in s e) (taken_in s e) (given_in s e) (drained_in s e) next.world
  pub fits : IsOfScene scene next

stepping : (sent gave : List (List ℕ)) (scene : SceneValue) (s : State) (e : Event) (entry : Entry) (o : Option Stepped) → option_map (entry_of e) o ≡ Some entry
    → Moves sent gave s e o → ((r : Stepped) → o ≡ Some r → IsOfScene scene r.state) → Stepping sent gave scene s e (state_or s o)
stepping sent gave scene s e entry None is moves fits = absurd (cc)
stepping sent gave scene s e entry (Some r) is moves fits = record { moved = moves; fits = fits r refl }

went : (scene : SceneValue) (sent gave : List (List ℕ)) (s : State) (entries : List Entry) → Carrying s.world sent gave → IsOfScene scene s → Legal s entries
    → AllOf (λ entry. IsHonestEntry scene entry.event) entries → Went sent gave s entries
went scene sent gave s [] c fits legal honest = record { sent_on = sent; gave_on = gave; carries = c; to_device = append-nil sent; to_driver = append-nil gave }
went scene sent gave s (entry ∷ entries) c fits legal honest =
    let e : Event = entry.event in
    let one : Stepping sent gave scene s e (next_state s e) =
    stepping sent gave scene s e entry (step s e) legal.0 (step_moves sent gave s e c (within_core s fits.within) (honest_event scene s e fits honest.0)) (λ r is. fits_on scene s e r fits is) in
    let m : Moved sent gave (offered_in s e) (taken_in s e) (given_in s e) (drained_in s e) (next_state s e).world = one.moved in
    let rest : Went m.sent_on m.gave_on (next_state s e) entries = went scene m.sent_on m.gave_on (next_state s e) entries m.carries one.fits legal.1 honest.1 in
    record {
      sent_on = rest.sent_on;
      gave_on = rest.gave_on;
      carries = rest.carries;
      to_device = joined sent (offered_in s e) (taken_in s e) m.sent_on (offered (next_state s e) entries) (taken (next_state s e) entries) rest.sent_on m.to_device rest.to_device;
      to_driver = joined gave (given_in s e) (drained_in s e) m.gave_on (given_out (next_state s e) entries) (read_back (next_state s e) entries) rest.gave_on m.to_driver rest.to_driver;
    }

-- and so from an opening state
pub carried : (scene : SceneValue) (entries : List Entry) → is_queue_size scene.queue ≡ true → list_all is_honest scene.clients ≡ true → Legal (opening scene) entries
    → FollowsScripts (scripts_of scene) entries → IsCarried (opening scene) entries
carried scene entries lawful honest legal follows =
    let w : Went [] [] (opening scene) entries = went scene [] [] (opening scene) entries (opening_carries scene lawful) (opening_fits scene) legal (all_honest scene entries honest follows) in
    record { to_device = (w.sent_on, sym w.to_device); to_driver = (w.gave_on, sym w.to_driver); unbroken = w.carries.unbroken }
