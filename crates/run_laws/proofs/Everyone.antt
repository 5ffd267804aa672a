-- Every thread and every client stands, and each step of each of them, of the device and of the kernel keeps it.
use Rattle.std.proofs.Common.{◌≡◌, ℕ, zero, suc, ◌+◌, true, false, List, [], ◌∷◌, ◌++◌, length, map, Option, Some, None, refl, ap, sym, ◌∙◌, subst, arith, zero-add, inl, inr}
use Rattle.std.proofs.lemmas.List.{length-map}
use Rattle.std.proofs.lemmas.Option.{slice_get-map, slice_get_within}
use Rattle.std.specs.Prelude.{◌⊎◌, slice_get}
use Rattle.std.specs.Option.{option_map}
use Rattle.kernel_values.specs.declared.call.Call.{Call}
use Rattle.kernel_values.specs.declared.entry.ActorStatus.{ActorStatus}
use Rattle.kernel_values.specs.declared.entry.ActorStatus.TheVariants as status
use Rattle.kernel_values.specs.declared.entry.Entry.{Entry}
use Rattle.kernel_values.specs.declared.entry.Event.{Event}
use Rattle.kernel_values.specs.declared.entry.Event.TheVariants as event
use Rattle.kernel_values.specs.declared.state.Activity.TheVariants as activity
use Rattle.kernel_values.specs.declared.state.CoreState.{CoreState}
use Rattle.kernel_values.specs.declared.state.State.{State}
use Rattle.kernel_values.specs.declared.state.Thread.{Thread}
use Rattle.kernel_values.specs.declared.state.Wait.{Wait}
use Rattle.kernel_values.specs.declared.world.ClientActivity.TheVariants as client_activity
use Rattle.kernel_values.specs.declared.world.ClientState.{ClientState}
use Rattle.kernel_values.specs.declared.world.ClientWait.{ClientWait}
use Rattle.kernel_values.specs.declared.world.World.{World}
use Rattle.kernel_types.proofs.Actors.{status_of_client, status_of_thread}
use Rattle.kernel_types.specs.Clients.{Acted, end_of_ns_wait, ns_act}
use Rattle.kernel_types.specs.CoreStep.{act, resumed, status_of, swept}
use Rattle.kernel_types.specs.Device.{DeviceStep, device_step}
use Rattle.kernel_types.specs.Drains.{drained}
use Rattle.kernel_types.specs.Facts.{status_at}
use Rattle.kernel_types.specs.History.{entry_of}
use Rattle.kernel_types.specs.Outcome.{Outcome, no_seqs}
use Rattle.kernel_types.specs.Step.{Stepped, beside_core, client_status, device_stepped, step, idle, idle_lawful, in_world, next_deadline, runs_again, statuses, world_idle}
use Rattle.kernel_types.specs.Waits.{end_of_wait}
use Rattle.kernel_laws.proofs.Standing.{StepStands, step_stands}
use Rattle.step_laws.specs.Walks.{is_ending}
use Rattle.run_laws.proofs.Bridging.{device_stands}
use Rattle.kernel_values.specs.Calls.{is_of_client, is_of_thread}
use Rattle.run_laws.proofs.ClientPlaces.{ClientsStand, cancelled_stand, clients_longer}
use Rattle.run_laws.proofs.ClientSteps.{client_begin_step, client_begun, client_resume_step, client_woken}
use Rattle.run_laws.proofs.Longer.{FitsCall, IsOf, all_longer, begin_is_of, entry_with, resume_is_of}
use Rattle.run_laws.proofs.Places.{AllStand}
use Rattle.run_laws.proofs.Standings.{Standings}
use Rattle.run_laws.proofs.Stepping.{begin_stands, begin_step, idle_after, idle_step, resume_stands, resume_step}

pub record Everyone (S : Standings) (entries : List Entry) (s : State) : Type 0 where
  pub all : AllStand S entries s.core
  pub clients : ClientsStand S entries (length s.core.threads) s.world.clients

-- An actor is a thread or a client, and has its status; else it has none.

pub get_behind : {X : Type 0} (xs ys : List X) (k : ℕ) → slice_get (xs ++ ys) (length xs + k) ≡ slice_get ys k
get_behind [] ys k = ap (λ n. slice_get ys n) (zero-add k)
get_behind (x ∷ xs) ys k = ap (λ n. slice_get (x ∷ (xs ++ ys)) n) (let next : suc (length xs) + k ≡ suc (length xs + k) = omega arith in next) ∙ get_behind xs ys k

-- a place in a list, or behind it
placed_or_behind : {X : Type 0} (xs : List X) (k : ℕ) → ((x : X) × (slice_get xs k ≡ Some x)) ⊎ ((j : ℕ) × (k ≡ length xs + j))
placed_or_behind [] k = inr (k, omega arith)
placed_or_behind (x ∷ xs) zero = inl (x, refl)
placed_or_behind (x ∷ xs) (suc k) = elim (placed_or_behind xs k) [
  | inl p ↦ inl p
  | inr p ↦ inr (p.0, omega (arith, p.1))
]

no_client : (s : State) (k : ℕ) → slice_get s.world.clients k ≡ None → status_at s (length s.core.threads + k) ≡ None
unfolding statuses
no_client s k none_is =
    let f : Thread → ActorStatus = λ t. status_of t.activity in
    let g : ClientState → ActorStatus = λ c. client_status c.activity in
    ap (λ n. slice_get (map f s.core.threads ++ map g s.world.clients) (n + k)) (sym (length-map s.core.threads f))
    ∙ (get_behind (map f s.core.threads) (map g s.world.clients) k ∙ (slice_get-map g s.world.clients k ∙ ap (λ (o : Option ClientState). option_map g o) none_is))

pub data Actor (s : State) (actor : ℕ) : Type 0 where
  is_thread : (thread : Thread) → slice_get s.core.threads actor ≡ Some thread → status_at s actor ≡ Some (status_of thread.activity) → Actor s actor
  is_client : (k : ℕ) (client : ClientState) → actor ≡ length s.core.threads + k → slice_get s.world.clients k ≡ Some client
      → status_at s actor ≡ Some (client_status client.activity) → Actor s actor
  is_none : status_at s actor ≡ None → Actor s actor

client_or_none : (s : State) (actor k : ℕ) → actor ≡ length s.core.threads + k → (o : Option ClientState) → slice_get s.world.clients k ≡ o → Actor s actor
client_or_none s actor k actor_is None is = is_none (ap (λ n. status_at s n) actor_is ∙ no_client s k is)
client_or_none s actor k actor_is (Some client) is = is_client k client actor_is is (ap (λ n. status_at s n) actor_is ∙ status_of_client s k client is)

pub actor_of : (s : State) (actor : ℕ) → Actor s actor
actor_of s actor = elim (placed_or_behind s.core.threads actor) [
  | inl p ↦ is_thread p.0 p.1 (status_of_thread s actor p.0 p.1)
  | inr p ↦ client_or_none s actor p.0 p.1 (slice_get s.world.clients p.0) refl
]

-- As many threads stay.

threads_by : (s : State) (o : Option Stepped) (stepped : Stepped) → o ≡ Some stepped → StepStands s o → length stepped.state.core.threads ≡ length s.core.threads
threads_by s None stepped is stands = absurd (cc)
threads_by s (Some found) stepped is stands =
    let same : found ≡ stepped = cc in
    let many : length found.state.core.threads ≡ length s.core.threads =
    sym (length-map found.state.core.threads (λ (t : Thread). t.app)) ∙ (ap (λ owners. length owners) stands.owners_are ∙ length-map s.core.threads (λ (t : Thread). t.app)) in
    ap (λ (r : Stepped). length r.state.core.threads) (sym same) ∙ many

threads_stay : (s : State) (e : Event) (stepped : Stepped) → step s e ≡ Some stepped → length stepped.state.core.threads ≡ length s.core.threads
threads_stay s e stepped is = threads_by s (step s e) stepped is (step_stands s e)

-- no client has the number of a thread
thread_apart : (threads : List Thread) (j : ℕ) (thread : Thread) (k : ℕ) → slice_get threads j ≡ Some thread → j ≡ length threads + k → ⊥
thread_apart threads j thread k is same = absurd (omega (arith, slice_get_within threads j thread is, same))

module _ (S : Standings) (entries : List Entry) where
  -- of an entry of a thread, and of a client

  clients_after : (entry : Entry) (threads : List Thread) (clients : List ClientState) (j start : ℕ) (thread : Thread) → slice_get threads j ≡ Some thread → IsOf j start entry
      → ClientsStand S entries (length threads) clients → ClientsStand S (entries ++ entry ∷ []) (length threads) clients
  clients_after entry threads clients j start thread thread_is of all =
      clients_longer S entries entry (length threads) clients (λ k s. of.silent (length threads + k) s (λ same t. thread_apart threads j thread k thread_is (sym same))) all

  threads_after : (entry : Entry) (c : CoreState) (k start : ℕ) → IsOf (length c.threads + k) start entry → AllStand S entries c → AllStand S (entries ++ entry ∷ []) c
  threads_after entry c k start of all =
      all_longer S entries entry c (λ j thread is s. of.silent j s (λ same t. thread_apart c.threads j thread k is same)) all

  idle_clients : (threads : ℕ) (deadline : Option ℕ) (w : World) → ClientsStand S entries threads w.clients → ClientsStand S entries threads (world_idle deadline w).clients
  unfolding world_idle
  idle_clients threads (Some deadline) w all = all
  idle_clients threads None w all = cancelled_stand S entries threads w.clients all

device_step_is : (s : State) (done : DeviceStep) → device_step s ≡ Some done → step s event.Device ≡ Some (device_stepped done)
unfolding step
device_step_is s done is = rw is refl

-- An event of one of them: its step, after which everyone stands.
pub record Stepping (S : Standings) (entries : List Entry) (s : State) (e : Event) (stepped : Stepped) : Type 0 where
  pub is : step s e ≡ Some stepped
  pub stand : Everyone S (entries ++ entry_of e stepped ∷ []) stepped.state

module _ (S : Standings) (entries : List Entry) (s : State) (old : Everyone S entries s) where
  after_step : (e : Event) (stepped : Stepped) → step s e ≡ Some stepped → AllStand S (entries ++ entry_of e stepped ∷ []) stepped.state.core
      → ClientsStand S (entries ++ entry_of e stepped ∷ []) (length s.core.threads) stepped.state.world.clients → Stepping S entries s e stepped
  after_step e stepped is all clients = record {
    is = is;
    stand = record {
      all = all;
      clients = subst (λ n. ClientsStand S (entries ++ entry_of e stepped ∷ []) n stepped.state.world.clients) (sym (threads_stay s e stepped is)) clients;
    };
  }

  pub thread_begins : (k start : ℕ) (thread : Thread) (asked : Call) (outcome : Outcome) → slice_get s.core.threads k ≡ Some thread → thread.activity ≡ activity.Running start
      → is_of_thread asked ≡ true → (is_ending asked ≡ false → FitsCall S entries k start asked) → act s.core k thread.app asked ≡ Some outcome
      → Stepping S entries s (event.Begin (record { 0 = k }) start asked) (in_world s.world (swept outcome))
  thread_begins k start thread asked outcome thread_is activity_is kind own done =
      let e : Event = event.Begin (record { 0 = k }) start asked in
      after_step e (in_world s.world (swept outcome)) (begin_step s k start thread asked outcome thread_is activity_is kind done)
      (begin_stands S entries s.core k start thread asked outcome old.all thread_is activity_is own done)
      (clients_after S entries (entry_with e outcome.answer outcome.seqs) s.core.threads s.world.clients k start thread thread_is
      (begin_is_of k start asked (entry_with e outcome.answer outcome.seqs) refl) old.clients)

  pub thread_resumes : (k start : ℕ) (thread : Thread) (w : Wait) (outcome : Outcome) → slice_get s.core.threads k ≡ Some thread → thread.activity ≡ activity.Waiting start w
      → end_of_wait s.core thread.app w ≡ Some outcome
      → S.fits (entries ++ entry_with (event.Resume (record { 0 = k }) start) outcome.answer outcome.seqs ∷ []) k (status.Running start)
      → Stepping S entries s (event.Resume (record { 0 = k }) start) (in_world s.world (resumed k outcome))
  thread_resumes k start thread w outcome thread_is activity_is done own =
      let e : Event = event.Resume (record { 0 = k }) start in
      after_step e (in_world s.world (resumed k outcome)) (resume_step s k start thread w outcome thread_is activity_is done)
      (resume_stands S entries s.core k start thread w outcome old.all thread_is activity_is done own)
      (clients_after S entries (entry_with e outcome.answer outcome.seqs) s.core.threads s.world.clients k start thread thread_is
      (resume_is_of k start (entry_with e outcome.answer outcome.seqs) refl) old.clients)

  pub client_begins : (k start : ℕ) (client : ClientState) (asked : Call) (acted : Acted) → slice_get s.world.clients k ≡ Some client → client.activity ≡ client_activity.Running start
      → is_of_client asked ≡ true → (is_ending asked ≡ false → FitsCall S entries (length s.core.threads + k) start asked) → ns_act s.core.clock k asked s.world ≡ Some acted
      → Stepping S entries s (event.Begin (record { 0 = length s.core.threads + k }) start asked) (beside_core s.core acted)
  client_begins k start client asked acted client_is activity_is kind own done =
      let actor : ℕ = length s.core.threads + k in
      let e : Event = event.Begin (record { 0 = actor }) start asked in
      after_step e (beside_core s.core acted) (client_begin_step s k start client asked acted client_is activity_is kind done)
      (threads_after S entries (entry_with e acted.answer no_seqs) s.core k start (begin_is_of actor start asked (entry_with e acted.answer no_seqs) refl) old.all)
      (client_begun S entries (length s.core.threads) s.world k start client s.core.clock asked acted kind done client_is activity_is own old.clients)

  pub client_resumes : (k start : ℕ) (client : ClientState) (wait : ClientWait) (acted : Acted) → slice_get s.world.clients k ≡ Some client
      → client.activity ≡ client_activity.Waiting start wait → end_of_ns_wait s.core.clock wait (drained s.world) ≡ Some acted
      → S.fits (entries ++ entry_with (event.Resume (record { 0 = length s.core.threads + k }) start) acted.answer no_seqs ∷ []) (length s.core.threads + k) (status.Running start)
      → Stepping S entries s (event.Resume (record { 0 = length s.core.threads + k }) start) (beside_core s.core (runs_again k acted))
  client_resumes k start client wait acted client_is activity_is done own =
      let actor : ℕ = length s.core.threads + k in
      let e : Event = event.Resume (record { 0 = actor }) start in
      after_step e (beside_core s.core (runs_again k acted)) (client_resume_step s k start client wait acted client_is activity_is done)
      (threads_after S entries (entry_with e acted.answer no_seqs) s.core k start (resume_is_of actor start (entry_with e acted.answer no_seqs) refl) old.all)
      (client_woken S entries (length s.core.threads) s.world k start client s.core.clock wait acted done client_is activity_is own old.clients)

  -- the device, where it has work
  pub device_turns : (done : DeviceStep) → device_step s ≡ Some done → Stepping S entries s event.Device (device_stepped done)
  device_turns done is =
      let entry : Entry = entry_of event.Device (device_stepped done) in
      let longest : List Entry = entries ++ entry ∷ [] in
      let kept : AllStand S longest done.state.core × (done.state.world.clients ≡ s.world.clients) =
      device_stands S longest s done is (all_longer S entries entry s.core (λ j thread thread_is start. (refl, refl)) old.all) in
      after_step event.Device (device_stepped done) (device_step_is s done is) kept.0
      (subst (λ (clients : List ClientState). ClientsStand S longest (length s.core.threads) clients) (sym kept.1)
      (clients_longer S entries entry (length s.core.threads) s.world.clients (λ k start. (refl, refl)) old.clients))

  -- and Idle, where it is lawful
  pub idles : idle_lawful s ≡ true → Stepping S entries s event.Idle (idle s)
  idles lawful =
      let entry : Entry = entry_of event.Idle (idle s) in
      after_step event.Idle (idle s) (idle_step s lawful) (idle_after S entries s old.all)
      (idle_clients S (entries ++ entry ∷ []) (length s.core.threads) (next_deadline s) s.world
      (clients_longer S entries entry (length s.core.threads) s.world.clients (λ k start. (refl, refl)) old.clients))
