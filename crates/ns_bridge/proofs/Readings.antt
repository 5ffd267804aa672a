-- What the whole kernel tells of actors.
use Rattle.std.proofs.Common.{◌≡◌, ◌≤◌, ◌<◌, ℕ, zero, suc, ◌+◌, ◌&&◌, true, false, not, List, [], ◌∷◌, length, Option, Some, None, refl, sym, ◌∙◌, ap, arith, tests}
use Rattle.std.specs.Prelude.{nat_le, nat_lt, slice_get}
use Rattle.std.specs.Option.{option_map}
use Rattle.kernel_values.specs.declared.entry.ActorStatus.{ActorStatus}
use Rattle.kernel_values.specs.declared.state.CoreState.{CoreState}
use Rattle.kernel_values.specs.declared.state.State.{State}
use Rattle.kernel_values.specs.declared.world.ClientState.{ClientState}
use Rattle.kernel_values.specs.declared.world.Device.{Device}
use Rattle.kernel_types.specs.Facts.{is_client, status_at}
use Rattle.kernel_types.specs.Step.{client_status, movable, statuses}
use Rattle.kernel_types.proofs.Actors.{below_is_thread, client_moves, status_of_client, thread_moves}
use Rattle.ns_bridge.specs.Acts.{activity_at, activity_moves_if}
use Rattle.ns_bridge.specs.Parts.{Normal, state_of, world_of}
use Rattle.ns_bridge.proofs.ClientSteps.{is_client_by, statuses_long}
use Rattle.ns_bridge.proofs.Lifting.{client_moves_is}
use Rattle.ns_bridge.proofs.Threads.{thread_status}

pub past : {X : Type 0} (xs : List X) (k : ℕ) → length xs ≤ k → slice_get xs k ≡ None
past [] k h = refl
past (x ∷ xs) zero h = absurd (omega arith)
past (x ∷ xs) (suc k) h = past xs k (omega arith)

pub none_past : {X : Type 0} (xs : List X) (k : ℕ) → slice_get xs k ≡ None → length xs ≤ k
none_past [] k is = omega arith
none_past (x ∷ xs) zero is = absurd (cc)
none_past (x ∷ xs) (suc k) is =
    let rest : length xs ≤ k = none_past xs k is in
    omega arith

pub thread_status_is : (s : State) (d : Device) (n : Normal) (k : ℕ) (status : ActorStatus) → k < length s.core.threads → status_at s k ≡ Some status → status_at (state_of s.core d n) k ≡ Some status
thread_status_is s d n k status below is = thread_status s.core (world_of d n) s.world k below ∙ is

-- a core alone has only threads
pub thread_there : (s : State) (k : ℕ) → s.world.clients ≡ [] → k < length s.core.threads → k < length (statuses s)
thread_there s k none below = omega (arith, below, statuses_long s)

-- an actor that is no thread is one of the clients, or none

client_told : (c : CoreState) (d : Device) (n : Normal) (client : ℕ) (o : Option ClientState) → slice_get n.clients client ≡ o
    → option_map client_status (option_map (λ (state : ClientState). state.activity) o) ≡ status_at (state_of c d n) (length c.threads + client)
client_told c d n client (Some found) is = sym (status_of_client (state_of c d n) client found is)
client_told c d n client None is =
    sym (past (statuses (state_of c d n)) (length c.threads + client) (omega (arith, statuses_long (state_of c d n), none_past n.clients client is)))

pub client_status_at : (c : CoreState) (d : Device) (n : Normal) (k client : ℕ) → k ≡ length c.threads + client
    → option_map client_status (activity_at n.clients client) ≡ status_at (state_of c d n) k
client_status_at c d n k client is = client_told c d n client (slice_get n.clients client) refl ∙ ap (λ m. status_at (state_of c d n) m) (sym is)

pub thread_movable_is : (s : State) (d : Device) (n : Normal) (k : ℕ) → k < length s.core.threads → movable s k ≡ movable (state_of s.core d n) k
thread_movable_is s d n k below =
    thread_moves s k (below_is_thread s k below) ∙ sym (thread_moves (state_of s.core d n) k (below_is_thread (state_of s.core d n) k below))

pub client_movable_is : (c : CoreState) (d : Device) (n : Normal) (k client : ℕ) → k ≡ length c.threads + client
    → movable (state_of c d n) k ≡ activity_moves_if c.clock n.memory n.driver (activity_at n.clients client)
client_movable_is c d n k client is =
    ap (λ m. movable (state_of c d n) m) is ∙ (client_moves (state_of c d n) client ∙ client_moves_is (state_of c d n) client)

pub thread_is_no_client : (c : CoreState) (d : Device) (n : Normal) (k : ℕ) → k < length c.threads → is_client (state_of c d n) k ≡ false
thread_is_no_client c d n k below =
    let first : nat_le (length c.threads) k ≡ false = grind (arith, tests) in
    ap (λ b. b && not (nat_le (length (statuses (state_of c d n))) k)) first

pub client_is_client : (c : CoreState) (d : Device) (n : Normal) (k client : ℕ) → k ≡ length c.threads + client → is_client (state_of c d n) k ≡ nat_lt client (length n.clients)
client_is_client c d n k client is =
    let first : nat_le (length c.threads) k ≡ true = grind (arith, tests) in
    let last : not (nat_le (length c.threads + length n.clients) k) ≡ nat_lt client (length n.clients) = grind (arith, tests) in
    is_client_by (state_of c d n) k ∙ (ap (λ b. b && not (nat_le (length c.threads + length n.clients) k)) first ∙ last)
