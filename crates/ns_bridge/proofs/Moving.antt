-- Which clients may move, one after another.
use Rattle.std.proofs.Common.{◌≡◌, ℕ, zero, suc, ◌+◌, ◌<◌, ◌||◌, List, [], ◌∷◌, length, drop, refl, arith, add-one}
use Rattle.std.specs.List.{list_any}
use Rattle.kernel_values.specs.declared.world.ClientState.{ClientState}
use Rattle.kernel_values.specs.declared.world.Driver.{Driver}
use Rattle.ns_bridge.specs.Acts.{activity_at, activity_moves_if, state_moves}

moves_suc : (clock : ℕ) (memory : List ℕ) (driver : Driver) (clients : List ClientState) (k : ℕ) → k < length clients
    → list_any (state_moves clock memory driver) (drop k clients)
    ≡ (activity_moves_if clock memory driver (activity_at clients k) || list_any (state_moves clock memory driver) (drop (suc k) clients))
unfolding state_moves
moves_suc clock memory driver [] k h = absurd (omega arith)
moves_suc clock memory driver (client ∷ clients) zero h = refl
moves_suc clock memory driver (client ∷ clients) (suc k) h = moves_suc clock memory driver clients k (omega arith)

-- the client at a place, and those after it
pub moves_more : (clock : ℕ) (memory : List ℕ) (driver : Driver) (clients : List ClientState) (k : ℕ) → k < length clients
    → list_any (state_moves clock memory driver) (drop k clients)
    ≡ (activity_moves_if clock memory driver (activity_at clients k) || list_any (state_moves clock memory driver) (drop (k + 1) clients))
moves_more clock memory driver clients k h = rw add-one (moves_suc clock memory driver clients k h)
