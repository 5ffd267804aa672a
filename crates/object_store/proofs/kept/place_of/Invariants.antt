use Rattle.std.proofs.Common.{◌≡◌, ◌<◌, ◌==◌, ℕ, false, slice_index_or}
use Rattle.object_store.proofs.kept.place_of.Given as goal

-- the places passed do not have the slot
abbrev pub invariant-loop-place : goal.invariant-loop-place
invariant-loop-place l = (k : ℕ) → k < l.place → (slice_index_or l.dead k 0 == l.slot) ≡ false
