use Rattle.std.proofs.Common.{◌≡◌, ◌<◌, ◌≤◌, ℕ, true}
use Rattle.std.specs.List.{list_any}
use Rattle.msg_queue.specs.Messages.{is_opened_as}
use Rattle.msg_queue.specs.Places.{messages_of}
use Rattle.msg_queue.proofs.place.least_free_id.Given as goal

-- the numbers passed are in use
abbrev pub invariant-loop-id : goal.invariant-loop-id
invariant-loop-id l = (k : ℕ) → 1 ≤ k → k < l.id → list_any (is_opened_as k) (messages_of l.places) ≡ true
