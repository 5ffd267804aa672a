use Rattle.std.proofs.Common.{◌+◌, ◌==◌, drop, ◌≡◌}
use Rattle.std.specs.List.{position_or_len}
use Rattle.plain_calls.proofs.handles.place_of_handle.Given as goal

abbrev pub invariant-loop-at : goal.invariant-loop-at
invariant-loop-at l = l.at + position_or_len (λ entry. entry.handle == l.handle) (drop l.at l.table) ≡ position_or_len (λ entry. entry.handle == l.handle) l.table
