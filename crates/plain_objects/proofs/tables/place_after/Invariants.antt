use Rattle.std.proofs.Common.{◌+◌, nat_lt, drop, ◌≡◌}
use Rattle.std.specs.List.{position_or_len}
use Rattle.plain_objects.proofs.tables.place_after.Given as goal

abbrev pub invariant-loop-at : goal.invariant-loop-at
invariant-loop-at l = l.at + position_or_len (λ e. nat_lt l.handle e.handle) (drop l.at l.table) ≡ position_or_len (λ e. nat_lt l.handle e.handle) l.table
