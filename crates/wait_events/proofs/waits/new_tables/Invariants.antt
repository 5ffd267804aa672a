use Rattle.std.proofs.Common.{◌≡◌, ◌≤◌, replicate}
use Rattle.std.specs.Prelude.{vec_len, vec_capacity}
use Rattle.wait_events.specs.Waits.{no_watch}
use Rattle.wait_events.proofs.waits.new_tables.Given as goal

abbrev pub invariant-loop-made : goal.invariant-loop-made
invariant-loop-made l = (l.tables.items ≡ replicate l._made (replicate 64 no_watch)) × (32 ≤ vec_capacity l.tables) × (vec_len l.tables ≡ l._made)
