use Rattle.std.proofs.Common.{◌+◌, ◌*◌, take}
use Rattle.std.specs.List.{list_any}
use Rattle.handle_set.specs.Holders.{holders_in}
use Rattle.handle_set.specs.Sets.{is_number}
use Rattle.handle_set.specs.Spreading.{IsSpread}
use Rattle.handle_set.proofs.settle.+spread.Given as goal

abbrev pub decreases-spread : goal.decreases-spread
decreases-spread l = 2 * l.steps + 1

abbrev pub decreases-spread_to : goal.decreases-spread_to
decreases-spread_to l = 2 * l.steps

abbrev pub invariant-spread-loop-id : goal.invariant-spread-loop-id
invariant-spread-loop-id l = IsSpread (λ n. list_any (is_number n) (take l.id-index (holders_in l.holders l.object))) l.object l.events l.initial.sets l.sets
