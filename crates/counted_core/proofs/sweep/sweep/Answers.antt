use Rattle.std.proofs.Common.{arith, length, refl, ◌∙◌}
use Rattle.counted_core.proofs.Sweeps.{begins, ends, fewer, goes_on, none_left}
use Rattle.counted_core.proofs.Totals.{dropped_total}
use Rattle.counted_core.proofs.sweep.sweep.Goals as goal

pub loop-turn-init : goal.loop-turn-init
loop-turn-init c = (begins c.args.store.now.items, omega arith, refl, omega arith)

pub returns-in_default-clause-items : goal.returns-in_default-clause-items
returns-in_default-clause-items c = ends c.args.store.now.items c.loop-turn.store.items c.loop-turn.invariant.0 c.in_default.ensures.none

pub loop-turn-preserved : goal.loop-turn-preserved
loop-turn-preserved c = (
  goes_on c.args.store.now.items c.loop-turn.store.items c.drop_dead.new.store.items c.loop-turn.store.next c.in-Some.key.serial c.loop-turn.invariant.0 c.sound.ensures c.in-Some.ensures.some c.drop_dead.ensures.items,
  omega (arith, c.loop-turn.invariant.1, fewer c.loop-turn.store.items c.drop_dead.new.store.items c.in-Some.key.serial c.in-Some.ensures.some c.drop_dead.ensures.items),
  c.drop_dead.ensures.next ∙ c.loop-turn.invariant.2,
  omega (arith, c.loop-turn.invariant.3, dropped_total c.loop-turn.store.items c.drop_dead.new.store.items c.in-Some.key.serial c.in-Some.ensures.some c.drop_dead.ensures.items),
)

pub returns-clause-items : goal.returns-clause-items
returns-clause-items c = ends c.args.store.now.items c.loop-turn.store.items c.loop-turn.invariant.0
    (none_left c.loop-turn.store.items (length c.args.store.now.items) (omega (arith, c.loop-turn.invariant.1, c.loop-turn-test.false, c.len-count.ensures)))
