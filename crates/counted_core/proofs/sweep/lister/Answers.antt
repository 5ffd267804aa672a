use Rattle.std.proofs.Common.{arith}
use Rattle.counted_core.proofs.Loans.{none_lists}
use Rattle.counted_core.proofs.sweep.lister.Goals as goal

pub returns-clause-none : goal.returns-clause-none
returns-clause-none c = none_lists c.args.store.now.items c.args.store.now.next c.loop-at.at c.args.server c.sound.ensures c.loop-at.invariant (omega (arith, c.next-at-end.ensures, c.loop-at-test.false))
