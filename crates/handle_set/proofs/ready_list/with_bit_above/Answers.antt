use Rattle.std.proofs.Common.{true, false, arith}
use Rattle.handle_set.proofs.Masks.{mask_push, pow_below}
use Rattle.handle_set.proofs.ready_list.with_bit_above.Goals as goal

pub returns-then-mark : goal.returns-then-mark
returns-then-mark c = λ ms long is. let set = mask_push ms true in rw (pow_below c.args.len c.requires.room, c.if-mark.true, is, ← long) (omega (arith, set))

pub returns-else-mark : goal.returns-else-mark
returns-else-mark c = λ ms long is. let set = mask_push ms false in rw (c.if-mark.false, is) (omega (arith, set))
