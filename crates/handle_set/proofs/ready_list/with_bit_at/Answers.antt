use Rattle.handle_set.proofs.Masks.{mask_mark, mask_unmark}
use Rattle.handle_set.proofs.ready_list.with_bit_at.Goals as goal

pub returns-then-mark : goal.returns-then-mark
returns-then-mark c = λ ms few within is. rw (c.if-mark.true, is) (mask_mark ms c.args.at within few)

pub returns-else-mark : goal.returns-else-mark
returns-else-mark c = λ ms few within is. rw (c.if-mark.false, is) (mask_unmark ms c.args.at within few)
