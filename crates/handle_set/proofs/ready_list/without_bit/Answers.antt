use Rattle.std.proofs.Common.{sym}
use Rattle.handle_set.proofs.Masks.{mask_remove, pow_below}
use Rattle.handle_set.proofs.ready_list.without_bit.Goals as goal

pub returns : goal.returns
returns c = λ ms within is. rw (pow_below c.args.at c.requires, is) (sym (mask_remove ms c.args.at within))
