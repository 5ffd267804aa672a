use Rattle.kernel_types.proofs.Reaching.{marked_is_reached}
use Rattle.kernel_types.proofs.laws.marks_are_reached.Goals as goal

pub returns : goal.returns
returns c = marked_is_reached
