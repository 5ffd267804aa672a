use Rattle.handle_set.proofs.Levels.{all_follow}
use Rattle.handle_set.proofs.settle.exact_sets_follow.Goals as goal

pub returns : goal.returns
returns c = all_follow
