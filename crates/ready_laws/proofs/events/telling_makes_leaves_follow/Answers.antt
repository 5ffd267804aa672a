use Rattle.handle_set.proofs.Levels.{told_leaves}
use Rattle.ready_laws.proofs.events.telling_makes_leaves_follow.Goals as goal

pub returns : goal.returns
returns c = λ before now old new object events follow here only up. up.leaves now (told_leaves object events old before now follow here only)
