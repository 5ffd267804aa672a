use Rattle.std.proofs.Common.{ap, ◌∙◌, not, ◌==◌}
use Rattle.handle_set.specs.Members.{is_ready}
use Rattle.handle_set.proofs.Masks.{any_set}
use Rattle.handle_set.proofs.ready_list.ReadyList.is_ready.Goals as goal

pub returns : goal.returns
returns c = rw (← c.self.view_is) (ap (λ n. not (n == 0)) c.self.invariant.marked ∙ any_set is_ready c.self.inside.records)
