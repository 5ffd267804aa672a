use Rattle.std.proofs.Common.{ap, ◌∙◌, not, ◌==◌}
use Rattle.handle_set.specs.Members.{is_inner}
use Rattle.handle_set.proofs.Masks.{any_set}
use Rattle.handle_set.proofs.ready_list.ReadyList.has_inner.Goals as goal

pub returns : goal.returns
returns c = rw (← c.self.view_is) (ap (λ n. not (n == 0)) c.self.invariant.nested ∙ any_set is_inner c.self.inside.records)
