use Rattle.std.proofs.Common.{ap, ◌∙◌, not, ◌==◌}
use Rattle.handle_set.proofs.Masks.{any_set}
use Rattle.wait_events.specs.Watches.{is_told}
use Rattle.wait_events.proofs.table.TableWatch.is_told.Goals as goal

pub returns : goal.returns
returns c = rw (← c.self.view_is) (ap (λ n. not (n == 0)) c.self.invariant.marked ∙ any_set is_told c.self.inside.places.items)
