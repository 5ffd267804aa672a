use Rattle.std.proofs.Common.{sym, ◌∙◌}
use Rattle.counted_core.proofs.Naming.{set_value}
use Rattle.counted_core.proofs.counts.CountedCore.find_set.Goals as goal

pub returns : goal.returns
returns c = rw (← c.self.view_is) (c.set_at.ensures ∙ sym (set_value c.self.inside.store.items c.args.id))
