use Rattle.std.proofs.Common.{sym, ◌∙◌}
use Rattle.counted_core.proofs.Naming.{end_value}
use Rattle.counted_core.proofs.counts.CountedCore.find_end.Goals as goal

pub returns : goal.returns
returns c = rw (← c.self.view_is) (c.end_at.ensures ∙ sym (end_value c.self.inside.store.items c.args.id))
