use Rattle.std.proofs.Common.{sym, ◌∙◌}
use Rattle.counted_core.proofs.Naming.{port_value}
use Rattle.counted_core.proofs.counts.CountedCore.find_port.Goals as goal

pub returns : goal.returns
returns c = rw (← c.self.view_is) (c.port_at.ensures ∙ sym (port_value c.self.inside.store.items c.args.id))
