use Rattle.std.proofs.Common.{sym, ◌∙◌}
use Rattle.counted_core.proofs.Naming.{memory_value}
use Rattle.counted_core.proofs.counts.CountedCore.find_memory.Goals as goal

pub returns : goal.returns
returns c = rw (← c.self.view_is) (c.memory_at.ensures ∙ sym (memory_value c.self.inside.store.items c.args.id))
