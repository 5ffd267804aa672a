use Rattle.plain_objects.proofs.Pruning.{pruned_next}
use Rattle.plain_objects.proofs.sweep.prune_all.Goals as goal

pub loop-at-preserved : goal.loop-at-preserved
loop-at-preserved c = pruned_next c.args.marked.now c.args.objects.now c.loop-at.objects c.prune_at.new.objects c.loop-at.at c.loop-at.invariant c.prune_at.ensures
