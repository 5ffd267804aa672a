use Rattle.std.proofs.Common.{rules, ◌≡◌, ◌∙◌, []}
use Rattle.std.specs.List.{filter}
use Rattle.plain_objects.specs.Pending.{pending_at, with_pending}
use Rattle.plain_objects.specs.Predicates.{is_served}
use Rattle.plain_objects.proofs.Pruning.{put_back}
use Rattle.plain_objects.proofs.sweep.prune_at.Goals as goal

pub returns : goal.returns
returns c =
    let objects = c.args.objects.now in
    let there : c.put_pending.new.objects
    ≡ with_pending (filter (is_served c.args.marked.now (with_pending [] objects c.args.at)) (pending_at objects c.args.at)) (with_pending [] objects c.args.at) c.args.at = search rules in
    there ∙ put_back c.args.marked.now objects c.args.at
