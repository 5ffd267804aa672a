use Rattle.std.proofs.Common.{ap, ◌∙◌}
use Rattle.kernel_types.specs.Objects.{map_at}
use Rattle.app_life.specs.Lives.{started_thread}
use Rattle.app_life.proofs.Changes.{changed_more}
use Rattle.app_life.proofs.threads.start_threads.Goals as goal

pub loop-at-preserved : goal.loop-at-preserved
loop-at-preserved c =
    let f = started_thread c.args.app.0 c.args.start in
    c.start_thread.ensures ∙ ap (λ ts. map_at f ts c.loop-at.at) c.loop-at.invariant ∙ changed_more f c.args.threads.now c.loop-at.at
