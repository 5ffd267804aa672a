use Rattle.std.proofs.Common.{ap, ◌∙◌}
use Rattle.kernel_types.specs.Objects.{map_at}
use Rattle.app_life.specs.Lives.{ended_thread_of}
use Rattle.app_life.proofs.Changes.{changed_more}
use Rattle.app_life.proofs.threads.end_threads.Goals as goal

pub loop-at-preserved : goal.loop-at-preserved
loop-at-preserved c =
    let f = ended_thread_of c.args.app.0 in
    c.end_thread_of.ensures ∙ ap (λ ts. map_at f ts c.loop-at.at) c.loop-at.invariant ∙ changed_more f c.args.threads.now c.loop-at.at
