use Rattle.std.proofs.Common.{arith}
use Rattle.std.proofs.lemmas.Grind.{common_steps}
use Rattle.app_life.proofs.Ports.{index_more}
use Rattle.app_life.proofs.registry.Registry.new.Goals as goal

pub loop-app-preserved : goal.loop-app-preserved
loop-app-preserved c = record {
  listed = grind (arith, common_steps, c.in_ok-push.ensures.ok, c.in_ok-copied.ensures, c.loop-app.invariant.listed, c.app-item.is);
  index = rw c.in_ok-push.ensures.ok (
      index_more c.loop-app.starts c.add_ports.new.starts c.loop-app.manifests c.in_ok-copied.field-0 c.len.result c.loop-app.invariant.index c.len.ensures
      (λ path. rw c.in_ok-copied.ensures (rw c.as_slice.ensures at (c.in_ok-add_ports.ensures path)))
      );
}
