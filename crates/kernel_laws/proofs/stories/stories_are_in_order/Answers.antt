use Rattle.kernel_types.specs.Opening.{opening}
use Rattle.kernel_laws.proofs.Histories.{begins}
use Rattle.kernel_laws.proofs.Orders.{stories_in_order}
use Rattle.kernel_laws.proofs.stories.stories_are_in_order.Goals as goal

pub returns : goal.returns
returns c = record {
  whole = stories_in_order;
  so_far = λ scene entries more end legal. stories_in_order scene entries end (begins (opening scene) entries more legal);
}
