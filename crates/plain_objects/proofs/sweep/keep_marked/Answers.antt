use Rattle.std.proofs.Common.{rules}
use Rattle.std.proofs.lemmas.Fn.{filter_same}
use Rattle.plain_objects.specs.Predicates.{is_kept}
use Rattle.plain_objects.proofs.sweep.keep_marked.Goals as goal

pub returns : goal.returns
unfolding is_kept
returns c = filter_same _ _ _ (λ x b f' k. search rules) _ _ c.retain.ensures
