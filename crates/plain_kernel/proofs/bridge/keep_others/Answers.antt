use Rattle.std.proofs.Common.{rules}
use Rattle.std.proofs.lemmas.Fn.{filter_same}
use Rattle.plain_kernel.specs.Bridged.{is_other}
use Rattle.plain_kernel.proofs.bridge.keep_others.Goals as goal

pub returns : goal.returns
unfolding is_other
returns c = filter_same _ _ _ (λ x b f' k. search rules) _ _ c.retain.ensures
