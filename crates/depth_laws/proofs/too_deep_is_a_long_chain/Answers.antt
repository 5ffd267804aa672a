use Rattle.depth_laws.proofs.Measuring.{makes_long_chain}
use Rattle.depth_laws.proofs.too_deep_is_a_long_chain.Goals as goal

pub returns : goal.returns
returns c = makes_long_chain
