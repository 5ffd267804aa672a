use Rattle.count_laws.proofs.Counting.{counting_is_reaching}
use Rattle.count_laws.proofs.counts.counting_is_reaching.Goals as goal

pub returns : goal.returns
returns c = counting_is_reaching
