use Rattle.kernel_laws.proofs.Rising.{histories_rise}
use Rattle.kernel_laws.proofs.numbers.numbers_rise.Goals as goal

pub returns : goal.returns
returns c = λ scene entries legal. histories_rise scene entries
