use Rattle.kernel_laws.proofs.Rising.{histories_spend, steps_spend}
use Rattle.kernel_laws.proofs.numbers.numbers_are_given_once.Goals as goal

pub returns : goal.returns
returns c = record { by_step = steps_spend; by_history = λ s entries number legal. histories_spend s entries number }
