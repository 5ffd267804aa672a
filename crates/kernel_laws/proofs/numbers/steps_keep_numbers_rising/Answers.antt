use Rattle.kernel_laws.proofs.Rising.{steps_rise}
use Rattle.kernel_laws.proofs.numbers.steps_keep_numbers_rising.Goals as goal

pub returns : goal.returns
returns c = steps_rise
