use Rattle.run_laws.proofs.Answering.{first_rises, starts_rise}
use Rattle.run_laws.proofs.answers.starts_rise.Goals as goal

pub returns : goal.returns
returns c = record { rise = starts_rise; first = first_rises }
