use Rattle.fit_laws.proofs.Witness.{worked_fits, worked_ranked}
use Rattle.fit_laws.proofs.fits.worked_state_fits.Goals as goal

pub returns-clause-fits : goal.returns-clause-fits
returns-clause-fits c = λ path flags mem mask core. worked_fits core path flags mem mask

pub returns-clause-ranked : goal.returns-clause-ranked
returns-clause-ranked c = λ path flags mem mask core. worked_ranked core path flags mem mask
