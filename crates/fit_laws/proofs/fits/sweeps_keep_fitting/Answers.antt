use Rattle.fit_laws.proofs.Sweeping.{fit_swept, fitting_thinned}
use Rattle.fit_laws.proofs.fits.sweeps_keep_fitting.Goals as goal

pub returns-clause-swept : goal.returns-clause-swept
returns-clause-swept c = fit_swept

pub returns-clause-thinned : goal.returns-clause-thinned
returns-clause-thinned c = fitting_thinned
