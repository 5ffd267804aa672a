use Rattle.fit_laws.proofs.Meeting.{fitting_fits}
use Rattle.fit_laws.proofs.fits.fitting_fits.Goals as goal

pub returns : goal.returns
returns c = fitting_fits
