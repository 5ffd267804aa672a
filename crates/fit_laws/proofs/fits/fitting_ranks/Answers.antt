use Rattle.fit_laws.proofs.Ranking.{fitting_ranked}
use Rattle.fit_laws.proofs.fits.fitting_ranks.Goals as goal

pub returns : goal.returns
returns c = fitting_ranked
