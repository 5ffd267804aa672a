use Rattle.fit_laws.proofs.Steps.{change_fits}
use Rattle.fit_laws.proofs.peers.changes_keep_fitting.Goals as goal

pub returns : goal.returns
returns c = change_fits
