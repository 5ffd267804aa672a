use Rattle.break_laws.proofs.Histories.{reached_break}
use Rattle.break_laws.proofs.breaks.breaks_cut_the_bridge_off.Goals as goal

pub returns : goal.returns
returns c = reached_break
