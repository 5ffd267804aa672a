use Rattle.report_text.proofs.HistoriesFixed.{histories_fixed}
use Rattle.report_text.proofs.laws.reports_fix_histories.Goals as goal

pub returns : goal.returns
returns c = histories_fixed
