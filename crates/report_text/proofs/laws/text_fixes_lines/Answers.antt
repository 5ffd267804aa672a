use Rattle.report_text.proofs.Fixing.{lines_fixed}
use Rattle.report_text.proofs.laws.text_fixes_lines.Goals as goal

pub returns : goal.returns
returns c = lines_fixed
