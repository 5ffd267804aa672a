use Rattle.report_text.proofs.Compared.{ended_line}
use Rattle.report_text.proofs.lines.end_line.Goals as goal

pub returns : goal.returns
returns c = ended_line c.end.result c.end.new.self c.write_end.new.line c.clear.new.self _ c.in_ok-write_end.ensures c.clear.ensures c.end.ensures
