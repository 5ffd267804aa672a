use Rattle.report_text.proofs.Compared.{ended_line}
use Rattle.report_text.proofs.lines.entry_line.Goals as goal

pub returns : goal.returns
returns c = ended_line c.end.result c.end.new.self c.write_entry.new.line c.clear.new.self _ c.in_ok-write_entry.ensures.told c.clear.ensures c.end.ensures
