use Rattle.std.proofs.Common.{◌+◌, rules}
use Rattle.script_lines.proofs.Cutting.{first_some, first_none, whole_rest}
use Rattle.script_lines.proofs.texts.first_line.Goals as goal

pub returns-in-Some-clause-lines : goal.returns-in-Some-clause-lines
returns-in-Some-clause-lines c = first_some c.args.bytes.now _ _ c.in-Some.at c.in-Some.ensures (search rules) (whole_rest c.args.bytes.now (c.in-Some.at + 1))

pub returns-in-None-clause-lines : goal.returns-in-None-clause-lines
returns-in-None-clause-lines c = first_none c.args.bytes.now _ _ c.in-None.ensures c.requires (search rules) (search rules)
