use Rattle.std.proofs.Common.{◌∷◌, codes}
use Rattle.report_text.specs.Lines.{blank, named}
use Rattle.report_text.proofs.Spelling.{before, last}
use Rattle.report_text.proofs.print.write_end.Goals as goal

pub returns : goal.returns
returns c =
    before c.named-3.result c.named-3.new.self _ _ (blank ∷ codes "end") _ c.in_ok-word.ensures
    (before c.named-3.result c.named-3.new.self _ _ (named (codes "clock") c.args.end.now.clock) _ c.in_ok-named.ensures
    (before c.named-3.result c.named-3.new.self _ _ (named (codes "objects") c.args.end.now.objects) _ c.in_ok-named-2.ensures
    (last c.named-3.result c.named-3.new.self _ (named (codes "names") c.args.end.now.names) c.named-3.ensures)))
