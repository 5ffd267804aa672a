use Rattle.std.proofs.Common.{◌≡◌, ◌++◌, subst}
use Rattle.std.specs.Prelude.{OnOk}
use Rattle.report_text.specs.Lines.{named}
use Rattle.report_text.proofs.summary.write_count.Goals as goal

pub returns : goal.returns
returns c = subst (λ n. OnOk c.named.result (c.named.new.self ≡ c.args.line.now ++ named c.args.name.now n)) c.count.ensures c.named.ensures
