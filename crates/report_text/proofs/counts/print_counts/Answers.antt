use Rattle.std.proofs.Common.{◌∷◌, [], codes, decimal, ap, sym, ◌++◌}
use Rattle.report_text.specs.Forms.{count_lines}
use Rattle.report_text.specs.Lines.{lined, text_of}
use Rattle.report_text.proofs.Printed.{begun, went_on, went_to_end, stopped}
use Rattle.report_text.proofs.counts.print_counts.Goals as goal

pub returns-in_err-print_head : goal.returns-in_err-print_head
returns-in_err-print_head g c =
    stopped (lined (codes "counts" ∷ decimal c.len.result ∷ [])) (text_of (count_lines 0 c.args.journal.now.entries c.args.journal.now.facts))
    (ap (λ n. lined (codes "counts" ∷ decimal n ∷ []) ++ text_of (count_lines 0 c.args.journal.now.entries c.args.journal.now.facts)) (sym c.len.ensures))
    (begun _ _ _ _) c.in_err-print_head.ensures c.from_residual.ensures.1

pub returns : goal.returns
returns g c =
    went_to_end (went_on (lined (codes "counts" ∷ decimal c.len.result ∷ [])) (text_of (count_lines 0 c.args.journal.now.entries c.args.journal.now.facts))
    (ap (λ n. lined (codes "counts" ∷ decimal n ∷ []) ++ text_of (count_lines 0 c.args.journal.now.entries c.args.journal.now.facts)) (sym c.len.ensures))
    (begun _ _ _ _) c.in_ok-print_head.ensures) c.print_count_lines.ensures
