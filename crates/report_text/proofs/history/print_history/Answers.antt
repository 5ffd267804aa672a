use Rattle.std.proofs.Common.{◌∷◌, [], codes, decimal, length, refl}
use Rattle.report_text.specs.Forms.{entry_lines}
use Rattle.report_text.specs.Lines.{lined, text_of}
use Rattle.report_text.proofs.Printed.{begun, went_on, went_to_end, stopped}
use Rattle.report_text.proofs.history.print_history.Goals as goal

pub returns-in_err-print_head-clause-prints : goal.returns-in_err-print_head-clause-prints
returns-in_err-print_head-clause-prints g c =
    stopped (lined (codes "history" ∷ decimal (length c.args.entries.now) ∷ [])) (text_of (entry_lines c.args.names.now 0 c.args.entries.now)) refl
    (begun _ _ _ _) c.in_err-print_head.ensures c.from_residual.ensures.1

pub returns-clause-prints : goal.returns-clause-prints
returns-clause-prints g c =
    went_to_end (went_on (lined (codes "history" ∷ decimal (length c.args.entries.now) ∷ [])) (text_of (entry_lines c.args.names.now 0 c.args.entries.now)) refl
    (begun _ _ _ _) c.in_ok-print_head.ensures) c.print_entries.ensures.prints
