use Rattle.std.proofs.Common.{drop, ◌+◌, arith}
use Rattle.std.specs.Prelude.{slice_get}
use Rattle.report_text.specs.Forms.{count_line_at, count_lines}
use Rattle.report_text.specs.Lines.{text_of}
use Rattle.report_text.proofs.Counting.{counts_left, counts_done}
use Rattle.report_text.proofs.Printed.{begun, went_on, stopped, all_printed}
use Rattle.report_text.proofs.counts.print_count_lines.Goals as goal

pub loop-k-init : goal.loop-k-init
loop-k-init g c = begun _ _ _ _

pub loop-k-preserved : goal.loop-k-preserved
loop-k-preserved g c =
    went_on (text_of (count_line_at c.loop-k.k (slice_get c.args.journal.now.facts c.loop-k.k)))
    (text_of (count_lines (c.loop-k.k + 1) (drop (c.loop-k.k + 1) c.args.journal.now.entries) (drop (c.loop-k.k + 1) c.args.journal.now.facts)))
    (counts_left c.loop-k.k c.args.journal.now.entries c.args.journal.now.facts (omega arith))
    c.loop-k.invariant c.in_ok-print_count_at.ensures

pub returns-in_err-print_count_at : goal.returns-in_err-print_count_at
returns-in_err-print_count_at g c =
    stopped (text_of (count_line_at c.loop-k.k (slice_get c.args.journal.now.facts c.loop-k.k)))
    (text_of (count_lines (c.loop-k.k + 1) (drop (c.loop-k.k + 1) c.args.journal.now.entries) (drop (c.loop-k.k + 1) c.args.journal.now.facts)))
    (counts_left c.loop-k.k c.args.journal.now.entries c.args.journal.now.facts (omega arith))
    c.loop-k.invariant c.in_err-print_count_at.ensures c.from_residual.ensures.1

pub returns : goal.returns
returns g c = all_printed (counts_done c.loop-k.k c.args.journal.now.entries (drop c.loop-k.k c.args.journal.now.facts) (omega arith)) c.loop-k.invariant
