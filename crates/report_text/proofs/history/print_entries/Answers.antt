use Rattle.std.proofs.Common.{drop, ◌+◌, arith}
use Rattle.std.proofs.lemmas.List.{at_drop_all}
use Rattle.report_text.specs.Forms.{entry_words, entry_lines}
use Rattle.report_text.specs.Lines.{lined, text_of}
use Rattle.report_text.proofs.Printed.{begun, went_on, stopped, all_printed, left_at}
use Rattle.report_text.proofs.TypesKept.{none_yet, one_more, all_within}
use Rattle.report_text.proofs.history.print_entries.Goals as goal

pub loop-k-init : goal.loop-k-init
loop-k-init g c = (begun _ _ _ _, none_yet c.args.entries.now)

pub loop-k-preserved : goal.loop-k-preserved
loop-k-preserved g c = (
  went_on (lined (entry_words c.args.names.now c.loop-k.k c.index-entries-k.result)) (text_of (entry_lines c.args.names.now (c.loop-k.k + 1) (drop (c.loop-k.k + 1) c.args.entries.now)))
      (left_at (λ entries. text_of (entry_lines c.args.names.now c.loop-k.k entries)) c.args.entries.now c.loop-k.k c.index-entries-k.result (omega arith) c.index-entries-k.is)
      c.loop-k.invariant.0 c.in_ok-print_entry.ensures.prints,
  one_more c.args.entries.now c.loop-k.k c.index-entries-k.result (omega arith) c.index-entries-k.is c.loop-k.invariant.1 c.in_ok-print_entry.ensures.within,
)

pub returns-in_err-print_entry-clause-prints : goal.returns-in_err-print_entry-clause-prints
returns-in_err-print_entry-clause-prints g c =
    stopped (lined (entry_words c.args.names.now c.loop-k.k c.index-entries-k.result)) (text_of (entry_lines c.args.names.now (c.loop-k.k + 1) (drop (c.loop-k.k + 1) c.args.entries.now)))
    (left_at (λ entries. text_of (entry_lines c.args.names.now c.loop-k.k entries)) c.args.entries.now c.loop-k.k c.index-entries-k.result (omega arith) c.index-entries-k.is)
    c.loop-k.invariant.0 c.in_err-print_entry.ensures.prints c.from_residual.ensures.1

pub returns-clause-prints : goal.returns-clause-prints
returns-clause-prints g c = all_printed (at_drop_all (λ entries. text_of (entry_lines c.args.names.now c.loop-k.k entries)) c.args.entries.now c.loop-k.k (omega arith)) c.loop-k.invariant.0

pub returns-clause-within : goal.returns-clause-within
returns-clause-within g c = all_within c.args.entries.now c.loop-k.k (omega arith) c.loop-k.invariant.1
