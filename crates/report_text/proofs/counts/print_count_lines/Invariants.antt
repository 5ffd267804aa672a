-- The lines in front of the place are printed.
use Rattle.std.proofs.Common.{drop}
use Rattle.report_text.specs.Forms.{count_lines}
use Rattle.report_text.specs.Lines.{text_of}
use Rattle.report_text.proofs.Printed.{Printed}
use Rattle.report_text.proofs.counts.print_count_lines.Given as goal

abbrev pub invariant-loop-k : goal.invariant-loop-k
invariant-loop-k g l = Printed (g.K.Sink.written l.initial.sink) (g.K.Sink.written l.sink) (g.K.Sink.faults l.initial.sink) (g.K.Sink.faults l.sink) (g.K.Sink.calls l.initial.sink) (g.K.Sink.calls l.sink)
    (text_of (count_lines 0 l.journal.entries l.journal.facts)) (text_of (count_lines l.k (drop l.k l.journal.entries) (drop l.k l.journal.facts)))
