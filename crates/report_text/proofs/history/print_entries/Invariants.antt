-- The lines in front of the place are printed, and the numbers of their entries are within their types.
use Rattle.std.proofs.Common.{drop, take}
use Rattle.report_text.specs.Forms.{entry_lines}
use Rattle.report_text.specs.Lines.{text_of}
use Rattle.report_text.specs.Within.{AreWithin}
use Rattle.report_text.proofs.Printed.{Printed}
use Rattle.report_text.proofs.history.print_entries.Given as goal

abbrev pub invariant-loop-k : goal.invariant-loop-k
invariant-loop-k g l = (Printed (g.K.Sink.written l.initial.sink) (g.K.Sink.written l.sink) (g.K.Sink.faults l.initial.sink) (g.K.Sink.faults l.sink) (g.K.Sink.calls l.initial.sink) (g.K.Sink.calls l.sink)
    (text_of (entry_lines l.names 0 l.entries)) (text_of (entry_lines l.names l.k (drop l.k l.entries)))) × AreWithin (take l.k l.entries)
