-- The calls that begin in front of the place are printed.
use Rattle.std.proofs.Common.{drop, map}
use Rattle.report_text.specs.Forms.{answered_call_words}
use Rattle.report_text.specs.Lines.{text_of}
use Rattle.report_text.specs.OwnCalls.{calls_of}
use Rattle.report_text.proofs.Printed.{Printed}
use Rattle.report_text.proofs.actors.print_own_calls.Given as goal

abbrev pub invariant-loop-k : goal.invariant-loop-k
invariant-loop-k g l = Printed (g.K.Sink.written l.initial.sink) (g.K.Sink.written l.sink) (g.K.Sink.faults l.initial.sink) (g.K.Sink.faults l.sink) (g.K.Sink.calls l.initial.sink) (g.K.Sink.calls l.sink)
    (text_of (map answered_call_words (calls_of l.actor l.entries))) (text_of (map answered_call_words (calls_of l.actor (drop l.k l.entries))))
