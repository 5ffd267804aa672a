-- The actors in front of the place are printed.
use Rattle.std.proofs.Common.{drop}
use Rattle.report_text.specs.Forms.{actors_lines}
use Rattle.report_text.specs.Lines.{text_of}
use Rattle.report_text.proofs.Printed.{Printed}
use Rattle.report_text.proofs.actors.print_actors.Given as goal

abbrev pub invariant-loop-actor : goal.invariant-loop-actor
invariant-loop-actor g l = Printed (g.K.Sink.written l.initial.sink) (g.K.Sink.written l.sink) (g.K.Sink.faults l.initial.sink) (g.K.Sink.faults l.sink) (g.K.Sink.calls l.initial.sink) (g.K.Sink.calls l.sink)
    (text_of (actors_lines l.entries 0 l.all)) (text_of (actors_lines l.entries l.actor (drop l.actor l.all)))
