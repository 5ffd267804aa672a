use Rattle.std.proofs.Common.{drop, ◌+◌, arith, subst, Ok}
use Rattle.std.proofs.lemmas.List.{at_drop_all}
use Rattle.report_text.specs.Forms.{actors_lines}
use Rattle.report_text.specs.Lines.{text_of}
use Rattle.report_text.specs.Printing.{Prints}
use Rattle.report_text.proofs.OwnCalls.{actors_left_at}
use Rattle.report_text.proofs.Printed.{begun, went_on, stopped, all_printed}
use Rattle.report_text.proofs.actors.print_actors.Goals as goal

pub loop-actor-init : goal.loop-actor-init
loop-actor-init g c = begun _ _ _ _

pub loop-actor-preserved : goal.loop-actor-preserved
loop-actor-preserved g c =
    went_on _ (text_of (actors_lines c.args.entries.now (c.loop-actor.actor + 1) (drop (c.loop-actor.actor + 1) c.as_slice-all.result.now)))
    (actors_left_at c.args.entries.now c.as_slice-all.result.now c.loop-actor.actor c.index-all-actor.result c.as_slice.result.now (omega arith) c.index-all-actor.is c.as_slice.ensures)
    c.loop-actor.invariant c.in_ok-print_one_actor.ensures

pub returns-in_err-print_one_actor : goal.returns-in_err-print_one_actor
returns-in_err-print_one_actor g c =
    subst (λ all. Prints (g.K.Sink.written c.args.sink.now) (g.K.Sink.written c.print_one_actor.new.sink) (g.K.Sink.faults c.args.sink.now) (g.K.Sink.faults c.print_one_actor.new.sink) (g.K.Sink.calls c.args.sink.now) (g.K.Sink.calls c.print_one_actor.new.sink)
    c.from_residual.result (text_of (actors_lines c.args.entries.now 0 all))) c.as_slice-all.ensures
    (stopped _ (text_of (actors_lines c.args.entries.now (c.loop-actor.actor + 1) (drop (c.loop-actor.actor + 1) c.as_slice-all.result.now)))
    (actors_left_at c.args.entries.now c.as_slice-all.result.now c.loop-actor.actor c.index-all-actor.result c.as_slice.result.now (omega arith) c.index-all-actor.is c.as_slice.ensures)
    c.loop-actor.invariant c.in_err-print_one_actor.ensures c.from_residual.ensures.1)

pub returns : goal.returns
returns g c =
    subst (λ all. Prints (g.K.Sink.written c.args.sink.now) (g.K.Sink.written c.loop-actor.sink) (g.K.Sink.faults c.args.sink.now) (g.K.Sink.faults c.loop-actor.sink) (g.K.Sink.calls c.args.sink.now) (g.K.Sink.calls c.loop-actor.sink)
    (Ok tt) (text_of (actors_lines c.args.entries.now 0 all))) c.as_slice-all.ensures
    (all_printed (at_drop_all (λ names. text_of (actors_lines c.args.entries.now c.loop-actor.actor names)) c.as_slice-all.result.now c.loop-actor.actor (omega arith)) c.loop-actor.invariant)
