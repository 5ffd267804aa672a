use Rattle.std.proofs.Common.{Bor, List, ℕ, arith}
use Rattle.report_text.specs.Forms.{entry_words}
use Rattle.history_check.proofs.Lined.{shorter}
use Rattle.history_check.proofs.Taken.{goes_first, goes_on, limit_is, took_none, took_some, verdict_is}
use Rattle.history_check.proofs.check.check_entries.Goals as goal

pub loop-line-init : goal.loop-line-init
loop-line-init g c = goes_first c.args.actors.now (g.K.IpcKernel.state c.args.kernel.now) c.args.text.now (g.K.IpcKernel.made c.args.kernel.now) c.requires.fit c.requires.made c.requires.lines

pub overflow_add-k : goal.overflow_add-k
overflow_add-k g c = omega (arith, c.loop-line.invariant.room, limit_is)

pub loop-line-smaller : goal.loop-line-smaller
loop-line-smaller g c =
    let took = took_some {X = Bor (List ℕ)} (λ x. x.now) c.loop-line.k c.loop-line.rest.now c.loop-line.actors c.take_entry.new.actors _ _ _ _ c.in_ok-next.field-0 c.in-Some.next c.in-Some.is c.in_ok-next.ensures in
    shorter c.loop-line.rest.now c.in-Some.next.now (entry_words c.loop-line.actors.names c.loop-line.k took.entry) took.line_is

pub loop-line-preserved : goal.loop-line-preserved
loop-line-preserved g c =
    goes_on c.args.actors.now (g.K.IpcKernel.state c.args.kernel.now) c.args.text.now c.loop-line.rest.now c.loop-line.actors (g.K.IpcKernel.state c.loop-line.kernel) (g.K.IpcKernel.made c.loop-line.kernel) c.loop-line.k c.loop-line.invariant
    c.in-Some.next.now c.take_entry.new.actors _ _ (took_some {X = Bor (List ℕ)} (λ x. x.now) c.loop-line.k c.loop-line.rest.now c.loop-line.actors c.take_entry.new.actors _ _ _ _ c.in_ok-next.field-0 c.in-Some.next c.in-Some.is c.in_ok-next.ensures)

pub returns : goal.returns
returns g c =
    verdict_is c.args.actors.now (g.K.IpcKernel.state c.args.kernel.now) c.args.text.now c.loop-line.rest.now c.loop-line.actors (g.K.IpcKernel.state c.loop-line.kernel) (g.K.IpcKernel.made c.loop-line.kernel) c.loop-line.k c.loop-line.invariant
    _ c.args.first.now (took_none {X = Bor (List ℕ)} (λ x. x.now) c.loop-line.k c.loop-line.rest.now c.loop-line.actors c.take_entry.new.actors _ _ _ _ c.in_ok-next.field-0 c.in_default.is c.in_ok-next.ensures)
    c.in_ok-ends.ends c.in_ok-ends.ensures c.of.result c.of.ensures
