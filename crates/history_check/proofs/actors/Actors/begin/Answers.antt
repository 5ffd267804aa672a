use Rattle.std.proofs.Common.{sym, ◌∙◌}
use Rattle.history_check.proofs.Moved.{begin_none, begin_ok}
use Rattle.history_check.proofs.actors.Actors.begin.Goals as goal

pub returns-in_default : goal.returns-in_default
returns-in_default g c = begin_none c.args.self.now (g.K.IpcKernel.state c.args.kernel.now) c.args.actor c.args.start c.index_mut-place.result.now c.requires.fit c.requires.within c.index_mut-place.ensures.value
    c.requires.runs c.requires.caught_up (sym c.in_ok-call.ensures ∙ c.in_default.is)

pub returns : goal.returns
returns g c = begin_ok c.args.self.now (g.K.IpcKernel.state c.args.kernel.now) c.args.actor c.args.start c.index_mut-place.result.now c.requires.fit c.requires.within c.index_mut-place.ensures.value
    c.requires.runs c.requires.caught_up c.in-Some.call (sym c.in_ok-call.ensures ∙ c.in-Some.is) _ _ _ c.step_of.new.place c.step_of.result c.step_of.ensures
