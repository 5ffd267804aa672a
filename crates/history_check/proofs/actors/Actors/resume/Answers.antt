use Rattle.history_check.proofs.Moved.{resume_ok}
use Rattle.history_check.proofs.actors.Actors.resume.Goals as goal

pub returns : goal.returns
returns g c = resume_ok c.args.self.now (g.K.IpcKernel.state c.args.kernel.now) c.args.actor c.args.start c.index_mut-place.result.now c.requires.fit c.requires.within c.index_mut-place.ensures.value
    c.requires.waits _ _ _ c.step_of.new.place c.step_of.result c.step_of.ensures
