use Rattle.kernel_values.specs.declared.entry.ActorStatus.TheVariants as status
use Rattle.kernel_values.specs.declared.scene.Turn.TheVariants as turn
use Rattle.history_check.proofs.Coming.{no_event}
use Rattle.history_check.proofs.Moved.{renewal_ok, renewed_fits}
use Rattle.history_check.proofs.actors.Actors.take_actor.Goals as goal

pub returns-in_ok-start_anew-in-Running : goal.returns-in_ok-start_anew-in-Running
returns-in_ok-start_anew-in-Running g c = renewal_ok (turn.Actor c.args.actor) c.args.self.now c.start_anew.new.self _ _ _ _ _ c.begin.result c.args.actor c.in-Running.start c.in-Running.ensures c.in_ok-start_anew-in-Running.ensures c.begin.ensures

pub returns-in-Off : goal.returns-in-Off
returns-in-Off g c = λ entries kept other can. no_event c.args.self.now.scripts (g.K.IpcKernel.state c.args.kernel.now) entries c.args.actor status.Off (λ active. active) c.in-Off.ensures other can

pub returns-in-Ended : goal.returns-in-Ended
returns-in-Ended g c = λ entries kept other can. no_event c.args.self.now.scripts (g.K.IpcKernel.state c.args.kernel.now) entries c.args.actor (status.Ended c.in-Ended.start) (λ active. active) c.in-Ended.ensures other can

pub begin-requires-clause-fit : goal.begin-requires-clause-fit
begin-requires-clause-fit g c = renewed_fits c.args.self.now c.start_anew.new.self (g.K.IpcKernel.state c.args.kernel.now) c.args.actor c.in-Running.start c.in_ok-start_anew-in-Running.ensures c.in-Running.ensures c.requires.fit
