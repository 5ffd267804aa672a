use Rattle.history_check.proofs.Moved.{device_as, idle_as}
use Rattle.history_check.proofs.actors.Actors.take.Goals as goal

pub returns-in-Device : goal.returns-in-Device
returns-in-Device g c = device_as c.args.turn c.in-Device.is c.args.self.now (g.K.IpcKernel.state c.args.kernel.now) _ _ _ c.step_once.result c.step_once.ensures

pub returns-in-Idle : goal.returns-in-Idle
returns-in-Idle g c = idle_as c.args.turn c.in-Idle.is c.args.self.now (g.K.IpcKernel.state c.args.kernel.now) _ _ _ c.step_once-in-Idle.result c.step_once-in-Idle.ensures
