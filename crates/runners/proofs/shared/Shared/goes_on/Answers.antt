use Rattle.std.proofs.Common.{sym}
use Rattle.runners.proofs.Turning.{goes_on}
use Rattle.runners.proofs.shared.Shared.goes_on.Goals as goal

pub returns : goal.returns
returns g c = λ due may. goes_on c.args.self.now c.self.inside.scripts c.self.inside.places.items c.self.inside.logged due (sym c.self.view_is) c.self.invariant.sound may
