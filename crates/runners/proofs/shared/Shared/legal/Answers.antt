use Rattle.std.proofs.Common.{sym}
use Rattle.runners.proofs.Turning.{follows_told}
use Rattle.runners.proofs.shared.Shared.legal.Goals as goal

pub returns-clause-follows : goal.returns-clause-follows
returns-clause-follows g c = follows_told c.args.self.now c.self.inside.scripts c.self.inside.places.items c.self.inside.logged (sym c.self.view_is) c.self.invariant.sound
