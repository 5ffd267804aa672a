use Rattle.std.proofs.Common.{◌≡◌, false, sym, ◌∙◌}
use Rattle.ns_bridge.specs.Lawful.{is_lawful}
use Rattle.ns_bridge.proofs.Lawfulness.{unlawful_not_movable}
use Rattle.ns_bridge.proofs.kernel.Kernel.cause_at_limit.Goals as goal

pub returns-clause-cause : goal.returns-clause-cause
returns-clause-cause g c =
    let lawful : is_lawful c.args.self.now.state c.args.event.now ≡ false = sym c.is_lawful.ensures ∙ c.if-is_lawful.false in
    ((unlawful_not_movable c.args.self.now.state c.args.event.now c.args.self.now.made lawful).0, c.status_for.ensures)
