use Rattle.std.proofs.Common.{ap, sym, ◌∙◌}
use Rattle.std.specs.Prelude.{is_some}
use Rattle.app_life.specs.Places.{place_at}
use Rattle.app_life.proofs.Ports.{added}
use Rattle.app_life.proofs.registry.add_port.Goals as goal

pub returns : goal.returns
returns c =
    let none = ap (λ q. is_some (place_at c.args.starts.now q)) (sym c.as_slice-path.ensures) ∙ sym c.contains_key.ensures ∙ c.if-contains_key.false in
    added c.args.starts.now c.insert.new.self c.in_ok-from_slice.field-0 c.args.app.0 c.args.port.now (c.in_ok-from_slice.ensures.items ∙ c.as_slice-path.ensures) none c.in_ok-insert.ensures.updates
