use Rattle.std.proofs.Common.{ap, sym, ◌∙◌}
use Rattle.std.specs.Prelude.{option_map}
use Rattle.app_life.specs.Places.{place_from}
use Rattle.app_life.proofs.Ports.{served, number_of}
use Rattle.app_life.proofs.apps.Apps.by_start_port.Goals as goal

pub returns-in-Some : goal.returns-in-Some
returns-in-Some c =
    rw (← c.self.view_is) (
    ap (option_map number_of) (sym c.in-Some.is ∙ c.start_place.ensures ∙ ap (λ q. place_from q 0 c.self.inside.registry) c.as_slice.ensures)
    ∙ served _ _ _ c.self.invariant.same
    )

pub returns-in-None : goal.returns-in-None
returns-in-None c =
    rw (← c.self.view_is) (
    ap (option_map number_of) (sym c.in-None.is ∙ c.start_place.ensures ∙ ap (λ q. place_from q 0 c.self.inside.registry) c.as_slice.ensures)
    ∙ served _ _ _ c.self.invariant.same
    )
