use Rattle.std.proofs.Common.{ap, sym, ◌∙◌}
use Rattle.std.specs.Prelude.{option_map}
use Rattle.app_life.specs.Places.{place_from}
use Rattle.app_life.proofs.Ports.{flagged, place_flags}
use Rattle.app_life.proofs.apps.Apps.start_flags.Goals as goal

pub returns-in-Some : goal.returns-in-Some
returns-in-Some c =
    rw (← c.self.view_is) (
    ap (option_map place_flags) (sym c.in-Some.is ∙ c.start_place.ensures ∙ ap (λ q. place_from q 0 c.self.inside.registry) c.as_slice.ensures)
    ∙ flagged _ 0 _ _ c.self.invariant.same
    )

pub returns-in-None : goal.returns-in-None
returns-in-None c =
    rw (← c.self.view_is) (
    ap (option_map place_flags) (sym c.in-None.is ∙ c.start_place.ensures ∙ ap (λ q. place_from q 0 c.self.inside.registry) c.as_slice.ensures)
    ∙ flagged _ 0 _ _ c.self.invariant.same
    )
