use Rattle.std.proofs.Common.{◌≡◌, sym, ap, ◌∙◌, subst, [], ◌∷◌, List, Option}
use Rattle.atomic_table.specs.Table.{opening}
use Rattle.turnstile.specs.declared.view.View.{View}
use Rattle.turnstile.specs.declared.pass.Pass.{Pass}
use Rattle.turnstile.specs.declared.rule.Opening.{Opening}
use Rattle.turnstile.specs.Passes.{view, IsPassAt}
use Rattle.turnstile.specs.Rule.{Kept}
use Rattle.turnstile.specs.Steps.{Sat}
use Rattle.turnstile.specs.Views.{first_view}
use Rattle.turnstile.proofs.Turning.{starts}
use Rattle.turnstile.proofs.Passes.{first_pass}
use Rattle.turnstile.proofs.lock.Turnstile.new.Goals as goal

pub new-requires : goal.new-requires
new-requires g c =
    let history = g.V.Recorded.history in let origin = g.V.Recorded.origin in let value = c.of.result.value in let seats = c.args.seats in
    let P : List (Option g.row.V.Denot) → Type 0 = λ slots. Kept history origin record { origin = origin value; seats = seats } (opening (c.recorded.result ∷ 0 ∷ 1 ∷ []) slots (first_view (history value) (origin value) seats)) in
    subst P (sym c.in_ok-slots.ensures.ok) (starts history origin c.recorded.result c.args.value value seats c.requires c.recorded.ensures c.of.ensures)

pub returns-in-Ok-clause-pass : goal.returns-in-Ok-clause-pass
returns-in-Ok-clause-pass g c =
    let history = g.V.Recorded.history in let origin = g.V.Recorded.origin in let made = c.in-Ok.ensures.ok in let value = c.args.value in let seats = c.args.seats in
    let pass : Pass = record { badge = c.into_badge.result; number = 0; drawn = 1 } in
    let first : c.in-Ok.seat.me.0 ≡ first_view (history value) (origin value) seats = ap (λ (m : Sat g.row.V.Denot). m.0) made.4 ∙ ap (λ (x : g.row.V.Denot). first_view (history x) (origin x) seats) c.of.ensures in
    let is : c.in-Ok.table.shared.key.value.value ≡ value = ap (λ (k : Opening g.row.V.Denot). k.value.value) made.5 ∙ c.of.ensures in
    subst (λ (x : g.row.V.Denot). IsPassAt c.in-Ok.table.shared.table_id (origin x) seats pass × (view pass ≡ first_view (history value) (origin value) seats)) (sym is)
    (first_pass _ _ _ _ c.into_badge.result c.requires (c.into_badge.ensures.0 ∙ made.2) (c.into_badge.ensures.2 ∙ ap (λ (v : View). v ∷ []) first))
