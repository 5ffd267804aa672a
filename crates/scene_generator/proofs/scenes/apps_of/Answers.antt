use Rattle.std.proofs.Common.{◌++◌, [], ◌∷◌, ◌∙◌, ap, map, sym, arith}
use Rattle.std.proofs.lemmas.List.FromFn.{map-range_with_len_more}
use Rattle.std.specs.List.{range_with_len}
use Rattle.scene_generator.specs.Generated.{app_of}
use Rattle.scene_generator.proofs.scenes.apps_of.Goals as goal

-- src/scenes.rt:39:5
pub loop-app-preserved : goal.loop-app-preserved
loop-app-preserved c =
    c.in_ok-push.ensures.ok ∙ ap (λ xs. xs ++ c.in_ok-app_of.field-0 ∷ []) c.loop-app.invariant
    ∙ ap (λ app. map (app_of c.args.seed c.args.count) (range_with_len 0 c.loop-app.app) ++ app ∷ []) c.in_ok-app_of.ensures
    ∙ sym (map-range_with_len_more (app_of c.args.seed c.args.count) 0 c.loop-app.app c.loop-app.app (omega arith))
