use Rattle.std.proofs.Common.{◌∙◌, sym}
use Rattle.handle_set.proofs.Places.{get_some}
use Rattle.handle_set.proofs.Changing.{past}
use Rattle.handle_set.proofs.Holding.{none_at, none_past, released_held}
use Rattle.handle_set.proofs.changes.let_go.Goals as goal
use Rattle.handle_set.proofs.changes.let_go.Goals.{then-place-sets+else-holds, else-place-sets}

pub returns : goal.returns
returns c =
    released_held c.args.holders.now c.release.new.holders c.args.object c.args.id c.release.ensures c.args.sets.now (elim c.if-place-sets.branch [
      | then-place-sets+else-holds w ↦
          let found = get_some c.args.sets.now c.find_place-place.result w.if-place-sets.true in
          let holds = rw found.1 at w.holds.ensures in
          none_at c.args.sets.now c.args.id c.args.object c.find_place-place.result c.requires.once c.find_place-place.ensures found.0 found.1 (sym holds ∙ w.if-holds.false)
      | else-place-sets w ↦ none_past c.args.sets.now c.args.id c.args.object (past (λ ms. ms) c.args.sets.now c.args.id c.find_place-place.result c.find_place-place.ensures w.if-place-sets.false)
    ]) c.requires.held
