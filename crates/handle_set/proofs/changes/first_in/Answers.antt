use Rattle.std.proofs.Common.{◌∙◌, drop, sym, ap}
use Rattle.handle_set.specs.declared.settle.OpenSet.{OpenSet}
use Rattle.handle_set.specs.Sets.{of_set, first_object}
use Rattle.handle_set.proofs.Places.{got}
use Rattle.handle_set.proofs.Changing.{past, found}
use Rattle.handle_set.proofs.changes.first_in.Goals as goal

pub returns-then-sets-place : goal.returns-then-sets-place
returns-then-sets-place c = ap (of_set first_object) (sym (past (drop 1) c.args.sets.now c.args.id c.place_of-place.result c.place_of-place.ensures c.if-sets-place.true))

pub returns : goal.returns
returns c =
    let at = got c.args.sets.now c.place_of-place.result c.index-sets-place.result c.if-sets-place.false c.index-sets-place.is in
    c.first.ensures
    ∙ ap (λ (x : OpenSet). first_object x.members) (sym c.index-sets-place.is)
    ∙ ap (of_set first_object) (sym (found (drop 1) c.args.sets.now c.args.id c.place_of-place.result c.place_of-place.ensures c.index-sets-place.result at))
