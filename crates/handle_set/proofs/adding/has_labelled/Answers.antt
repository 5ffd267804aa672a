use Rattle.std.proofs.Common.{◌∙◌, sym, ap}
use Rattle.handle_set.specs.declared.settle.OpenSet.{OpenSet}
use Rattle.handle_set.specs.Members.{is_label_in}
use Rattle.handle_set.specs.Sets.{has_labelled}
use Rattle.handle_set.proofs.Places.{got}
use Rattle.handle_set.proofs.Changing.{past, found}
use Rattle.handle_set.proofs.adding.has_labelled.Goals as goal

pub returns-then-sets-place : goal.returns-then-sets-place
returns-then-sets-place c = ap (has_labelled c.args.label) (sym (past (λ ms. ms) c.args.sets.now c.args.id c.place_of-place.result c.place_of-place.ensures c.if-sets-place.true))

pub returns : goal.returns
returns c =
    let at = got c.args.sets.now c.place_of-place.result c.index-sets-place.result c.if-sets-place.false c.index-sets-place.is in
    c.has_label.ensures
    ∙ ap (λ (x : OpenSet). is_label_in x.members c.args.label) (sym c.index-sets-place.is)
    ∙ ap (has_labelled c.args.label) (sym (found (λ ms. ms) c.args.sets.now c.args.id c.place_of-place.result c.place_of-place.ensures c.index-sets-place.result at))
