use Rattle.std.proofs.Common.{◌∙◌, sym, ap, subst}
use Rattle.handle_set.specs.declared.settle.OpenSet.{OpenSet}
use Rattle.handle_set.specs.Sets.{IsUpToDate, of_set, labelled, without_label, members_changed}
use Rattle.handle_set.proofs.Places.{got}
use Rattle.handle_set.proofs.Changing.{past, unchanged, rests, found, whole, left_ranked, left_held, left_once, left_others, left_rest, left_settled, deleting_fewer}
use Rattle.handle_set.proofs.changes.take_in.Goals as goal

pub returns-then-sets-place-clause-object : goal.returns-then-sets-place-clause-object
returns-then-sets-place-clause-object c = ap (of_set (labelled c.args.label)) (sym (past (without_label c.args.label) c.args.sets.now c.args.id c.find_place-place.result c.find_place-place.ensures c.if-sets-place.true))

pub returns-then-sets-place-clause-members : goal.returns-then-sets-place-clause-members
returns-then-sets-place-clause-members c = rests c.args.sets.now c.requires.settled (members_changed (without_label c.args.label) c.args.id c.args.sets.now) (unchanged (without_label c.args.label) c.args.sets.now c.args.id c.find_place-place.result c.find_place-place.ensures c.if-sets-place.true)

pub settle_after-requires-clause-ranked : goal.settle_after-requires-clause-ranked
settle_after-requires-clause-ranked c = left_ranked (without_label c.args.label) c.args.sets.now c.args.id c.find_place-place.result c.index-sets-place.result c.find_place-place.ensures c.if-sets-place.false c.index-sets-place.is _ (c.del-object.ensures.members ∙ ap (λ (x : OpenSet). (without_label c.args.label) x.members) (sym c.index-sets-place.is)) (deleting_fewer c.args.label) c.requires.settled

pub settle_after-requires-clause-once : goal.settle_after-requires-clause-once
settle_after-requires-clause-once c = left_once (without_label c.args.label) c.args.sets.now c.args.id c.find_place-place.result c.index-sets-place.result c.find_place-place.ensures c.if-sets-place.false c.index-sets-place.is _ (c.del-object.ensures.members ∙ ap (λ (x : OpenSet). (without_label c.args.label) x.members) (sym c.index-sets-place.is)) (deleting_fewer c.args.label) c.requires.settled

pub settle_after-requires-clause-held : goal.settle_after-requires-clause-held
settle_after-requires-clause-held c = left_held (without_label c.args.label) c.args.sets.now c.args.id c.find_place-place.result c.index-sets-place.result c.find_place-place.ensures c.if-sets-place.false c.index-sets-place.is _ (c.del-object.ensures.members ∙ ap (λ (x : OpenSet). (without_label c.args.label) x.members) (sym c.index-sets-place.is)) (deleting_fewer c.args.label) c.requires.settled c.args.holders.now c.requires.held

pub settle_after-requires-clause-rest : goal.settle_after-requires-clause-rest
settle_after-requires-clause-rest c = left_rest (without_label c.args.label) c.args.sets.now c.args.id c.find_place-place.result c.index-sets-place.result c.find_place-place.ensures c.if-sets-place.false c.index-sets-place.is _ (c.del-object.ensures.members ∙ ap (λ (x : OpenSet). (without_label c.args.label) x.members) (sym c.index-sets-place.is)) (deleting_fewer c.args.label) c.requires.settled

pub settle_after-requires-clause-others : goal.settle_after-requires-clause-others
settle_after-requires-clause-others c = left_others (without_label c.args.label) c.args.sets.now c.args.id c.find_place-place.result c.index-sets-place.result c.find_place-place.ensures c.if-sets-place.false c.index-sets-place.is _ (c.del-object.ensures.members ∙ ap (λ (x : OpenSet). (without_label c.args.label) x.members) (sym c.index-sets-place.is)) (deleting_fewer c.args.label) c.requires.settled c.is_ready_at-was.result c.is_ready_at-was.ensures

pub returns-clause-object : goal.returns-clause-object
returns-clause-object c =
    let at = got c.args.sets.now c.find_place-place.result c.index-sets-place.result c.if-sets-place.false c.index-sets-place.is in
    c.del-object.ensures.object
    ∙ ap (λ (x : OpenSet). labelled c.args.label x.members) (sym c.index-sets-place.is)
    ∙ ap (of_set (labelled c.args.label)) (sym (found (without_label c.args.label) c.args.sets.now c.args.id c.find_place-place.result c.find_place-place.ensures c.index-sets-place.result at))

pub returns-clause-members : goal.returns-clause-members
returns-clause-members c = subst (λ xs. IsUpToDate xs c.settle_after.new.sets) (whole (without_label c.args.label) c.args.sets.now c.args.id c.find_place-place.result c.index-sets-place.result c.find_place-place.ensures c.if-sets-place.false c.index-sets-place.is _ (c.del-object.ensures.members ∙ ap (λ (x : OpenSet). (without_label c.args.label) x.members) (sym c.index-sets-place.is))) c.settle_after.ensures.settled

pub returns-clause-settled : goal.returns-clause-settled
returns-clause-settled c =
    let ranked = left_ranked (without_label c.args.label) c.args.sets.now c.args.id c.find_place-place.result c.index-sets-place.result c.find_place-place.ensures c.if-sets-place.false c.index-sets-place.is _ (c.del-object.ensures.members ∙ ap (λ (x : OpenSet). (without_label c.args.label) x.members) (sym c.index-sets-place.is)) (deleting_fewer c.args.label) c.requires.settled in
    left_settled (without_label c.args.label) c.args.sets.now c.args.id c.find_place-place.result c.index-sets-place.result c.find_place-place.ensures c.if-sets-place.false c.index-sets-place.is _ (c.del-object.ensures.members ∙ ap (λ (x : OpenSet). (without_label c.args.label) x.members) (sym c.index-sets-place.is)) (deleting_fewer c.args.label) c.requires.settled c.settle_after.new.sets c.settle_after.ensures.settled (ranked.0, c.settle_after.ensures.ranked ranked.0 ranked.1)
