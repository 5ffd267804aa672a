use Rattle.std.proofs.Common.{◌∙◌, sym, ap, subst}
use Rattle.handle_set.specs.declared.settle.OpenSet.{OpenSet}
use Rattle.handle_set.specs.Members.{is_label_in}
use Rattle.handle_set.specs.Sets.{IsUpToDate, has_labelled, remasked_at, members_changed}
use Rattle.handle_set.proofs.Places.{got}
use Rattle.handle_set.proofs.Changing.{past, unchanged, rests, found, whole, left_ranked, left_held, left_once, left_others, left_rest, left_settled, masking_fewer}
use Rattle.handle_set.proofs.changes.modify_in.Goals as goal

pub returns-then-sets-place-clause-there : goal.returns-then-sets-place-clause-there
returns-then-sets-place-clause-there c = ap (has_labelled c.args.label) (sym (past (remasked_at c.args.label c.args.mask c.args.cookie) c.args.sets.now c.args.id c.find_place-place.result c.find_place-place.ensures c.if-sets-place.true))

pub returns-then-sets-place-clause-members : goal.returns-then-sets-place-clause-members
returns-then-sets-place-clause-members c = rests c.args.sets.now c.requires.settled (members_changed (remasked_at c.args.label c.args.mask c.args.cookie) c.args.id c.args.sets.now) (unchanged (remasked_at c.args.label c.args.mask c.args.cookie) c.args.sets.now c.args.id c.find_place-place.result c.find_place-place.ensures c.if-sets-place.true)

pub settle_after-requires-clause-ranked : goal.settle_after-requires-clause-ranked
settle_after-requires-clause-ranked c = left_ranked (remasked_at c.args.label c.args.mask c.args.cookie) c.args.sets.now c.args.id c.find_place-place.result c.index-sets-place.result c.find_place-place.ensures c.if-sets-place.false c.index-sets-place.is _ (c.modify-there.ensures.members ∙ ap (λ (x : OpenSet). (remasked_at c.args.label c.args.mask c.args.cookie) x.members) (sym c.index-sets-place.is)) (masking_fewer c.args.label c.args.mask c.args.cookie) c.requires.settled

pub settle_after-requires-clause-once : goal.settle_after-requires-clause-once
settle_after-requires-clause-once c = left_once (remasked_at c.args.label c.args.mask c.args.cookie) c.args.sets.now c.args.id c.find_place-place.result c.index-sets-place.result c.find_place-place.ensures c.if-sets-place.false c.index-sets-place.is _ (c.modify-there.ensures.members ∙ ap (λ (x : OpenSet). (remasked_at c.args.label c.args.mask c.args.cookie) x.members) (sym c.index-sets-place.is)) (masking_fewer c.args.label c.args.mask c.args.cookie) c.requires.settled

pub settle_after-requires-clause-held : goal.settle_after-requires-clause-held
settle_after-requires-clause-held c = left_held (remasked_at c.args.label c.args.mask c.args.cookie) c.args.sets.now c.args.id c.find_place-place.result c.index-sets-place.result c.find_place-place.ensures c.if-sets-place.false c.index-sets-place.is _ (c.modify-there.ensures.members ∙ ap (λ (x : OpenSet). (remasked_at c.args.label c.args.mask c.args.cookie) x.members) (sym c.index-sets-place.is)) (masking_fewer c.args.label c.args.mask c.args.cookie) c.requires.settled c.args.holders.now c.requires.held

pub settle_after-requires-clause-rest : goal.settle_after-requires-clause-rest
settle_after-requires-clause-rest c = left_rest (remasked_at c.args.label c.args.mask c.args.cookie) c.args.sets.now c.args.id c.find_place-place.result c.index-sets-place.result c.find_place-place.ensures c.if-sets-place.false c.index-sets-place.is _ (c.modify-there.ensures.members ∙ ap (λ (x : OpenSet). (remasked_at c.args.label c.args.mask c.args.cookie) x.members) (sym c.index-sets-place.is)) (masking_fewer c.args.label c.args.mask c.args.cookie) c.requires.settled

pub settle_after-requires-clause-others : goal.settle_after-requires-clause-others
settle_after-requires-clause-others c = left_others (remasked_at c.args.label c.args.mask c.args.cookie) c.args.sets.now c.args.id c.find_place-place.result c.index-sets-place.result c.find_place-place.ensures c.if-sets-place.false c.index-sets-place.is _ (c.modify-there.ensures.members ∙ ap (λ (x : OpenSet). (remasked_at c.args.label c.args.mask c.args.cookie) x.members) (sym c.index-sets-place.is)) (masking_fewer c.args.label c.args.mask c.args.cookie) c.requires.settled c.is_ready_at-was.result c.is_ready_at-was.ensures

pub returns-clause-there : goal.returns-clause-there
returns-clause-there c =
    let at = got c.args.sets.now c.find_place-place.result c.index-sets-place.result c.if-sets-place.false c.index-sets-place.is in
    c.modify-there.ensures.there
    ∙ ap (λ (x : OpenSet). is_label_in x.members c.args.label) (sym c.index-sets-place.is)
    ∙ ap (has_labelled c.args.label) (sym (found (remasked_at c.args.label c.args.mask c.args.cookie) c.args.sets.now c.args.id c.find_place-place.result c.find_place-place.ensures c.index-sets-place.result at))

pub returns-clause-members : goal.returns-clause-members
returns-clause-members c = subst (λ xs. IsUpToDate xs c.settle_after.new.sets) (whole (remasked_at c.args.label c.args.mask c.args.cookie) c.args.sets.now c.args.id c.find_place-place.result c.index-sets-place.result c.find_place-place.ensures c.if-sets-place.false c.index-sets-place.is _ (c.modify-there.ensures.members ∙ ap (λ (x : OpenSet). (remasked_at c.args.label c.args.mask c.args.cookie) x.members) (sym c.index-sets-place.is))) c.settle_after.ensures.settled

pub returns-clause-settled : goal.returns-clause-settled
returns-clause-settled c =
    let ranked = left_ranked (remasked_at c.args.label c.args.mask c.args.cookie) c.args.sets.now c.args.id c.find_place-place.result c.index-sets-place.result c.find_place-place.ensures c.if-sets-place.false c.index-sets-place.is _ (c.modify-there.ensures.members ∙ ap (λ (x : OpenSet). (remasked_at c.args.label c.args.mask c.args.cookie) x.members) (sym c.index-sets-place.is)) (masking_fewer c.args.label c.args.mask c.args.cookie) c.requires.settled in
    left_settled (remasked_at c.args.label c.args.mask c.args.cookie) c.args.sets.now c.args.id c.find_place-place.result c.index-sets-place.result c.find_place-place.ensures c.if-sets-place.false c.index-sets-place.is _ (c.modify-there.ensures.members ∙ ap (λ (x : OpenSet). (remasked_at c.args.label c.args.mask c.args.cookie) x.members) (sym c.index-sets-place.is)) (masking_fewer c.args.label c.args.mask c.args.cookie) c.requires.settled c.settle_after.new.sets c.settle_after.ensures.settled (ranked.0, c.settle_after.ensures.ranked ranked.0 ranked.1)
