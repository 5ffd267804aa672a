use Rattle.std.proofs.Common.{◌∙◌, drop, sym, ap, subst}
use Rattle.handle_set.specs.declared.settle.OpenSet.{OpenSet}
use Rattle.handle_set.specs.Sets.{IsSettled, is_member}
use Rattle.handle_set.proofs.Places.{got}
use Rattle.handle_set.proofs.Changing.{unchanged, found_id, whole, written, alone_settled, dropping_fewer}
use Rattle.handle_set.proofs.changes.drop_first_in.Goals as goal

pub returns-then-sets-place-clause-members : goal.returns-then-sets-place-clause-members
returns-then-sets-place-clause-members c = sym (unchanged (drop 1) c.args.sets.now c.args.id c.find_place-place.result c.find_place-place.ensures c.if-sets-place.true)

pub returns-clause-members : goal.returns-clause-members
returns-clause-members c = whole (drop 1) c.args.sets.now c.args.id c.find_place-place.result c.index-sets-place.result c.find_place-place.ensures c.if-sets-place.false c.index-sets-place.is _ (c.drop_first.ensures ∙ ap (λ (x : OpenSet). drop 1 x.members) (sym c.index-sets-place.is))

pub returns-clause-settled : goal.returns-clause-settled
returns-clause-settled c =
    let at = got c.args.sets.now c.find_place-place.result c.index-sets-place.result c.if-sets-place.false c.index-sets-place.is in
    let same = found_id (drop 1) c.args.sets.now c.args.id c.find_place-place.result c.find_place-place.ensures c.index-sets-place.result at in
    let alone = ap (is_member c.args.sets.now) same ∙ c.requires.alone in
    subst IsSettled (sym (written (drop 1) c.args.sets.now c.args.id c.find_place-place.result c.index-sets-place.result c.find_place-place.ensures c.if-sets-place.false c.index-sets-place.is _ (c.drop_first.ensures ∙ ap (λ (x : OpenSet). drop 1 x.members) (sym c.index-sets-place.is)))) (alone_settled (drop 1) c.args.sets.now c.find_place-place.result c.index-sets-place.result at dropping_fewer c.requires.settled alone)
