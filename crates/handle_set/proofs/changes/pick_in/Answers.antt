use Rattle.std.proofs.Common.{◌≡◌, ◌∙◌, ◌<◌, ℕ, List, length, set, get_or, slice_get, Some, sym, ap, subst}
use Rattle.std.specs.List.{position_or_len}
use Rattle.handle_set.specs.declared.records.TrackedMember.{TrackedMember}
use Rattle.handle_set.specs.declared.settle.OpenSet.{OpenSet}
use Rattle.handle_set.specs.Sets.{has_id, with_members, with_changed, of_set, first_ready, reported, members_changed, IsSettled}
use Rattle.handle_set.proofs.Places.{got}
use Rattle.handle_set.proofs.Changing.{past, unchanged, found, changed_is, fewer_settled, picking_fewer}
use Rattle.handle_set.proofs.Picking.{any_pick}
use Rattle.handle_set.proofs.changes.pick_in.Goals as goal

module _ (sets : List OpenSet) (id place : ℕ) (s : OpenSet) (place_is : place ≡ position_or_len (has_id id) sets) (within : place < length sets) (s_is : s ≡ get_or sets place s) where
  here : slice_get sets place ≡ Some s
  here = got sets place s within s_is

  written : (members : List TrackedMember) → members ≡ reported s.members → set sets place (with_members members (get_or sets place s)) ≡ set sets place (with_changed reported s)
  written members is = ap (λ ms. set sets place (with_members ms (get_or sets place s))) is ∙ ap (λ (x : OpenSet). set sets place (with_members (reported s.members) x)) (sym s_is)

  whole : (members : List TrackedMember) → members ≡ reported s.members → set sets place (with_members members (get_or sets place s)) ≡ members_changed reported id sets
  whole members is = written members is ∙ sym (changed_is reported sets id place place_is s here)

  settled : (members : List TrackedMember) → members ≡ reported s.members → IsSettled sets → IsSettled (set sets place (with_members members (get_or sets place s)))
  settled members is was = subst IsSettled (sym (written members is)) (fewer_settled reported sets place s here picking_fewer was (any_pick s.members))

pub returns-then-sets-place-clause-picked : goal.returns-then-sets-place-clause-picked
returns-then-sets-place-clause-picked g c = ap (of_set first_ready) (sym (past reported c.args.sets.now c.args.id c.find_place-place.result c.find_place-place.ensures c.if-sets-place.true))

pub returns-then-sets-place-clause-members : goal.returns-then-sets-place-clause-members
returns-then-sets-place-clause-members g c = sym (unchanged reported c.args.sets.now c.args.id c.find_place-place.result c.find_place-place.ensures c.if-sets-place.true)

pub returns-clause-picked : goal.returns-clause-picked
returns-clause-picked g c =
    let at = here c.args.sets.now c.args.id c.find_place-place.result c.index-sets-place.result c.find_place-place.ensures c.if-sets-place.false c.index-sets-place.is in
    c.pick.ensures.picked
    ∙ ap (λ (x : OpenSet). first_ready x.members) (sym c.index-sets-place.is)
    ∙ ap (of_set first_ready) (sym (found reported c.args.sets.now c.args.id c.find_place-place.result c.find_place-place.ensures c.index-sets-place.result at))

pub returns-clause-members : goal.returns-clause-members
returns-clause-members g c =
    whole c.args.sets.now c.args.id c.find_place-place.result c.index-sets-place.result c.find_place-place.ensures c.if-sets-place.false c.index-sets-place.is _ (c.pick.ensures.members ∙ ap (λ (x : OpenSet). reported x.members) (sym c.index-sets-place.is))

pub returns-clause-settled : goal.returns-clause-settled
returns-clause-settled g c =
    settled c.args.sets.now c.args.id c.find_place-place.result c.index-sets-place.result c.find_place-place.ensures c.if-sets-place.false c.index-sets-place.is _ (c.pick.ensures.members ∙ ap (λ (x : OpenSet). reported x.members) (sym c.index-sets-place.is)) c.requires.settled
