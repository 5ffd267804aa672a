use Rattle.std.proofs.Common.{◌≡◌, ap, refl, map, arith, set, Some, slice_get}
use Rattle.std.specs.Option.{option_map}
use Rattle.std.proofs.lemmas.List.{length-map}
use Rattle.handle_set.specs.Members.{is_ready, with_mask, with_mask_at, set_if}
use Rattle.handle_set.proofs.Places.{get_within}
use Rattle.handle_set.proofs.ReadyLists.{set_list}
use Rattle.handle_set.proofs.ready_list.ReadyList.set_mask.Goals as goal

pub set_mask-requires : goal.set_mask-requires
set_mask-requires c = get_within c.self.inside.records c.args.at c.args.told.now (rw c.self.view_is c.requires)

pub with_bit_at-self-inside-requires : goal.with_bit_at-self-inside-requires
with_bit_at-self-inside-requires c =
    let within = get_within c.self.inside.records c.args.at c.args.told.now (rw c.self.view_is c.requires) in
    let few = c.self.invariant.few in
    omega arith

pub invariant_of-self : goal.invariant_of-self
invariant_of-self c =
    let members = c.self.inside.records in
    let told = c.args.told.now in
    let here : slice_get members c.args.at ≡ Some told = rw c.self.view_is c.requires in
    let within = get_within members c.args.at told here in
    let long = length-map members is_ready in
    let few = c.self.invariant.few in
    let all = c.with_bit_at-self-inside.ensures (map is_ready members) (omega arith) (omega arith) c.self.invariant.marked in
    let is : with_mask_at c.args.at c.args.mask c.args.cookie members ≡ set members c.args.at (with_mask c.args.mask c.args.cookie told) = ap (λ o. set_if members c.args.at (option_map (with_mask c.args.mask c.args.cookie) o)) here in
    rw (c.set_mask.ensures, is) (set_list members _ _ c.self.invariant c.args.at told (with_mask c.args.mask c.args.cookie told) here refl refl _ all)
