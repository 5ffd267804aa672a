use Rattle.std.proofs.Common.{◌≡◌, ◌∙◌, ◌+◌, ◌-◌, ◌<◌, ℕ, zero, suc, List, map, refl, sym, ap, arith, add-one}
use Rattle.std.specs.Option.{option_map}
use Rattle.kernel_values.specs.declared.state.Object.{Object}
use Rattle.kernel_types.specs.Sets.{depth_below, greatest, members_of, one_more_if_set}
use Rattle.handle_set.specs.declared.settle.OpenSet.{OpenSet}
use Rattle.handle_set.specs.Chains.{objects_in, objects_of, set_value}
use Rattle.handle_set.proofs.Places.{got}
use Rattle.handle_set.proofs.Changing.{past, found}
use Rattle.handle_set.proofs.Depths.{below_less, below_none, greatest_object, none_below}
use Rattle.handle_set.proofs.Standing.{set_found}
use Rattle.handle_set.proofs.adding.+below.Goals as goal

at_none : (limit : ℕ) (objects : List Object) (id : ℕ) → limit ≡ 0 → depth_below limit objects id ≡ 0
at_none zero objects id none = refl
at_none (suc limit) objects id none = absurd (omega arith)

above_none : (n : ℕ) → (n ≡ 0 → ⊥) → 0 < n
above_none n other = omega arith

pub depth_below-returns-then-limit-eq0-clause-value : goal.depth_below-returns-then-limit-eq0-clause-value
depth_below-returns-then-limit-eq0-clause-value n c = sym (at_none c.args.limit (objects_of c.args.sets.now) c.args.id c.if-limit-eq0.true)

pub depth_below-returns-then-sets-place-clause-value : goal.depth_below-returns-then-sets-place-clause-value
depth_below-returns-then-sets-place-clause-value n c =
    let none = past (λ ms. ms) c.args.sets.now c.args.id c.place_of-place.result c.place_of-place.ensures c.if-sets-place.true in
    sym (below_none c.args.limit (objects_of c.args.sets.now) c.args.id (none_below c.args.sets.now c.args.id none))

pub depth_below-returns-clause-value : goal.depth_below-returns-clause-value
depth_below-returns-clause-value n c =
    let at = got c.args.sets.now c.place_of-place.result c.index-sets-place.result c.if-sets-place.false c.index-sets-place.is in
    let some = found (λ ms. ms) c.args.sets.now c.args.id c.place_of-place.result c.place_of-place.ensures c.index-sets-place.result at in
    let value = set_found c.args.sets.now c.args.id ∙ ap (option_map set_value) some in
    let f = depth_below (c.args.limit - 1) (objects_of c.args.sets.now) in
    ap (λ n. n + 1) (c.greatest_below.ensures.value ∙ ap (λ (x : OpenSet). greatest (map f (objects_in x.members))) (sym c.index-sets-place.is))
    ∙ ap (λ o. one_more_if_set o (greatest (map f (members_of o)))) (sym value)
    ∙ sym (below_less c.args.limit (objects_of c.args.sets.now) c.args.id (above_none _ c.if-limit-eq0.false))

pub greatest_below-loop-at-preserved : goal.greatest_below-loop-at-preserved
greatest_below-loop-at-preserved n c =
    let f = depth_below c.args.limit (objects_of c.args.sets.now) in
    let here = greatest_object f c.args.list.now c.loop-at.at c.member.result c.member.ensures in
    let is = c.depth_below-depth.ensures.value in
    let bound = c.depth_below-depth.ensures.bound in
    let so_far = c.loop-at.invariant.0 in
    let less = c.loop-at.invariant.1 in
    rw (add-one c.loop-at.at) (omega (arith, here, is, so_far), omega (arith, bound, less))
