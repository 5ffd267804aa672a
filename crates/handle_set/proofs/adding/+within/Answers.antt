use Rattle.std.proofs.Common.{◌≡◌, ◌∙◌, ◌-◌, ◌==◌, ℕ, zero, suc, true, false, List, refl, sym, ap, arith, add-one, eq-eqb}
use Rattle.std.specs.List.{list_any}
use Rattle.std.specs.Option.{option_map}
use Rattle.std.proofs.lemmas.Bool.Decides.{nat_tests}
use Rattle.kernel_values.specs.declared.state.Object.{Object}
use Rattle.kernel_types.specs.Objects.{set_of}
use Rattle.kernel_types.specs.Sets.{members_of}
use Rattle.handle_set.specs.declared.settle.OpenSet.{OpenSet}
use Rattle.handle_set.specs.Chains.{objects_in, objects_of, set_value}
use Rattle.handle_set.specs.Within.{is_within}
use Rattle.handle_set.proofs.Places.{got}
use Rattle.handle_set.proofs.Changing.{past, found}
use Rattle.handle_set.proofs.Depths.{any_object, none_below}
use Rattle.handle_set.proofs.Standing.{set_found}
use Rattle.handle_set.proofs.adding.+within.Goals as goal

unequal : (a b : ℕ) → (a ≡ b → ⊥) → (a == b) ≡ false
unequal a b other = grind (arith, nat_tests)

within_here : (depth : ℕ) (objects : List Object) (inner outer : ℕ) → (outer == inner) ≡ true → is_within depth objects inner outer ≡ true
within_here zero objects inner outer is = is
within_here (suc depth) objects inner outer is = rw is refl

within_none : (depth : ℕ) (objects : List Object) (inner outer : ℕ) → depth ≡ 0 → (outer == inner) ≡ false → is_within depth objects inner outer ≡ false
within_none zero objects inner outer none other = other
within_none (suc depth) objects inner outer none other = absurd (omega arith)

within_less : (depth : ℕ) (objects : List Object) (inner outer : ℕ) → (depth ≡ 0 → ⊥) → (outer == inner) ≡ false → is_within depth objects inner outer ≡ list_any (is_within (depth - 1) objects inner) (members_of (set_of objects outer))
within_less zero objects inner outer some other = absurd (some refl)
within_less (suc depth) objects inner outer some other = let e : suc depth - 1 ≡ depth = omega arith in rw (e, other) refl

pub is_within-returns-then-outer-inner : goal.is_within-returns-then-outer-inner
is_within-returns-then-outer-inner n c = sym (within_here c.args.depth (objects_of c.args.sets.now) c.args.inner c.args.outer (eq-eqb _ _ c.if-outer-inner.true))

pub is_within-returns-then-depth-eq0 : goal.is_within-returns-then-depth-eq0
is_within-returns-then-depth-eq0 n c = sym (within_none c.args.depth (objects_of c.args.sets.now) c.args.inner c.args.outer c.if-depth-eq0.true (unequal _ _ c.if-outer-inner.false))

pub is_within-returns-then-sets-place : goal.is_within-returns-then-sets-place
is_within-returns-then-sets-place n c =
    let none = past (λ ms. ms) c.args.sets.now c.args.outer c.place_of-place.result c.place_of-place.ensures c.if-sets-place.true in
    sym (within_less c.args.depth (objects_of c.args.sets.now) c.args.inner c.args.outer c.if-depth-eq0.false (unequal _ _ c.if-outer-inner.false)
    ∙ ap (λ o. list_any (is_within (c.args.depth - 1) (objects_of c.args.sets.now) c.args.inner) (members_of o)) (none_below c.args.sets.now c.args.outer none))

pub is_within-returns : goal.is_within-returns
is_within-returns n c =
    let at = got c.args.sets.now c.place_of-place.result c.index-sets-place.result c.if-sets-place.false c.index-sets-place.is in
    let some = found (λ ms. ms) c.args.sets.now c.args.outer c.place_of-place.result c.place_of-place.ensures c.index-sets-place.result at in
    let value = set_found c.args.sets.now c.args.outer ∙ ap (option_map set_value) some in
    c.any_within.ensures
    ∙ ap (λ (x : OpenSet). list_any (is_within (c.args.depth - 1) (objects_of c.args.sets.now) c.args.inner) (objects_in x.members)) (sym c.index-sets-place.is)
    ∙ ap (λ o. list_any (is_within (c.args.depth - 1) (objects_of c.args.sets.now) c.args.inner) (members_of o)) (sym value)
    ∙ sym (within_less c.args.depth (objects_of c.args.sets.now) c.args.inner c.args.outer c.if-depth-eq0.false (unequal _ _ c.if-outer-inner.false))

pub any_within-returns-then-is_within : goal.any_within-returns-then-is_within
any_within-returns-then-is_within n c =
    let p = is_within c.args.depth (objects_of c.args.sets.now) c.args.inner in
    let here = any_object p c.args.list.now c.loop-at.at c.member.result c.member.ensures in
    let yes = sym c.is_within.ensures ∙ c.if-is_within.true in
    sym (rw yes at here) ∙ c.loop-at.invariant

pub any_within-loop-at-preserved : goal.any_within-loop-at-preserved
any_within-loop-at-preserved n c =
    let p = is_within c.args.depth (objects_of c.args.sets.now) c.args.inner in
    let here = any_object p c.args.list.now c.loop-at.at c.member.result c.member.ensures in
    let no = sym c.is_within.ensures ∙ c.if-is_within.false in
    rw (add-one c.loop-at.at) (sym (rw no at here) ∙ c.loop-at.invariant)
