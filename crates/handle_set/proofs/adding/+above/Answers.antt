use Rattle.std.proofs.Common.{◌≡◌, ◌∙◌, ◌+◌, ◌<◌, ℕ, zero, suc, List, length, map, refl, sym, ap, arith, add-one}
use Rattle.kernel_values.specs.declared.state.Object.{Object}
use Rattle.kernel_types.specs.Sets.{depth_above, greatest}
use Rattle.handle_set.specs.Chains.{objects_of}
use Rattle.handle_set.proofs.Places.{get_some}
use Rattle.handle_set.proofs.Depths.{above_less, holder_ids, holder_step, holders_is, no_holders}
use Rattle.handle_set.proofs.adding.+above.Goals as goal

at_none : (limit : ℕ) (objects : List Object) (id : ℕ) → limit ≡ 0 → depth_above limit objects id ≡ 0
at_none zero objects id none = refl
at_none (suc limit) objects id none = absurd (omega arith)

above_none : (n : ℕ) → (n ≡ 0 → ⊥) → 0 < n
above_none n other = omega arith

pub depth_above-returns-then-limit-eq0-clause-value : goal.depth_above-returns-then-limit-eq0-clause-value
depth_above-returns-then-limit-eq0-clause-value n c = sym (at_none c.args.limit (objects_of c.args.sets.now) c.args.id c.if-limit-eq0.true)

pub depth_above-returns-clause-value : goal.depth_above-returns-clause-value
depth_above-returns-clause-value n c =
    ap (λ n. n + 1) c.greatest_above.ensures.value
    ∙ sym (above_less c.args.limit (objects_of c.args.sets.now) c.args.id (above_none _ c.if-limit-eq0.false))

pub depth_through-returns-then-not-holds-clause-value : goal.depth_through-returns-then-not-holds-clause-value
depth_through-returns-then-not-holds-clause-value n c =
    let found = get_some c.args.sets.now c.args.place c.requires in
    let holds = rw found.1 at c.holds.ensures in
    rw (found.1, ← holds, c.if-not-holds.true) refl

pub depth_through-returns-clause-value : goal.depth_through-returns-clause-value
depth_through-returns-clause-value n c =
    let found = get_some c.args.sets.now c.args.place c.requires in
    let holds = rw found.1 at c.holds.ensures in
    let id = rw found.1 at c.id_at.ensures in
    rw (found.1, ← holds, c.if-not-holds.false) (c.depth_above.ensures.value ∙ ap (depth_above c.args.limit (objects_of c.args.sets.now)) id)

pub greatest_above-loop-place-preserved : goal.greatest_above-loop-place-preserved
greatest_above-loop-place-preserved n c =
    let f = depth_above c.args.limit (objects_of c.args.sets.now) in
    let within : c.loop-place.place < length c.args.sets.now = omega arith in
    let found = get_some c.args.sets.now c.loop-place.place within in
    let here = holder_step f c.args.id c.args.sets.now c.loop-place.place found.0 found.1 in
    let is = rw found.1 at c.depth_through-depth.ensures.value in
    let bound = c.depth_through-depth.ensures.bound in
    let so_far = c.loop-place.invariant.0 in
    let less = c.loop-place.invariant.1 in
    rw (add-one c.loop-place.place) (omega (arith, here, is, so_far), omega (arith, bound, less))

pub greatest_above-returns-clause-value : goal.greatest_above-returns-clause-value
greatest_above-returns-clause-value n c =
    let f = depth_above c.args.limit (objects_of c.args.sets.now) in
    let rest = no_holders f c.args.id c.args.sets.now c.loop-place.place (omega arith) in
    let so_far = c.loop-place.invariant.0 in
    let whole : c.loop-place.most ≡ greatest (map f (holder_ids c.args.id c.args.sets.now)) = omega (arith, rest, so_far) in
    whole ∙ ap (λ ids. greatest (map f ids)) (sym (holders_is c.args.sets.now c.args.id))
