use Rattle.std.proofs.Common.{◌∙◌, length, sym, ap}
use Rattle.handle_set.specs.declared.settle.OpenSet.{OpenSet}
use Rattle.std.specs.Prelude.{nat_le}
use Rattle.kernel_types.specs.Sets.{member_limit}
use Rattle.handle_set.specs.Adding.{members_in}
use Rattle.handle_set.proofs.Places.{got}
use Rattle.handle_set.proofs.Changing.{past, found}
use Rattle.handle_set.proofs.adding.is_full.Goals as goal

pub returns-then-sets-place : goal.returns-then-sets-place
returns-then-sets-place c = ap (λ o. nat_le member_limit (length (members_in o))) (sym (past (λ ms. ms) c.args.sets.now c.args.id c.place_of-place.result c.place_of-place.ensures c.if-sets-place.true))

pub returns : goal.returns
returns c =
    let at = got c.args.sets.now c.place_of-place.result c.index-sets-place.result c.if-sets-place.false c.index-sets-place.is in
    ap (λ n. nat_le member_limit n) (c.len.ensures.value ∙ ap (λ (x : OpenSet). length x.members) (sym c.index-sets-place.is))
    ∙ ap (λ o. nat_le member_limit (length (members_in o))) (sym (found (λ ms. ms) c.args.sets.now c.args.id c.place_of-place.result c.place_of-place.ensures c.index-sets-place.result at))
