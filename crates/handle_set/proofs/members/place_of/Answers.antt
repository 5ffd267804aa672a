use Rattle.std.proofs.Common.{◌≡◌, ◌==◌, ℕ, false, arith, add-one, eq-eqb}
use Rattle.std.proofs.lemmas.Bool.Decides.{nat_tests}
use Rattle.handle_set.specs.Members.{has_label}
use Rattle.handle_set.proofs.Orders.{here_position, past_position}
use Rattle.handle_set.proofs.members.place_of.Goals as goal

unequal : (a b : ℕ) → (a ≡ b → ⊥) → (a == b) ≡ false
unequal a b other = grind (arith, nat_tests)

pub returns-then-member-label : goal.returns-then-member-label
returns-then-member-label c =
    let zero_more = here_position (has_label c.args.label) c.args.list.now c.loop-at.at c.member.result c.member.ensures (eq-eqb _ _ c.if-member-label.true) in
    let so_far = c.loop-at.invariant in
    omega arith

pub loop-at-preserved : goal.loop-at-preserved
loop-at-preserved c =
    let one_more = past_position (has_label c.args.label) c.args.list.now c.loop-at.at c.member.result c.member.ensures (unequal _ _ c.if-member-label.false) in
    let so_far = c.loop-at.invariant in
    rw (add-one c.loop-at.at) (omega arith)
