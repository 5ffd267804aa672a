use Rattle.std.proofs.Common.{◌≡◌, ◌∙◌, ◌==◌, ℕ, false, sym, arith, add-one, eq-eqb}
use Rattle.std.proofs.lemmas.Bool.Decides.{nat_tests}
use Rattle.handle_set.specs.Members.{has_object}
use Rattle.handle_set.proofs.Orders.{any_here, any_past}
use Rattle.handle_set.proofs.members.has_object.Goals as goal

unequal : (a b : ℕ) → (a ≡ b → ⊥) → (a == b) ≡ false
unequal a b other = grind (arith, nat_tests)

pub returns-then-member-object : goal.returns-then-member-object
returns-then-member-object c =
    sym (any_here (has_object c.args.object) c.args.list.now c.loop-at.at c.member.result c.member.ensures (eq-eqb _ _ c.if-member-object.true)) ∙ c.loop-at.invariant

pub loop-at-preserved : goal.loop-at-preserved
loop-at-preserved c =
    rw (add-one c.loop-at.at)
    (sym (any_past (has_object c.args.object) c.args.list.now c.loop-at.at c.member.result c.member.ensures (unequal _ _ c.if-member-object.false)) ∙ c.loop-at.invariant)
