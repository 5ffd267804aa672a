use Rattle.std.proofs.Common.{◌≡◌, ◌∙◌, ◌==◌, ℕ, false, sym, arith, add-one, eq-eqb}
use Rattle.std.proofs.lemmas.Bool.Decides.{nat_tests}
use Rattle.handle_set.specs.Members.{has_label}
use Rattle.handle_set.proofs.Orders.{any_here, any_past}
use Rattle.handle_set.proofs.members.has_label.Goals as goal

unequal : (a b : ℕ) → (a ≡ b → ⊥) → (a == b) ≡ false
unequal a b other = grind (arith, nat_tests)

pub returns-then-member-label : goal.returns-then-member-label
returns-then-member-label c =
    sym (any_here (has_label c.args.label) c.args.list.now c.loop-at.at c.member.result c.member.ensures (eq-eqb _ _ c.if-member-label.true)) ∙ c.loop-at.invariant

pub loop-at-preserved : goal.loop-at-preserved
loop-at-preserved c =
    rw (add-one c.loop-at.at)
    (sym (any_past (has_label c.args.label) c.args.list.now c.loop-at.at c.member.result c.member.ensures (unequal _ _ c.if-member-label.false)) ∙ c.loop-at.invariant)
