use Rattle.std.proofs.Common.{◌≡◌, ◌∙◌, ap, refl, false, arith, add-one, ℕ, eq-eqb, ◌==◌}
use Rattle.std.proofs.lemmas.Bool.Decides.{nat_tests}
use Rattle.handle_set.specs.declared.records.TrackedMember.{TrackedMember}
use Rattle.kernel_values.specs.declared.flags.Events.{Events}
use Rattle.handle_set.specs.Members.{with_events, with_told, map_at}
use Rattle.handle_set.proofs.Turns.{step, skip}
use Rattle.handle_set.proofs.members.tell.Goals as goal
use Rattle.handle_set.proofs.members.tell.Goals.{then-told-object, else-told-object}

unequal : (a b : ℕ) → (a ≡ b → ⊥) → (a == b) ≡ false
unequal a b other = grind (arith, nat_tests)

told_here : (object : ℕ) (events : Events) (told : TrackedMember) → told.object.serial ≡ object → with_events events told ≡ with_told object events told
told_here object events told is = rw (eq-eqb told.object.serial object is) refl

told_other : (object : ℕ) (events : Events) (told : TrackedMember) → (told.object.serial ≡ object → ⊥) → told ≡ with_told object events told
told_other object events told other = rw (unequal told.object.serial object other) refl

pub loop-at-preserved : goal.loop-at-preserved
loop-at-preserved c =
    let told = c.member-told.result in
    let e = c.args.events in
    let o = c.args.object in
    let at = c.loop-at.at in
    let here = rw c.loop-at.invariant at c.member-told.ensures in
    rw (add-one at)
    (elim c.if-told-object.branch [
      | then-told-object w ↦ w.list-is ∙ w.set_events.ensures ∙ ap (map_at (with_events e) at) c.loop-at.invariant ∙ step (with_told o e) (with_events e) c.args.list.now at told here (told_here o e told w.if-told-object.true)
      | else-told-object w ↦ w.list-is ∙ c.loop-at.invariant ∙ skip (with_told o e) c.args.list.now at told here (told_other o e told w.if-told-object.false)
    ])
