use Rattle.std.proofs.Common.{◌≡◌, ◌+◌, ◌-◌, ◌++◌, [], ◌∷◌, ◌∙◌, ap, sym, arith}
use Rattle.scene_generator.specs.Generated.{command_by, number_after, script_of}
use Rattle.scene_generator.proofs.Longer.{begins, passed, stands, steps_on, taken}
use Rattle.scene_generator.proofs.scripts.script_of.Goals as goal
use Rattle.scene_generator.proofs.scripts.script_of.Goals.{then-at-ge12, else-at-ge12, then-at-app+in_ok-command_by+in_ok-push, else-at-app}

-- src/scripts.rt:121:5
pub loop-at-init : goal.loop-at-init
loop-at-init c = (begins c.args.seed, c.new-script.ensures)

-- src/scripts.rt:121:5
pub loop-at-preserved : goal.loop-at-preserved
loop-at-preserved c =
    let number : c.if-at-ge12.x ≡ number_after c.args.seed (c.loop-at.at + 1 - 12) = elim c.if-at-ge12.branch [
      | then-at-ge12 w ↦ w.x-is ∙ w.stepped-x.ensures ∙ steps_on c.args.seed c.loop-at.at c.loop-at.x w.if-at-ge12.true c.loop-at.invariant.0
      | else-at-ge12 w ↦ w.x-is ∙ c.loop-at.invariant.0 ∙ stands c.args.seed c.loop-at.at (omega (arith, w.if-at-ge12.false))
    ] in
    let script : c.if-at-app.script ≡ script_of c.args.seed (c.loop-at.at + 1) c.args.app = elim c.if-at-app.branch [
      | then-at-app+in_ok-command_by+in_ok-push w ↦ w.script-is ∙ w.in_ok-push.ensures.ok ∙ ap (λ xs. xs ++ w.in_ok-command_by.field-0 ∷ []) c.loop-at.invariant.1
          ∙ ap (λ command. script_of c.args.seed c.loop-at.at c.args.app ++ command ∷ []) (w.in_ok-command_by.ensures ∙ ap (command_by c.loop-at.at) number)
          ∙ sym (taken c.args.seed c.loop-at.at c.args.app w.if-at-app.true)
      | else-at-app w ↦ w.script-is ∙ c.loop-at.invariant.1 ∙ sym (passed c.args.seed c.loop-at.at c.args.app w.if-at-app.false)
    ] in
    (number, script)
