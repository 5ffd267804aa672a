use Rattle.std.proofs.Common.{◌≡◌, false, [], ◌∷◌, subst, sym}
use Rattle.std.specs.List.{All}
use Rattle.std.proofs.lemmas.List.Elements.{All-append}
use Rattle.turnstile.specs.declared.pass.Pass.{Pass}
use Rattle.turnstile.specs.Nowhere.{nowhere}
use Rattle.turnstile.specs.Names.{IsPassOf}
use Rattle.turnstile.specs.Passes.{view}
use Rattle.turnstile.proofs.Gathering.{all_one}
use Rattle.part_tests.proofs.lock_tests.with_pass.Goals as goal

pub returns-clause-passes : goal.returns-clause-passes
returns-clause-passes c =
    let P : Pass → Type 0 = λ p. IsPassOf (λ _. nowhere) c.args.turnstile.now p × ((view p).has_turn ≡ false) in
    subst (All P) (sym c.in_ok-push.ensures.items) (All-append P c.args.passes.items (c.args.pass ∷ []) c.requires.passes (all_one P c.args.pass c.requires.pass))
