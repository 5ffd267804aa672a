-- Whether an answer is final: it gives or refuses, which a wait's beginning does not.
use Rattle.std.proofs.Common.{◌≡◌, ℕ, Bool, true, Option, Some, None, refl, subst}
use Rattle.std.specs.Option.{is_some}
use Rattle.kernel_values.specs.declared.reply.Answer.{Answer}
use Rattle.kernel_values.specs.declared.reply.Answer.TheVariants as answer
use Rattle.kernel_values.specs.declared.state.CoreState.{CoreState}
use Rattle.kernel_values.specs.declared.state.Wait.{Wait}
use Rattle.kernel_types.specs.Outcome.{Outcome}
use Rattle.kernel_types.specs.Waits.{end_of_wait}
use Rattle.kernel_types.specs.Whole.{final_answer}
use Rattle.step_laws.proofs.Calls.{GoesIf, end_of_wait_goes}
use Rattle.step_laws.proofs.Outcomes.{is_answered}
use Rattle.step_laws.proofs.Steps.{none_yet}

-- an answer that gives or refuses
abbrev pub IsFinal : Answer → Type 0
IsFinal given = is_some (final_answer given) ≡ true

pub answered_final : (ends : Bool) (given : Answer) → is_answered ends given ≡ true → IsFinal given
answered_final ends (answer.Gives reply) answers = refl
answered_final ends (answer.Refuses errno) answers = refl
answered_final ends _ answers = absurd (cc)

final_if : (app : ℕ) (c : CoreState) (o : Option Outcome) (outcome : Outcome) → o ≡ Some outcome → GoesIf (Some app) c o → IsFinal outcome.answer
final_if app c None outcome is goes = absurd (cc)
final_if app c (Some found) outcome is goes =
    subst (λ (x : Outcome). IsFinal x.answer) (let same : found ≡ outcome = cc in same) (answered_final true found.answer goes.answers)

pub end_answers : (c : CoreState) (app : ℕ) (w : Wait) (outcome : Outcome) → end_of_wait c app w ≡ Some outcome → IsFinal outcome.answer
end_answers c app w outcome is = final_if app c (end_of_wait c app w) outcome is (end_of_wait_goes app c c (none_yet (Some app) c) w)
