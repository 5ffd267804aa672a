-- The start and the end of an application, and an idle step, leave the objects.
use Rattle.std.proofs.Common.{◌≡◌, ℕ, true, false, cond, Option, Some, None, refl}
use Rattle.std.specs.Prelude.{slice_get}
use Rattle.kernel_values.specs.declared.state.CoreState.{CoreState}
use Rattle.kernel_types.specs.CoreStep.{core_idle}
use Rattle.kernel_types.specs.Applications.{started, started_as, application_ended, is_started_again, without_app}

pub same_started : (app : ℕ) (c : CoreState) → ((started app c).objects ≡ c.objects) × ((started app c).next ≡ c.next)
unfolding started
same_started app c = elim (slice_get c.apps app) as (λ o. ((started_as app o c).objects ≡ c.objects) × ((started_as app o c).next ≡ c.next)) [ None ↦ (refl, refl) | Some was ↦ (refl, refl) ]

pub same_ended : (app : ℕ) (c : CoreState) → ((application_ended app c).objects ≡ c.objects) × ((application_ended app c).next ≡ c.next)
unfolding application_ended
same_ended app c =
    elim (is_started_again (slice_get c.apps app)) as (λ b. ((cond b (started app (without_app app c)) (without_app app c)).objects ≡ c.objects)
    × ((cond b (started app (without_app app c)) (without_app app c)).next ≡ c.next)) [
      | true ↦ same_started app (without_app app c)
      | false ↦ (refl, refl)
    ]

pub same_idle : (c : CoreState) (deadline : Option ℕ) → ((core_idle deadline c).objects ≡ c.objects) × ((core_idle deadline c).next ≡ c.next)
unfolding core_idle
same_idle c None = (refl, refl)
same_idle c (Some deadline) = (refl, refl)
