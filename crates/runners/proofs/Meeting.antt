-- What a legal history says of an actor's place: it is of the start in which the actor is, and waits where the actor waits.
use Rattle.std.proofs.Common.{◌≡◌, ℕ, ◌+◌, ◌≤◌, Bool, true, false, List, length, Option, Some, refl, ap, sym, subst, arith, inl, inr}
use Rattle.std.specs.Prelude.{slice_get}
use Rattle.std.proofs.lemmas.Bool.{cases_lt}
use Rattle.kernel_values.specs.SceneLaw.{SceneValue}
use Rattle.kernel_values.specs.declared.entry.ActorStatus.{ActorStatus}
use Rattle.kernel_values.specs.declared.entry.ActorStatus.TheVariants as status
use Rattle.kernel_values.specs.declared.entry.Entry.{Entry}
use Rattle.kernel_values.specs.declared.script.Command.{Command}
use Rattle.kernel_types.specs.Facts.{status_at}
use Rattle.kernel_types.specs.History.{Legal, state_after}
use Rattle.kernel_types.specs.Opening.{opening}
use Rattle.kernel_types.specs.Whole.{answers_in, calls_in}
use Rattle.run_laws.specs.Answered.{HasAnswers, IsFrom, Open}
use Rattle.run_laws.proofs.Answering.{first_rises, has_answers, starts_rise}
use Rattle.runners.specs.declared.place.Place.{Place}
use Rattle.runners.specs.Places.{AllRan, HasRun, PlaceFits, PlacesFit, pending}

none_pending : (b : Bool) → pending b ≡ 0 → b ≡ false
none_pending true is = absurd (omega (arith, is))
none_pending false is = refl

one_pending : (b : Bool) → pending b ≡ 1 → b ≡ true
one_pending true is = refl
one_pending false is = absurd (omega (arith, is))

abbrev pub waits_in : ActorStatus → Bool
waits_in (status.Waiting start) = true
waits_in other = false

pub record IsInStep (place : Place) (start : ℕ) (what : ActorStatus) : Type 0 where
  pub start_is : place.actor.start ≡ start
  pub waits_is : place.waits ≡ waits_in what

module _ (scene : SceneValue) (scripts : List (List Command)) (places : List Place) (entries : List Entry) (number : ℕ) (script : List Command) (place : Place)
    (legal : Legal (opening scene) entries) (kept : PlacesFit scripts places entries) (ran : AllRan places (opening scene) entries)
    (script_is : slice_get scripts number ≡ Some script) (there : slice_get places number ≡ Some place) where
  fits : PlaceFits number script entries place
  fits =
      let found : (x : Place) × (slice_get places number ≡ Some x) × PlaceFits number script entries x = kept number script script_is in
      let one : found.0 ≡ place = cc (found.1, there) in
      subst (λ (p : Place). PlaceFits number script entries p) one found.2

  from_start : (start : ℕ) → HasRun (opening scene) entries number start → IsFrom start (status_at (state_after (opening scene) entries) number)
  from_start start has = elim has [
    | inl first ↦ subst (λ n. IsFrom n (status_at (state_after (opening scene) entries) number)) (sym first) (first_rises scene entries number legal)
    | inr p ↦ subst (λ es. IsFrom start (status_at (state_after (opening scene) es) number)) (sym p.2)
        (starts_rise scene p.0 p.1 number start (subst (λ es. Legal (opening scene) es) p.2 legal) p.3)
  ]

  rises : (what : ActorStatus) → status_at (state_after (opening scene) entries) number ≡ Some what → IsFrom place.actor.start (Some what)
  rises what status_is = subst (λ (o : Option ActorStatus). IsFrom place.actor.start o) status_is (from_start place.actor.start (ran number place there))

  answers : (what : ActorStatus) → status_at (state_after (opening scene) entries) number ≡ Some what → HasAnswers number entries (Some what)
  answers what status_is = subst (λ (o : Option ActorStatus). HasAnswers number entries o) status_is (has_answers scene entries number legal)

  count_at : (start : ℕ) → place.actor.start ≡ start → length (calls_in number start entries) ≡ length (answers_in number start entries) + pending place.waits
  count_at start same = subst (λ n. length (calls_in number n entries) ≡ length (answers_in number n entries) + pending place.waits) same fits.count

  pub runs_at : (start : ℕ) → status_at (state_after (opening scene) entries) number ≡ Some (status.Running start) → start ≤ place.actor.start → IsInStep place start (status.Running start)
  runs_at start runs low =
      let rise : IsFrom place.actor.start (Some (status.Running start)) = rises (status.Running start) runs in
      let same : place.actor.start ≡ start = omega (arith, rise, low) in
      let even : Open 0 number start entries = answers (status.Running start) runs in
      record { start_is = same; waits_is = none_pending place.waits (omega (arith, even, count_at start same)) }

  pub waits_at : (start : ℕ) → status_at (state_after (opening scene) entries) number ≡ Some (status.Waiting start) → IsInStep place start (status.Waiting start)
  waits_at start waits =
      let rise : IsFrom place.actor.start (Some (status.Waiting start)) = rises (status.Waiting start) waits in
      let odd : Open 1 number start entries = answers (status.Waiting start) waits in
      let same : place.actor.start ≡ start = elim (cases_lt place.actor.start start) [
        | inl before ↦ absurd (omega (arith, odd, ap length (fits.later start before).0, ap length (fits.later start before).1))
        | inr past ↦ omega (arith, rise, past)
      ] in
      record { start_is = same; waits_is = one_pending place.waits (omega (arith, odd, count_at start same)) }
