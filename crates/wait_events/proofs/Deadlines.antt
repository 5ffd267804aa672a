-- The least deadline of all waits.
use Rattle.std.proofs.Common.{◌≡◌, ◌∙◌, ◌≤◌, ℕ, zero, suc, List, [], ◌∷◌, Option, Some, None, length, map, drop, set, slice_get, refl, sym, ap, arith}
use Rattle.std.specs.Option.{option_map}
use Rattle.kernel_types.specs.CoreStep.{sooner}
use Rattle.handle_set.proofs.Places.{some_same}
use Rattle.wait_events.specs.declared.waits.Waiting.{Waiting}
use Rattle.wait_events.specs.Waits.{deadline_in, least_deadline}

from_here : (actors : List (Option Waiting)) (k : ℕ) (actor : Option Waiting) → slice_get actors k ≡ Some actor → sooner (deadline_in actor) (least_deadline (drop (suc k) actors)) ≡ least_deadline (drop k actors)
from_here [] k actor here = absurd (cc)
from_here (a ∷ rest) zero actor here = ap (λ x. sooner (deadline_in x) (least_deadline rest)) (sym (some_same a actor here))
from_here (a ∷ rest) (suc k) actor here = from_here rest k actor here

pub one_more : (actors : List (Option Waiting)) (k next : ℕ) (actor : Option Waiting) → slice_get actors k ≡ Some actor → next ≡ suc k → sooner (deadline_in actor) (least_deadline (drop next actors)) ≡ least_deadline (drop k actors)
one_more actors k next actor here is = ap (λ n. sooner (deadline_in actor) (least_deadline (drop n actors))) is ∙ from_here actors k actor here

pub past_all : (actors : List (Option Waiting)) (k : ℕ) → length actors ≤ k → least_deadline (drop k actors) ≡ None
past_all [] zero past = refl
past_all [] (suc k) past = refl
past_all (a ∷ rest) zero past = absurd (omega arith)
past_all (a ∷ rest) (suc k) past = past_all rest k (omega arith)

pub least_kept : (f : Option Waiting → Option Waiting) → ((a : Option Waiting) → deadline_in (f a) ≡ deadline_in a) → (actors : List (Option Waiting)) → least_deadline (map f actors) ≡ least_deadline actors
least_kept f same [] = refl
least_kept f same (a ∷ rest) = rw (same a, least_kept f same rest) refl

pub mapped_deadline : (change : Waiting → Waiting) → ((w : Waiting) → (change w).wait.deadline ≡ w.wait.deadline) → (a : Option Waiting) → deadline_in (option_map change a) ≡ deadline_in a
mapped_deadline change same None = refl
mapped_deadline change same (Some w) = same w

pub least_set : (actors : List (Option Waiting)) (k : ℕ) (old new : Option Waiting) → slice_get actors k ≡ Some old → deadline_in new ≡ deadline_in old → least_deadline (set actors k new) ≡ least_deadline actors
least_set [] k old new here same = refl
least_set (a ∷ rest) zero old new here same = ap (λ d. sooner d (least_deadline rest)) (same ∙ ap deadline_in (sym (some_same a old here)))
least_set (a ∷ rest) (suc k) old new here same = ap (λ l. sooner (deadline_in a) l) (least_set rest k old new here same)
