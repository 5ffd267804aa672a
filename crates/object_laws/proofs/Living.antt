-- Each step ends with a sweep or leaves the core as it is, so that along every history what is there is named.
use Rattle.std.proofs.Common.{◌≡◌, ℕ, ◌<◌, ◌++◌, Bool, true, false, cond, List, Some, None, refl, subst}
use Rattle.kernel_values.specs.SceneLaw.{SceneValue}
use Rattle.kernel_values.specs.declared.entry.Entry.{Entry}
use Rattle.kernel_values.specs.declared.state.CoreState.{CoreState}
use Rattle.kernel_values.specs.declared.state.State.{State}
use Rattle.kernel_types.specs.Facts.{names_at}
use Rattle.kernel_types.specs.History.{Legal, state_after}
use Rattle.kernel_types.specs.Names.{names_of, naming}
use Rattle.kernel_types.specs.Objects.{is_there}
use Rattle.kernel_types.specs.Opening.{opening}
use Rattle.kernel_types.specs.Sweep.{sweep}
use Rattle.object_laws.proofs.Sweeping.{swept_iff}
use Rattle.step_laws.proofs.Invariants.{swept_along}

-- each object that is there is named
pub record IsNamedAll (c : CoreState) : Type 0 where
  pub named : (object : ℕ) → is_there c.objects object ≡ true → 0 < names_of (naming c) object

swept_named : (c : CoreState) → IsNamedAll (sweep c)
swept_named c = record { named = λ object there. ((swept_iff c object).0 there).1 }

opening_named : (scene : SceneValue) → IsNamedAll (opening scene).core
unfolding opening
opening_named scene = record { named = λ object there. absurd (cc there) }

count_of : (s : State) → IsNamedAll s.core → (object count : ℕ) → names_at s object ≡ Some count → 0 < count
count_of s p object count is =
    let names : ℕ = names_of (naming s.core) object in
    let go : (b : Bool) → is_there s.core.objects object ≡ b → cond b (Some names) None ≡ Some count → 0 < count =
    λ b. elim b as (λ v. is_there s.core.objects object ≡ v → cond v (Some names) None ≡ Some count → 0 < count) [
      | true ↦ (λ there same. let eq : names ≡ count = cc in subst (λ n. 0 < n) eq (p.named object there))
      | false ↦ (λ there same. absurd (cc))
    ] in
    go (is_there s.core.objects object) refl is

pub none_outlives : (scene : SceneValue) (before after : List Entry) (object count : ℕ) → Legal (opening scene) (before ++ after)
    → names_at (state_after (opening scene) before) object ≡ Some count → 0 < count
none_outlives scene before after object count legal is =
    count_of (state_after (opening scene) before) (swept_along IsNamedAll swept_named (opening scene) before (opening_named scene)) object count is
