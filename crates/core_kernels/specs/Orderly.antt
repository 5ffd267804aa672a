-- What every state of the kernel keeps.
use Rattle.std.specs.Prelude.{◌++◌, ◌∷◌, ℕ, List, []}
use Rattle.kernel_values.specs.declared.state.State.{State}
use Rattle.kernel_types.specs.Limits.{IsWithinLimits}
use Rattle.set_laws.specs.Chains.{ChainFrom}
use Rattle.set_laws.specs.Soundness.{IsSound}

-- Objects stay within their limits. Their numbers rise, every number that is named was given, and no chain of sets
-- has more than 8. So no set contains itself, at any depth.
pub record IsOrderly (s : State) : Type 0 where
  pub within : IsWithinLimits s
  pub sound : IsSound s
  pub no_circles : (set : ℕ) (between : List ℕ) → ChainFrom s.core.objects set (between ++ set ∷ []) → ⊥
