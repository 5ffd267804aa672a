-- Round a circle of sets there are chains of any length.
use Rattle.std.proofs.Common.{◌≡◌, ◌≤◌, ℕ, zero, suc, true, List, [], ◌∷◌, ◌++◌, length, arith, length-append}
use Rattle.kernel_values.specs.SceneLaw.{SceneValue}
use Rattle.kernel_values.specs.declared.state.Object.{Object}
use Rattle.kernel_types.specs.Opening.{opening}
use Rattle.set_laws.specs.Chains.{ChainFrom, HasShortChains}

module _ (objects : List Object) (set : ℕ) where
  led : (first : ℕ) (between sets : List ℕ) → ChainFrom objects first (between ++ set ∷ []) → ChainFrom objects set sets → ChainFrom objects first (between ++ set ∷ sets)
  led first [] sets circle chain = (circle.0, chain)
  led first (next ∷ between) sets circle chain = (circle.0, led next between sets circle.1 chain)

  pub record LongChain (n : ℕ) : Type 0 where
    pub sets : List ℕ
    pub chain : ChainFrom objects set sets
    pub long : n ≤ length sets

  round : (between : List ℕ) → ChainFrom objects set (between ++ set ∷ []) → (n : ℕ) → LongChain n
  round between circle zero = record { sets = between ++ set ∷ []; chain = circle; long = omega arith }
  round between circle (suc n) =
      let less : LongChain n = round between circle n in
      record {
        sets = between ++ set ∷ less.sets;
        chain = led set between less.sets circle less.chain;
        long = omega (arith, less.long, length-append between (set ∷ less.sets));
      }

pub no_circle : (objects : List Object) (set : ℕ) (between : List ℕ) → HasShortChains objects → ChainFrom objects set (between ++ set ∷ []) → ⊥
no_circle objects set between short circle =
    let nine : LongChain objects set 8 = round objects set between circle 8 in
    let few : length (set ∷ nine.sets) ≤ 8 = short set nine.sets nine.chain in
    omega (arith, few, nine.long)

pub openings_short : (scene : SceneValue) → HasShortChains (opening scene).core.objects
unfolding opening
openings_short scene first [] chain = absurd (cc)
openings_short scene first (next ∷ sets) chain = let bad : _ ≡ true = chain.0 in absurd (cc)
