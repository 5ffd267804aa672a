-- Every number that the state names was given: an instance of what is known of each number that is named.
use Rattle.std.proofs.Common.{◌≤◌, ◌<◌, ℕ, List, arith}
use Rattle.kernel_values.specs.declared.state.CoreState.{CoreState}
use Rattle.set_laws.proofs.Known.{Known, weaker}

-- every number that the state names is below `n`
abbrev pub Named : ℕ → CoreState → Type 0
Named n c = Known (λ x. x < n) c

pub raised : (n : ℕ) (c : CoreState) → Named n c → (m : ℕ) → n ≤ m → Named m c
raised n c k m le = weaker (λ x. x < n) c k (λ x. x < m) (λ x less. omega (arith, le, less))

-- what is named has a number that was given
abbrev pub Given : CoreState → Type 0
Given c = Named c.next c
