-- What a kernel stands for.
use Rattle.std.specs.Prelude.{◌≡◌, ℕ, [], refl}
use Rattle.kernel_values.specs.declared.state.CoreState.{CoreState}
use Rattle.kernel_values.specs.declared.state.State.{State}
use Rattle.core_kernels.specs.Steps.{clientless, whole}

-- the core of a state without clients, the size with which its queues began, and the number of steps made
pub record KernelCore : Type 0 where
  pub core : CoreState
  pub queue : ℕ
  pub made : ℕ

abbrev pub state_of : KernelCore → State
state_of standing = whole standing.core standing.queue

pub no_client : (standing : KernelCore) → (state_of standing).world.clients ≡ []
unfolding clientless
no_client standing = refl
