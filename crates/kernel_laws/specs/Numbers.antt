-- The numbers of objects.
use Rattle.std.specs.Prelude.{◌≡◌, ◌≤◌, ◌<◌, ◌+◌, ℕ, false, List, [], ◌∷◌}
use Rattle.kernel_values.specs.declared.state.Object.{Object}
use Rattle.kernel_values.specs.declared.state.State.{State}
use Rattle.kernel_types.specs.Objects.{is_there}

-- the numbers rise, from `low` on and below `high`
abbrev pub RisesFrom : ℕ → List Object → ℕ → Type 0
RisesFrom low [] high = low ≤ high
RisesFrom low (object ∷ objects) high = (low ≤ object.id) × RisesFrom (object.id + 1) objects high

-- the objects stand in rising order of their numbers, which are below the number that comes next
abbrev pub HasRisingNumbers : State → Type 0
HasRisingNumbers s = RisesFrom 0 s.core.objects s.core.next

-- the number was given, and its object is there no longer
pub record IsSpent (number : ℕ) (s : State) : Type 0 where
  pub given : number < s.core.next
  pub gone : is_there s.core.objects number ≡ false
