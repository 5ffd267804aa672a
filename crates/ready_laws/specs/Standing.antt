-- The open sets are the sets among the objects of a state, with the same members in the same order.
use Rattle.std.specs.Prelude.{◌≡◌, ℕ, true, List, Some}
use Rattle.std.specs.Option.{is_some}
use Rattle.kernel_values.specs.declared.state.Object.{Object}
use Rattle.kernel_types.specs.Objects.{set_of}
use Rattle.handle_set.specs.declared.settle.OpenSet.{OpenSet}
use Rattle.handle_set.specs.Chains.{set_value}
use Rattle.handle_set.specs.Sets.{Each, is_open}

pub record StandsFor (objects : List Object) (sets : List OpenSet) : Type 0 where
  pub members : Each sets (λ set. set_of objects set.id ≡ Some (set_value set))
  pub all : (id : ℕ) → is_some (set_of objects id) ≡ true → is_open sets id ≡ true
