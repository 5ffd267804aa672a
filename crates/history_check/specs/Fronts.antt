-- Whose entry a line is of, by what stands behind its number.
use Rattle.std.specs.Prelude.{◌≡◌, ℕ, List, [], ◌∷◌, ◌++◌, codes, Some, slice_get}
use mathlib.Core.List.{IsPrefix}
use Rattle.kernel_values.specs.declared.scene.Turn.{Turn}
use Rattle.kernel_values.specs.declared.scene.Turn.TheVariants as turn
use Rattle.report_text.specs.Lines.{blank}

-- a step of the device, and one of idle, have no call
abbrev pub device_front : List ℕ
device_front = codes "device ->"

abbrev pub idle_front : List ℕ
idle_front = codes "idle ->"

-- the line is neither the device's nor idle's
pub record IsOfSomeActor (said : List ℕ) : Type 0 where
  pub not_device : IsPrefix device_front said → ⊥
  pub not_idle : IsPrefix idle_front said → ⊥

-- it begins with the name of the actor
pub record IsNamed (names : List (List ℕ)) (said : List ℕ) (actor : ℕ) : Type 0 where
  pub name : List ℕ
  pub name_is : slice_get names actor ≡ Some name
  pub begins : IsPrefix (name ++ blank ∷ []) said

abbrev pub IsOf : List (List ℕ) → List ℕ → Turn → Type 0
IsOf names said (turn.Actor actor) = IsOfSomeActor said × IsNamed names said actor
IsOf names said turn.Device = IsPrefix device_front said
IsOf names said turn.Idle = IsPrefix idle_front said

abbrev pub IsOfNobody : List (List ℕ) → List ℕ → Type 0
IsOfNobody names said = IsOfSomeActor said × ((actor : ℕ) → IsNamed names said actor → ⊥)
