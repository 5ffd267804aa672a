-- Which sets have an object as a member, as the program finds them. No public clause cites this file.
use Rattle.std.specs.Prelude.{◌≡◌, ℕ, Bool, true, not, ◌==◌, List, [], ◌∷◌, ◌++◌, Option, Some, None, if◌then◌else◌}
use Rattle.std.specs.List.{filter, list_any}
use Rattle.std.specs.Global.{Vec}
use Rattle.std.specs.BTreeMap.{BTreeMap, get}
use Rattle.std.specs.Ordering.{nat_cmp}
use Rattle.handle_set.specs.declared.settle.OpenSet.{OpenSet}
use Rattle.handle_set.specs.Sets.{Each, is_number}

abbrev pub ids_in : Option (Vec ℕ) → List ℕ
ids_in None = []
ids_in (Some ids) = ids.items

-- the numbers of the sets at an object
abbrev pub holders_in : BTreeMap ℕ (Vec ℕ) → ℕ → List ℕ
holders_in holders object = ids_in (get nat_cmp holders object)

abbrev pub is_holder : BTreeMap ℕ (Vec ℕ) → ℕ → ℕ → Bool
is_holder holders object id = list_any (is_number id) (holders_in holders object)

-- each set is at the objects of its members; it may be at others too
abbrev pub IsHeld : BTreeMap ℕ (Vec ℕ) → List OpenSet → Type 0
IsHeld holders sets = Each sets (λ set. Each set.members (λ told. is_holder holders told.object.serial set.id ≡ true))

abbrev pub with_number : ℕ → List ℕ → List ℕ
with_number id ids = if list_any (is_number id) ids then ids else ids ++ id ∷ []

abbrev pub is_other_number : ℕ → ℕ → Bool
is_other_number id n = not (n == id)

abbrev pub without_number : ℕ → List ℕ → List ℕ
without_number id ids = filter (is_other_number id) ids

-- a change at one object alone
abbrev pub at_object : (List ℕ → List ℕ) → ℕ → ℕ → List ℕ → List ℕ
at_object change object n ids = if n == object then change ids else ids
