-- Which objects are reached: the least set that holds what a root names and what a reached object names.
use Rattle.std.specs.Prelude.{◌≡◌, ◌⊎◌, ℕ, Bool, true, false, zero, suc, List, [], ◌∷◌, ◌+◌, ◌==◌, length, map, Option, Some, None}
use Rattle.std.specs.List.{filter, list_any}
use Rattle.kernel_types.specs.Names.{Name, root, held_by}

-- the name is one of these
abbrev pub Among : Name → List Name → Type 0
Among name [] = ⊥
Among name (other ∷ others) = (other ≡ name) ⊎ Among name others

-- an object is reached if a root names it, or if a reached object names it
pub data Reached (entries : List Name) : ℕ → Type 0 where
  by_root : (object : ℕ) → Among (root object) entries → Reached entries object
  by_holder : (holder object : ℕ) → Reached entries holder → Among (held_by holder object) entries → Reached entries object

-- the same, computed in rounds: `Reached` and `reached_by` agree, by the law `marks_are_reached`

abbrev pub is_in : List ℕ → ℕ → Bool
is_in marked object = list_any (λ mark. mark == object) marked

abbrev pub is_marked_holder : List ℕ → Option ℕ → Bool
is_marked_holder marked None = true
is_marked_holder marked (Some holder) = is_in marked holder

-- what roots and marked objects name
abbrev pub spread : List Name → List ℕ → List ℕ
spread entries marked = map (λ name. name.object) (filter (λ name. is_marked_holder marked name.holder) entries)

abbrev pub rounds : ℕ → List Name → List ℕ
rounds zero entries = []
rounds (suc n) entries = spread entries (rounds n entries)

abbrev pub is_some_holder : Option ℕ → Bool
is_some_holder None = false
is_some_holder (Some holder) = true

abbrev pub is_held : Name → Bool
is_held name = is_some_holder name.holder

-- a shortest way from a root uses each held entry at most once
unfoldable pub reached_by : List Name → List ℕ
reached_by entries = rounds (length (filter is_held entries) + 1) entries
