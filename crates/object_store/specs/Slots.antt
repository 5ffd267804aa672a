-- How a store lays out its values in a slab. No public clause cites this file.
use Rattle.std.specs.Prelude.{◌≡◌, ◌≢◌, ℕ, ◌+◌, ◌<◌, ◌≤◌, ◌==◌, Bool, true, false, List, length, Option, Some, None, find, filter_map, slice_index_or, sum_by, vec_capacity}
use Rattle.std.specs.List.{range_with_len}
use Rattle.std.specs.Global.{Vec}
use Rattle.std.specs.Option.{option_map_or}
use Rattle.slab.specs.Slab.{Slab, Updates, get, values, slab_len, with_value as with_slot}
use Rattle.object_store.specs.Stock.{Held, has_serial, total_names}

abbrev pub once : Bool → ℕ
once true = 1
once false = 0

-- how often a list has a number
abbrev pub times : List ℕ → ℕ → ℕ
times xs k = sum_by (λ x. once (x == k)) xs

-- a place of a number in a list
pub record IsPlaceOf (k : ℕ) (xs : List ℕ) (place : ℕ) : Type 0 where
  pub within : place < length xs
  pub is : slice_index_or xs place 0 ≡ k

-- the list does not have the number
abbrev pub IsNowhere : ℕ → List ℕ → Type 0
IsNowhere k xs = (place : ℕ) → place < length xs → (slice_index_or xs place 0 == k) ≡ false

-- a number that the list has once, or not at all, is taken out of it
pub record IsUnlisted (most : ℕ) (k : ℕ) (old new : List ℕ) : Type 0 where
  pub others : (other : ℕ) → other ≢ k → times new other ≡ times old other
  pub gone : times old k ≡ most → times new k ≡ 0

module _ {T : Type 0} where
  -- what any slot holds under the serial number
  abbrev pub at_serial : Slab (Held T) → ℕ → Option (Held T)
  at_serial slab serial = find (has_serial serial) (values slab)

  -- the slot holds the value with the serial number
  abbrev pub is_at : Slab (Held T) → ℕ → ℕ → Bool
  is_at slab slot serial = option_map_or (has_serial serial) (get slab slot) false

  -- the values in order of serial number
  abbrev pub listed : Slab (Held T) → ℕ → List (Held T)
  listed slab next = filter_map (at_serial slab) (range_with_len 0 next)

  -- each value has a serial number of its own, already given out, and a name
  pub record IsApart (slab : Slab (Held T)) (next : ℕ) : Type 0 where
    pub below : (k : ℕ) (h : Held T) → get slab k ≡ Some h → h.serial < next
    pub named : (k : ℕ) (h : Held T) → get slab k ≡ Some h → 1 ≤ h.names
    pub apart : (j k : ℕ) (g h : Held T) → get slab j ≡ Some g → get slab k ≡ Some h
        → g.serial ≡ h.serial → j ≡ k

  -- so it is, and the names are counted
  pub record IsStock (slab : Slab (Held T)) (next total : ℕ) : Type 0 where
    pub slots : IsApart slab next
    pub counted : slab_len slab ≡ length (listed slab next)
    pub summed : total ≡ total_names (listed slab next)

  -- the slot's value has just one name: the store's own
  abbrev pub has_one_name : Held T → Bool
  has_one_name held = held.names == 1

  abbrev pub is_dead : Option (Held T) → Bool
  is_dead slot = option_map_or has_one_name slot false

  -- the list has the slots of such values, each once, and has room for all slots that have a value
  pub record IsDeadList (slab : Slab (Held T)) (dead : Vec ℕ) : Type 0 where
    pub each : (slot : ℕ) → times dead.items slot ≡ once (is_dead (get slab slot))
    pub room : slab_len slab ≤ vec_capacity dead

  -- the value in a slot is changed, where there is one
  abbrev pub with_found : Slab (Held T) → ℕ → (Held T → Held T) → Option (Held T) → Slab (Held T)
  with_found slab slot change None = slab
  with_found slab slot change (Some held) = with_slot slab slot (change held)

  abbrev pub with_changed : Slab (Held T) → ℕ → (Held T → Held T) → Slab (Held T)
  with_changed slab slot change = with_found slab slot change (get slab slot)

  -- the value in a slot is gone
  pub record HasGone (slot : ℕ) (old new : Slab (Held T)) : Type 0 where
    pub updates : Updates old new slot None
    pub len : slab_len new + 1 ≡ slab_len old
    pub capacity : new.capacity ≡ old.capacity
    pub room : slab_len new + 1 ≤ new.capacity
