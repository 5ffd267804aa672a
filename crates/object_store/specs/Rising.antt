-- Serial numbers in rising order, each with the slot of its value. No public clause cites this file.
use Rattle.std.specs.Prelude.{◌≡◌, ◌≢◌, ℕ, ◌+◌, ◌<◌, ◌≤◌, ◌==◌, ◌&&◌, Bool, List, length, slice_index_or, sum_by}
use Rattle.std.specs.List.{All, AllPairs}
use Rattle.slab.specs.Slab.{Slab, slab_len}
use Rattle.object_store.specs.Stock.{Held}
use Rattle.object_store.specs.Slots.{IsStock, is_at, once}

-- a serial number with a slot
abbrev pub Entry : Type 0
Entry = ℕ × ℕ

-- the entries, and how many fit with no allocation
pub record SerialOrder : Type 0 where
  pub entries : List Entry
  pub capacity : ℕ

abbrev pub IsBefore : Entry → Entry → Type 0
IsBefore first second = first.0 < second.0

-- the serial numbers rise, so none comes twice
abbrev pub Rises : List Entry → Type 0
Rises entries = AllPairs IsBefore entries

abbrev pub IsUnder : ℕ → Entry → Type 0
IsUnder serial entry = entry.0 < serial

-- all serial numbers are lower
abbrev pub AllUnder : ℕ → List Entry → Type 0
AllUnder serial entries = All (IsUnder serial) entries

abbrev pub is_entry : ℕ → ℕ → Entry → Bool
is_entry serial slot entry = (entry.0 == serial) && (entry.1 == slot)

-- how often the serial number is there with the slot
abbrev pub times_with : List Entry → ℕ → ℕ → ℕ
times_with entries serial slot = sum_by (λ entry. once (is_entry serial slot entry)) entries

-- the serial number's entry is taken out, where it is there
pub record IsWithout (serial : ℕ) (old new : List Entry) : Type 0 where
  pub others : (other slot : ℕ) → other ≢ serial → times_with new other slot ≡ times_with old other slot
  pub gone : (slot : ℕ) → times_with new serial slot ≡ 0
  pub len : (slot : ℕ) → 1 ≤ times_with old serial slot → length new + 1 ≡ length old

-- the entry at a place
abbrev pub entry_at : List Entry → ℕ → Entry
entry_at entries place = slice_index_or entries place (0, 0)

-- the place has the serial number
pub record IsPlaceWith (serial : ℕ) (entries : List Entry) (place : ℕ) : Type 0 where
  pub within : place < length entries
  pub is : (entry_at entries place).0 ≡ serial

-- no place has the serial number
abbrev pub HasNone : ℕ → List Entry → Type 0
HasNone serial entries = (place : ℕ) → place < length entries → (entry_at entries place).0 ≢ serial

module _ {T : Type 0} where
  -- the order has each slot's value once, nothing else, and room for all of them
  pub record IsOrder (slab : Slab (Held T)) (order : SerialOrder) : Type 0 where
    pub each : (serial slot : ℕ) → times_with order.entries serial slot ≡ once (is_at slab slot serial)
    pub len : length order.entries ≡ slab_len slab
    pub room : slab_len slab ≤ order.capacity

  -- so it is in a store
  pub record IsStore (slab : Slab (Held T)) (order : SerialOrder) (next total : ℕ) : Type 0 where
    pub stock : IsStock slab next total
    pub ordered : IsOrder slab order
