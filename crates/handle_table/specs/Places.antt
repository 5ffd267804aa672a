-- How a table lays out its entries: a place for each number, and a bit for each place in use. No public
-- clause cites this file.
use Rattle.std.specs.Prelude.{◌≡◌, ℕ, ◌==◌, ◌<◌, ◌^◌, List, length, Option, Some, None, option_map, filter_map, slice_get, if◌then◌else◌}
use Rattle.std.specs.List.{range_with_len}
use Rattle.std.specs.Int.{bit_at}
use Rattle.kernel_values.specs.declared.state.TableEntry.{TableEntry}
use Rattle.handle_table.specs.declared.table.Slot.{Slot}

-- what a slot says as the entry of a number
abbrev pub slot_entry : ℕ → Slot → TableEntry
slot_entry handle slot = record { handle = handle; object = slot.key.serial; cookie = slot.cookie }

-- the entry of a place, where its bit is set
abbrev pub place_entry : ℕ → List Slot → ℕ → Option TableEntry
place_entry used places handle = if bit_at used handle == 1 then option_map (slot_entry handle) (slice_get places handle) else None

-- the entries in order of their numbers
unfoldable pub entries : ℕ → List Slot → List TableEntry
entries used places = filter_map (place_entry used places) (range_with_len 0 64)

-- there are 64 places, and the entries are counted
pub record IsTable (used : ℕ) (places : List Slot) (len : ℕ) : Type 0 where
  pub bits : used < 2 ^ 64
  pub size : length places ≡ 64
  pub counted : len ≡ length (entries used places)

-- the bit is the least one set above the given number, or the least of all
abbrev pub IsAfter : Option ℕ → ℕ → Type 0
IsAfter None handle = Unit {0}
IsAfter (Some last) handle = last < handle

pub record IsNextBit (used : ℕ) (after : Option ℕ) (next : ℕ) : Type 0 where
  pub within : next < 64
  pub set : bit_at used next ≡ 1
  pub above : IsAfter after next
  pub least : (k : ℕ) → k < next → IsAfter after k → bit_at used k ≡ 0

abbrev pub HasNoNextBit : ℕ → Option ℕ → Type 0
HasNoNextBit used after = (k : ℕ) → k < 64 → IsAfter after k → bit_at used k ≡ 0
