-- What a contract sees of a store: the values that are there, in order of serial number, each with
-- its number of names. A value that is not there has no names.
use Rattle.std.specs.Prelude.{◌≢◌, ℕ, ◌+◌, ◌-◌, ◌<◌, ◌≤◌, ◌==◌, Bool, List, ◌∷◌, Option, Some, None, option_map, find, map, filter_map, sum_by, refl, if◌then◌else◌, []}
use Rattle.std.specs.Option.{option_map_or, option_and_then}
use Rattle.std.specs.Coded.{Coded, code_by, coded×, coded_ℕ, coded_list}

-- a value with its serial number and how many names it has
pub record Held (T : Type 0) : Type 0 where
  pub serial : ℕ
  pub names : ℕ
  pub value : T

-- the values, the serial number that the next one gets, and how many fit with no allocation
pub record Stock (T : Type 0) : Type 0 where
  pub items : List (Held T)
  pub next : ℕ
  pub room : ℕ

-- each is stored as the tuple of its fields
abbrev pub held_code : {T : Type 0} → Coded T → Coded (Held T)
held_code {T} code =
    code_by
    (ℕ × (ℕ × T))
    (coded× coded_ℕ (coded× coded_ℕ code))
    (λ h. (h.serial, (h.names, h.value)))
    (λ p. record { serial = p.0; names = p.1.0; value = p.1.1 })
    (λ _. refl)

abbrev pub stock_code : {T : Type 0} → Coded T → Coded (Stock T)
stock_code {T} code =
    code_by
    (List (Held T) × (ℕ × ℕ))
    (coded× (coded_list (held_code code)) (coded× coded_ℕ coded_ℕ))
    (λ s. (s.items, (s.next, s.room)))
    (λ p. record { items = p.0; next = p.1.0; room = p.1.1 })
    (λ _. refl)

module _ {T : Type 0} where
  -- a value that has just been put in has one name
  abbrev pub new_held : ℕ → T → Held T
  new_held serial value = record { serial = serial; names = 1; value = value }

  abbrev pub has_serial : ℕ → Held T → Bool
  has_serial serial held = held.serial == serial

  -- what is there under a serial number
  abbrev pub held_at : List (Held T) → ℕ → Option (Held T)
  held_at items serial = find (has_serial serial) items

  abbrev pub value_of : Held T → T
  value_of held = held.value

  abbrev pub names_of : Held T → ℕ
  names_of held = held.names

  abbrev pub value_at : List (Held T) → ℕ → Option T
  value_at items serial = option_map value_of (held_at items serial)

  abbrev pub names_at : List (Held T) → ℕ → ℕ
  names_at items serial = option_map_or names_of (held_at items serial) 0

  -- the sum of all numbers of names
  abbrev pub total_names : List (Held T) → ℕ
  total_names items = sum_by names_of items

  -- one entry is changed, all others stay
  abbrev pub on_serial : ℕ → (Held T → Held T) → Held T → Held T
  on_serial serial change held = if has_serial serial held then change held else held

  abbrev pub changed : List (Held T) → ℕ → (Held T → Held T) → List (Held T)
  changed items serial change = map (on_serial serial change) items

  abbrev pub one_more : Held T → Held T
  one_more held = record held { names = held.names + 1 }

  abbrev pub with_value : T → Held T → Held T
  with_value value held = record held { value = value }

  abbrev pub one_fewer : Held T → Held T
  one_fewer held = record held { names = held.names - 1 }

  -- one name is taken away; with its last name the value goes
  abbrev pub one_less : Held T → Option (Held T)
  one_less held = if held.names == 1 then None else Some (one_fewer held)

  abbrev pub less_on : ℕ → Held T → Option (Held T)
  less_on serial held = if has_serial serial held then one_less held else Some held

  abbrev pub unnamed : List (Held T) → ℕ → List (Held T)
  unnamed items serial = filter_map (less_on serial) items

  -- the value, where it has just one name
  abbrev pub last_named : Held T → Option T
  last_named held = if held.names == 1 then Some held.value else None

  abbrev pub last_at : List (Held T) → ℕ → Option T
  last_at items serial = option_and_then last_named (held_at items serial)

  -- no value has just one name
  abbrev pub NoneDead : List (Held T) → Type 0
  NoneDead items = (serial : ℕ) → names_at items serial ≢ 1

  -- from `low` on the serial numbers rise, all below `next`, and each value has a name
  abbrev pub IsSoundFrom : ℕ → List (Held T) → ℕ → Type 0
  IsSoundFrom low [] next = Unit {0}
  IsSoundFrom low (held ∷ rest) next = (low ≤ held.serial) × (held.serial < next)
      × (1 ≤ held.names) × IsSoundFrom (held.serial + 1) rest next
