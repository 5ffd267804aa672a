-- A journal as its readers see it, and which places in it are an actor's.
use Rattle.std.specs.Prelude.{ℕ, Bool, false, List, length, ◌==◌, Option, Some, None, slice_get}
use Rattle.std.specs.List.{filter, range_with_len}
use Rattle.kernel_values.specs.declared.entry.Event.{Event}
use Rattle.kernel_values.specs.declared.entry.Event.TheVariants as event
use Rattle.kernel_values.specs.declared.entry.Entry.{Entry}
use Rattle.kernel_values.specs.declared.entry.EndFacts.{EndFacts}

-- the entries, the end facts after each, and how many more have a place
pub record Book : Type 0 where
  pub entries : List Entry
  pub facts : List EndFacts
  pub room : ℕ

-- a call that the actor begins, or a wait of it that ends
abbrev pub is_of_actor : ℕ → Event → Bool
is_of_actor actor (event.Begin own start call) = own.0 == actor
is_of_actor actor (event.Resume own start) = own.0 == actor
is_of_actor actor event.Device = false
is_of_actor actor event.Idle = false

abbrev pub is_own : ℕ → Option Entry → Bool
is_own actor None = false
is_own actor (Some entry) = is_of_actor actor entry.event

abbrev pub places_below : ℕ → List Entry → ℕ → List ℕ
places_below n entries actor = filter (λ k. is_own actor (slice_get entries k)) (range_with_len 0 n)

-- the places of an actor's entries, rising
abbrev pub places_of : List Entry → ℕ → List ℕ
places_of entries actor = places_below (length entries) entries actor
