-- How far a change has come upwards. No public clause cites this file.
use Rattle.std.specs.Prelude.{◌≡◌, ◌⊎◌, ◌≤◌, ◌+◌, ℕ, Bool, true, false, ◌==◌, List, Option, Some, None}
use Rattle.kernel_values.specs.declared.flags.Events.{Events}
use Rattle.handle_set.specs.declared.settle.OpenSet.{OpenSet}
use Rattle.handle_set.specs.Sets.{Each, IsRankedBy, are_of, ready_events, ready_in, shape}

abbrev pub event_or : ℕ → Option Bool → ℕ
event_or n None = n
event_or n (Some ready) = (ready_events ready).0

-- what a member of an object is told, if `events` says it of all that is no open set
abbrev pub events_in : (ℕ → ℕ) → List OpenSet → ℕ → ℕ
events_in events sets object = event_or (events object) (ready_in sets object)

-- the members that a test names by set and object are told that
abbrev pub AreRight : (ℕ → ℕ → Bool) → (ℕ → ℕ) → List OpenSet → Type 0
AreRight claim events sets = Each sets (λ set. Each set.members (λ told. claim set.id told.object.serial ≡ true → told.events.0 ≡ events_in events sets told.object.serial))

-- every set is exact, but for what is told of one object
abbrev pub IsExactBut : ℕ → List OpenSet → Type 0
IsExactBut object sets = Each sets (λ set. Each set.members (λ told. (told.object.serial == object) ≡ false → are_of (ready_in sets told.object.serial) told.events))

-- above the object there are at most so many sets in a chain
abbrev pub IsInReach : ℕ → ℕ → List OpenSet → Type 0
IsInReach steps object sets = (rank : ℕ → ℕ) × IsRankedBy rank sets × (8 ≤ steps + rank object)

abbrev pub everyone : ℕ → Bool
everyone id = true

abbrev pub is_one : ℕ → ℕ → Bool
is_one id other = other == id

-- the members of an object in the sets that `who` names were told its events, and all above these was brought up to date
pub record IsSpread (who : ℕ → Bool) (object : ℕ) (events : Events) (before now : List OpenSet) : Type 0 where
  pub shape : shape now ≡ shape before
  pub low : (rank : ℕ → ℕ) → IsRankedBy rank before → (id : ℕ) → rank id ≤ rank object → ready_in now id ≡ ready_in before id
  pub right : (right : ℕ → ℕ) (claim was : ℕ → ℕ → Bool) → events_in right before object ≡ events.0
      → ((id n : ℕ) → claim id n ≡ true → (was id n ≡ true) ⊎ (((n == object) ≡ true) × (who id ≡ true))) → AreRight was right before → AreRight claim right now
