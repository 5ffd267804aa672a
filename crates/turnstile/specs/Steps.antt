-- What each step on the lock's words tells the seat that makes it, of the number that it found.
use Rattle.std.specs.Prelude.{◌≡◌, ◌≢◌, ℕ, ◌+◌, ◌<◌, ◌≤◌, List, [], ◌∷◌, ◌++◌, length, Option, Some, None}
use mathlib.Core.List.{IsPrefix}
use Rattle.atomic_table.specs.Table.{Me, Step}
use Rattle.kernel_values.specs.declared.entry.Entry.{Entry}
use Rattle.kernel_values.specs.Origin.{Origin}
use Rattle.turnstile.specs.declared.view.View.{View}
use Rattle.turnstile.specs.Numbers.{times, once_below, Rises}
use Rattle.turnstile.specs.Views.{won, tried, fetched, shut, opened, added, left, counted, drew, missed, numbers}
use Rattle.turnstile.specs.Rule.{AllBegin}

-- the history begins with all that the view and the views joined into it had seen, and is no shorter than the view knows
abbrev pub Continues : View → List Entry → Type 0
Continues v history = IsPrefix v.seen history × AllBegin v.olds history × (v.known ≤ length history)

-- the history has one entry more
abbrev pub AddsOne : List Entry → List Entry → Type 0
AddsOne seen history = (e : Entry) × (history ≡ seen ++ e ∷ [])

-- the word is the turn of a seat that is neither this one nor one that was joined into it
abbrev pub IsOfAnother : View → ℕ → Type 0
IsOfAnother v word = (n : ℕ) × (word ≡ n + 1) × (n < v.seats) × (times n (numbers v) ≡ 0)

-- a view that has as many numbers as there are has every place of a history of this length
abbrev pub HasAllIfAlone : View → ℕ → Type 0
HasAllIfAlone v len = v.seats ≤ length (numbers v) → (k : ℕ) → times k v.mine ≡ once_below k len

-- a seat of the table, with the slot where it has it
abbrev pub Sat : Type 0 → Type 0
Sat T = Me (Option T) View

module _ {T : Type 0} where
  abbrev pub Takes : Step (Option T) → Sat T → ℕ → Sat T → Type 0
  Takes st m word m' = (m'.1 ≡ m.1) × (word ≡ 0 → m'.0 ≡ won m.0) × (word ≢ 0 → (m'.0 ≡ tried m.0 word) × IsOfAnother m.0 word × (length (numbers m.0) < m.0.seats))

  abbrev pub Counts : Step (Option T) → Sat T → ℕ → Sat T → Type 0
  Counts st m len m' = (m'.1 ≡ m.1) × (m'.0 ≡ counted m.0 len) × (m.0.known ≤ len)

  abbrev pub Shuts : Step (Option T) → Sat T → ℕ → Sat T → Type 0
  Shuts st m len m' = (m'.1 ≡ []) × (m'.0 ≡ shut m.0)

  abbrev pub Opens : Step (Option T) → Sat T → ℕ → Sat T → Type 0
  Opens st m len m' = (m'.1 ≡ (0, None) ∷ []) × (m'.0 ≡ opened m.0)

  abbrev pub Leaves : Step (Option T) → Sat T → ℕ → Sat T → Type 0
  Leaves st m word m' = (m'.1 ≡ []) × (m'.0 ≡ left m.0)

  abbrev pub Draws : Step (Option T) → Sat T → ℕ → Sat T → Type 0
  Draws st m given m' = (m'.1 ≡ m.1) × (given ≡ m.0.drawn → m'.0 ≡ drew m.0 given) × (given ≢ m.0.drawn → (m'.0 ≡ missed m.0 given) × (m.0.drawn < given) × (given ≤ m.0.seats))

  abbrev pub Adds : (T → List Entry) → Step (Option T) → Sat T → ℕ → Sat T → Type 0
  Adds history st m len m' = (x : T) → m.1 ≡ (0, Some x) ∷ [] → (m'.1 ≡ m.1) × (m'.0 ≡ added m.0 (history x))

  abbrev pub Fetches : (T → List Entry) → (T → Origin) → Step (Option T) → Sat T → ℕ → Sat T → Type 0
  Fetches history origin st m len m' = (x : T) × (m'.1 ≡ (0, Some x) ∷ []) × (m'.0 ≡ fetched m.0 (history x)) × Continues m.0 (history x) × Rises 0 (length m.0.seen) m.0.mine × HasAllIfAlone m.0 (length (history x)) × (origin x ≡ m.0.origin)
