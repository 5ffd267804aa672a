-- The rule of the lock. Word 0 is the number of entries of the history, word 1 is the turn, 0 where it is free and else 1 plus the holder's number, and word 2 is how many numbers were drawn. The slot has the value, or is empty while a holder has it.
use Rattle.std.specs.Prelude.{◌≡◌, ◌≢◌, ℕ, ◌+◌, ◌≤◌, Bool, true, false, List, [], ◌∷◌, length, Option, Some, None}
use mathlib.Core.Option.{some}
use mathlib.Core.Option as maybe
use mathlib.Core.List.{IsPrefix}
use lib.ListN.{get_elem?}
use Rattle.atomic_table.specs.Table.{State}
use Rattle.kernel_values.specs.declared.entry.Entry.{Entry}
use Rattle.kernel_values.specs.Origin.{Origin}
use Rattle.turnstile.specs.declared.view.View.{View}
use Rattle.turnstile.specs.Numbers.{times, once_below, total, Rises}
use Rattle.turnstile.specs.Views.{numbers}

-- the origin of the value, and how many passes there may be
pub record About : Type 0 where
  pub origin : Origin
  pub seats : ℕ

-- How the turn stands: nobody has it; the seat `id`, whose number is n, has it, and the value is still in the slot; or that seat has the value, and either has the slot too or put it back empty
pub data Turn (T : Type 0) : Type 0 where
  free : T → Turn T
  taken : ℕ → ℕ → T → Turn T
  out : Bool → ℕ → ℕ → Turn T

-- each of the histories begins the last one
abbrev pub AllBegin : List (List Entry) → List Entry → Type 0
AllBegin [] log = Unit {0}
AllBegin (old ∷ olds) log = IsPrefix old log × AllBegin olds log

-- this view has not the turn
abbrev pub Apart : View → Type 0
Apart v = (v.has_turn ≡ false) × (v.loaded ≡ false) × (v.opens ≡ false)

-- this view has the turn and the number n, and has not read the value
abbrev pub Waits : ℕ → View → Type 0
Waits n v = (v.has_turn ≡ true) × (v.loaded ≡ false) × (v.opens ≡ false) × (v.number ≡ Some n)

-- this view has the turn, the number n and the value, and has seen the whole history
abbrev pub Works : Bool → ℕ → List Entry → View → Type 0
Works opens n log v = (v.has_turn ≡ true) × (v.loaded ≡ true) × (v.opens ≡ opens) × (v.number ≡ Some n) × (v.seen ≡ log)

module _ {T : Type 0} where
  abbrev pub word_of : Turn T → ℕ
  word_of (free x) = 0
  word_of (taken id n x) = n + 1
  word_of (out opens id n) = n + 1

  abbrev pub slot_out : Bool → maybe.Option (Option T)
  slot_out true = maybe.none
  slot_out false = some None

  abbrev pub slot_of : Turn T → maybe.Option (Option T)
  slot_of (free x) = some (Some x)
  slot_of (taken id n x) = some (Some x)
  slot_of (out opens id n) = slot_out opens

  -- what the turn says of the view of seat j
  abbrev pub Turns : Turn T → List Entry → ℕ → View → Type 0
  Turns (free x) log j v = Apart v
  Turns (taken id n x) log j v = (j ≡ id → Waits n v) × (j ≢ id → Apart v)
  Turns (out opens id n) log j v = (j ≡ id → Works opens n log v) × (j ≢ id → Apart v)

  -- the holder is one of the seats
  abbrev pub There : Turn T → List View → Type 0
  There (free x) views = Unit {0}
  There (taken id n x) views = (v : View) × (get_elem? views id ≡ some v)
  There (out opens id n) views = (v : View) × (get_elem? views id ≡ some v)

  -- what is known of the view of seat j, where `given` numbers were drawn
  pub record FitsView (about : About) (log : List Entry) (turn : Turn T) (given j : ℕ) (v : View) : Type 0 where
    pub born : v.spent ≡ false → (v.origin ≡ about.origin) × (v.seats ≡ about.seats)
    pub seen : IsPrefix v.seen log
    pub olds : AllBegin v.olds log
    pub knows : length v.seen ≤ v.known
    pub known : v.known ≤ length log
    pub mine : Rises 0 (length v.seen) v.mine
    pub drawn : v.drawn ≤ given
    pub turns : Turns turn log j v
    pub fresh : v.number ≡ None → (v.mine ≡ []) × (v.joined ≡ []) × (v.has_turn ≡ false)

  module _ (history : T → List Entry) (origin : T → Origin) (about : About) where
    -- the value in the slot has the history and the origin
    abbrev pub Inside : Turn T → List Entry → Type 0
    Inside (free x) log = (history x ≡ log) × (origin x ≡ about.origin)
    Inside (taken id n x) log = (history x ≡ log) × (origin x ≡ about.origin)
    Inside (out opens id n) log = Unit {0}

    -- each place of the history is the own place of exactly one view, and each number drawn is a number of exactly one view
    pub record Good (log : List Entry) (turn : Turn T) (given : ℕ) (views : List View) : Type 0 where
      pub inside : Inside turn log
      pub there : There turn views
      pub few : given ≤ about.seats
      pub each : (j : ℕ) (v : View) → get_elem? views j ≡ some v → FitsView about log turn given j v
      pub places : (k : ℕ) → total (λ v. times k v.mine) views ≡ once_below k (length log)
      pub names : (n : ℕ) → total (λ v. times n (numbers v)) views ≡ once_below n given

    pub record Kept (s : State (Option T) View) : Type 0 where
      pub log : List Entry
      pub turn : Turn T
      pub given : ℕ
      pub words : s.words ≡ length log ∷ word_of turn ∷ given ∷ []
      pub homes : s.homes ≡ slot_of turn ∷ []
      pub good : Good log turn given s.views
