-- How records lie: in 64 rows, which do not move, and the order of the rows, first those in use. No public clause cites this file.
use Rattle.std.specs.Prelude.{◌≡◌, ◌≤◌, ◌+◌, ◌==◌, ℕ, Bool, true, false, List, [], ◌∷◌, length, map, get_or}
use Rattle.handle_set.specs.declared.records.TrackedMember.{TrackedMember}

-- a row not in use yet
abbrev pub blank : TrackedMember
blank = record { label = 0; object = record { slot = 0; serial = 0 }; mask = record { 0 = 0 }; cookie = 0; events = record { 0 = 0 }; inner = false }

abbrev pub row : List TrackedMember → ℕ → TrackedMember
row rows k = get_or rows k blank

-- the records by the order of their rows
abbrev pub in_order : List TrackedMember → List ℕ → List TrackedMember
in_order rows order = map (row rows) order

abbrev pub one_if : Bool → ℕ
one_if true = 1
one_if false = 0

-- how often a number stands in a list
abbrev pub times : ℕ → List ℕ → ℕ
times n [] = 0
times n (m ∷ ms) = one_if (m == n) + times n ms

-- 64 rows, of which the order has each once
pub record IsOrder (rows : List TrackedMember) (order : List ℕ) (len : ℕ) : Type 0 where
  pub size : length rows ≡ 64
  pub long : length order ≡ 64
  pub few : len ≤ 64
  pub once : (n : ℕ) → times n order ≤ 1
  pub within : (n : ℕ) → 64 ≤ n → times n order ≡ 0
