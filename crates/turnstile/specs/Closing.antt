-- What the clauses of `close` say: of all passes together, and of the one that they were joined into.
use Rattle.std.specs.Prelude.{◌≡◌, ℕ, ◌+◌, ◌≤◌, false, List, [], ◌∷◌, length, Some, All}
use mathlib.Core.List.{IsPrefix}
use Rattle.atomic_table.specs.Seated.{TableId}
use Rattle.kernel_values.specs.declared.entry.Entry.{Entry}
use Rattle.kernel_values.specs.Origin.{Origin}
use Rattle.turnstile.specs.declared.view.View.{View}
use Rattle.turnstile.specs.declared.pass.Pass.{Pass}
use Rattle.turnstile.specs.Numbers.{times, total, once_below}
use Rattle.turnstile.specs.Views.{numbers}
use Rattle.turnstile.specs.Rule.{AllBegin}
use Rattle.turnstile.specs.Passes.{view}

-- how many of the passes have the place as their own
abbrev pub owners : ℕ → List Pass → ℕ
owners place passes = total (λ p. times place (view p).mine) passes

-- what each pass has seen begins the history
abbrev pub AllSaw : List Pass → List Entry → Type 0
AllSaw passes history = All (λ p. IsPrefix (view p).seen history) passes

-- the pass has seen the whole history, and every place of it is its own
abbrev pub HasWhole : Pass → List Entry → Type 0
HasWhole p history = ((view p).seen ≡ history) × ((view p).known ≡ length history) × ((k : ℕ) → times k (view p).mine ≡ once_below k (length history))

-- a pass into which others are joined is as it was, but for the order of its own places
pub record Stands (origin : Origin) (seats number drawn : ℕ) (v : View) : Type 0 where
  pub spent : v.spent ≡ false
  pub origin_is : v.origin ≡ origin
  pub seats_is : v.seats ≡ seats
  pub number_is : v.number ≡ Some number
  pub drawn_is : v.drawn ≡ drawn
  pub few : drawn ≤ seats
  pub idle : v.has_turn ≡ false
  pub fresh : v.loaded ≡ false
  pub shut : v.opens ≡ false

abbrev pub IsWholeAt : TableId → Origin → ℕ → Pass → Type 0
IsWholeAt table origin seats p = (p.badge.table_id ≡ table) × (p.badge.views ≡ view p ∷ []) × Stands origin seats p.number p.drawn (view p)

-- the view stands for all passes but the rest: it has their places, a number for each, and knows what they had seen
pub record Gathers (passes rest : List Pass) (v : View) : Type 0 where
  pub places : (k : ℕ) → owners k rest + times k v.mine ≡ owners k passes
  pub many : length passes ≤ length rest + length (numbers v)
  pub saw : (history : List Entry) → IsPrefix v.seen history → AllBegin v.olds history → AllSaw rest history → AllSaw passes history
