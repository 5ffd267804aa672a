-- What the clauses of the public calls say of passes.
use Rattle.std.specs.Prelude.{◌≡◌, ℕ, ◌≤◌, false, [], ◌∷◌, length, Some, slice_index_or}
use Rattle.atomic_table.specs.Seated.{TableId}
use Rattle.kernel_values.specs.Origin.{Origin}
use Rattle.turnstile.specs.declared.view.View.{View}
use Rattle.turnstile.specs.declared.pass.Pass.{Pass}
use Rattle.turnstile.specs.Numbers.{Rises}
use Rattle.turnstile.specs.Views.{given_up}

-- what a pass knows
abbrev pub view : Pass → View
view p = slice_index_or p.badge.views 0 given_up

-- the view has its number, its own places rise below the length of what it has seen, and it knows of no fewer entries than it has seen
pub record IsSound (origin : Origin) (seats number drawn : ℕ) (v : View) : Type 0 where
  pub spent : v.spent ≡ false
  pub origin_is : v.origin ≡ origin
  pub seats_is : v.seats ≡ seats
  pub number_is : v.number ≡ Some number
  pub drawn_is : v.drawn ≡ drawn
  pub few : drawn ≤ seats
  pub knows : length v.seen ≤ v.known
  pub rises : Rises 0 (length v.seen) v.mine
  pub holds : v.has_turn ≡ v.loaded
  pub shut : v.opens ≡ false

-- the pass is one of the table's, and its view is sound
abbrev pub IsPassAt : TableId → Origin → ℕ → Pass → Type 0
IsPassAt table origin seats p = (p.badge.table_id ≡ table) × (p.badge.views ≡ view p ∷ []) × IsSound origin seats p.number p.drawn (view p)
