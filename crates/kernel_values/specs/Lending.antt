-- What a loan of one item of a list means: once it is over, the item at that place is the last one written.
use Rattle.std.specs.Prelude.{ℕ, List, Option, slice_set}
use Rattle.std.specs.Borrow.{LendsIf, Fml, RattleType, MutBor}
use Rattle.kernel_values.specs.contracts.items.Items.{the_row}

module _ (T : RattleType) (v : MutBor (List T.Denot)) where
  abbrev pub lends_item : ℕ → Option (MutBor T.Denot) → Fml
  lends_item at r = LendsIf (the_row T) T v r (slice_set v.now at) v.now
