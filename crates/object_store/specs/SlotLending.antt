-- What a loan of the value in a slot means: once it is over, the value is the last one written. No public
-- clause cites this file.
use Rattle.std.specs.Prelude.{ℕ}
use Rattle.std.specs.Borrow.{Lends, Fml, RattleType, MutBor}
use Rattle.slab.specs.Slab.{Slab}
use Rattle.object_store.specs.Stock.{Held, with_value}
use Rattle.object_store.specs.Slots.{with_changed}
use Rattle.object_store.specs.contracts.kept.KeptSlots.{the_row}

module _ (T : RattleType) (s : MutBor (Slab (Held T.Denot))) (slot : ℕ) where
  abbrev pub lends_slot : MutBor T.Denot → Fml
  lends_slot r = Lends (the_row T) T s r (λ x. with_changed s.now slot (with_value x))
