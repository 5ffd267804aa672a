-- What a loan of a stored value means: once it is over, the value is the last one written.
use Rattle.std.specs.Prelude.{ℕ, Option}
use Rattle.std.specs.Borrow.{Lends, LendsIf, Fml, RattleType, MutBor}
use Rattle.object_store.specs.Stock.{Stock, changed, with_value}
use Rattle.object_store.specs.contracts.store.Store.{the_row}

-- the value under the serial number is replaced
abbrev pub replaced : {T : Type 0} → Stock T → ℕ → T → Stock T
replaced stock serial value = record stock { items = changed stock.items serial (with_value value) }

module _ (T : RattleType) (s : MutBor (Stock T.Denot)) (serial : ℕ) where
  abbrev pub lends_value : MutBor T.Denot → Fml
  lends_value r = Lends (the_row T) T s r (replaced s.now serial)

  abbrev pub lends_value_if : Option (MutBor T.Denot) → Fml
  lends_value_if r = LendsIf (the_row T) T s r (replaced s.now serial) s.now
