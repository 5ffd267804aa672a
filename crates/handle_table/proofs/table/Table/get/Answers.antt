use Rattle.std.proofs.Common.{sym, ◌∙◌}
use Rattle.handle_table.specs.declared.table.Slot.{Slot}
use Rattle.handle_table.proofs.Bits.{bit_set, bit_unset}
use Rattle.handle_table.proofs.Tables.{entry_found, set_is, absent_is}
use Rattle.handle_table.proofs.table.Table.get.Goals as goal

pub returns-then-is_used : goal.returns-then-is_used
returns-then-is_used c =
    let d : Slot = record { key = record { slot = 0; serial = 0 }; cookie = 0 } in
    let bit = bit_set _ _ (sym c.is_used.ensures.set ∙ c.if-is_used.true) in
    rw (← c.self.view_is) (sym (entry_found _ _ _ c.self.invariant c.args.handle ∙ set_is _ _ _ c.self.invariant c.args.handle (c.is_used.ensures.within c.if-is_used.true) bit d))

pub returns-else-is_used : goal.returns-else-is_used
returns-else-is_used c =
    let bit = bit_unset _ _ (sym c.is_used.ensures.set ∙ c.if-is_used.false) in
    rw (← c.self.view_is) (sym (absent_is _ _ _ c.self.invariant c.args.handle bit))
