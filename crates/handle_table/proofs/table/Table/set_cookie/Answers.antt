use Rattle.std.proofs.Common.{is_some, refl, sym, ap, ◌∙◌}
use Rattle.handle_table.specs.declared.table.Slot.{Slot}
use Rattle.handle_table.proofs.Bits.{bit_set, bit_unset}
use Rattle.handle_table.proofs.Tables.{entry_found, set_is, write_is, write_table, absent_is, absent_cookie}
use Rattle.handle_table.proofs.table.Table.set_cookie.Goals as goal

pub returns-then-not-is_used-clause-there : goal.returns-then-not-is_used-clause-there
returns-then-not-is_used-clause-there c =
    let bit = bit_unset _ _ (sym c.is_used.ensures.set ∙ c.if-not-is_used.true) in
    rw (← c.self.view_is) (sym (ap is_some (absent_is _ _ _ c.self.invariant c.args.handle bit)))

pub returns-then-not-is_used-clause-entry : goal.returns-then-not-is_used-clause-entry
returns-then-not-is_used-clause-entry c =
    let bit = bit_unset _ _ (sym c.is_used.ensures.set ∙ c.if-not-is_used.true) in
    rw (← c.self.view_is) (sym (absent_cookie _ _ _ c.self.invariant c.args.handle bit c.args.cookie))

pub invariant_of-self : goal.invariant_of-self
invariant_of-self c =
    let d : Slot = record { key = record { slot = 0; serial = 0 }; cookie = 0 } in
    let bit = bit_set _ _ (sym c.is_used.ensures.set ∙ c.if-not-is_used.false) in
    write_table _ _ _ c.self.invariant c.args.handle (c.is_used.ensures.within c.if-not-is_used.false) bit d _ c.args.cookie refl

pub returns-clause-there : goal.returns-clause-there
returns-clause-there c =
    let d : Slot = record { key = record { slot = 0; serial = 0 }; cookie = 0 } in
    let bit = bit_set _ _ (sym c.is_used.ensures.set ∙ c.if-not-is_used.false) in
    rw (← c.self.view_is) (sym (ap is_some (entry_found _ _ _ c.self.invariant c.args.handle ∙ set_is _ _ _ c.self.invariant c.args.handle (c.is_used.ensures.within c.if-not-is_used.false) bit d)))

pub returns-clause-entry : goal.returns-clause-entry
returns-clause-entry c =
    let d : Slot = record { key = record { slot = 0; serial = 0 }; cookie = 0 } in
    let bit = bit_set _ _ (sym c.is_used.ensures.set ∙ c.if-not-is_used.false) in
    rw (← c.self.view_is) (write_is _ _ _ c.self.invariant c.args.handle (c.is_used.ensures.within c.if-not-is_used.false) bit d _ c.args.cookie refl)
