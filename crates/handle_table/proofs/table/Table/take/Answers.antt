use Rattle.std.proofs.Common.{sym, ◌∙◌}
use Rattle.handle_table.specs.declared.table.Slot.{Slot}
use Rattle.handle_table.proofs.Bits.{bit_set, bit_unset}
use Rattle.handle_table.proofs.Tables.{entry_found, set_is, gone_is, len_pos, gone_table, absent_is, absent_gone}
use Rattle.handle_table.proofs.table.Table.take.Goals as goal

pub returns-then-not-is_used-clause-slot : goal.returns-then-not-is_used-clause-slot
returns-then-not-is_used-clause-slot c =
    let bit = bit_unset _ _ (sym c.is_used.ensures.set ∙ c.if-not-is_used.true) in
    rw (← c.self.view_is) (sym (absent_is _ _ _ c.self.invariant c.args.handle bit))

pub returns-then-not-is_used-clause-rest : goal.returns-then-not-is_used-clause-rest
returns-then-not-is_used-clause-rest c =
    let bit = bit_unset _ _ (sym c.is_used.ensures.set ∙ c.if-not-is_used.true) in
    rw (← c.self.view_is) (sym (absent_gone _ _ _ c.self.invariant c.args.handle bit))

pub overflow_sub-self : goal.overflow_sub-self
overflow_sub-self c =
    let bit = bit_set _ _ (sym c.is_used.ensures.set ∙ c.if-not-is_used.false) in
    len_pos _ _ _ c.self.invariant c.args.handle (c.is_used.ensures.within c.if-not-is_used.false) bit

pub invariant_of-self : goal.invariant_of-self
invariant_of-self c =
    let bit = bit_set _ _ (sym c.is_used.ensures.set ∙ c.if-not-is_used.false) in
    gone_table _ _ _ c.self.invariant c.args.handle (c.is_used.ensures.within c.if-not-is_used.false) bit

pub returns-clause-slot : goal.returns-clause-slot
returns-clause-slot c =
    let d : Slot = record { key = record { slot = 0; serial = 0 }; cookie = 0 } in
    let bit = bit_set _ _ (sym c.is_used.ensures.set ∙ c.if-not-is_used.false) in
    rw (← c.self.view_is) (sym (entry_found _ _ _ c.self.invariant c.args.handle ∙ set_is _ _ _ c.self.invariant c.args.handle (c.is_used.ensures.within c.if-not-is_used.false) bit d))

pub returns-clause-rest : goal.returns-clause-rest
returns-clause-rest c =
    let bit = bit_set _ _ (sym c.is_used.ensures.set ∙ c.if-not-is_used.false) in
    rw (← c.self.view_is) (gone_is _ _ _ c.self.invariant c.args.handle (c.is_used.ensures.within c.if-not-is_used.false) bit)
