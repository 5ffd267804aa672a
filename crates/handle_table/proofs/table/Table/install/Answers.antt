use Rattle.std.proofs.Common.{◌≡◌, ◌<◌, ◌≤◌, ℕ, ap, ◌∙◌, arith}
use Rattle.std.specs.Int.{w64}
use Rattle.std.proofs.lemmas.Nat.Bits.{bit_at-trailing_ones}
use Rattle.handle_table.specs.Tables.{with_entry}
use Rattle.handle_table.proofs.Lists.{new_entry}
use Rattle.handle_table.specs.Places.{entries}
use Rattle.handle_table.proofs.Tables.{len_le, not_all, free_is, come_is, come_table}
use Rattle.handle_table.proofs.table.Table.install.Goals as goal

room : (len : ℕ) → (len ≡ 64 → ⊥) → len ≤ 64 → len < 64
room len other most = omega arith

pub overflow_shl-self : goal.overflow_shl-self
overflow_shl-self c =
    let less = room _ c.if-self-eq64.false (len_le _ _ _ c.self.invariant) in
    rw c.trailing_ones-handle.ensures (bit_at-trailing_ones w64 c.self.inside.used (not_all _ _ _ c.self.invariant less)).0

pub bounds-self-inside-handle : goal.bounds-self-inside-handle
bounds-self-inside-handle c =
    let less = room _ c.if-self-eq64.false (len_le _ _ _ c.self.invariant) in
    rw c.trailing_ones-handle.ensures (bit_at-trailing_ones w64 c.self.inside.used (not_all _ _ _ c.self.invariant less)).0

pub overflow_add-self : goal.overflow_add-self
overflow_add-self c = let most = len_le _ _ _ c.self.invariant in omega arith

pub invariant_of-self : goal.invariant_of-self
invariant_of-self c =
    let less = room _ c.if-self-eq64.false (len_le _ _ _ c.self.invariant) in
    let first = bit_at-trailing_ones w64 c.self.inside.used (not_all _ _ _ c.self.invariant less) in
    let within = rw (← c.trailing_ones-handle.ensures) at first.0 in
    let clear = rw (← c.trailing_ones-handle.ensures) at first.1 in
    come_table _ _ _ c.self.invariant c.trailing_ones-handle.result within clear (record { key = c.args.key; cookie = 0 })

pub returns-clause-room : goal.returns-clause-room
returns-clause-room c =
    let less = room _ c.if-self-eq64.false (len_le _ _ _ c.self.invariant) in
    let counted = c.self.invariant.counted in
    rw (← c.self.view_is) (omega arith)

pub returns-clause-number : goal.returns-clause-number
returns-clause-number c =
    let less = room _ c.if-self-eq64.false (len_le _ _ _ c.self.invariant) in
    rw (← c.self.view_is) (c.trailing_ones-handle.ensures ∙ free_is _ _ _ c.self.invariant less)

pub returns-clause-entry : goal.returns-clause-entry
returns-clause-entry c =
    let less = room _ c.if-self-eq64.false (len_le _ _ _ c.self.invariant) in
    let first = bit_at-trailing_ones w64 c.self.inside.used (not_all _ _ _ c.self.invariant less) in
    let within = rw (← c.trailing_ones-handle.ensures) at first.0 in
    let clear = rw (← c.trailing_ones-handle.ensures) at first.1 in
    let number = c.trailing_ones-handle.ensures ∙ free_is _ _ _ c.self.invariant less in
    let come = come_is _ _ _ c.self.invariant c.trailing_ones-handle.result within clear (record { key = c.args.key; cookie = 0 }) in
    rw (← c.self.view_is) (come ∙ ap (λ n. with_entry (entries c.self.inside.used c.self.inside.places) (new_entry n c.args.key.serial)) number)
