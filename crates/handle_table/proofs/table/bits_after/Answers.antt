use Rattle.std.proofs.Common.{◌≡◌, ◌<◌, ◌≤◌, ◌+◌, ◌-◌, ◌*◌, ◌%◌, ◌^◌, ℕ, Option, bit_and, subst, sym, ◌∙◌, inl, inr, arith}
use Rattle.std.proofs.lemmas.Bool.{cases_lt}
use Rattle.std.specs.Int.{bit_at}
use Rattle.std.proofs.lemmas.Nat.Bits.{bit_at_and, bit_at_above, bit_at_mask_inside, bit_at_mask_below, ones_shl, bit_at-zero, bit_at-lt}
use Rattle.handle_table.specs.Places.{IsAfter}
use Rattle.handle_table.proofs.table.bits_after.Goals as goal

mask : (h : ℕ) → h + 1 ≤ 64 → (2 ^ 64 - 1) * 2 ^ (h + 1) % 2 ^ 64 ≡ 2 ^ 64 - 2 ^ (h + 1)
mask h low = ones_shl 64 (h + 1) low

kept : (used h k : ℕ) → used < 2 ^ 64 → h + 1 ≤ 64 → h < k → bit_at (bit_and used ((2 ^ 64 - 1) * 2 ^ (h + 1) % 2 ^ 64)) k ≡ bit_at used k
kept used h k fits low above = elim (cases_lt k 64) [
  | inl within ↦
      let one = bit_at_mask_inside (h + 1) 64 k (omega arith) within in
      let both = bit_at_and used (2 ^ 64 - 2 ^ (h + 1)) k in
      let bit = bit_at-lt used k in
      rw (mask h low) (omega arith)
  | inr past ↦
      let none = bit_at_above used 64 k fits past in
      let both = bit_at_and used ((2 ^ 64 - 1) * 2 ^ (h + 1) % 2 ^ 64) k in
      omega arith
]

cut : (used h k : ℕ) → h + 1 ≤ 64 → k ≤ h → bit_at (bit_and used ((2 ^ 64 - 1) * 2 ^ (h + 1) % 2 ^ 64)) k ≡ 0
cut used h k low below =
    let zero = bit_at_mask_below (h + 1) 64 k (omega arith) in
    let both = bit_at_and used (2 ^ 64 - 2 ^ (h + 1)) k in
    rw (mask h low) (omega arith)

pub returns-then-handle-ge63-clause-above : goal.returns-then-handle-ge63-clause-above
returns-then-handle-ge63-clause-above c = λ k is.
    let P : Option ℕ → Type 0 = λ after. IsAfter after k in
    let above : c.in-Some.handle < k = subst P c.in-Some.is is in
    let high = c.if-handle-ge63.true in
    bit_at-zero k ∙ sym (bit_at_above c.args.used 64 k c.ranges.used.fits (omega arith))

pub returns-else-handle-ge63-clause-above : goal.returns-else-handle-ge63-clause-above
returns-else-handle-ge63-clause-above c = λ k is.
    let P : Option ℕ → Type 0 = λ after. IsAfter after k in
    let above : c.in-Some.handle < k = subst P c.in-Some.is is in
    let low = c.if-handle-ge63.false in
    kept c.args.used c.in-Some.handle k c.ranges.used.fits (omega arith) above

pub returns-else-handle-ge63-clause-below : goal.returns-else-handle-ge63-clause-below
returns-else-handle-ge63-clause-below c = λ k never.
    let P : Option ℕ → Type 0 = λ after. IsAfter after k in
    let low = c.if-handle-ge63.false in
    elim (cases_lt c.in-Some.handle k) [
      | inl above ↦ absurd (never (subst P (sym c.in-Some.is) above))
      | inr below ↦ cut c.args.used c.in-Some.handle k (omega arith) below
    ]
