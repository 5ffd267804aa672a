use Rattle.std.proofs.Common.{◌≡◌, ◌<◌, ◌^◌, ℕ, Option, Some, None, sym, ◌∙◌, inl, inr, arith}
use Rattle.std.proofs.lemmas.Bool.{cases_lt}
use Rattle.std.specs.Int.{bit_at, w64, trailing_zeros}
use Rattle.std.proofs.lemmas.Nat.Bits.{bit_at-trailing_zeros}
use Rattle.handle_table.specs.Places.{IsAfter, IsNextBit}
use Rattle.handle_table.proofs.table.next_used.Goals as goal

decided : (after : Option ℕ) (n : ℕ) → ((IsAfter after n → ⊥) → ⊥) → IsAfter after n
decided None n never = tt
decided (Some h) n never = elim (cases_lt h n) [
  | inl above ↦ above
  | inr below ↦ absurd (never (λ is. omega arith))
]

next : (used rest : ℕ) (after : Option ℕ) → rest < 2 ^ 64 → 0 < rest → ((k : ℕ) → IsAfter after k → bit_at rest k ≡ bit_at used k) → ((k : ℕ) → (IsAfter after k → ⊥) → bit_at rest k ≡ 0) → IsNextBit used after (trailing_zeros w64 rest)
next used rest after within some above below =
    let first = bit_at-trailing_zeros w64 rest some within in
    let is : IsAfter after (trailing_zeros w64 rest) = decided after (trailing_zeros w64 rest) (λ never.
    let none = below (trailing_zeros w64 rest) never in
    let set = first.1 in
    omega arith) in
    record {
      within = first.0;
      set = sym (above _ is) ∙ first.1;
      above = is;
      least = λ k low later. sym (above k later) ∙ first.2 k low;
    }

pub returns-clause-some : goal.returns-clause-some
returns-clause-some c =
    let some = c.if-rest-eq0.false in
    next c.args.used c.bits_after-rest.result c.args.after c.bits_after-rest.type_inv (omega arith) c.bits_after-rest.ensures.above c.bits_after-rest.ensures.below
