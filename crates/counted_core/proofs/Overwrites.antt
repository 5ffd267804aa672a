-- Bytes written over others, one after the other.
use Rattle.std.proofs.Common.{◌≡◌, ℕ, zero, suc, ◌+◌, ◌<◌, ◌≤◌, List, [], ◌∷◌, ◌++◌, drop, length, take, None, refl, sym, ◌∙◌, ap, arith}
use Rattle.std.specs.Prelude.{slice_get, slice_index_or, slice_set}
use Rattle.std.proofs.lemmas.List.{append_assoc, drop-set-lt, length-set, take_more, take_more_set}

drop_none : (n : ℕ) → drop {A = ℕ} n [] ≡ []
drop_none zero = refl
drop_none (suc n) = refl

drop_one : (n : ℕ) (xs : List ℕ) → drop 1 (drop n xs) ≡ drop (n + 1) xs
drop_one zero xs = refl
drop_one (suc n) [] = sym (drop_none (suc n + 1))
drop_one (suc n) (x ∷ xs) = let next : suc (n + 1) ≡ suc n + 1 = omega arith in drop_one n xs ∙ ap (λ k. drop k (x ∷ xs)) next

-- one byte more is written
pub writes_more : (current old new : List ℕ) (offset at i : ℕ) → at ≡ offset + i → i < length new → offset + length new ≤ length old → length current ≡ length old
    → take at current ≡ take offset old ++ take i new → drop at current ≡ drop at old
    → (take (at + 1) (slice_set current at (slice_index_or new i 0)) ≡ take offset old ++ take (i + 1) new)
    × (drop (at + 1) (slice_set current at (slice_index_or new i 0)) ≡ drop (at + 1) old)
    × (length (slice_set current at (slice_index_or new i 0)) ≡ length old)
    × (at + 1 ≡ offset + (i + 1))
writes_more current old new offset at i place more fits same before after =
    let b : ℕ = slice_index_or new i 0 in
    let within : at < length current = omega (arith, place, more, fits, same) in
    let next : at < at + 1 = omega arith in (
      take_more_set current at b within ∙ (ap (λ l. l ++ b ∷ []) before ∙ (append_assoc (take offset old) (take i new) (b ∷ []) ∙ ap (λ l. take offset old ++ l) (sym (take_more new i 0 more)))),
      drop-set-lt (at + 1) current at b next ∙ (sym (drop_one at current) ∙ (ap (λ l. drop 1 l) after ∙ drop_one at old)),
      length-set current at b ∙ same,
      omega (arith, place),
    )

-- a place within a list has an item
pub has_item : (xs : List ℕ) (at : ℕ) → at < length xs → slice_get xs at ≡ None → ⊥
has_item [] at within none = absurd (omega (arith, within))
has_item (x ∷ xs) zero within none = absurd (cc)
has_item (x ∷ xs) (suc at) within none = has_item xs at (omega (arith, within)) none
