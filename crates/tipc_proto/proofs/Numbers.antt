-- A number that is read is spelled by the bytes that it was read from.
use Rattle.std.proofs.Common.{◌≡◌, ℕ, zero, suc, ◌+◌, ◌^◌, ◌<◌, ◌≤◌, List, [], ◌∷◌, ◌++◌, length, get_or, drop, refl, sym, ap, ◌∙◌, arith}
use Rattle.std.proofs.lemmas.List.{get_or-drop, drop-drop, length-drop}
use Rattle.std.proofs.lemmas.Nat.{le_bytes_2, le_bytes_4}
use Rattle.byteorder.specs.Endian.{little_bytes, little_number}

abbrev pub IsBytes : List ℕ → Type 0
IsBytes bytes = (i : ℕ) → get_or bytes i 0 < 256

pub IsBytes-drop : (n : ℕ) (bytes : List ℕ) → IsBytes bytes → IsBytes (drop n bytes)
IsBytes-drop n bytes fits i = rw get_or-drop (fits (n + i))

two_fit : (a b : ℕ) (xs : List ℕ) → IsBytes (a ∷ b ∷ xs) → IsBytes (a ∷ b ∷ [])
two_fit a b xs fits zero = fits 0
two_fit a b xs fits (suc zero) = fits 1
two_fit a b xs fits (suc (suc i)) = omega arith

four_fit : (a b c d : ℕ) (xs : List ℕ) → IsBytes (a ∷ b ∷ c ∷ d ∷ xs) → IsBytes (a ∷ b ∷ c ∷ d ∷ [])
four_fit a b c d xs fits zero = fits 0
four_fit a b c d xs fits (suc zero) = fits 1
four_fit a b c d xs fits (suc (suc zero)) = fits 2
four_fit a b c d xs fits (suc (suc (suc zero))) = fits 3
four_fit a b c d xs fits (suc (suc (suc (suc i)))) = omega arith

pub two : (xs : List ℕ) → IsBytes xs → 2 ≤ length xs → little_bytes 2 (little_number 2 xs) ++ drop 2 xs ≡ xs
two [] fits le = absurd (omega arith)
two (a ∷ []) fits le = absurd (omega arith)
two (a ∷ b ∷ xs) fits le = ap (λ (ys : List ℕ). ys ++ xs) (le_bytes_2 (a ∷ b ∷ []) (little_number 2 (a ∷ b ∷ xs)) refl (two_fit a b xs fits) (omega arith))

pub four : (xs : List ℕ) → IsBytes xs → 4 ≤ length xs → little_bytes 4 (little_number 4 xs) ++ drop 4 xs ≡ xs
four [] fits le = absurd (omega arith)
four (a ∷ []) fits le = absurd (omega arith)
four (a ∷ b ∷ []) fits le = absurd (omega arith)
four (a ∷ b ∷ c ∷ []) fits le = absurd (omega arith)
four (a ∷ b ∷ c ∷ d ∷ xs) fits le = ap (λ (ys : List ℕ). ys ++ xs) (le_bytes_4 (a ∷ b ∷ c ∷ d ∷ []) (little_number 4 (a ∷ b ∷ c ∷ d ∷ xs)) refl (four_fit a b c d xs fits) (omega arith))

pub two_at : (at : ℕ) (xs : List ℕ) → IsBytes xs → at + 2 ≤ length xs → little_bytes 2 (little_number 2 (drop at xs)) ++ drop (at + 2) xs ≡ drop at xs
two_at at xs fits le =
    ap (λ (ys : List ℕ). little_bytes 2 (little_number 2 (drop at xs)) ++ ys) (sym (drop-drop 2 at xs))
    ∙ two (drop at xs) (IsBytes-drop at xs fits) (omega (arith, length-drop at xs))

pub four_at_place : (at : ℕ) (xs : List ℕ) → IsBytes xs → at + 4 ≤ length xs → little_bytes 4 (little_number 4 (drop at xs)) ++ drop (at + 4) xs ≡ drop at xs
four_at_place at xs fits le =
    ap (λ (ys : List ℕ). little_bytes 4 (little_number 4 (drop at xs)) ++ ys) (sym (drop-drop 4 at xs))
    ∙ four (drop at xs) (IsBytes-drop at xs fits) (omega (arith, length-drop at xs))

pub two_below : (xs : List ℕ) → IsBytes xs → little_number 2 xs < 2 ^ 16
two_below xs fits = omega (arith, fits 0, fits 1)

pub four_below : (xs : List ℕ) → IsBytes xs → little_number 4 xs < 2 ^ 32
four_below xs fits = omega (arith, fits 0, fits 1, fits 2, fits 3)
