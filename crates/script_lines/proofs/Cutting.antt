-- The first line of a text, and the rest.
use Rattle.std.proofs.Common.{◌≡◌, ℕ, ◌+◌, ◌-◌, ◌<◌, ◌≤◌, not, eqb, List, [], ◌∷◌, length, take, drop, Bool, true, false, cond, ltb, Option, Some, None, refl, sym, ap, ◌∙◌, arith}
use Rattle.std.specs.List.{slice_split, position, position_or_len}
use Rattle.std.proofs.lemmas.Bool.{ltb-true, ltb-false}
use Rattle.std.specs.Str.Lines.{strip_carriage_return}
use Rattle.std.proofs.lemmas.List.{take_all, length-drop}
use Rattle.std.proofs.lemmas.List.Splits.{slice_split_first, slice_split_none, length-slice_split}
use Rattle.std.proofs.lemmas.List.Sums.{fails_before_first, prefix_len-le-length}
use Rattle.script_lines.specs.Texts.{lines_between, lines_of}

not_last : (x : List ℕ) (parts : List (List ℕ)) → 0 < length parts → lines_between (x ∷ parts) ≡ strip_carriage_return x ∷ lines_between parts
not_last x [] h = absurd (omega (arith, h))
not_last x (y ∷ ys) h = refl

pub cut_at : (bytes : List ℕ) → position_or_len (λ b. eqb b 10) bytes < length bytes
    → lines_of bytes ≡ strip_carriage_return (take (position_or_len (λ b. eqb b 10) bytes) bytes) ∷ lines_of (drop (position_or_len (λ b. eqb b 10) bytes + 1) bytes)
unfolding lines_of
cut_at bytes lt =
    let rest = drop (position_or_len (λ b. eqb b 10) bytes + 1) bytes in
    ap lines_between (slice_split_first (λ b. eqb b 10) bytes 0 lt) ∙ not_last _ (slice_split (λ b. eqb b 10) rest) (omega (arith, length-slice_split (λ b. eqb b 10) rest))

pub uncut : (bytes : List ℕ) → length bytes ≤ position_or_len (λ b. eqb b 10) bytes → 0 < length bytes → lines_of bytes ≡ strip_carriage_return bytes ∷ lines_of []
unfolding lines_of
uncut [] h some = absurd (omega (arith, some))
uncut (b ∷ bs) h some = ap lines_between (slice_split_none (λ b. eqb b 10) (b ∷ bs) (λ k d lt. fails_before_first (λ b. eqb b 10) (b ∷ bs) k d (omega (arith, lt, h))))

-- ---- what `position` found

found : (b : Bool) (n at : ℕ) → Some at ≡ cond b (Some n) None → (b ≡ true) × (at ≡ n)
found true n at e = (refl, cc)
found false n at e = absurd cc

absent : (b : Bool) (n : ℕ) → None ≡ cond b (Some n) None → b ≡ false
absent true n e = absurd cc
absent false n e = refl

pub found_place : {A : Type 0} (p : A → Bool) (xs : List A) (at : ℕ) → Some at ≡ position p xs → at ≡ position_or_len p xs
found_place p xs at e = (found (ltb (position_or_len p xs) (length xs)) (position_or_len p xs) at e).1

pub absent_place : {A : Type 0} (p : A → Bool) (xs : List A) → None ≡ position p xs → length xs ≡ position_or_len p xs
absent_place p xs e =
    let past = ltb-false (position_or_len p xs) (length xs) (absent (ltb (position_or_len p xs) (length xs)) (position_or_len p xs) e) in
    omega (arith, past, prefix_len-le-length (λ x. not (p x)) xs)

pub first_some : (bytes line rest : List ℕ) (at : ℕ) → Some at ≡ position (λ b. eqb b 10) bytes → line ≡ strip_carriage_return (take at bytes) → rest ≡ drop (at + 1) bytes → lines_of bytes ≡ line ∷ lines_of rest
first_some bytes line rest at e l r =
    let f = found (ltb (position_or_len (λ b. eqb b 10) bytes) (length bytes)) (position_or_len (λ b. eqb b 10) bytes) at e in
    rw (l, r, f.1) (cut_at bytes (ltb-true _ _ f.0))

pub first_none : (bytes line rest : List ℕ) → None ≡ position (λ b. eqb b 10) bytes → 0 < length bytes → line ≡ strip_carriage_return bytes → rest ≡ [] → lines_of bytes ≡ line ∷ lines_of rest
first_none bytes line rest e some l r =
    let past = ltb-false (position_or_len (λ b. eqb b 10) bytes) (length bytes) (absent (ltb (position_or_len (λ b. eqb b 10) bytes) (length bytes)) (position_or_len (λ b. eqb b 10) bytes) e) in
    rw (l, r) (uncut bytes past some)

pub whole_rest : (bytes : List ℕ) (k : ℕ) → take (length bytes - k) (drop k bytes) ≡ drop k bytes
whole_rest bytes k = take_all (length bytes - k) (drop k bytes) (omega (arith, length-drop k bytes))
