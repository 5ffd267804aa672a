-- What several reads or writes in a row do to known bytes.
use Rattle.std.proofs.Common.{◌≡◌, ◌∙◌, ℕ, ◌+◌, ◌≤◌, List, ◌++◌, Some, None, IfSome, length, take, drop, sym, subst, ap, append-nil, length-append, arith}
use Rattle.std.proofs.Math.Seq.{take-add}
use Rattle.std.specs.Prelude.{Option}
use Rattle.std.specs.Io.KnownBytes.{Appends, Consumes, Keeps}
use Rattle.std.proofs.KnownBytes.{Appends-trans}

-- one more write behind those that were
pub wrote_more : (a b c : Option (List ℕ)) (bytes : List ℕ) (place n : ℕ) → Appends a b (take place bytes) → Appends b c (take n (drop place bytes)) → Appends a c (take (place + n) bytes)
wrote_more a b c bytes place n p q =
    subst (Appends a c) (sym (take-add place n bytes)) (Appends-trans a b c _ _ p q)

-- a write of no bytes
pub kept_by_nothing : (a b : Option (List ℕ)) (bytes : List ℕ) (n : ℕ) → n ≡ 0 → Appends a b (take n bytes) → Keeps a b
kept_by_nothing None b bytes n none p = tt
kept_by_nothing (Some xs) None bytes n none p = absurd p
kept_by_nothing (Some xs) (Some ys) bytes n none p =
    let P : ℕ → Type 0 = λ k. ys ≡ xs ++ take k bytes in
    subst P none p ∙ append-nil xs

-- one read for each byte that was taken and one more, so one for each that was left and one more
pub within_left : (old new : Option (List ℕ)) (bytes : List ℕ) (before now : ℕ) → Consumes old new bytes → now ≤ before + length bytes + 1
    → IfSome old (λ input. now ≤ before + length input + 1)
within_left None new bytes before now taken few = tt
within_left (Some xs) None bytes before now taken few = absurd taken
within_left (Some xs) (Some ys) bytes before now taken few = omega (arith, few, ap length taken, length-append bytes ys)
