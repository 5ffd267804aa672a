-- What a read of a feed takes is the front of what was left.
use Rattle.std.proofs.Common.{◌≡◌, ℕ, ◌+◌, ◌≤◌, List, [], ◌++◌, length, take, drop, sym, subst, ◌∙◌, arith}
use Rattle.std.proofs.lemmas.List.{take-append-drop, drop-drop}
use Rattle.std.proofs.Math.Seq.{take-append_seam}
use Rattle.std.proofs.lemmas.Grind.{common_steps}

-- the front of a list, found again in front of others
pub front_again : (xs ys : List ℕ) (n : ℕ) → n ≤ length xs → take n (take n xs ++ ys) ≡ take n xs
front_again xs ys n h =
    let same : length (take n xs) ≡ n = grind (arith, common_steps) in
    let P : ℕ → Type 0 = λ k. take k (take n xs ++ ys) ≡ take n xs in
    subst P same (take-append_seam (take n xs) ys)

-- the bytes in the buffer are those that left the feed
pub feed_taken : (bytes buf : List ℕ) (at n : ℕ) → take n buf ≡ take n (drop at bytes) → drop at bytes ≡ take n buf ++ drop (at + n) bytes
feed_taken bytes buf at n h = rw (h, sym (drop-drop n at bytes)) (sym (take-append-drop n (drop at bytes)))

-- what has ended stays so
pub feed_ended : (bytes : List ℕ) (at n : ℕ) → drop at bytes ≡ [] → drop (at + n) bytes ≡ []
feed_ended bytes at n h = sym (drop-drop n at bytes) ∙ rw h (grind (arith, common_steps))
