-- A write to a part of the memory, as `written_at` says it.
use Rattle.std.proofs.Common.{◌≡◌, ℕ, ◌+◌, ◌≤◌, List, ◌++◌, length, drop, refl, ap, ◌∙◌, arith}
use Rattle.std.proofs.lemmas.List.{drop-drop, length-take, append-nil, drop_all}
use borrow.Rule.Slice.PartMut.{put_mid, mid_of}
use Rattle.virtqueue.specs.Layout.{written_at}

pub put_there : (at k : ℕ) (xs ys bytes : List ℕ) → ys ≡ bytes → k ≡ length bytes → put_mid at k xs ys ≡ written_at at bytes xs
unfolding written_at
put_there at k xs ys bytes e l = rw (e, drop-drop k at xs, l) refl

pub put_number : (at n k : ℕ) (xs ys bytes : List ℕ) → k ≡ n → at + n ≤ length xs → length bytes ≡ n → ys ≡ bytes ++ drop n (mid_of at k xs) → put_mid at k xs ys ≡ written_at at bytes xs
put_number at n k xs ys bytes k-is le len e =
    put_there at k xs ys bytes (e ∙ ap (λ (r : List ℕ). bytes ++ r) (drop_all n (mid_of at k xs) (omega (arith, length-take k (drop at xs)))) ∙ append-nil bytes) (omega arith)
