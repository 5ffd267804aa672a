-- Reading at a place of a list, and pairs from a place on.
use Rattle.std.proofs.Common.{◌≡◌, ℕ, ◌<◌, ◌≤◌, ◌+◌, min, drop, drop-cons, add-one, zero, suc, List, [], ◌∷◌, length, refl, arith}
use Rattle.std.specs.Prelude.{slice_get, slice_index_or, unwrap_or}
use Rattle.std.specs.List.{zip}

pub value_is : (xs : List ℕ) (i d : ℕ) → slice_index_or xs i d ≡ unwrap_or (slice_get xs i) d
value_is [] i d = refl
value_is (y ∷ ys) zero d = refl
value_is (y ∷ ys) (suc i) d = value_is ys i d

zip-none : (ks : List ℕ) → zip {X = ℕ} ks [] ≡ []
zip-none [] = refl
zip-none (k ∷ ks) = refl

pub zip_done : (ks vs : List ℕ) (n : ℕ) → min (length ks) (length vs) ≤ n → zip (drop n ks) (drop n vs) ≡ []
zip_done [] vs zero h = refl
zip_done [] vs (suc n) h = refl
zip_done (k ∷ ks) [] zero h = refl
zip_done (k ∷ ks) [] (suc n) h = zip-none (drop n ks)
zip_done (k ∷ ks) (v ∷ vs) zero h = absurd (omega arith)
zip_done (k ∷ ks) (v ∷ vs) (suc n) h = zip_done ks vs n (omega arith)

pub zip_more : (ks vs : List ℕ) (n : ℕ) → n < length ks → n < length vs → zip (drop n ks) (drop n vs) ≡ (slice_index_or ks n 0, slice_index_or vs n 0) ∷ zip (drop (n + 1) ks) (drop (n + 1) vs)
zip_more ks vs n h k = rw (add-one, drop-cons ks n 0, drop-cons vs n 0) refl
