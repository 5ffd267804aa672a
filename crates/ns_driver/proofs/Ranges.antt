-- A loop over the numbers below n: what is left of them, one number further.
use Rattle.std.proofs.Common.{◌≡◌, ℕ, ◌+◌, ◌-◌, ◌<◌, ◌≤◌, zero, suc, Bool, true, false, cond, List, [], ◌∷◌, ◌++◌, length, get_or, map, take, drop, refl, sym, ap, ◌∙◌, append_assoc, arith}
use Rattle.std.specs.List.{range_with_len, filter, fold, All, insert}
use Rattle.std.proofs.lemmas.List.{map_more}
use Rattle.std.proofs.lemmas.List.FromFn.{length-range_with_len, get_or-range_with_len}
use Rattle.std.proofs.lemmas.List.Elements.{filter-append, All-append, All-cons, All-take, All-drop}

pub range_more : (k n : ℕ) → k < n → range_with_len k (n - k) ≡ k ∷ range_with_len (k + 1) (n - (k + 1))
range_more k n lt =
    let e : n - k ≡ suc (n - (k + 1)) = omega arith in
    ap (range_with_len k) e

-- one more item of a list that is made number by number
pub one_more : {X : Type 0} (f : ℕ → X) (done more whole : List X) (x : X) (k n : ℕ) → k < n → more ≡ done ++ x ∷ [] → x ≡ f k
    → done ++ map f (range_with_len k (n - k)) ≡ whole → more ++ map f (range_with_len (k + 1) (n - (k + 1))) ≡ whole
one_more f done more whole x k n lt more-is x-is so_far =
    let rest = map f (range_with_len (k + 1) (n - (k + 1))) in
    ap (λ xs. xs ++ rest) more-is
    ∙ append_assoc done (x ∷ []) rest
    ∙ ap (λ y. done ++ y ∷ rest) x-is
    ∙ ap (λ ks. done ++ map f ks) (sym (range_more k n lt))
    ∙ so_far

-- one more of the items that pass, after a change
pub kept_more : {X Y : Type 0} (p : Y → Bool) (g : X → Y) (xs : List X) (i : ℕ) (d : X) → i < length xs
    → filter p (map g (take (i + 1) xs)) ≡ filter p (map g (take i xs)) ++ cond (p (g (get_or xs i d))) (g (get_or xs i d) ∷ []) []
kept_more p g xs i d lt =
    ap (filter p) (map_more g xs i d lt) ∙ filter-append p (map g (take i xs)) (g (get_or xs i d) ∷ [])

-- one more number below n among such
pub all_inserted : (n : ℕ) (xs : List ℕ) (i x : ℕ) → All (λ other. other < n) xs → x < n → All (λ other. other < n) (insert xs i x)
all_inserted n xs i x all lt =
    let P : ℕ → Type 0 = λ other. other < n in
    All-append P (take i xs) (x ∷ drop i xs) (All-take P i xs all) (All-cons P x (drop i xs) lt (All-drop P i xs all))

pub all_in_range : (n k : ℕ) → k ≤ n → All (λ x. x < n) (range_with_len 0 k)
all_in_range n k le i d lt = omega (arith, length-range_with_len 0 k, get_or-range_with_len 0 k i d)

range_pushed : (a k : ℕ) → range_with_len a (suc k) ≡ range_with_len a k ++ (a + k) ∷ []
range_pushed a zero = let e : a + 0 ≡ a = omega arith in ap (λ x. x ∷ []) (sym e)
range_pushed a (suc k) =
    let e : a + 1 + k ≡ a + suc k = omega arith in
    ap (λ xs. a ∷ xs) (range_pushed (a + 1) k ∙ ap (λ x. range_with_len (a + 1) k ++ x ∷ []) e)

pub range_push : (k : ℕ) → range_with_len 0 (k + 1) ≡ range_with_len 0 k ++ k ∷ []
range_push k =
    let one : k + 1 ≡ suc k = omega arith in
    let none : 0 + k ≡ k = omega arith in
    ap (range_with_len 0) one ∙ range_pushed 0 k ∙ ap (λ x. range_with_len 0 k ++ x ∷ []) none

-- a fold over the items that pass, one number further
pub one_folded : {A X Y : Type 0} (f : A → Y → A) (g : X → Y) (p : X → Bool) (item : ℕ → X) (before after whole : A) (k n : ℕ) → k < n
    → after ≡ cond (p (item k)) (f before (g (item k))) before
    → fold f before (map g (filter p (map item (range_with_len k (n - k))))) ≡ whole
    → fold f after (map g (filter p (map item (range_with_len (k + 1) (n - (k + 1)))))) ≡ whole
one_folded f g p item before after whole k n lt after-is so_far =
    let rest = filter p (map item (range_with_len (k + 1) (n - (k + 1)))) in
    ap (λ a. fold f a (map g rest)) after-is
    ∙ (elim (p (item k)) as (λ b. fold f (cond b (f before (g (item k))) before) (map g rest) ≡ fold f before (map g (cond b (item k ∷ rest) rest))) [ true ↦ refl | false ↦ refl ])
    ∙ ap (λ ks. fold f before (map g (filter p (map item ks)))) (sym (range_more k n lt))
    ∙ so_far
