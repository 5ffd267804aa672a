-- Lists of what a look-up finds at rising numbers: `filter_map f (range_with_len a n)`. Where the
-- look-up changes at one number, so does the list.
use Rattle.std.proofs.Common.{◌≡◌, ◌≢◌, ℕ, zero, suc, ◌+◌, ◌<◌, ◌≤◌, ◌==◌, true, false, List, [], ◌∷◌, ◌++◌, length, map, find, filter_map, Option, Some, None, sum_by, refl, sym, ap, ◌∙◌, inl, inr, zero-add, arith, add-one}
use Rattle.std.proofs.lemmas.Bool.{cases_eq}
use Rattle.std.proofs.lemmas.Bool.Decides.{nat_tests}
use Rattle.std.proofs.lemmas.List.Sums.{sum_by-cons}
use Rattle.std.specs.List.{range_with_len, cons_option}
use Rattle.std.specs.Option.{option_to_list, option_map, option_map_or, option_and_then}

module _ {X : Type 0} where
  -- the list depends on what the look-up finds in its range alone
  pub found_same : (f g : ℕ → Option X) (a n : ℕ) → ((k : ℕ) → a ≤ k → k < a + n → f k ≡ g k) → filter_map f (range_with_len a n) ≡ filter_map g (range_with_len a n)
  found_same f g a zero same = refl
  found_same f g a (suc n) same =
      let head : f a ≡ g a = same a (omega arith) (omega arith) in
      let rest = found_same f g (a + 1) n (λ k low high. same k (omega arith) (omega arith)) in
      cc

  -- one number more
  pub found_more : (f : ℕ → Option X) (a n j : ℕ) → a + n ≡ j → filter_map f (range_with_len a (n + 1)) ≡ filter_map f (range_with_len a n) ++ option_to_list (f j)
  found_more f a zero j at =
      let here : a ≡ j = omega arith in
      rw here (only (f j))
    where
      only : (o : Option X) → cons_option o [] ≡ [] ++ option_to_list o
      only None = refl
      only (Some x) = refl
  found_more f a (suc n) j at =
      let rest = rw (add-one n) at (found_more f (a + 1) n j (omega arith)) in
      rw (add-one (suc n)) (behind (f a) (filter_map f (range_with_len (a + 1) (suc n))) (filter_map f (range_with_len (a + 1) n)) (option_to_list (f j)) rest)
    where
      behind : (o : Option X) (xs ys zs : List X) → xs ≡ ys ++ zs → cons_option o xs ≡ cons_option o ys ++ zs
      behind None xs ys zs e = e
      behind (Some x) xs ys zs e = ap (λ l. x ∷ l) e

  module _ (key : X → ℕ) (f : ℕ → Option X) (keyed : (k : ℕ) (x : X) → f k ≡ Some x → key x ≡ k) where
    find_below : (a n k : ℕ) → k < a → find (λ x. key x == k) (filter_map f (range_with_len a n)) ≡ None
    find_below a zero k low = refl
    find_below a (suc n) k low = past (f a) (keyed a) (find_below (a + 1) n k (omega arith))
      where
        past : (o : Option X) → ((x : X) → o ≡ Some x → key x ≡ a) → find (λ x. key x == k) (filter_map f (range_with_len (a + 1) n)) ≡ None → find (λ x. key x == k) (cons_option o (filter_map f (range_with_len (a + 1) n))) ≡ None
        past None keys rest = rest
        past (Some x) keys rest =
            let at = keys x refl in
            let other : (key x == k) ≡ false = grind (arith, nat_tests) in
            rw other rest

    -- a search by the key is the look-up
    pub find_found : (a n k : ℕ) → a ≤ k → (a + n ≤ k → f k ≡ None) → find (λ x. key x == k) (filter_map f (range_with_len a n)) ≡ f k
    find_found a zero k low past = sym (past (omega arith))
    find_found a (suc n) k low past = elim (cases_eq a k) [
      | inl here ↦ at here (f a) refl
      | inr there ↦ before there (find_found (a + 1) n k (omega arith) (λ high. past (omega arith))) (f a) (keyed a)
    ]
      where
        at : a ≡ k → (o : Option X) → o ≡ f a → find (λ x. key x == k) (cons_option o (filter_map f (range_with_len (a + 1) n))) ≡ f k
        at here None is = find_below (a + 1) n k (omega arith) ∙ is ∙ ap f here
        at here (Some x) is =
            let names = keyed a x (sym is) in
            let same : (key x == k) ≡ true = grind (arith, nat_tests) in
            rw same (is ∙ ap f here)

        before : (a ≡ k → ⊥) → find (λ x. key x == k) (filter_map f (range_with_len (a + 1) n)) ≡ f k → (o : Option X) → ((x : X) → o ≡ Some x → key x ≡ a) → find (λ x. key x == k) (cons_option o (filter_map f (range_with_len (a + 1) n))) ≡ f k
        before there rest None keys = rest
        before there rest (Some x) keys =
            let names = keys x refl in
            let other : (key x == k) ≡ false = grind (arith, nat_tests) in
            rw other rest

  -- what one number adds to a sum
  abbrev pub weight : (X → ℕ) → Option X → ℕ
  weight g o = option_map_or g o 0

  weight_first : (g : X → ℕ) (o : Option X) (xs : List X) → sum_by g (cons_option o xs) ≡ weight g o + sum_by g xs
  weight_first g None xs = sym (zero-add _)
  weight_first g (Some x) xs = sum_by-cons g x xs

  sum_same : (w : X → ℕ) (f g : ℕ → Option X) (a n : ℕ) → ((k : ℕ) → a ≤ k → k < a + n → f k ≡ g k) → sum_by w (filter_map f (range_with_len a n)) ≡ sum_by w (filter_map g (range_with_len a n))
  sum_same w f g a n same = ap (sum_by w) (found_same f g a n same)

  -- a sum changes by what changes at the one number
  pub sum_changed : (w : X → ℕ) (f g : ℕ → Option X) (a n j : ℕ) → a ≤ j → j < a + n → ((k : ℕ) → k ≢ j → f k ≡ g k) → sum_by w (filter_map g (range_with_len a n)) + weight w (f j) ≡ sum_by w (filter_map f (range_with_len a n)) + weight w (g j)
  sum_changed w f g a zero j low high same = absurd (omega arith)
  sum_changed w f g a (suc n) j low high same =
      let old = weight_first w (f a) (filter_map f (range_with_len (a + 1) n)) in
      let new = weight_first w (g a) (filter_map g (range_with_len (a + 1) n)) in
      elim (cases_eq a j) [
        | inl here ↦
            let rest = sum_same w f g (a + 1) n (λ k above below. same k (λ e. omega arith)) in
            let first = ap (λ k. weight w (f k)) here in
            let second = ap (λ k. weight w (g k)) here in
            omega arith
        | inr there ↦
            let head : weight w (f a) ≡ weight w (g a) = ap (weight w) (same a there) in
            let rest = sum_changed w f g (a + 1) n j (omega arith) (omega arith) same in
            omega arith
      ]

  -- what is found adds no more than there is
  pub weight-le-sum : (w : X → ℕ) (f : ℕ → Option X) (a n j : ℕ) → a ≤ j → j < a + n → weight w (f j) ≤ sum_by w (filter_map f (range_with_len a n))
  weight-le-sum w f a zero j low high = absurd (omega arith)
  weight-le-sum w f a (suc n) j low high =
      let first = weight_first w (f a) (filter_map f (range_with_len (a + 1) n)) in
      elim (cases_eq a j) [
        | inl here ↦ let same = ap (λ k. weight w (f k)) here in omega arith
        | inr there ↦ let rest = weight-le-sum w f (a + 1) n j (omega arith) (omega arith) in omega arith
      ]

  count_first : (o : Option X) (xs : List X) → length (cons_option o xs) ≡ weight (λ _. 1) o + length xs
  count_first None xs = sym (zero-add _)
  count_first (Some x) xs = omega arith

  -- and so does the length
  pub length_changed : (f g : ℕ → Option X) (a n j : ℕ) → a ≤ j → j < a + n → ((k : ℕ) → k ≢ j → f k ≡ g k) → length (filter_map g (range_with_len a n)) + weight (λ _. 1) (f j) ≡ length (filter_map f (range_with_len a n)) + weight (λ _. 1) (g j)
  length_changed f g a zero j low high same = absurd (omega arith)
  length_changed f g a (suc n) j low high same =
      let old = count_first (f a) (filter_map f (range_with_len (a + 1) n)) in
      let new = count_first (g a) (filter_map g (range_with_len (a + 1) n)) in
      elim (cases_eq a j) [
        | inl here ↦
            let rest = ap length (found_same f g (a + 1) n (λ k above below. same k (λ e. omega arith))) in
            let first = ap (λ k. weight (λ _. 1) (f k)) here in
            let second = ap (λ k. weight (λ _. 1) (g k)) here in
            omega arith
        | inr there ↦
            let head : weight (λ _. 1) (f a) ≡ weight (λ _. 1) (g a) = ap (weight (λ _. 1)) (same a there) in
            let rest = length_changed f g (a + 1) n j (omega arith) (omega arith) same in
            omega arith
      ]

module _ {X Y : Type 0} (h : X → Option Y) where
  -- a list filtered again
  pub found_then : (f : ℕ → Option X) (ks : List ℕ) → filter_map h (filter_map f ks) ≡ filter_map (λ k. option_and_then h (f k)) ks
  found_then f [] = refl
  found_then f (k ∷ ks) = first (found_then f ks) (f k)
    where
      first : filter_map h (filter_map f ks) ≡ filter_map (λ i. option_and_then h (f i)) ks → (o : Option X) → filter_map h (cons_option o (filter_map f ks)) ≡ cons_option (option_and_then h o) (filter_map (λ i. option_and_then h (f i)) ks)
      first rest None = rest
      first rest (Some x) = ap (cons_option (h x)) rest

module _ {X Y : Type 0} (h : X → Y) where
  -- a list mapped
  pub found_mapped : (f : ℕ → Option X) (ks : List ℕ) → map h (filter_map f ks) ≡ filter_map (λ k. option_map h (f k)) ks
  found_mapped f [] = refl
  found_mapped f (k ∷ ks) = first (found_mapped f ks) (f k)
    where
      first : map h (filter_map f ks) ≡ filter_map (λ i. option_map h (f i)) ks → (o : Option X) → map h (cons_option o (filter_map f ks)) ≡ cons_option (option_map h o) (filter_map (λ i. option_map h (f i)) ks)
      first rest None = rest
      first rest (Some x) = ap (λ l. h x ∷ l) rest
