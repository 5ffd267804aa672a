-- What a change at one number makes of a table, where the entries are what a look-up finds.
use Rattle.std.proofs.Common.{◌≡◌, ◌≢◌, ℕ, zero, suc, ◌+◌, ◌<◌, ◌≤◌, ◌||◌, Bool, true, false, not, cond, List, [], ◌∷◌, length, find, filter_map, slice_get, Option, Some, None, is_some, refl, sym, ap, ◌∙◌, inl, inr, subst, arith}
use Rattle.std.proofs.lemmas.Bool.{cases_eq}
use Rattle.std.proofs.lemmas.Bool.Decides.{nat_tests}
use Rattle.std.specs.Prelude.{◌==◌, nat_lt}
use Rattle.std.specs.List.{range_with_len, cons_option, list_any, position_or_len}
use Rattle.std.specs.Option.{option_map}
use Rattle.kernel_values.specs.declared.state.TableEntry.{TableEntry}
use Rattle.object_store.proofs.Found.{found_same, find_found}
use Rattle.kernel_types.specs.Objects.{set_if}
use Rattle.handle_table.specs.Tables.{with_entry, without, with_cookie, is_free, IsTableFrom}

-- the tests and changes of an entry that the definitions of tables write out

abbrev pub has_handle : ℕ → TableEntry → Bool
has_handle handle entry = entry.handle == handle

abbrev pub is_above : TableEntry → TableEntry → Bool
is_above entry other = nat_lt entry.handle other.handle

abbrev pub cookie_set : ℕ → TableEntry → TableEntry
cookie_set cookie entry = record entry { cookie = cookie }

abbrev pub new_entry : ℕ → ℕ → TableEntry
new_entry handle object = record { handle = handle; object = object; cookie = 0 }

-- whether some entry has a number is whether one is found
any_is_some : {X : Type 0} (p : X → Bool) (xs : List X) → list_any p xs ≡ is_some (find p xs)
any_is_some p [] = refl
any_is_some p (x ∷ xs) = by_test (p x) (any_is_some p xs)
  where
    by_test : (b : Bool) → list_any p xs ≡ is_some (find p xs) → (b || list_any p xs) ≡ is_some (cond b (Some x) (find p xs))
    by_test true rest = refl
    by_test false rest = rest

-- the first number that passes
pub find_first : (test : ℕ → Bool) (a m n : ℕ) → a ≤ n → n < a + m → ((k : ℕ) → k < n → test k ≡ false) → test n ≡ true → find test (range_with_len a m) ≡ Some n
find_first test a zero n low high before here = absurd (omega arith)
find_first test a (suc m) n low high before here = elim (cases_eq a n) [
  | inl same ↦ rw (ap test same ∙ here, same) refl
  | inr other ↦ rw (before a (omega arith)) (find_first test (a + 1) m n (omega arith) (omega arith) before here)
]

-- one entry more
with_above : (e x : TableEntry) (xs : List TableEntry) → is_above e x ≡ true → with_entry (x ∷ xs) e ≡ e ∷ x ∷ xs
with_above e x xs is = rw is refl

with_below : (e x : TableEntry) (xs : List TableEntry) → is_above e x ≡ false → with_entry (x ∷ xs) e ≡ x ∷ with_entry xs e
with_below e x xs is =
    let more : 1 + position_or_len (is_above e) xs ≡ suc (position_or_len (is_above e) xs) = omega arith in
    rw (is, more) refl

-- another cookie
cookie_here : (n c : ℕ) (x : TableEntry) (xs : List TableEntry) → has_handle n x ≡ true → with_cookie (x ∷ xs) n c ≡ cookie_set c x ∷ xs
cookie_here n c x xs is = rw is refl

cookie_there : (n c : ℕ) (x : TableEntry) (xs : List TableEntry) → has_handle n x ≡ false → with_cookie (x ∷ xs) n c ≡ x ∷ with_cookie xs n c
cookie_there n c x xs is =
    let more : 1 + position_or_len (has_handle n) xs ≡ suc (position_or_len (has_handle n) xs) = omega arith in
    rw (is, more) (deeper (position_or_len (has_handle n) xs) (slice_get xs (position_or_len (has_handle n) xs)))
  where
    deeper : (at : ℕ) (o : Option TableEntry) → set_if (x ∷ xs) (suc at) (option_map (cookie_set c) o) ≡ x ∷ set_if xs at (option_map (cookie_set c) o)
    deeper at None = refl
    deeper at (Some y) = refl

module _ (f : ℕ → Option TableEntry) (keyed : (k : ℕ) (x : TableEntry) → f k ≡ Some x → x.handle ≡ k) where
  handle_is : (k n : ℕ) (x : TableEntry) → f k ≡ Some x → k ≡ n → has_handle n x ≡ true
  handle_is k n x is at = let names = keyed k x is in grind (arith, nat_tests)

  handle_differs : (k n : ℕ) (x : TableEntry) → f k ≡ Some x → k ≢ n → has_handle n x ≡ false
  handle_differs k n x is at = let names = keyed k x is in grind (arith, nat_tests)

  -- a number is free where nothing is found
  pub free_found : (m n : ℕ) → (m ≤ n → f n ≡ None) → is_free (filter_map f (range_with_len 0 m)) n ≡ not (is_some (f n))
  free_found m n past = ap not (any_is_some (has_handle n) _ ∙ ap is_some (find_found (λ x. x.handle) f keyed 0 m n (omega arith) (λ high. past (omega arith))))

  -- the numbers rise
  pub found_rises : (low a m : ℕ) → low ≤ a → a + m ≤ 64 → IsTableFrom low (filter_map f (range_with_len a m))
  found_rises low a zero below within = tt
  found_rises low a (suc m) below within = first (found_rises low (a + 1) m (omega arith) (omega arith)) (found_rises (a + 1) (a + 1) m (omega arith) (omega arith)) (f a) refl
    where
      first : IsTableFrom low (filter_map f (range_with_len (a + 1) m)) → IsTableFrom (a + 1) (filter_map f (range_with_len (a + 1) m)) → (o : Option TableEntry) → f a ≡ o → IsTableFrom low (cons_option o (filter_map f (range_with_len (a + 1) m)))
      first same later None is = same
      first same later (Some x) is =
          let names = keyed a x is in
          let P : ℕ → Type 0 = λ k. IsTableFrom (k + 1) (filter_map f (range_with_len (a + 1) m)) in
          (omega arith, omega arith, subst P (sym names) later)

  -- a cookie is set for a number that is not there
  pub cookie_absent : (n c : ℕ) (ks : List ℕ) → f n ≡ None → with_cookie (filter_map f ks) n c ≡ filter_map f ks
  cookie_absent n c [] none = refl
  cookie_absent n c (k ∷ ks) none = first (cookie_absent n c ks none) (f k) refl
    where
      first : with_cookie (filter_map f ks) n c ≡ filter_map f ks → (o : Option TableEntry) → f k ≡ o → with_cookie (cons_option o (filter_map f ks)) n c ≡ cons_option o (filter_map f ks)
      first rest None is = rest
      first rest (Some x) is = elim (cases_eq k n) [
        | inl same ↦ let both : Some x ≡ None = sym is ∙ ap f same ∙ none in absurd (cc)
        | inr other ↦ cookie_there n c x _ (handle_differs k n x is other) ∙ ap (λ l. x ∷ l) rest
      ]

  module _ (g : ℕ → Option TableEntry) (n : ℕ) (same : (k : ℕ) → k ≢ n → f k ≡ g k) where
    module _ (e : TableEntry) (names : e.handle ≡ n) where
      with_front : (a m : ℕ) → n < a → with_entry (filter_map f (range_with_len a m)) e ≡ e ∷ filter_map f (range_with_len a m)
      with_front a zero low = refl
      with_front a (suc m) low = first (with_front (a + 1) m (omega arith)) (f a) refl
        where
          first : with_entry (filter_map f (range_with_len (a + 1) m)) e ≡ e ∷ filter_map f (range_with_len (a + 1) m) → (o : Option TableEntry) → f a ≡ o → with_entry (cons_option o (filter_map f (range_with_len (a + 1) m))) e ≡ e ∷ cons_option o (filter_map f (range_with_len (a + 1) m))
          first rest None is = rest
          first rest (Some x) is =
              let at = keyed a x is in
              let above : is_above e x ≡ true = grind (arith, nat_tests) in
              with_above e x _ above

      -- an entry comes in at a free number
      pub with_found : (a m : ℕ) → a ≤ n → n < a + m → f n ≡ None → g n ≡ Some e → with_entry (filter_map f (range_with_len a m)) e ≡ filter_map g (range_with_len a m)
      with_found a zero low high none some = absurd (omega arith)
      with_found a (suc m) low high none some = elim (cases_eq a n) [
        | inl at ↦
            let gone : f a ≡ None = ap f at ∙ none in
            let come : g a ≡ Some e = ap g at ∙ some in
            let rest = found_same f g (a + 1) m (λ k above below. same k (λ is. omega arith)) in
            rw (gone, come) (with_front (a + 1) m (omega arith) ∙ ap (λ l. e ∷ l) rest)
        | inr other ↦ rw (sym (same a other)) (first (with_found (a + 1) m (omega arith) (omega arith) none some) (omega arith) (f a) refl)
      ]
        where
          first : with_entry (filter_map f (range_with_len (a + 1) m)) e ≡ filter_map g (range_with_len (a + 1) m) → a < n → (o : Option TableEntry) → f a ≡ o → with_entry (cons_option o (filter_map f (range_with_len (a + 1) m))) e ≡ cons_option o (filter_map g (range_with_len (a + 1) m))
          first rest below None is = rest
          first rest below (Some x) is =
              let at = keyed a x is in
              let under : is_above e x ≡ false = grind (arith, nat_tests) in
              with_below e x _ under ∙ ap (λ l. x ∷ l) rest

    -- an entry goes
    pub without_found : (ks : List ℕ) → g n ≡ None → without (filter_map f ks) n ≡ filter_map g ks
    without_found [] none = refl
    without_found (k ∷ ks) none = first (without_found ks none) (f k) refl
      where
        first : without (filter_map f ks) n ≡ filter_map g ks → (o : Option TableEntry) → f k ≡ o → without (cons_option o (filter_map f ks)) n ≡ cons_option (g k) (filter_map g ks)
        first rest None is = elim (cases_eq k n) [
          | inl at ↦ rw (ap g at ∙ none) rest
          | inr other ↦ rw (sym (same k other) ∙ is) rest
        ]
        first rest (Some x) is = elim (cases_eq k n) [
          | inl at ↦ rw (handle_is k n x is at, ap g at ∙ none) rest
          | inr other ↦ rw (handle_differs k n x is other, sym (same k other) ∙ is) (ap (λ l. x ∷ l) rest)
        ]

    -- an entry gets another cookie
    pub cookie_found : (c : ℕ) (a m : ℕ) (x : TableEntry) → a ≤ n → n < a + m → f n ≡ Some x → g n ≡ Some (cookie_set c x) → with_cookie (filter_map f (range_with_len a m)) n c ≡ filter_map g (range_with_len a m)
    cookie_found c a zero x low high was is = absurd (omega arith)
    cookie_found c a (suc m) x low high was is = elim (cases_eq a n) [
      | inl at ↦
          let old : f a ≡ Some x = ap f at ∙ was in
          let new : g a ≡ Some (cookie_set c x) = ap g at ∙ is in
          let rest = found_same f g (a + 1) m (λ k above below. same k (λ eq. omega arith)) in
          rw (old, new) (cookie_here n c x _ (handle_is a n x old at) ∙ ap (λ l. cookie_set c x ∷ l) rest)
      | inr other ↦ rw (sym (same a other)) (first (cookie_found c (a + 1) m x (omega arith) (omega arith) was is) other (f a) refl)
    ]
      where
        first : with_cookie (filter_map f (range_with_len (a + 1) m)) n c ≡ filter_map g (range_with_len (a + 1) m) → a ≢ n → (o : Option TableEntry) → f a ≡ o → with_cookie (cons_option o (filter_map f (range_with_len (a + 1) m))) n c ≡ cons_option o (filter_map g (range_with_len (a + 1) m))
        first rest other None eq = rest
        first rest other (Some y) eq = cookie_there n c y _ (handle_differs a n y eq other) ∙ ap (λ l. y ∷ l) rest

-- the first entry that passes
pub find_next : (p : TableEntry → Bool) (f : ℕ → Option TableEntry) (a m n : ℕ) (x : TableEntry) → a ≤ n → n < a + m → f n ≡ Some x → p x ≡ true → ((k : ℕ) (y : TableEntry) → k < n → f k ≡ Some y → p y ≡ false) → find p (filter_map f (range_with_len a m)) ≡ Some x
find_next p f a zero n x low high is pass before = absurd (omega arith)
find_next p f a (suc m) n x low high is pass before = elim (cases_eq a n) [
  | inl at ↦ rw (ap f at ∙ is) (rw pass refl)
  | inr other ↦ first (find_next p f (a + 1) m n x (omega arith) (omega arith) is pass before) (omega arith) (f a) refl
]
  where
    first : find p (filter_map f (range_with_len (a + 1) m)) ≡ Some x → a < n → (o : Option TableEntry) → f a ≡ o → find p (cons_option o (filter_map f (range_with_len (a + 1) m))) ≡ Some x
    first rest below None eq = rest
    first rest below (Some y) eq = rw (before a y below eq) rest

pub find_none : (p : TableEntry → Bool) (f : ℕ → Option TableEntry) (ks : List ℕ) → ((k : ℕ) (y : TableEntry) → f k ≡ Some y → p y ≡ false) → find p (filter_map f ks) ≡ None
find_none p f [] never = refl
find_none p f (k ∷ ks) never = first (find_none p f ks never) (f k) refl
  where
    first : find p (filter_map f ks) ≡ None → (o : Option TableEntry) → f k ≡ o → find p (cons_option o (filter_map f ks)) ≡ None
    first rest None eq = rest
    first rest (Some y) eq = rw (never k y eq) rest

-- how many there can be
pub found_length : (f : ℕ → Option TableEntry) (a m : ℕ) → length (filter_map f (range_with_len a m)) ≤ m
found_length f a zero = omega arith
found_length f a (suc m) = first (f a) (found_length f (a + 1) m)
  where
    first : (o : Option TableEntry) → length (filter_map f (range_with_len (a + 1) m)) ≤ m → length (cons_option o (filter_map f (range_with_len (a + 1) m))) ≤ suc m
    first None rest = omega arith
    first (Some x) rest = omega arith

pub found_all : (f : ℕ → Option TableEntry) (a m : ℕ) → ((k : ℕ) → k < a + m → is_some (f k) ≡ true) → length (filter_map f (range_with_len a m)) ≡ m
found_all f a zero all = refl
found_all f a (suc m) all = first (f a) (all a (omega arith)) (found_all f (a + 1) m (λ k high. all k (omega arith)))
  where
    first : (o : Option TableEntry) → is_some o ≡ true → length (filter_map f (range_with_len (a + 1) m)) ≡ m → length (cons_option o (filter_map f (range_with_len (a + 1) m))) ≡ suc m
    first None some rest = absurd (cc)
    first (Some x) some rest = omega arith
