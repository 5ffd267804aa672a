-- The least free id, and why there is one.
use Rattle.std.proofs.Common.{◌≡◌, ◌≢◌, ◌⊎◌, ◌||◌, ℕ, zero, suc, ◌+◌, ◌<◌, ◌≤◌, Bool, true, false, not, cond, List, [], ◌∷◌, length, find, Option, Some, None, refl, sym, ap, ◌∙◌, inl, inr, subst, arith}
use Rattle.std.proofs.lemmas.Bool.{cases_eq}
use Rattle.std.proofs.lemmas.Bool.Decides.{nat_tests}
use Rattle.std.specs.List.{list_any, range_with_len}
use Rattle.std.specs.Option.{unwrap_or}
use Rattle.kernel_values.specs.declared.state.Message.{Message}
use Rattle.msg_queue.specs.Messages.{has_id, is_opened_as, is_free_id, free_id}

-- the first number that passes, in a range
pub first_in : (test : ℕ → Bool) (a m n : ℕ) → a ≤ n → n < a + m → ((k : ℕ) → a ≤ k → k < n → test k ≡ false) → test n ≡ true → find test (range_with_len a m) ≡ Some n
first_in test a zero n low high before here = absurd (omega arith)
first_in test a (suc m) n low high before here = elim (cases_eq a n) [
  | inl same ↦ rw (ap test same ∙ here, same) refl
  | inr other ↦ rw (before a (omega arith) (omega arith)) (first_in test (a + 1) m n (omega arith) (omega arith) (λ k above below. before k (omega arith) below) here)
]

pub none_in : (test : ℕ → Bool) (a m : ℕ) → ((k : ℕ) → a ≤ k → k < a + m → test k ≡ false) → find test (range_with_len a m) ≡ None
none_in test a zero never = refl
none_in test a (suc m) never = rw (never a (omega arith) (omega arith)) (none_in test (a + 1) m (λ k above below. never k (omega arith) (omega arith)))

-- what a search of a range finds
find_cases : (test : ℕ → Bool) (a m : ℕ) → ((n : ℕ) × (find test (range_with_len a m) ≡ Some n) × (test n ≡ true)) ⊎ ((k : ℕ) → a ≤ k → k < a + m → test k ≡ false)
find_cases test a zero = inr (λ k low high. absurd (omega arith))
find_cases test a (suc m) = by_test (test a) refl (find_cases test (a + 1) m)
  where
    by_test : (b : Bool) → test a ≡ b → ((n : ℕ) × (find test (range_with_len (a + 1) m) ≡ Some n) × (test n ≡ true)) ⊎ ((k : ℕ) → a + 1 ≤ k → k < a + 1 + m → test k ≡ false) → ((n : ℕ) × (cond b (Some a) (find test (range_with_len (a + 1) m)) ≡ Some n) × (test n ≡ true)) ⊎ ((k : ℕ) → a ≤ k → k < a + suc m → test k ≡ false)
    by_test true is rest = inl (a, refl, is)
    by_test false is rest = elim rest [
      | inl some ↦ inl some
      | inr none ↦ inr (λ k low high. elim (cases_eq a k) [
        | inl same ↦ ap test (sym same) ∙ is
        | inr other ↦ none k (omega arith) (omega arith)
      ])
    ]

-- the messages without the first one of an id
less : ℕ → List Message → List Message
less id [] = []
less id (m ∷ ms) = cond (is_opened_as id m) ms (m ∷ less id ms)

length_less : (id : ℕ) (ms : List Message) → list_any (is_opened_as id) ms ≡ true → length (less id ms) + 1 ≡ length ms
unfolding less
length_less id [] some = absurd (cc)
length_less id (m ∷ ms) some = by_test (is_opened_as id m) some (length_less id ms)
  where
    by_test : (b : Bool) → (b || list_any (is_opened_as id) ms) ≡ true → (list_any (is_opened_as id) ms ≡ true → length (less id ms) + 1 ≡ length ms) → length (cond b ms (m ∷ less id ms)) + 1 ≡ suc (length ms)
    by_test true any rest = omega arith
    by_test false any rest = let e = rest any in omega arith

-- one message is opened under one id
one_id : (o : Option ℕ) (j k : ℕ) → j ≢ k → has_id k o ≡ true → has_id j o ≡ false
one_id None j k differs is = absurd (cc)
one_id (Some n) j k differs is = grind (arith, nat_tests)

any_less : (j k : ℕ) (ms : List Message) → j ≢ k → list_any (is_opened_as j) ms ≡ true → list_any (is_opened_as j) (less k ms) ≡ true
unfolding less
any_less j k [] differs some = some
any_less j k (m ∷ ms) differs some = by_test (is_opened_as k m) refl some (any_less j k ms differs)
  where
    keep : (b : Bool) → (b || list_any (is_opened_as j) ms) ≡ true → (list_any (is_opened_as j) ms ≡ true → list_any (is_opened_as j) (less k ms) ≡ true) → (b || list_any (is_opened_as j) (less k ms)) ≡ true
    keep true any rest = refl
    keep false any rest = rest any

    by_test : (b : Bool) → is_opened_as k m ≡ b → (is_opened_as j m || list_any (is_opened_as j) ms) ≡ true → (list_any (is_opened_as j) ms ≡ true → list_any (is_opened_as j) (less k ms) ≡ true) → list_any (is_opened_as j) (cond b ms (m ∷ less k ms)) ≡ true
    by_test true is any rest = rw (one_id m.opened j k differs is) at any
    by_test false is any rest = keep (is_opened_as j m) any rest

-- there are no more ids in use than messages
ids_few : (n : ℕ) (ms : List Message) → ((k : ℕ) → 1 ≤ k → k ≤ n → list_any (is_opened_as k) ms ≡ true) → n ≤ length ms
ids_few zero ms used = omega arith
ids_few (suc n) ms used =
    let last = length_less (suc n) ms (used (suc n) (omega arith) (omega arith)) in
    let rest = ids_few n (less (suc n) ms) (λ k low high. any_less k (suc n) ms (λ e. omega arith) (used k low (omega arith))) in
    omega arith

-- the least free id is free
pub free_id_is_free : (ms : List Message) → list_any (is_opened_as (free_id ms)) ms ≡ false
unfolding free_id
free_id_is_free ms = elim (find_cases (is_free_id ms) 1 (length ms + 1)) [
  | inl some ↦
      let is : free_id ms ≡ some.0 = ap (λ o. unwrap_or o 0) some.1 in
      let P : ℕ → Type 0 = λ n. list_any (is_opened_as n) ms ≡ false in
      subst P (sym is) (flipped _ some.2)
  | inr none ↦
      let few = ids_few (length ms + 1) ms (λ k low high. doubled _ (none k low (omega arith))) in
      absurd (omega arith)
]
  where
    flipped : (b : Bool) → not b ≡ true → b ≡ false
    flipped true is = absurd (cc)
    flipped false is = refl

    doubled : (b : Bool) → not b ≡ false → b ≡ true
    doubled true is = refl
    doubled false is = absurd (cc)

pub free_id_found : (ms : List Message) (n : ℕ) → 1 ≤ n → n < length ms + 2 → ((k : ℕ) → 1 ≤ k → k < n → list_any (is_opened_as k) ms ≡ true) → list_any (is_opened_as n) ms ≡ false → n ≡ free_id ms
unfolding free_id
free_id_found ms n low high before here =
    sym (ap (λ o. unwrap_or o 0) (first_in (is_free_id ms) 1 (length ms + 1) n low (omega arith) (λ k above below. ap not (before k above below)) (ap not here)))

pub free_id_none : (ms : List Message) → ((k : ℕ) → 1 ≤ k → k < length ms + 2 → list_any (is_opened_as k) ms ≡ true) → 0 ≡ free_id ms
unfolding free_id
free_id_none ms used =
    sym (ap (λ o. unwrap_or o 0) (none_in (is_free_id ms) 1 (length ms + 1) (λ k above below. ap not (used k above (omega arith)))))
