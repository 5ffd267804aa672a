-- Searches of the places are searches of the messages.
use Rattle.std.proofs.Common.{◌≡◌, ◌⊎◌, ◌||◌, ℕ, zero, suc, ◌+◌, ◌<◌, Bool, true, false, not, cond, List, [], ◌∷◌, length, find, count_by, get_or, slice_get, nat_lt, Some, None, refl, sym, ap, ◌∙◌, inl, inr, subst, arith}
use Rattle.std.proofs.lemmas.Bool.Decides.{nat_tests}
use Rattle.std.proofs.lemmas.List.Folds.{find_at}
use Rattle.std.proofs.lemmas.List.Sums.{sum_by-cons}
use Rattle.std.specs.List.{list_any, position, position_or_len}
use Rattle.std.specs.Option.{option_map}
use Rattle.kernel_values.specs.declared.state.Message.{Message}
use Rattle.msg_queue.specs.declared.place.Place.{Place}
use Rattle.msg_queue.specs.Places.{message_of, messages_of}

module _ (t : Message → Bool) where
  -- the same test of a place
  abbrev pub on_place : Place → Bool
  on_place place = t (message_of place)

  pub any_of : (ps : List Place) → list_any t (messages_of ps) ≡ list_any on_place ps
  any_of [] = refl
  any_of (p ∷ ps) = ap (λ b. t (message_of p) || b) (any_of ps)

  pub find_of : (ps : List Place) → find t (messages_of ps) ≡ option_map message_of (find on_place ps)
  find_of [] = refl
  find_of (p ∷ ps) = by_test (t (message_of p)) (find_of ps)
    where
      by_test : (b : Bool) → find t (messages_of ps) ≡ option_map message_of (find (λ q. t (message_of q)) ps) → cond b (Some (message_of p)) (find t (messages_of ps)) ≡ option_map message_of (cond b (Some p) (find (λ q. t (message_of q)) ps))
      by_test true rest = refl
      by_test false rest = rest

  pub position_of : (ps : List Place) → position_or_len t (messages_of ps) ≡ position_or_len on_place ps
  position_of [] = refl
  position_of (p ∷ ps) = ap (λ n. cond (not (t (message_of p))) (1 + n) 0) (position_of ps)

  pub count_of : (ps : List Place) → count_by t (messages_of ps) ≡ count_by on_place ps
  count_of [] = refl
  count_of (p ∷ ps) =
      let rest = count_of ps in
      let one = sum_by-cons (λ m. cond (t m) 1 0) (message_of p) (messages_of ps) in
      let other = sum_by-cons (λ q. cond (t (message_of q)) 1 0) p ps in
      omega arith

pub length_of_messages : (ps : List Place) → length (messages_of ps) ≡ length ps
length_of_messages [] = refl
length_of_messages (p ∷ ps) = ap suc (length_of_messages ps)

module _ {X : Type 0} (t : X → Bool) where
  -- where a search ends
  pub place_cases : (xs : List X) → ((list_any t xs ≡ false) × (position_or_len t xs ≡ length xs)) ⊎ ((list_any t xs ≡ true) × (position_or_len t xs < length xs))
  place_cases [] = inl (refl, refl)
  place_cases (x ∷ xs) = by_test (t x) (place_cases xs)
    where
      by_test : (b : Bool) → ((list_any t xs ≡ false) × (position_or_len t xs ≡ length xs)) ⊎ ((list_any t xs ≡ true) × (position_or_len t xs < length xs)) → (((b || list_any t xs) ≡ false) × (cond (not b) (1 + position_or_len t xs) 0 ≡ suc (length xs))) ⊎ (((b || list_any t xs) ≡ true) × (cond (not b) (1 + position_or_len t xs) 0 < suc (length xs)))
      by_test true rest = inr (refl, omega arith)
      by_test false rest = elim rest [
        | inl none ↦ let at = none.1 in inl (none.0, omega arith)
        | inr some ↦ let at = some.1 in inr (some.0, omega arith)
      ]

  pub position_none : (xs : List X) → position t xs ≡ None → (list_any t xs ≡ false) × (position_or_len t xs ≡ length xs)
  position_none xs is = elim (place_cases xs) [
    | inl none ↦ none
    | inr some ↦
        let below = some.1 in
        let yes : nat_lt (position_or_len t xs) (length xs) ≡ true = grind (arith, nat_tests) in
        let P : Bool → Type 0 = λ b. cond b (Some (position_or_len t xs)) None ≡ None in
        let both : Some (position_or_len t xs) ≡ None = subst P yes is in
        absurd (cc)
  ]

  pub position_some : (xs : List X) (at : ℕ) → position t xs ≡ Some at → (list_any t xs ≡ true) × (at < length xs) × (position_or_len t xs ≡ at)
  position_some xs at is = elim (place_cases xs) [
    | inl none ↦
        let whole = none.1 in
        let never : nat_lt (position_or_len t xs) (length xs) ≡ false = grind (arith, nat_tests) in
        let P : Bool → Type 0 = λ b. cond b (Some (position_or_len t xs)) None ≡ Some at in
        let both : None ≡ Some at = subst P never is in
        absurd (cc)
    | inr some ↦
        let below = some.1 in
        let yes : nat_lt (position_or_len t xs) (length xs) ≡ true = grind (arith, nat_tests) in
        let P : Bool → Type 0 = λ b. cond b (Some (position_or_len t xs)) None ≡ Some at in
        let both : Some (position_or_len t xs) ≡ Some at = subst P yes is in
        let same : position_or_len t xs ≡ at = cc in
        (some.0, omega arith, same)
  ]

pub get_in : {X : Type 0} (xs : List X) (k : ℕ) (d : X) → k < length xs → slice_get xs k ≡ Some (get_or xs k d)
get_in [] k d within = absurd (omega arith)
get_in (x ∷ xs) zero d within = refl
get_in (x ∷ xs) (suc k) d within = get_in xs k d (omega arith)

pub get_past : {X : Type 0} (xs : List X) → slice_get xs (length xs) ≡ None
get_past [] = refl
get_past (x ∷ xs) = get_past xs

module _ (t : Message → Bool) (ps : List Place) where
  -- a search of the places that found one
  pub found_message : (at : ℕ) (d : Place) → position (λ p. t (message_of p)) ps ≡ Some at → find t (messages_of ps) ≡ Some (message_of (get_or ps at d))
  found_message at d is =
      let some = position_some (λ p. t (message_of p)) ps at is in
      find_of t ps ∙ ap (option_map message_of) (find_at (λ p. t (message_of p)) ps ∙ ap (slice_get ps) some.2 ∙ get_in ps at d some.1)

  pub found_place : (at : ℕ) → position (λ p. t (message_of p)) ps ≡ Some at → position_or_len t (messages_of ps) ≡ at
  found_place at is = position_of t ps ∙ (position_some (λ p. t (message_of p)) ps at is).2

  pub no_message : position (λ p. t (message_of p)) ps ≡ None → find t (messages_of ps) ≡ None
  no_message is =
      let none = position_none (λ p. t (message_of p)) ps is in
      find_of t ps ∙ ap (option_map message_of) (find_at (λ p. t (message_of p)) ps ∙ ap (slice_get ps) none.1 ∙ get_past ps)

  pub no_place : position (λ p. t (message_of p)) ps ≡ None → position_or_len t (messages_of ps) ≡ length (messages_of ps)
  no_place is = position_of t ps ∙ (position_none (λ p. t (message_of p)) ps is).1 ∙ sym (length_of_messages ps)

  pub none_any : position (λ p. t (message_of p)) ps ≡ None → list_any t (messages_of ps) ≡ false
  none_any is = any_of t ps ∙ (position_none (λ p. t (message_of p)) ps is).0

  pub some_any : (at : ℕ) → position (λ p. t (message_of p)) ps ≡ Some at → list_any t (messages_of ps) ≡ true
  some_any at is = any_of t ps ∙ (position_some (λ p. t (message_of p)) ps at is).0
