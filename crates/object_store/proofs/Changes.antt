-- What a change of one slot makes of the list of values.
use Rattle.std.proofs.Common.{◌≡◌, ◌≢◌, ◌⊎◌, ℕ, ◌+◌, ◌≤◌, ◌==◌, true, false, List, [], ◌∷◌, filter_map, Option, Some, None, refl, sym, ap, ◌∙◌, inl, inr, arith}
use Rattle.std.proofs.lemmas.Bool.{cases_eq}
use Rattle.std.proofs.lemmas.Bool.Decides.{nat_tests}
use Rattle.std.specs.Option.{option_map, option_and_then}
use Rattle.slab.specs.Slab.{Slab, get, Updates}
use Rattle.object_store.specs.Stock.{Held, held_at, changed, on_serial, one_less, less_on, unnamed}
use Rattle.object_store.specs.Slots.{at_serial, listed, IsApart}
use Rattle.object_store.proofs.Found.{find_found, found_then, found_mapped}
use Rattle.object_store.proofs.Slots.{none_past, keyed, same_found}

module _ {T : Type 0} where
  -- one slot changes: what a slot holds then
  after : (old new : Slab (Held T)) (key : ℕ) (slot : Option (Held T)) → Updates old new key slot → (k : ℕ) (g : Held T) → get new k ≡ Some g → ((k ≡ key) × (slot ≡ Some g)) ⊎ ((k ≢ key) × (get old k ≡ Some g))
  after old new key slot updates k g is = elim (cases_eq k key) [
    | inl same ↦ inl (same, sym updates.changed ∙ ap (get new) (sym same) ∙ is)
    | inr other ↦ inr (other, sym (updates.others k other) ∙ is)
  ]

  -- a value is stored in a vacant slot
  pub put_apart : (old new : Slab (Held T)) (key next : ℕ) (h : Held T) → IsApart old next → h.serial ≡ next → 1 ≤ h.names → Updates old new key (Some h) → IsApart new (next + 1)
  put_apart old new key next h apart names named updates = record {
    below = λ k g is. elim (after old new key (Some h) updates k g is) [
      | inl here ↦ let same : h ≡ g = cc here.1 in let e = ap (λ x. x.serial) same in omega arith
      | inr there ↦ let low = apart.below k g there.1 in omega arith
    ];
    named = λ k g is. elim (after old new key (Some h) updates k g is) [
      | inl here ↦ let same : h ≡ g = cc here.1 in let e = ap (λ x. x.names) same in omega arith
      | inr there ↦ apart.named k g there.1
    ];
    apart = λ j k f g left right same. elim (after old new key (Some h) updates j f left) [
      | inl here ↦ elim (after old new key (Some h) updates k g right) [
        | inl there ↦ here.0 ∙ sym there.0
        | inr there ↦
            let e : h ≡ f = cc here.1 in
            let low = apart.below k g there.1 in
            let serial = ap (λ x. x.serial) e in
            absurd (omega arith)
      ]
      | inr here ↦ elim (after old new key (Some h) updates k g right) [
        | inl there ↦
            let e : h ≡ g = cc there.1 in
            let low = apart.below j f here.1 in
            let serial = ap (λ x. x.serial) e in
            absurd (omega arith)
        | inr there ↦ apart.apart j k f g here.1 there.1 same
      ]
    ];
  }

  -- the value of a slot is replaced by one with its serial number
  pub swap_apart : (old new : Slab (Held T)) (key next : ℕ) (h g : Held T) → IsApart old next → get old key ≡ Some h → g.serial ≡ h.serial → 1 ≤ g.names → Updates old new key (Some g) → IsApart new next
  swap_apart old new key next h g apart was names named updates = record {
    below = λ k x is. elim (after old new key (Some g) updates k x is) [
      | inl here ↦ let same : g ≡ x = cc here.1 in let e = ap (λ y. y.serial) same in let low = apart.below key h was in omega arith
      | inr there ↦ apart.below k x there.1
    ];
    named = λ k x is. elim (after old new key (Some g) updates k x is) [
      | inl here ↦ let same : g ≡ x = cc here.1 in let e = ap (λ y. y.names) same in omega arith
      | inr there ↦ apart.named k x there.1
    ];
    apart = λ j k x y left right same. elim (after old new key (Some g) updates j x left) [
      | inl here ↦ elim (after old new key (Some g) updates k y right) [
        | inl there ↦ here.0 ∙ sym there.0
        | inr there ↦
            let e : g ≡ x = cc here.1 in
            here.0 ∙ apart.apart key k h y was there.1 (sym names ∙ ap (λ z. z.serial) e ∙ same)
      ]
      | inr here ↦ elim (after old new key (Some g) updates k y right) [
        | inl there ↦
            let e : g ≡ y = cc there.1 in
            apart.apart j key x h here.1 was (same ∙ sym (ap (λ z. z.serial) e) ∙ names) ∙ sym there.0
        | inr there ↦ apart.apart j k x y here.1 there.1 same
      ]
    ];
  }

  -- the value of a slot is taken out
  pub gone_apart : (old new : Slab (Held T)) (key next : ℕ) → IsApart old next → Updates old new key None → IsApart new next
  gone_apart old new key next apart updates =
      let before : (k : ℕ) (x : Held T) → get new k ≡ Some x → get old k ≡ Some x = λ k x is. elim (after old new key None updates k x is) [
        | inl here ↦ absurd (cc here.1)
        | inr there ↦ there.1
      ] in record {
        below = λ k x is. apart.below k x (before k x is);
        named = λ k x is. apart.named k x (before k x is);
        apart = λ j k x y left right same. apart.apart j k x y (before j x left) (before k y right) same;
      }

  -- no other serial number finds anything else
  pub others_found : (old new : Slab (Held T)) (key later : ℕ) (slot : Option (Held T)) (n : ℕ) → IsApart new later → Updates old new key slot → ((h : Held T) → get old key ≡ Some h → h.serial ≡ n) → ((h : Held T) → slot ≡ Some h → h.serial ≡ n) → (k : ℕ) → k ≢ n → at_serial old k ≡ at_serial new k
  others_found old new key later slot n apart updates was is k differs =
      same_found old new later later apart k
      (λ j h held names. elim (cases_eq j key) [
        | inl same ↦ absurd (differs (sym names ∙ was h (ap (get old) (sym same) ∙ held)))
        | inr other ↦ updates.others j other ∙ held
      ])
      (λ j h held names. elim (after old new key slot updates j h held) [
        | inl here ↦ absurd (differs (sym names ∙ is h here.1))
        | inr there ↦ there.1
      ])

  module _ (f g : ℕ → Option (Held T)) (keys : (k : ℕ) (h : Held T) → f k ≡ Some h → h.serial ≡ k) (n : ℕ) (same : (k : ℕ) → k ≢ n → f k ≡ g k) where
    changed_at : (c : Held T → Held T) → option_map c (f n) ≡ g n → (k : ℕ) → option_map (on_serial n c) (f k) ≡ g k
    changed_at c here k = by_found (f k) refl
      where
        by_found : (o : Option (Held T)) → f k ≡ o → option_map (on_serial n c) o ≡ g k
        by_found None none = elim (cases_eq k n) [
          | inl at ↦ sym (ap (option_map c) (ap f (sym at) ∙ none)) ∙ here ∙ ap g (sym at)
          | inr other ↦ sym none ∙ same k other
        ]
        by_found (Some h) found =
            let names = keys k h found in
            elim (cases_eq k n) [
              | inl at ↦
                  let yes : (h.serial == n) ≡ true = grind (arith, nat_tests) in
                  rw yes (sym (ap (option_map c) (ap f (sym at) ∙ found)) ∙ here ∙ ap g (sym at))
              | inr other ↦
                  let differs : (h.serial == n) ≡ false = grind (arith, nat_tests) in
                  rw differs (sym found ∙ same k other)
            ]

    -- one value is changed
    pub changed_found : (c : Held T → Held T) (ks : List ℕ) → option_map c (f n) ≡ g n → changed (filter_map f ks) n c ≡ filter_map g ks
    changed_found c ks here = found_mapped (on_serial n c) f ks ∙ by_keys ks
      where
        by_keys : (ks : List ℕ) → filter_map (λ k. option_map (on_serial n c) (f k)) ks ≡ filter_map g ks
        by_keys [] = refl
        by_keys (k ∷ ks) = rw (changed_at c here k, by_keys ks)

    less_at : option_and_then one_less (f n) ≡ g n → (k : ℕ) → option_and_then (less_on n) (f k) ≡ g k
    less_at here k = by_found (f k) refl
      where
        by_found : (o : Option (Held T)) → f k ≡ o → option_and_then (less_on n) o ≡ g k
        by_found None none = elim (cases_eq k n) [
          | inl at ↦ sym (ap (option_and_then one_less) (ap f (sym at) ∙ none)) ∙ here ∙ ap g (sym at)
          | inr other ↦ sym none ∙ same k other
        ]
        by_found (Some h) found =
            let names = keys k h found in
            elim (cases_eq k n) [
              | inl at ↦
                  let yes : (h.serial == n) ≡ true = grind (arith, nat_tests) in
                  rw yes (sym (ap (option_and_then one_less) (ap f (sym at) ∙ found)) ∙ here ∙ ap g (sym at))
              | inr other ↦
                  let differs : (h.serial == n) ≡ false = grind (arith, nat_tests) in
                  rw differs (sym found ∙ same k other)
            ]

    -- one value loses a name
    pub unnamed_found : (ks : List ℕ) → option_and_then one_less (f n) ≡ g n → unnamed (filter_map f ks) n ≡ filter_map g ks
    unnamed_found ks here = found_then (less_on n) f ks ∙ by_keys ks
      where
        by_keys : (ks : List ℕ) → filter_map (λ k. option_and_then (less_on n) (f k)) ks ≡ filter_map g ks
        by_keys [] = refl
        by_keys (k ∷ ks) = rw (less_at here k, by_keys ks)

  -- a search of the list is a search of the slots
  pub held_listed : (s : Slab (Held T)) (next n : ℕ) → IsApart s next → held_at (listed s next) n ≡ at_serial s n
  held_listed s next n apart = find_found (λ h. h.serial) (at_serial s) (keyed s next apart) 0 next n (omega arith) (λ past. none_past s next apart n (omega arith))
