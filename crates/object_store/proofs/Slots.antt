-- What a slab finds under a serial number, before and after a change of one slot.
use Rattle.std.proofs.Common.{◌≡◌, ◌≢◌, ℕ, zero, suc, ◌≤◌, ◌==◌, Bool, true, false, cond, List, [], ◌∷◌, Option, Some, None, find, filter_map, get_or, refl, sym, ap, ◌∙◌, arith}
use Rattle.std.proofs.lemmas.Bool.Decides.{nat_tests}
use Rattle.std.specs.Option.{option_map_or}
use Rattle.slab.specs.Slab.{Slab, get}
use Rattle.object_store.specs.Stock.{Held, has_serial}
use Rattle.object_store.specs.Slots.{at_serial, IsApart}

module _ {T : Type 0} where
  -- whether a slot holds the value, as a fact and as a test
  pub is_at_held : (o : Option (Held T)) (n : ℕ) → option_map_or (has_serial n) o false ≡ true → (h : Held T) × (o ≡ Some h) × (h.serial ≡ n)
  is_at_held None n is = absurd (cc)
  is_at_held (Some h) n is = (h, refl, grind (arith, nat_tests))

  pub not_at : (o : Option (Held T)) (n : ℕ) (h : Held T) → option_map_or (has_serial n) o false ≡ false → o ≡ Some h → h.serial ≢ n
  not_at None n h never is = absurd (cc)
  not_at (Some g) n h never is =
      let same : g ≡ h = cc in
      λ e. let names : g.serial ≡ n = ap (λ x. x.serial) same ∙ e in
      let yes : (g.serial == n) ≡ true = grind (arith, nat_tests) in
      cc

  -- a slot with the serial number, from what is found
  found_slot : (slots : List (Option (Held T))) (n : ℕ) (h : Held T) → find (has_serial n) (filter_map (λ slot. slot) slots) ≡ Some h → (k : ℕ) × (get_or slots k None ≡ Some h) × (h.serial ≡ n)
  found_slot [] n h is = absurd (cc)
  found_slot (None ∷ rest) n h is =
      let later = found_slot rest n h is in
      (suc later.0, later.1, later.2)
  found_slot (Some g ∷ rest) n h is = by_test (found_slot rest n h) (g.serial == n) refl is
    where
      by_test : (find (has_serial n) (filter_map (λ slot. slot) rest) ≡ Some h → (k : ℕ) × (get_or rest k None ≡ Some h) × (h.serial ≡ n)) → (b : Bool) → (g.serial == n) ≡ b → cond b (Some g) (find (has_serial n) (filter_map (λ slot. slot) rest)) ≡ Some h → (k : ℕ) × (get_or (Some g ∷ rest) k None ≡ Some h) × (h.serial ≡ n)
      by_test later true test is =
          let same : g ≡ h = cc in
          let names : g.serial ≡ n = grind (arith, nat_tests) in
          (0, is, sym (ap (λ x. x.serial) same) ∙ names)
      by_test later false test is =
          let there = later is in
          (suc there.0, there.1, there.2)

  -- nothing is found only where no slot has the serial number
  none_found : (slots : List (Option (Held T))) (n : ℕ) → find (has_serial n) (filter_map (λ slot. slot) slots) ≡ None → (k : ℕ) (h : Held T) → get_or slots k None ≡ Some h → h.serial ≢ n
  none_found [] n none k h is = absurd (cc)
  none_found (None ∷ rest) n none zero h is = absurd (cc)
  none_found (None ∷ rest) n none (suc k) h is = none_found rest n none k h is
  none_found (Some g ∷ rest) n none k h is = by_test (none_found rest n) (g.serial == n) refl none k is
    where
      by_test : (find (has_serial n) (filter_map (λ slot. slot) rest) ≡ None → (k : ℕ) (h : Held T) → get_or rest k None ≡ Some h → h.serial ≢ n) → (b : Bool) → (g.serial == n) ≡ b → cond b (Some g) (find (has_serial n) (filter_map (λ slot. slot) rest)) ≡ None → (k : ℕ) → get_or (Some g ∷ rest) k None ≡ Some h → h.serial ≢ n
      by_test later true test none k is = absurd (cc)
      by_test later false test none zero is =
          let same : g ≡ h = cc in
          λ e. let names : g.serial ≡ n = ap (λ x. x.serial) same ∙ e in
          let yes : (g.serial == n) ≡ true = grind (arith, nat_tests) in
          cc
      by_test later false test none (suc k) is = later none k h is

  pub slot_of_found : (s : Slab (Held T)) (n : ℕ) (h : Held T) → at_serial s n ≡ Some h → (k : ℕ) × (get s k ≡ Some h) × (h.serial ≡ n)
  slot_of_found s n h is = found_slot s.slots n h is

  pub no_slot : (s : Slab (Held T)) (n : ℕ) → at_serial s n ≡ None → (k : ℕ) (h : Held T) → get s k ≡ Some h → h.serial ≢ n
  no_slot s n none k h is = none_found s.slots n none k h is

  pub none_from_slots : (s : Slab (Held T)) (n : ℕ) → ((k : ℕ) (h : Held T) → get s k ≡ Some h → h.serial ≢ n) → at_serial s n ≡ None
  none_from_slots s n never = by_found (at_serial s n) refl
    where
      by_found : (o : Option (Held T)) → at_serial s n ≡ o → o ≡ None
      by_found None is = refl
      by_found (Some h) is =
          let there = slot_of_found s n h is in
          absurd (never there.0 h there.1 there.2)

  module _ (s : Slab (Held T)) (next : ℕ) (apart : IsApart s next) where
    -- what a slot holds is found by its serial number
    pub found_by_slot : (k n : ℕ) (h : Held T) → get s k ≡ Some h → h.serial ≡ n → at_serial s n ≡ Some h
    found_by_slot k n h is names = by_found (at_serial s n) refl
      where
        by_found : (o : Option (Held T)) → at_serial s n ≡ o → o ≡ Some h
        by_found None none = absurd (no_slot s n none k h is names)
        by_found (Some g) found =
            let there = slot_of_found s n g found in
            let same : there.0 ≡ k = apart.apart there.0 k g h there.1 is (there.2 ∙ sym names) in
            sym there.1 ∙ ap (get s) same ∙ is

    -- a number not yet given out finds nothing
    pub none_past : (n : ℕ) → next ≤ n → at_serial s n ≡ None
    none_past n past = none_from_slots s n (λ k h is e. let low = apart.below k h is in omega arith)

    pub keyed : (n : ℕ) (h : Held T) → at_serial s n ≡ Some h → h.serial ≡ n
    keyed n h is = (slot_of_found s n h is).2

  -- where the slots hold the same under a serial number, it finds the same
  pub same_found : (old new : Slab (Held T)) (next later : ℕ) → IsApart new later → (n : ℕ) → ((k : ℕ) (h : Held T) → get old k ≡ Some h → h.serial ≡ n → get new k ≡ Some h) → ((k : ℕ) (h : Held T) → get new k ≡ Some h → h.serial ≡ n → get old k ≡ Some h) → at_serial old n ≡ at_serial new n
  same_found old new next later apart n there back = by_found (at_serial old n) refl
    where
      by_found : (o : Option (Held T)) → at_serial old n ≡ o → o ≡ at_serial new n
      by_found None none = sym (none_from_slots new n (λ k h is names. no_slot old n none k h (back k h is names) names))
      by_found (Some h) found =
          let at = slot_of_found old n h found in
          sym (found_by_slot new later apart at.0 n h (there at.0 h at.1 at.2) at.2)
