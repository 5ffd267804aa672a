-- The store's invariant and its list of values, after each kind of change.
use Rattle.std.proofs.Common.{◌≡◌, ◌≢◌, ℕ, zero, suc, ◌+◌, ◌<◌, ◌≤◌, ◌==◌, true, false, cond, [], ◌∷◌, ◌++◌, length, filter_map, Option, Some, None, is_some, refl, sym, ap, ◌∙◌, inl, inr, arith, length-append, subst, IsSome}
use Rattle.std.proofs.lemmas.Bool.{cases_eq}
use Rattle.std.proofs.lemmas.Bool.Decides.{nat_tests}
use Rattle.std.proofs.lemmas.List.{get_or_past}
use Rattle.std.proofs.lemmas.List.Sums.{sum_by-set, sum_by-append, sum_by-cons}
use Rattle.std.specs.List.{range_with_len, cons_option}
use Rattle.std.specs.Option.{option_to_list, option_map, option_and_then, IfSome, IfNone}
use Rattle.slab.specs.Slab.{Slab, get, Updates, slab_len, with_value as with_slot}
use Rattle.object_store.specs.Stock.{Held, held_at, total_names, names_of, changed, one_less, unnamed, value_at, value_of, last_named, IsSoundFrom}
use Rattle.object_store.specs.Slots.{at_serial, is_at, listed, IsApart, IsStock}
use Rattle.object_store.proofs.Found.{found_same, found_more, weight, weight-le-sum, sum_changed, length_changed}
use Rattle.object_store.proofs.Slots.{is_at_held, not_at, found_by_slot, none_from_slots, keyed, slot_of_found}
use Rattle.object_store.proofs.Changes.{put_apart, swap_apart, gone_apart, others_found, changed_found, unnamed_found, held_listed}
use Rattle.slab.proofs.SlabLemmas.{Updates-with_value}

module _ {T : Type 0} where
  -- a write through a slot's reference leaves as many values
  pub slab_len-with_slot : (s : Slab (Held T)) (key : ℕ) (g h : Held T) → get s key ≡ Some h → slab_len (with_slot s key g) ≡ slab_len s
  slab_len-with_slot s key g h is =
      let within : key < length s.slots = grind (arith, get_or_past) in
      let counts = sum_by-set (λ o. cond (is_some o) 1 0) s.slots key (Some g) None within in
      let one : ℕ = 1 in
      let was : cond (is_some (get s key)) 1 0 ≡ one = ap (λ o. cond (is_some o) 1 0) is in
      omega (arith, counts, was)

  -- what the store's search for a slot tells
  pub serial_here : (s : Slab (Held T)) (slot n : ℕ) (h : Held T) → is_at s slot n ≡ true → get s slot ≡ Some h → h.serial ≡ n
  serial_here s slot n h at is =
      let there = is_at_held (get s slot) n at in
      let same : Some there.0 ≡ Some h = sym there.1 ∙ is in
      let e : there.0 ≡ h = cc in
      sym (ap (λ x. x.serial) e) ∙ there.2

  pub some_here : (s : Slab (Held T)) (slot n : ℕ) → is_at s slot n ≡ true → get s slot ≡ None → ⊥
  some_here s slot n at none =
      let there = is_at_held (get s slot) n at in
      let same : Some there.0 ≡ None = sym there.1 ∙ none in
      cc

  pub found_here : (s : Slab (Held T)) (next slot n : ℕ) → IsApart s next → is_at s slot n ≡ true → get s slot ≡ at_serial s n
  found_here s next slot n apart at =
      let there = is_at_held (get s slot) n at in
      there.1 ∙ sym (found_by_slot s next apart slot n there.0 there.1 there.2)

  pub none_here : (s : Slab (Held T)) (n : ℕ) → ((slot : ℕ) → is_at s slot n ≡ false) → at_serial s n ≡ None
  none_here s n nowhere = none_from_slots s n (λ k h is. not_at (get s k) n h (nowhere k) is)

  pub names-le-total : (s : Slab (Held T)) (next total slot : ℕ) (h : Held T) → IsStock s next total → get s slot ≡ Some h → (1 ≤ h.names) × (h.names ≤ total)
  names-le-total s next total slot h stock is =
      let low = stock.slots.below slot h is in
      let one = stock.slots.named slot h is in
      let there = found_by_slot s next stock.slots slot h.serial h is refl in
      let most = weight-le-sum names_of (at_serial s) 0 next h.serial (omega arith) (omega arith) in
      let own = ap (weight names_of) there in
      let summed = stock.summed in
      (one, omega arith)

  module _ (old new : Slab (Held T)) (key next total : ℕ) (stock : IsStock old next total) where
    -- a value is put in
    module _ (h : Held T) (names : h.serial ≡ next) (one : h.names ≡ 1) (updates : Updates old new key (Some h)) (vacant : get old key ≡ None) where
      put_slots : IsApart new (next + 1)
      put_slots = put_apart old new key next h stock.slots names (omega arith) updates

      pub put_listed : listed new (next + 1) ≡ listed old next ++ h ∷ []
      put_listed =
          let others = others_found old new key (next + 1) (Some h) next put_slots updates (λ x is. absurd (cc)) (λ x is. let same : h ≡ x = cc in sym (ap (λ y. y.serial) same) ∙ names) in
          let last : at_serial new next ≡ Some h = found_by_slot new (next + 1) put_slots key next h updates.changed names in
          let before = found_same (at_serial old) (at_serial new) 0 next (λ k low high. others k (λ e. omega arith)) in
          let more = found_more (at_serial new) 0 next next (omega arith) in
          more ∙ ap (λ l. l ++ option_to_list (at_serial new next)) (sym before) ∙ ap (λ o. listed old next ++ option_to_list o) last

      pub put_stock : slab_len new ≡ slab_len old + 1 → IsStock new (next + 1) (total + 1)
      put_stock len =
          let counts = ap length put_listed ∙ length-append (listed old next) (h ∷ []) in
          let sums = ap total_names put_listed ∙ sum_by-append names_of (listed old next) (h ∷ []) in
          let last = sum_by-cons names_of h [] in
          let counted = stock.counted in
          let summed = stock.summed in
          record { slots = put_slots; counted = omega arith; summed = omega arith }

    -- a value is changed in its slot, and keeps its serial number
    module _ (h g : Held T) (was : get old key ≡ Some h) (names : g.serial ≡ h.serial) (named : 1 ≤ g.names) (updates : Updates old new key (Some g)) where
      swap_slots : IsApart new next
      swap_slots = swap_apart old new key next h g stock.slots was names named updates

      others : (k : ℕ) → k ≢ h.serial → at_serial old k ≡ at_serial new k
      others = others_found old new key next (Some g) h.serial swap_slots updates
          (λ x is. let same : h ≡ x = cc in ap (λ y. y.serial) (sym same))
          (λ x is. let same : g ≡ x = cc in ap (λ y. y.serial) (sym same) ∙ names)

      old_here : at_serial old h.serial ≡ Some h
      old_here = found_by_slot old next stock.slots key h.serial h was refl

      new_here : at_serial new h.serial ≡ Some g
      new_here = found_by_slot new next swap_slots key h.serial g updates.changed names

      pub swap_listed : (c : Held T → Held T) → c h ≡ g → changed (listed old next) h.serial c ≡ listed new next
      swap_listed c is = changed_found (at_serial old) (at_serial new) (keyed old next stock.slots) h.serial others c (range_with_len 0 next) (ap (option_map c) old_here ∙ ap (λ x. Some x) is ∙ sym new_here)

      pub less_listed : one_less h ≡ Some g → unnamed (listed old next) h.serial ≡ listed new next
      less_listed is = unnamed_found (at_serial old) (at_serial new) (keyed old next stock.slots) h.serial others (range_with_len 0 next) (ap (option_and_then one_less) old_here ∙ is ∙ sym new_here)

      pub swap_stock : (sum : ℕ) → slab_len new ≡ slab_len old → sum + h.names ≡ total + g.names → IsStock new next sum
      swap_stock sum len balance =
          let low = stock.slots.below key h was in
          let counts = length_changed (at_serial old) (at_serial new) 0 next h.serial (omega arith) (omega arith) others in
          let sums = sum_changed names_of (at_serial old) (at_serial new) 0 next h.serial (omega arith) (omega arith) others in
          let one = ap (weight (λ _. 1)) old_here in
          let other = ap (weight (λ _. 1)) new_here in
          let first = ap (weight names_of) old_here in
          let second = ap (weight names_of) new_here in
          let counted = stock.counted in
          let summed = stock.summed in
          record { slots = swap_slots; counted = omega arith; summed = omega arith }

    -- a value is taken out of its slot
    module _ (h : Held T) (was : get old key ≡ Some h) (updates : Updates old new key None) where
      gone_slots : IsApart new next
      gone_slots = gone_apart old new key next stock.slots updates

      rest : (k : ℕ) → k ≢ h.serial → at_serial old k ≡ at_serial new k
      rest = others_found old new key next None h.serial gone_slots updates
          (λ x is. let same : h ≡ x = cc in ap (λ y. y.serial) (sym same))
          (λ x is. absurd (cc))

      taken : at_serial old h.serial ≡ Some h
      taken = found_by_slot old next stock.slots key h.serial h was refl

      absent : at_serial new h.serial ≡ None
      absent = none_from_slots new h.serial (λ k x is names. elim (cases_eq k key) [
        | inl same ↦ let none : Some x ≡ None = sym is ∙ ap (get new) same ∙ updates.changed in absurd (cc)
        | inr other ↦ other (stock.slots.apart k key x h (sym (updates.others k other) ∙ is) was names)
      ])

      pub gone_listed : h.names ≡ 1 → unnamed (listed old next) h.serial ≡ listed new next
      gone_listed one =
          let last : (h.names == 1) ≡ true = grind (arith, nat_tests) in
          let none : one_less h ≡ None = rw last refl in
          unnamed_found (at_serial old) (at_serial new) (keyed old next stock.slots) h.serial rest (range_with_len 0 next) (ap (option_and_then one_less) taken ∙ none ∙ sym absent)

      pub gone_stock : (sum : ℕ) → slab_len new + 1 ≡ slab_len old → sum + h.names ≡ total → IsStock new next sum
      gone_stock sum len balance =
          let low = stock.slots.below key h was in
          let counts = length_changed (at_serial old) (at_serial new) 0 next h.serial (omega arith) (omega arith) rest in
          let sums = sum_changed names_of (at_serial old) (at_serial new) 0 next h.serial (omega arith) (omega arith) rest in
          let one = ap (weight (λ _. 1)) taken in
          let other = ap (weight (λ _. 1)) absent in
          let first = ap (weight names_of) taken in
          let second = ap (weight names_of) absent in
          let counted = stock.counted in
          let summed = stock.summed in
          record { slots = gone_slots; counted = omega arith; summed = omega arith }

  -- a serial number that is not there changes nothing
  module _ (s : Slab (Held T)) (next n : ℕ) (apart : IsApart s next) (none : at_serial s n ≡ None) where
    pub absent_changed : (c : Held T → Held T) → changed (listed s next) n c ≡ listed s next
    absent_changed c = changed_found (at_serial s) (at_serial s) (keyed s next apart) n (λ k other. refl) c (range_with_len 0 next) (ap (option_map c) none ∙ sym none)

    pub absent_unnamed : unnamed (listed s next) n ≡ listed s next
    absent_unnamed = unnamed_found (at_serial s) (at_serial s) (keyed s next apart) n (λ k other. refl) (range_with_len 0 next) (ap (option_and_then one_less) none ∙ sym none)

  -- the list is sound, since each slot is
  pub listed_sound : (s : Slab (Held T)) (next : ℕ) → IsApart s next → IsSoundFrom 0 (listed s next) next
  listed_sound s next apart = from 0 0 next (omega arith)
    where
      from : (low a n : ℕ) → low ≤ a → IsSoundFrom low (filter_map (at_serial s) (range_with_len a n)) next
      from low a zero below = tt
      from low a (suc n) below = first (from low (a + 1) n (omega arith)) (from (a + 1) (a + 1) n (omega arith)) (at_serial s a) refl
        where
          first : IsSoundFrom low (filter_map (at_serial s) (range_with_len (a + 1) n)) next → IsSoundFrom (a + 1) (filter_map (at_serial s) (range_with_len (a + 1) n)) next → (o : Option (Held T)) → at_serial s a ≡ o → IsSoundFrom low (cons_option o (filter_map (at_serial s) (range_with_len (a + 1) n))) next
          first same later None is = same
          first same later (Some h) is =
              let there = slot_of_found s a h is in
              let under = apart.below there.0 h there.1 in
              let named = apart.named there.0 h there.1 in
              let P : ℕ → Type 0 = λ k. IsSoundFrom (k + 1) (filter_map (at_serial s) (range_with_len (a + 1) n)) next in
              let names = there.2 in
              (omega arith, under, named, subst P (sym names) later)

  -- the value that goes with its last name
  pub last_of : (h : Held T) → h.names ≡ 1 → option_and_then last_named (Some h) ≡ Some h.value
  last_of h one = let last : (h.names == 1) ≡ true = grind (arith, nat_tests) in rw last refl

  pub not_last_of : (h : Held T) → h.names ≢ 1 → option_and_then last_named (Some h) ≡ None
  not_last_of h more = let last : (h.names == 1) ≡ false = grind (arith, nat_tests) in rw last refl

  -- whether it goes, from what comes back
  pub goes : (h : Held T) (value : T) → option_and_then last_named (Some h) ≡ Some value → h.names ≡ 1
  goes h value back = elim (cases_eq h.names 1) [
    | inl one ↦ one
    | inr more ↦ let none : Some value ≡ None = sym back ∙ not_last_of h more in absurd (cc none)
  ]

  pub stays : (h : Held T) → option_and_then last_named (Some h) ≡ None → h.names ≢ 1
  stays h none = λ one. let both : Some h.value ≡ None = sym (last_of h one) ∙ none in cc both

  -- the store found the slot of a number
  module _ (s : Slab (Held T)) (next total slot n : ℕ) (stock : IsStock s next total) (at : is_at s slot n ≡ true) where
    pub some_found : is_some (held_at (listed s next) n) ≡ true
    some_found =
        let there = is_at_held (get s slot) n at in
        ap is_some (held_listed s next n stock.slots ∙ sym (found_here s next slot n stock.slots at) ∙ there.1)

    module _ (h : Held T) (was : get s slot ≡ Some h) where
      pub held_here : held_at (listed s next) n ≡ Some h
      held_here = held_listed s next n stock.slots ∙ sym (found_here s next slot n stock.slots at) ∙ was

      pub value_here : value_at (listed s next) n ≡ Some h.value
      value_here = ap (option_map value_of) held_here

      -- it is taken out
      pub gone_here : (new : Slab (Held T)) → h.names ≡ 1 → Updates s new slot None → listed new next ≡ unnamed (listed s next) n
      gone_here new one updates = sym (rw (serial_here s slot n h at was) at (gone_listed s new slot next total stock h was updates one))

      -- it is written in its slot
      module _ (g : Held T) (names : g.serial ≡ h.serial) (named : 1 ≤ g.names) where
        write_updates : Updates s (with_slot s slot g) slot (Some g)
        write_updates = Updates-with_value s slot g (rw was refl)

        pub write_stock : (sum : ℕ) → sum + h.names ≡ total + g.names → IsStock (with_slot s slot g) next sum
        write_stock sum balance = swap_stock s (with_slot s slot g) slot next total stock h g was names named write_updates sum (slab_len-with_slot s slot g h was) balance

        pub write_changed : (c : Held T → Held T) → c h ≡ g → listed (with_slot s slot g) next ≡ changed (listed s next) n c
        write_changed c is = sym (rw (serial_here s slot n h at was) at (swap_listed s (with_slot s slot g) slot next total stock h g was names named write_updates c is))

        pub write_less : one_less h ≡ Some g → listed (with_slot s slot g) next ≡ unnamed (listed s next) n
        write_less is = sym (rw (serial_here s slot n h at was) at (less_listed s (with_slot s slot g) slot next total stock h g was names named write_updates is))

-- what a search answered, from its two clauses
pub some_since : (r : Option ℕ) (P : Type 0) → IfNone r P → (P → ⊥) → IsSome r
some_since None P h never = absurd (never h)
some_since (Some x) P h never = refl

pub since_some : {X : Type 0} (r : Option X) (P : X → Type 0) (x : X) → r ≡ Some x → IfSome r P → P x
since_some None P x is h = absurd (cc)
since_some (Some y) P x is h = let same : y ≡ x = cc in subst P same h
