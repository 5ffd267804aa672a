-- A table's list of entries and its invariant, after each call.
use Rattle.std.proofs.Common.{◌≡◌, ℕ, ◌+◌, ◌-◌, ◌*◌, ◌%◌, ◌^◌, ◌<◌, ◌≤◌, true, false, not, List, [], ◌∷◌, length, filter_map, get_or, set, Option, Some, None, is_some, bit_and, bit_or, refl, sym, ap, ◌∙◌, inl, inr, arith, length-set, subst, lit<}
use Rattle.std.proofs.lemmas.Bool.{cases_lt}
use Rattle.std.proofs.lemmas.Bool.Decides.{nat_tests}
use Rattle.std.specs.Int.{bit_at, bit_not, w64, trailing_ones}
use Rattle.std.specs.List.{range_with_len}
use Rattle.std.specs.Option.{option_map, unwrap_or, IfSome, IfNone}
use Rattle.std.proofs.lemmas.Nat.{or_lt, and_le_l}
use Rattle.std.proofs.lemmas.Nat.Bits.{bit_at-trailing_ones, bit_at_ones, bit_at-zero}
use Rattle.kernel_values.specs.declared.state.TableEntry.{TableEntry}
use Rattle.object_store.proofs.Found.{find_found, length_changed, weight}
use Rattle.handle_table.specs.declared.table.Slot.{Slot}
use Rattle.handle_table.specs.Tables.{entry_at, is_free, free_handle, with_entry, without, with_cookie, is_after, handle_of, next_handle, IsTableFrom}
use Rattle.handle_table.specs.Places.{slot_entry, place_entry, entries, IsTable, IsAfter, IsNextBit, HasNoNextBit}
use Rattle.handle_table.proofs.Lists.{cookie_set, find_first, free_found, found_rises, cookie_absent, with_found, without_found, cookie_found, find_next, find_none, found_length, found_all}
use Rattle.handle_table.proofs.Bits.{place_keyed, place_past, place_set, place_clear, come_here, come_other, gone_here, gone_other, write_here, write_other}

module _ (used : ℕ) (places : List Slot) (len : ℕ) (table : IsTable used places len) where
  pub past : (n : ℕ) → 64 ≤ n → place_entry used places n ≡ None
  past n high = place_past used places n (omega (arith, table.size))

  -- looking up a number is looking at its place
  pub entry_found : (n : ℕ) → entry_at (entries used places) n ≡ place_entry used places n
  unfolding entries
  entry_found n = find_found (λ e. e.handle) (place_entry used places) (place_keyed used places) 0 64 n (omega arith) (λ high. past n (omega arith))

  pub len_le : len ≤ 64
  unfolding entries
  len_le = let most = found_length (place_entry used places) 0 64 in omega (arith, most, table.counted)

  pub rises : IsTableFrom 0 (entries used places)
  unfolding entries
  rises = found_rises (place_entry used places) (place_keyed used places) 0 0 64 (omega arith) (omega arith)

  -- all 64 places are taken only where all bits are set
  pub not_all : len < 64 → used + 1 < 2 ^ 64
  unfolding entries
  not_all room = elim (cases_lt (used + 1) (2 ^ 64)) [
    | inl low ↦ low
    | inr high ↦
        let fits = table.bits in
        let all : used ≡ 2 ^ 64 - 1 = omega arith in
        let size = table.size in
        let whole = found_all (place_entry used places) 0 64 (λ k below.
        let low : k < 64 = omega arith in
        let d : Slot = record { key = record { slot = 0; serial = 0 }; cookie = 0 } in
        ap is_some (place_set used places k d (omega arith) (ap (λ u. bit_at u k) all ∙ bit_at_ones 64 k low))) in
        let counted = table.counted in
        absurd (omega arith)
  ]

  -- the least number whose bit is not set is the least free one
  pub free_is : len < 64 → trailing_ones w64 used ≡ free_handle (entries used places)
  unfolding entries free_handle
  free_is room =
      let first = bit_at-trailing_ones w64 used (not_all room) in
      let n = trailing_ones w64 used in
      let clear : place_entry used places (trailing_ones w64 used) ≡ None = place_clear used places (trailing_ones w64 used) first.1 in
      let size = table.size in
      let d : Slot = record { key = record { slot = 0; serial = 0 }; cookie = 0 } in
      let is = find_first (is_free (filter_map (place_entry used places) (range_with_len 0 64))) 0 64 (trailing_ones w64 used) (omega arith) (omega (arith, first.0))
      (λ k below.
      let bit = first.2 k below in
      let within : k < length places = omega (arith, first.0) in
      free_found (place_entry used places) (place_keyed used places) 64 k (past k) ∙ ap (λ o. not (is_some o)) (place_set used places k d within bit))
      (free_found (place_entry used places) (place_keyed used places) 64 (trailing_ones w64 used) (past (trailing_ones w64 used)) ∙ ap (λ o. not (is_some o)) clear) in
      sym (ap (λ o. unwrap_or o 0) is)

  -- a number comes into use
  module _ (n : ℕ) (within : n < 64) (bit : bit_at used n ≡ 0) (x : Slot) where
    pub come_is : entries (bit_or used (1 * 2 ^ n % 2 ^ 64)) (set places n x) ≡ with_entry (entries used places) (slot_entry n x)
    unfolding entries
    come_is = sym (with_found (place_entry used places) (place_keyed used places) (place_entry (bit_or used (1 * 2 ^ n % 2 ^ 64)) (set places n x)) n (come_other used places table.size n within x) (slot_entry n x) refl 0 64 (omega arith) (omega arith) (place_clear used places n bit) (come_here used places table.size n within x))

    pub come_table : IsTable (bit_or used (1 * 2 ^ n % 2 ^ 64)) (set places n x) (len + 1)
    unfolding entries
    come_table =
        let counts = length_changed (place_entry used places) (place_entry (bit_or used (1 * 2 ^ n % 2 ^ 64)) (set places n x)) 0 64 n (omega arith) (omega arith) (come_other used places table.size n within x) in
        let old = ap (weight (λ _. 1)) (place_clear used places n bit) in
        let new = ap (weight (λ _. 1)) (come_here used places table.size n within x) in
        let counted = table.counted in
        record {
          bits = or_lt 64 used (1 * 2 ^ n % 2 ^ 64) table.bits (omega arith);
          size = length-set places n x ∙ table.size;
          counted = omega arith;
        }

  -- a number in use
  module _ (n : ℕ) (within : n < 64) (bit : bit_at used n ≡ 1) where
    pub set_is : (d : Slot) → place_entry used places n ≡ Some (slot_entry n (get_or places n d))
    set_is d = place_set used places n d (omega (arith, table.size)) bit

    -- goes out of use
    pub gone_is : entries (bit_and used (bit_not w64 (1 * 2 ^ n % 2 ^ 64))) places ≡ without (entries used places) n
    unfolding entries
    gone_is = sym (without_found (place_entry used places) (place_keyed used places) (place_entry (bit_and used (bit_not w64 (1 * 2 ^ n % 2 ^ 64))) places) n (gone_other used places table.size n within) (range_with_len 0 64) (gone_here used places table.size n within))

    gone_counts : (d : Slot) → length (entries (bit_and used (bit_not w64 (1 * 2 ^ n % 2 ^ 64))) places) + 1 ≡ length (entries used places)
    unfolding entries
    gone_counts d =
        let counts = length_changed (place_entry used places) (place_entry (bit_and used (bit_not w64 (1 * 2 ^ n % 2 ^ 64))) places) 0 64 n (omega arith) (omega arith) (gone_other used places table.size n within) in
        let old = ap (weight (λ _. 1)) (set_is d) in
        let new = ap (weight (λ _. 1)) (gone_here used places table.size n within) in
        omega arith

    pub len_pos : 1 ≤ len
    len_pos =
        let d : Slot = record { key = record { slot = 0; serial = 0 }; cookie = 0 } in
        omega (arith, gone_counts d, table.counted)

    pub gone_table : IsTable (bit_and used (bit_not w64 (1 * 2 ^ n % 2 ^ 64))) places (len - 1)
    gone_table =
        let d : Slot = record { key = record { slot = 0; serial = 0 }; cookie = 0 } in
        let low = and_le_l used (bit_not w64 (1 * 2 ^ n % 2 ^ 64)) in
        let fits = table.bits in
        record {
          bits = omega arith;
          size = table.size;
          counted = omega (arith, gone_counts d, table.counted);
        }

    -- gets another cookie
    module _ (d x : Slot) (c : ℕ) (is : slot_entry n x ≡ cookie_set c (slot_entry n (get_or places n d))) where
      pub write_is : entries used (set places n x) ≡ with_cookie (entries used places) n c
      unfolding entries
      write_is = sym (cookie_found (place_entry used places) (place_keyed used places) (place_entry used (set places n x)) n (write_other used places table.size n within x) c 0 64 (slot_entry n (get_or places n d)) (omega arith) (omega arith) (set_is d) (write_here used places table.size n within x bit ∙ ap (λ e. Some e) is))

      pub write_table : IsTable used (set places n x) len
      unfolding entries
      write_table =
          let counts = length_changed (place_entry used places) (place_entry used (set places n x)) 0 64 n (omega arith) (omega arith) (write_other used places table.size n within x) in
          let old = ap (weight (λ _. 1)) (set_is d) in
          let new = ap (weight (λ _. 1)) (write_here used places table.size n within x bit) in
          let counted = table.counted in
          record {
            bits = table.bits;
            size = length-set places n x ∙ table.size;
            counted = omega arith;
          }

  -- a number not in use
  module _ (n : ℕ) (bit : bit_at used n ≡ 0) where
    clear_is : place_entry used places n ≡ None
    clear_is = place_clear used places n bit

    pub absent_is : entry_at (entries used places) n ≡ None
    absent_is = entry_found n ∙ clear_is

    pub absent_gone : without (entries used places) n ≡ entries used places
    unfolding entries
    absent_gone = without_found (place_entry used places) (place_keyed used places) (place_entry used places) n (λ k differs. refl) (range_with_len 0 64) clear_is

    pub absent_cookie : (c : ℕ) → with_cookie (entries used places) n c ≡ entries used places
    unfolding entries
    absent_cookie c = cookie_absent (place_entry used places) (place_keyed used places) n c (range_with_len 0 64) clear_is

  after_true : (after : Option ℕ) (e : TableEntry) → IsAfter after e.handle → is_after after e ≡ true
  after_true None e is = refl
  after_true (Some h) e is = grind (arith, nat_tests)

  after_false : (after : Option ℕ) (e : TableEntry) → (IsAfter after e.handle → ⊥) → is_after after e ≡ false
  after_false None e never = absurd (never tt)
  after_false (Some h) e never = elim (cases_lt h e.handle) [
    | inl low ↦ absurd (never low)
    | inr high ↦ grind (arith, nat_tests)
  ]

  -- the next number in use
  pub next_is : (after : Option ℕ) (n : ℕ) → IsNextBit used after n → next_handle (entries used places) after ≡ Some n
  unfolding entries
  next_is after n next =
      let d : Slot = record { key = record { slot = 0; serial = 0 }; cookie = 0 } in
      ap (option_map handle_of) (find_next (is_after after) (place_entry used places) 0 64 n (slot_entry n (get_or places n d)) (omega arith) (omega (arith, next.within)) (set_is n next.within next.set d) (after_true after (slot_entry n (get_or places n d)) next.above)
      (λ k y below found.
      let names = place_keyed used places k y found in
      after_false after y (λ is.
      let P : ℕ → Type 0 = λ h. IsAfter after h in
      let none = place_clear used places k (next.least k below (subst P names is)) in
      let both : Some y ≡ None = sym found ∙ none in
      cc)))

  pub no_next : (after : Option ℕ) → HasNoNextBit used after → next_handle (entries used places) after ≡ None
  unfolding entries
  no_next after none =
      ap (option_map handle_of) (find_none (is_after after) (place_entry used places) (range_with_len 0 64)
      (λ k y found.
      let names = place_keyed used places k y found in
      after_false after y (λ is.
      let P : ℕ → Type 0 = λ h. IsAfter after h in
      elim (cases_lt k 64) [
        | inl low ↦
            let clear = place_clear used places k (none k low (subst P names is)) in
            let both : Some y ≡ None = sym found ∙ clear in
            cc
        | inr high ↦ let both : Some y ≡ None = sym found ∙ past k high in cc
      ])))

-- an answer that is the next bit, or tells that there is none
pub next_answer : (used : ℕ) (places : List Slot) (len : ℕ) → IsTable used places len → (after : Option ℕ) (r : Option ℕ) → IfSome r (λ n. IsNextBit used after n) → IfNone r (HasNoNextBit used after) → r ≡ next_handle (entries used places) after
next_answer used places len table after None some none = sym (no_next used places len table after none)
next_answer used places len table after (Some n) some none = sym (next_is used places len table after n some)

-- with no bit set there are no entries
none_found : (f : ℕ → Option TableEntry) (ks : List ℕ) → ((k : ℕ) → f k ≡ None) → filter_map f ks ≡ []
none_found f [] none = refl
none_found f (k ∷ ks) none = rw (none k) (none_found f ks none)

pub empty_is : (places : List Slot) → entries 0 places ≡ []
unfolding entries
empty_is places = none_found (place_entry 0 places) (range_with_len 0 64) (λ k. place_clear 0 places k (bit_at-zero k))

pub empty_table : (places : List Slot) → length places ≡ 64 → IsTable 0 places 0
empty_table places size = record { bits = lit< tt; size = size; counted = sym (ap length (empty_is places)) }
