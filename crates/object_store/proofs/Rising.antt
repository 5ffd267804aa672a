-- The order of serial numbers: what a search tells, what each change of it keeps, and that it stays that
-- of the slots.
use Rattle.std.proofs.Common.{◌≡◌, ◌≢◌, ℕ, suc, ◌+◌, ◌<◌, ◌≤◌, ◌==◌, Bool, true, false, List, [], ◌∷◌, ◌++◌, length, Option, Some, None, Result, Ok, Err, IfOk, IfErr, length-append, refl, sym, ap, ◌∙◌, inl, inr, arith}
use Rattle.std.specs.List.{remove}
use Rattle.std.specs.List.Sorted.{IsSearchInRange, IsBinarySearchResult, IsNonDecreasingBy}
use Rattle.std.specs.Ordering.{nat_cmp, ordering_index}
use Rattle.std.specs.Option.{option_map_or}
use Rattle.std.proofs.lemmas.Bool.{cases_eq, cases_lt}
use Rattle.std.proofs.lemmas.Bool.Decides.{nat_tests}
use Rattle.std.proofs.lemmas.Cmp.{ranked}
use Rattle.std.proofs.lemmas.List.{get_or_default}
use Rattle.std.proofs.lemmas.List.Edits.{length-remove, get_or-remove_below, get_or-remove_above}
use Rattle.std.proofs.lemmas.List.Quantifiers.{all_pairs_push, all_pairs_remove}
use Rattle.std.proofs.lemmas.List.Sorted.{IsNonDecreasingBy-from_default}
use Rattle.std.proofs.lemmas.List.Sums.{sum_by-append, sum_by-cons, sum_by-remove, get_or-le-sum_by}
use Rattle.slab.specs.Slab.{Slab, Updates, get, slab_len, with_value as with_slot}
use Rattle.slab.proofs.SlabLemmas.{Updates-with_value}
use Rattle.object_store.specs.Stock.{Held, has_serial}
use Rattle.object_store.specs.Slots.{IsApart, is_at, once}
use Rattle.object_store.specs.Rising.{AllUnder, Entry, HasNone, IsBefore, IsOrder, IsPlaceWith, IsWithout, Rises, SerialOrder, entry_at, is_entry, times_with}
use Rattle.object_store.proofs.Slots.{is_at_held}
use Rattle.object_store.proofs.Stock.{slab_len-with_slot}

-- one entry, as a test
pub entry_once : (e : Entry) (serial slot : ℕ) → e.0 ≡ serial → e.1 ≡ slot → once (is_entry serial slot e) ≡ 1
entry_once e serial slot first second = let yes : is_entry serial slot e ≡ true = grind (arith, nat_tests) in ap once yes

pub entry_other : (e : Entry) (serial slot : ℕ) → e.0 ≢ serial → once (is_entry serial slot e) ≡ 0
entry_other e serial slot differs = let no : is_entry serial slot e ≡ false = grind (arith, nat_tests) in ap once no

pub slot_other : (e : Entry) (serial slot : ℕ) → e.1 ≢ slot → once (is_entry serial slot e) ≡ 0
slot_other e serial slot differs = let no : is_entry serial slot e ≡ false = grind (arith, nat_tests) in ap once no

first_with : (e : Entry) (es : List Entry) (serial slot : ℕ) → times_with (e ∷ es) serial slot ≡ once (is_entry serial slot e) + times_with es serial slot
first_with e es serial slot = sum_by-cons (λ x. once (is_entry serial slot x)) e es

pushed_with : (es : List Entry) (e : Entry) (serial slot : ℕ) → times_with (es ++ e ∷ []) serial slot ≡ times_with es serial slot + once (is_entry serial slot e)
pushed_with es e serial slot =
    let f : Entry → ℕ = λ x. once (is_entry serial slot x) in
    let more = sum_by-append f es (e ∷ []) in
    let last = sum_by-cons f e [] in
    omega (arith, more, last)

-- a serial number that no place has is there with no slot
pub none_with : (es : List Entry) (serial slot : ℕ) → HasNone serial es → times_with es serial slot ≡ 0
none_with [] serial slot never = refl
none_with (e ∷ es) serial slot never =
    let rest = none_with es serial slot (λ place within. never (suc place) (omega arith)) in
    let here = entry_other e serial slot (never 0 (omega arith)) in
    let first = first_with e es serial slot in
    omega (arith, rest, here, first)

-- what a place has is there
pub place_with : (es : List Entry) (serial place : ℕ) → IsPlaceWith serial es place → 1 ≤ times_with es serial (entry_at es place).1
place_with es serial place at =
    let slot = (entry_at es place).1 in
    let f : Entry → ℕ = λ x. once (is_entry serial slot x) in
    let here = entry_once (entry_at es place) serial slot at.is refl in
    let most = get_or-le-sum_by f es place (0, 0) at.within in
    omega (arith, here, most)

module _ (es : List Entry) (rises : Rises es) (serial : ℕ) where
  -- the comparisons rise along the list, as a binary search asks
  comparisons_rise : IsNonDecreasingBy (λ e. ordering_index (nat_cmp e.0 serial)) es
  comparisons_rise = IsNonDecreasingBy-from_default (λ e. ordering_index (nat_cmp e.0 serial)) es (0, 0) (λ i j le within.
      let keys_rise : (entry_at es i).0 ≤ (entry_at es j).0 = grind (arith, rises i j (0, 0), λ (same : i ≡ j). ap (λ k. (entry_at es k).0) same) in
      grind (arith, nat_tests))

  -- a binary search ends at the serial number, or there is none
  pub searched : (r : Result ℕ ℕ) → IsSearchInRange r (length es) → IsBinarySearchResult (λ e. nat_cmp e.0 serial) es r → record { found : IfOk r (IsPlaceWith serial es); absent : IfErr r (λ _. HasNone serial es) }
  searched (Ok at) within equal = record { found = record { within = within; is = ranked _ serial _ (sym (equal (0, 0))) }; absent = tt }
  searched (Err at) within parted = record {
    found = tt;
    absent = λ place inside same. elim (cases_lt place at) [
      | inl below ↦ let lower : (entry_at es place).0 < serial = ranked _ serial _ (sym ((parted comparisons_rise).0 place (0, 0) (omega arith) below)) in omega (arith, lower, same)
      | inr above ↦ let higher : serial < (entry_at es place).0 = ranked _ serial _ (sym ((parted comparisons_rise).1 place (0, 0) above inside)) in omega (arith, higher, same)
    ];
  }

  -- behind the greatest
  pub rises_pushed : (slot : ℕ) → AllUnder serial es → Rises (es ++ (serial, slot) ∷ [])
  rises_pushed slot under = all_pairs_push IsBefore es (serial, slot) rises under

  -- one is taken out
  module _ (place : ℕ) (at : IsPlaceWith serial es place) where
    pub rises_removed : Rises (remove es place)
    rises_removed = all_pairs_remove IsBefore es place at.within rises

    none_left : HasNone serial (remove es place)
    none_left k within same =
        let long = length-remove es place at.within in
        let key : Entry → ℕ = λ e. e.0 in
        let here = at.is in
        elim (cases_lt k place) [
          | inl below ↦
              let is = ap key (get_or-remove_below es place (0, 0) k below at.within) in
              let low = rises k place (0, 0) below at.within in
              omega (arith, is, low, here, same)
          | inr above ↦
              let is = ap key (get_or-remove_above es place (0, 0) k above at.within) in
              let high = rises place (k + 1) (0, 0) (omega (arith, above)) (omega (arith, long, within)) in
              omega (arith, is, high, here, same)
        ]

    pub removed : IsWithout serial es (remove es place)
    removed = record {
      others = λ other slot differs.
          let f : Entry → ℕ = λ x. once (is_entry other slot x) in
          let less = sum_by-remove f es place (0, 0) at.within in
          let none = entry_other (entry_at es place) other slot (λ e. differs (sym e ∙ at.is)) in
          omega (arith, less, none);
      gone = λ slot. none_with (remove es place) serial slot none_left;
      len = λ slot there. length-remove es place at.within;
    }

-- nothing is taken out where it is not there
pub absent_removed : (es : List Entry) (serial : ℕ) → HasNone serial es → IsWithout serial es es
absent_removed es serial never = record {
  others = λ other slot differs. refl;
  gone = λ slot. none_with es serial slot never;
  len = λ slot there. let none = none_with es serial slot never in absurd (omega (arith, there, none));
}

once_true : (b : Bool) → 1 ≤ once b → b ≡ true
once_true true low = refl
once_true false low = absurd (omega arith)

once_false : (b : Bool) → once b ≡ 0 → b ≡ false
once_false true none = absurd (omega arith)
once_false false none = refl

-- an entry with the slot has the serial number or not
entry_in_slot : (serial slot n k : ℕ) → slot ≡ k → is_entry n k (serial, slot) ≡ (serial == n)
entry_in_slot serial slot n k same = grind (arith, nat_tests)

module _ {T : Type 0} (s : Slab (Held T)) (o : SerialOrder) (order : IsOrder s o) where
  -- what the order has, the slot has
  pub order_found : (serial slot : ℕ) → 1 ≤ times_with o.entries serial slot → is_at s slot serial ≡ true
  order_found serial slot low = let e = order.each serial slot in once_true _ (omega (arith, low, e))

  -- what it has not, no slot has
  pub order_absent : (serial : ℕ) → ((slot : ℕ) → times_with o.entries serial slot ≡ 0) → (slot : ℕ) → is_at s slot serial ≡ false
  order_absent serial none slot = once_false _ (sym (order.each serial slot) ∙ none slot)

  -- the next serial number is greater than all
  pub order_under : (next : ℕ) → IsApart s next → AllUnder next o.entries
  order_under next apart k d within =
      let e = entry_at o.entries k in
      let is = get_or_default o.entries k d (0, 0) within in
      let at = order_found e.0 e.1 (place_with o.entries e.0 k (record { within = within; is = refl })) in
      let there = is_at_held (get s e.1) e.0 at in
      let below = apart.below e.1 there.0 there.1 in
      let first = ap (λ (x : Entry). x.0) is in
      let names = there.2 in
      omega (arith, below, first, names)

  -- a value is put in
  pub order_put : (new : Slab (Held T)) (later : SerialOrder) (slot : ℕ) (h : Held T) → get s slot ≡ None → Updates s new slot (Some h) → slab_len new ≡ slab_len s + 1 → later.entries ≡ o.entries ++ (h.serial, slot) ∷ [] → slab_len new ≤ later.capacity → IsOrder new later
  order_put new later slot h vacant updates len entries room =
      let test : ℕ → Option (Held T) → Bool = λ n x. option_map_or (has_serial n) x false in record {
        each = λ n k.
            let same = ap (λ es. times_with es n k) entries in
            let more = pushed_with o.entries (h.serial, slot) n k in
            let old = order.each n k in
            elim (cases_eq slot k) [
              | inl here ↦
                  let was : is_at s k n ≡ false = ap (λ i. is_at s i n) (sym here) ∙ ap (test n) vacant in
                  let is : is_at new k n ≡ (h.serial == n) = ap (λ i. is_at new i n) (sym here) ∙ ap (test n) updates.changed in
                  let none = ap once was in
                  let one = ap once (entry_in_slot h.serial slot n k here ∙ sym is) in
                  omega (arith, same, more, old, none, one)
              | inr there ↦
                  let is : is_at new k n ≡ is_at s k n = ap (test n) (updates.others k (λ e. there (sym e))) in
                  let both = ap once is in
                  let none = slot_other (h.serial, slot) n k there in
                  omega (arith, same, more, old, both, none)
            ];
        len = let e = order.len in let longer = ap length entries ∙ length-append o.entries ((h.serial, slot) ∷ []) in omega (arith, len, e, longer);
        room = room;
      }

  -- a value is written in its slot, and keeps its serial number
  pub order_written : (slot : ℕ) (h g : Held T) → get s slot ≡ Some h → g.serial ≡ h.serial → IsOrder (with_slot s slot g) o
  order_written slot h g was names =
      let updates = Updates-with_value s slot g (rw was refl) in
      let test : ℕ → Option (Held T) → Bool = λ n x. option_map_or (has_serial n) x false in
      let same = slab_len-with_slot s slot g h was in record {
        each = λ n k. order.each n k ∙ ap once (elim (cases_eq k slot) [
          | inl here ↦ ap (λ i. is_at s i n) here ∙ ap (test n) was ∙ ap (λ i. i == n) (sym names) ∙ sym (ap (λ i. is_at (with_slot s slot g) i n) here ∙ ap (test n) updates.changed)
          | inr there ↦ sym (ap (test n) (updates.others k there))
        ]);
        len = order.len ∙ sym same;
        room = let r = order.room in omega (arith, r, same);
      }

  -- a value is taken out of its slot
  module _ (new : Slab (Held T)) (slot next : ℕ) (h : Held T) (apart : IsApart s next) (was : get s slot ≡ Some h) (updates : Updates s new slot None) where
    gone_at : (n k : ℕ) → n ≡ h.serial → is_at new k n ≡ false
    gone_at n k names = by_test (is_at new k n) refl
      where
        by_test : (b : Bool) → is_at new k n ≡ b → b ≡ false
        by_test false is = refl
        by_test true is =
            let there = is_at_held (get new k) n is in
            elim (cases_eq k slot) [
              | inl here ↦ let none : Some there.0 ≡ None = sym there.1 ∙ ap (get new) here ∙ updates.changed in absurd (cc none)
              | inr other ↦ absurd (other (apart.apart k slot there.0 h (sym (updates.others k other) ∙ there.1) was (there.2 ∙ names)))
            ]

    stays_at : (n k : ℕ) → n ≢ h.serial → is_at new k n ≡ is_at s k n
    stays_at n k differs =
        let test : Option (Held T) → Bool = λ x. option_map_or (has_serial n) x false in
        elim (cases_eq k slot) [
          | inl here ↦
              let no : (h.serial == n) ≡ false = grind (arith, nat_tests) in
              ap (λ i. is_at new i n) here ∙ ap test updates.changed ∙ sym (ap (λ i. is_at s i n) here ∙ ap test was ∙ no)
          | inr there ↦ ap test (updates.others k there)
        ]

    pub order_gone : (later : SerialOrder) → slab_len new + 1 ≡ slab_len s → IsWithout h.serial o.entries later.entries → later.capacity ≡ o.capacity → IsOrder new later
    order_gone later len without capacity = record {
      each = λ n k. elim (cases_eq n h.serial) [
        | inl names ↦ ap (λ i. times_with later.entries i k) names ∙ without.gone k ∙ sym (ap once (gone_at n k names))
        | inr differs ↦ without.others n k differs ∙ order.each n k ∙ sym (ap once (stays_at n k differs))
      ];
      len =
          let yes : (h.serial == h.serial) ≡ true = grind (arith, nat_tests) in
          let at : is_at s slot h.serial ≡ true = ap (λ x. option_map_or (has_serial h.serial) x false) was ∙ yes in
          let one = order.each h.serial slot ∙ ap once at in
          let e = order.len in
          let fewer = without.len slot (omega (arith, one)) in
          omega (arith, len, e, fewer);
      room = let r = order.room in omega (arith, r, len, capacity);
    }
