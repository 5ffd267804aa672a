-- The list of the dead: how often it has a number, and that it is right after each change of a slot.
use Rattle.std.proofs.Common.{◌≡◌, ◌≢◌, ℕ, suc, ◌+◌, ◌<◌, ◌≤◌, ◌==◌, Bool, true, false, cond, List, [], ◌∷◌, ◌++◌, length, Option, Some, None, is_some, get_or, refl, sym, ap, ◌∙◌, inl, inr, arith, vec_capacity}
use Rattle.std.proofs.lemmas.Bool.{cases_eq}
use Rattle.std.proofs.lemmas.Bool.Decides.{nat_tests}
use Rattle.std.proofs.lemmas.List.{get_or_default, get_or_past, get_or-set_other}
use Rattle.std.proofs.lemmas.List.Sums.{sum_by-set, sum_by-append, sum_by-cons, sum_by-swap_remove, get_or-le-sum_by}
use Rattle.std.specs.List.{count_by, swap_remove, slice_set}
use Rattle.std.specs.Global.{Vec}
use Rattle.std.specs.Vec.{vec_len}
use Rattle.slab.specs.Slab.{Slab, Updates, get, slab_len, with_value as with_slot}
use Rattle.slab.proofs.SlabLemmas.{Updates-with_value}
use Rattle.std.specs.Option.{IfNone, option_map_or}
use Rattle.object_store.specs.Stock.{Held, NoneDead, held_at, names_at, names_of, one_fewer}
use Rattle.object_store.specs.Slots.{IsDeadList, IsNowhere, IsPlaceOf, IsStock, IsUnlisted, at_serial, has_one_name, is_dead, listed, once, times, with_changed}
use Rattle.object_store.proofs.Changes.{held_listed}
use Rattle.object_store.proofs.Slots.{found_by_slot, slot_of_found}
use Rattle.object_store.proofs.Stock.{slab_len-with_slot}

-- a test of two numbers, decided
same_once : (x k : ℕ) → x ≡ k → once (x == k) ≡ 1
same_once x k same = let yes : (x == k) ≡ true = grind (arith, nat_tests) in ap once yes

other_once : (x k : ℕ) → x ≢ k → once (x == k) ≡ 0
other_once x k other = let no : (x == k) ≡ false = grind (arith, nat_tests) in ap once no

pushed_times : (xs : List ℕ) (x k : ℕ) → times (xs ++ x ∷ []) k ≡ times xs k + once (x == k)
pushed_times xs x k =
    let f : ℕ → ℕ = λ y. once (y == k) in
    let more = sum_by-append f xs (x ∷ []) in
    let last = sum_by-cons f x [] in
    omega (arith, more, last)

first_times : (x : ℕ) (xs : List ℕ) (k : ℕ) → times (x ∷ xs) k ≡ once (x == k) + times xs k
first_times x xs k = sum_by-cons (λ y. once (y == k)) x xs

-- a list without a number has it no times
pub nowhere_times : (xs : List ℕ) (k : ℕ) → IsNowhere k xs → times xs k ≡ 0
nowhere_times [] k never = refl
nowhere_times (x ∷ xs) k never =
    let rest = nowhere_times xs k (λ place within. never (suc place) (omega arith)) in
    let here = ap once (never 0 (omega arith)) in
    let first = first_times x xs k in
    omega (arith, rest, here, first)

pub nowhere : (xs : List ℕ) (k : ℕ) → IsNowhere k xs → IsUnlisted 1 k xs xs
nowhere xs k never = record { others = λ other differs. refl; gone = λ one. nowhere_times xs k never }

-- what a list has at a place, it has at least once
pub place_times : (xs : List ℕ) (place : ℕ) → place < length xs → 1 ≤ times xs (get_or xs place 0)
place_times xs place within =
    let x = get_or xs place 0 in
    let f : ℕ → ℕ = λ y. once (y == x) in
    let here = same_once x x refl in
    let most = get_or-le-sum_by f xs place 0 within in
    omega (arith, here, most)

-- the last comes in the place of one that is taken out
pub unlisted : (xs ys : List ℕ) (place k d : ℕ) → IsPlaceOf k xs place → ys ≡ swap_remove xs place d → IsUnlisted 1 k xs ys
unlisted xs ys place k d at is =
    let here : get_or xs place d ≡ k = get_or_default xs place d 0 at.within ∙ at.is in
    record {
      others = λ other differs.
          let f : ℕ → ℕ = λ y. once (y == other) in
          let less = sum_by-swap_remove f xs place d at.within in
          let none : f (get_or xs place d) ≡ 0 = ap f here ∙ other_once k other (λ e. differs (sym e)) in
          let same : times ys other ≡ times (swap_remove xs place d) other = ap (λ zs. times zs other) is in
          omega (arith, less, none, same);
      gone = λ one.
          let f : ℕ → ℕ = λ y. once (y == k) in
          let less = sum_by-swap_remove f xs place d at.within in
          let first : f (get_or xs place d) ≡ 1 = ap f here ∙ same_once k k refl in
          let same : times ys k ≡ times (swap_remove xs place d) k = ap (λ zs. times zs k) is in
          omega (arith, less, first, same, one);
    }

module _ {T : Type 0} where
  dead_one : (h : Held T) → h.names ≡ 1 → is_dead (Some h) ≡ true
  dead_one h one = grind (arith, nat_tests)

  pub not_dead : (h : Held T) → h.names ≢ 1 → is_dead (Some h) ≡ false
  not_dead h more = grind (arith, nat_tests)

  pub one_of_dead : (h : Held T) → is_dead (Some h) ≡ true → h.names ≡ 1
  one_of_dead h dead = grind (arith, nat_tests)

  -- where the value is not dead, nothing is taken out
  pub not_listed : (o : Option (Held T)) (k : ℕ) (xs : List ℕ) → is_dead o ≡ false → IsUnlisted (once (is_dead o)) k xs xs
  not_listed o k xs alive = record { others = λ other differs. refl; gone = λ none. none ∙ ap once alive }

  -- distinct slots with values are no more than there are values
  one_fewer_than : (x : ℕ) (xs : List ℕ) (slots : List (Option (Held T))) → ((k : ℕ) → times (x ∷ xs) k ≤ once (is_some (get_or slots k None))) → (((k : ℕ) → times xs k ≤ once (is_some (get_or (slice_set slots x None) k None))) → length xs ≤ count_by is_some (slice_set slots x None)) → (o : Option (Held T)) → get_or slots x None ≡ o → length (x ∷ xs) ≤ count_by is_some slots
  one_fewer_than x xs slots most rest None none =
      let own = most x in
      let first = first_times x xs x in
      let here = same_once x x refl in
      let no = ap (λ (o : Option (Held T)). once (is_some o)) none in
      absurd (omega (arith, own, first, here, no))
  one_fewer_than x xs slots most rest (Some h) is =
      let within : x < length slots = grind (arith, get_or_past) in
      let counts = sum_by-set (λ o. cond (is_some o) 1 0) slots x None None within in
      let one : ℕ = 1 in
      let was : cond (is_some (get_or slots x None)) 1 0 ≡ one = ap (λ o. cond (is_some o) 1 0) is in
      let fewer = rest (λ k. elim (cases_eq x k) [
        | inl same ↦
            let own = most x in
            let first = first_times x xs x in
            let here = same_once x x refl in
            let yes = ap (λ (o : Option (Held T)). once (is_some o)) is in
            let none : times xs x ≡ 0 = omega (arith, own, first, here, yes) in
            let at_k : times xs k ≡ 0 = ap (times xs) (sym same) ∙ none in
            omega (arith, at_k)
        | inr other ↦
            let own = most k in
            let first = first_times x xs k in
            let slot = ap (λ (o : Option (Held T)). once (is_some o)) (get_or-set_other slots x k None None (λ e. other (sym e))) in
            omega (arith, own, first, slot)
      ]) in
      omega (arith, counts, was, fewer)

  fewer_than : (xs : List ℕ) (slots : List (Option (Held T))) → ((k : ℕ) → times xs k ≤ once (is_some (get_or slots k None))) → length xs ≤ count_by is_some slots
  fewer_than [] slots most = omega arith
  fewer_than (x ∷ xs) slots most = one_fewer_than x xs slots most (fewer_than xs (slice_set slots x None)) (get_or slots x None) refl

  -- a dead slot has a value
  dead_some : (o : Option (Held T)) → once (is_dead o) ≤ once (is_some o)
  dead_some None = omega arith
  dead_some (Some h) = by_test (has_one_name h)
    where
      by_test : (b : Bool) → once b ≤ 1
      by_test true = omega arith
      by_test false = omega arith

  module _ (s : Slab (Held T)) (dead : Vec ℕ) (list : IsDeadList s dead) where
    -- the list is no longer than there are values
    pub dead-le : vec_len dead ≤ slab_len s
    dead-le =
        let few = fewer_than dead.items s.slots (λ k. let e = list.each k in let most = dead_some (get s k) in omega (arith, e, most)) in
        let long = dead.ok.0 in
        omega (arith, few, long)

    -- and shorter, where the value of a slot is not dead
    pub dead-lt : (slot : ℕ) (h : Held T) → get s slot ≡ Some h → h.names ≢ 1 → vec_len dead < slab_len s
    dead-lt slot h was more =
        let within : slot < length s.slots = grind (arith, get_or_past) in
        let counts = sum_by-set (λ o. cond (is_some o) 1 0) s.slots slot None None within in
        let one : ℕ = 1 in
        let there : cond (is_some (get s slot)) 1 0 ≡ one = ap (λ o. cond (is_some o) 1 0) was in
        let few = fewer_than dead.items (slice_set s.slots slot None) (λ k. elim (cases_eq slot k) [
          | inl same ↦
              let e = list.each k in
              let alive : once (is_dead (get s k)) ≡ 0 = ap once (ap (λ i. is_dead (get s i)) (sym same) ∙ ap is_dead was ∙ not_dead h more) in
              omega (arith, e, alive)
          | inr other ↦
              let e = list.each k in
              let most = dead_some (get s k) in
              let slot_k = ap (λ o. once (is_some o)) (get_or-set_other s.slots slot k None None (λ e. other (sym e))) in
              omega (arith, e, most, slot_k)
        ]) in
        let long = dead.ok.0 in
        omega (arith, counts, there, few, long)

    -- one slot changes, and the list with it
    dead_after : (new : Slab (Held T)) (later : Vec ℕ) (slot : ℕ) (o : Option (Held T)) → Updates s new slot o → ((k : ℕ) → k ≢ slot → times later.items k ≡ times dead.items k) → times later.items slot ≡ once (is_dead o) → slab_len new ≤ vec_capacity later → IsDeadList new later
    dead_after new later slot o updates others here room = record {
      each = λ k. elim (cases_eq k slot) [
        | inl same ↦ ap (times later.items) same ∙ here ∙ ap (λ x. once (is_dead x)) (sym updates.changed ∙ ap (get new) (sym same))
        | inr other ↦ others k other ∙ list.each k ∙ ap (λ x. once (is_dead x)) (sym (updates.others k other))
      ];
      room = room;
    }

    push_others : (later : Vec ℕ) (slot : ℕ) → later.items ≡ dead.items ++ slot ∷ [] → (k : ℕ) → k ≢ slot → times later.items k ≡ times dead.items k
    push_others later slot items k other =
        let same = ap (λ xs. times xs k) items in
        let more = pushed_times dead.items slot k in
        let none = other_once slot k (λ e. other (sym e)) in
        omega (arith, same, more, none)

    push_here : (later : Vec ℕ) (slot : ℕ) → later.items ≡ dead.items ++ slot ∷ [] → is_dead (get s slot) ≡ false → times later.items slot ≡ 1
    push_here later slot items alive =
        let same = ap (λ xs. times xs slot) items in
        let more = pushed_times dead.items slot slot in
        let one = same_once slot slot refl in
        let none = list.each slot ∙ ap once alive in
        omega (arith, same, more, one, none)

    -- a value with one name is put in
    pub put_dead : (new : Slab (Held T)) (later : Vec ℕ) (slot : ℕ) (h : Held T) → h.names ≡ 1 → get s slot ≡ None → Updates s new slot (Some h) → slab_len new ≤ vec_capacity later → later.items ≡ dead.items ++ slot ∷ [] → IsDeadList new later
    put_dead new later slot h one vacant updates room items =
        dead_after new later slot (Some h) updates (push_others later slot items) (push_here later slot items (ap is_dead vacant) ∙ sym (ap once (dead_one h one))) room

    module _ (slot : ℕ) (h : Held T) (was : get s slot ≡ Some h) where
      written : (g : Held T) → Updates s (with_slot s slot g) slot (Some g)
      written g = Updates-with_value s slot g (rw was refl)

      wide : (g : Held T) (later : Vec ℕ) → vec_capacity later ≡ vec_capacity dead → slab_len (with_slot s slot g) ≤ vec_capacity later
      wide g later capacity =
          let len = slab_len-with_slot s slot g h was in
          let room = list.room in
          omega (arith, len, room, capacity)

      -- its value comes down to one name
      pub dies : (later : Vec ℕ) (g : Held T) → h.names ≡ 2 → g ≡ one_fewer h → later.items ≡ dead.items ++ slot ∷ [] → vec_capacity later ≡ vec_capacity dead → IsDeadList (with_slot s slot g) later
      dies later g two is items capacity =
          let names = ap (λ x. x.names) is in
          let one : g.names ≡ 1 = omega (arith, names, two) in
          let alive = ap is_dead was ∙ not_dead h (λ e. omega (arith, e, two)) in
          dead_after (with_slot s slot g) later slot (Some g) (written g) (push_others later slot items) (push_here later slot items alive ∙ sym (ap once (dead_one g one))) (wide g later capacity)

      -- its value has more names than one before and after
      pub lives_on : (g : Held T) → h.names ≢ 1 → g.names ≢ 1 → IsDeadList (with_slot s slot g) dead
      lives_on g before later =
          dead_after (with_slot s slot g) dead slot (Some g) (written g) (λ k other. refl)
          (list.each slot ∙ ap once (ap is_dead was ∙ not_dead h before) ∙ sym (ap once (not_dead g later))) (wide g dead refl)

      -- its value is dead no more
      pub revives : (later : Vec ℕ) (g : Held T) → g.names ≢ 1 → IsUnlisted (once (is_dead (get s slot))) slot dead.items later.items → vec_capacity later ≡ vec_capacity dead → IsDeadList (with_slot s slot g) later
      revives later g more taken capacity =
          dead_after (with_slot s slot g) later slot (Some g) (written g) taken.others (taken.gone (list.each slot) ∙ sym (ap once (not_dead g more))) (wide g later capacity)

    -- its value is gone
    pub gone_dead : (new : Slab (Held T)) (later : Vec ℕ) (slot : ℕ) → IsUnlisted (once (is_dead (get s slot))) slot dead.items later.items → Updates s new slot None → slab_len new + 1 ≡ slab_len s → vec_capacity later ≡ vec_capacity dead → IsDeadList new later
    gone_dead new later slot taken updates len capacity =
        let room = list.room in
        dead_after new later slot None updates taken.others (taken.gone (list.each slot)) (omega (arith, len, room, capacity))

    -- nothing was there
    pub absent_dead : (later : Vec ℕ) (slot : ℕ) → get s slot ≡ None → IsUnlisted (once (is_dead (get s slot))) slot dead.items later.items → vec_capacity later ≡ vec_capacity dead → IsDeadList s later
    absent_dead later slot none taken capacity =
        let room = list.room in
        dead_after s later slot None (record { changed = none; others = λ other differs. refl }) taken.others (taken.gone (list.each slot)) (omega (arith, room, capacity))

    -- what the list has last is dead; where it has nothing, nothing is
    pub last_is_dead : (place : ℕ) → place < length dead.items → is_dead (get s (get_or dead.items place 0)) ≡ true
    last_is_dead place within =
        let low = place_times dead.items place within in
        let e = list.each (get_or dead.items place 0) in
        by_test (is_dead (get s (get_or dead.items place 0))) refl (omega (arith, low, e))
      where
        by_test : (b : Bool) → is_dead (get s (get_or dead.items place 0)) ≡ b → 1 ≤ once (is_dead (get s (get_or dead.items place 0))) → is_dead (get s (get_or dead.items place 0)) ≡ true
        by_test true is low = is
        by_test false is low = let none = ap once is in absurd (omega (arith, none, low))

    pub none_is_dead : dead.items ≡ [] → (slot : ℕ) → is_dead (get s slot) ≡ false
    none_is_dead empty slot = by_test (is_dead (get s slot)) refl
      where
        by_test : (b : Bool) → is_dead (get s slot) ≡ b → b ≡ false
        by_test false is = refl
        by_test true is =
            let e = list.each slot ∙ ap once is in
            let none = ap (λ xs. times xs slot) empty in
            absurd (omega (arith, e, none))

  -- a change of the value in a slot
  pub changed_is : (s : Slab (Held T)) (slot : ℕ) (h : Held T) (change : Held T → Held T) → get s slot ≡ Some h → with_changed s slot change ≡ with_slot s slot (change h)
  changed_is s slot h change was = rw was refl

  module _ (s : Slab (Held T)) (next total : ℕ) (stock : IsStock s next total) where
    -- a dead slot's value has one name by its serial number
    pub dead_names : (slot : ℕ) (h : Held T) → get s slot ≡ Some h → is_dead (get s slot) ≡ true → names_at (listed s next) h.serial ≡ 1
    dead_names slot h was dead =
        let one = one_of_dead h (sym (ap is_dead was) ∙ dead) in
        let held : held_at (listed s next) h.serial ≡ Some h = held_listed s next h.serial stock.slots ∙ found_by_slot s next stock.slots slot h.serial h was refl in
        ap (λ o. option_map_or names_of o 0) held ∙ one

    none_at : ((slot : ℕ) → is_dead (get s slot) ≡ false) → (n : ℕ) → names_at (listed s next) n ≡ 1 → ⊥
    none_at alive n one = by_found (at_serial s n) refl
      where
        by_found : (o : Option (Held T)) → at_serial s n ≡ o → ⊥
        by_found None none =
            let nothing : names_at (listed s next) n ≡ 0 = ap (λ o. option_map_or names_of o 0) (held_listed s next n stock.slots ∙ none) in
            omega (arith, one, nothing)
        by_found (Some h) found =
            let at = slot_of_found s n h found in
            let names : names_at (listed s next) n ≡ h.names = ap (λ o. option_map_or names_of o 0) (held_listed s next n stock.slots ∙ found) in
            let dead = dead_one h (sym names ∙ one) in
            let never : true ≡ false = sym dead ∙ ap is_dead (sym at.1) ∙ alive at.0 in
            cc never

    -- where no slot is dead, no value is
    pub none_dead : ((slot : ℕ) → is_dead (get s slot) ≡ false) → NoneDead (listed s next)
    none_dead alive = λ n one. none_at alive n one

-- a clause on nothing, from its fact
pub if_none : {X : Type 0} (r : Option X) (P : Type 0) → P → IfNone r P
if_none None P fact = fact
if_none (Some x) P fact = tt
