-- The loop of a sweep.
use Rattle.std.proofs.Common.{◌≡◌, ℕ, ◌+◌, ◌<◌, ◌≤◌, Bool, true, false, cond, ◌==◌, ◌⊎◌, inl, inr, List, [], ◌∷◌, ◌++◌, length, map, Option, Some, None, refl, sym, ◌∙◌, ap, subst, arith, tests}
use Rattle.std.specs.List.{flat_map, fold, cons_option}
use Rattle.std.specs.Option.{option_map_or, option_and_then}
use Rattle.std.proofs.lemmas.List.Sums.{sum_by-append, sum_by-cons}
use Rattle.kernel_values.specs.declared.state.Body.{Body}
use Rattle.kernel_values.specs.declared.state.CoreState.{CoreState}
use Rattle.kernel_values.specs.declared.state.Object.{Object}
use Rattle.kernel_types.specs.Names.{Name, held_by, named_in, names_of, naming, object_names}
use Rattle.kernel_types.specs.Objects.{is_there, on_end, on_port}
use Rattle.object_store.specs.Stock.{NoneDead, Held, IsSoundFrom, changed, held_at, last_at, last_named, less_on, names_at, one_fewer, one_less, unnamed}
use Rattle.count_laws.specs.Dropping.{IsLeft, cut_from, dropped, unlisted}
use Rattle.count_laws.specs.Thinning.{Fit, NamedThere}
use Rattle.count_laws.proofs.Dropping.{all_left, drops_on, ends_swept, left_fits, left_ranked}
use Rattle.counted_core.specs.Held.{IsOwed, changed_if, dropped_items, listed_by, objects_of, on_value, peer_in, tally, times}
use Rattle.counted_core.specs.Sweeping.{HasDropped, HasDroppedTo, IsCounted, IsSweeping, Swept, Sweeping, at, rooted, roots}
use Rattle.counted_core.proofs.Owing.{absent_names}
use Rattle.counted_core.proofs.Drops.{Dropped, drops}

-- Names of a state, by roots and objects.

pub first_name : (o : ℕ) (n : Name) (ns : List Name) → names_of (n ∷ ns) o ≡ cond (n.object == o) 1 0 + names_of ns o
first_name o n ns = sum_by-cons (λ name. cond (name.object == o) 1 0) n ns

held_times : (id o : ℕ) (xs : List ℕ) → names_of (map (held_by id) xs) o ≡ times xs o
held_times id o [] = refl
held_times id o (x ∷ xs) =
    let more : names_of (map (held_by id) xs) o ≡ times xs o = held_times id o xs in
    first_name o (held_by id x) (map (held_by id) xs) ∙ (ap (λ k. cond (x == o) 1 0 + k) more ∙ sym (sum_by-cons (λ y. cond (y == o) 1 0) x xs))

pub both_names : (o : ℕ) (xs ys : List Name) → names_of (xs ++ ys) o ≡ names_of xs o + names_of ys o
both_names o xs ys = sum_by-append (λ name. cond (name.object == o) 1 0) xs ys

objects_tally : (o : ℕ) (os : List Object) → names_of (flat_map object_names os) o ≡ tally os o
objects_tally o [] = refl
objects_tally o (x ∷ os) =
    both_names o (object_names x) (flat_map object_names os) ∙ (ap (λ k. k + names_of (flat_map object_names os) o) (held_times x.id o (named_in x.body)) ∙ ap (λ k. times (named_in x.body) o + k) (objects_tally o os))

pub naming_tally : (c : CoreState) (o : ℕ) → names_of (naming c) o ≡ rooted c o + tally c.objects o
unfolding naming
naming_tally c o = both_names o (roots c) (flat_map object_names c.objects) ∙ ap (λ k. names_of (roots c) o + k) (objects_tally o c.objects)

module _ (k : CoreState) (items : List (Held Body)) (counted : IsCounted k items) where
  pub named_there : NamedThere (at k items)
  named_there o named =
      let sum : names_of (naming (at k items)) o ≡ rooted k o + tally (objects_of items) o = naming_tally (at k items) o in
      let is : names_at items o ≡ rooted k o + tally (objects_of items) o + 0 + cond (is_there (objects_of items) o) 1 0 = counted.counts o in
      let P : Bool → Type 0 = λ b. is_there (objects_of items) o ≡ b → names_at items o ≡ rooted k o + tally (objects_of items) o + 0 + cond b 1 0 → b ≡ true in
      let go : (b : Bool) → P b = λ b. elim b as (λ v. P v) [
        | true ↦ (λ e f. refl)
        | false ↦ (λ e f. let none : names_at items o ≡ 0 = absent_names items o e in absurd (omega (arith, f, none, sum, named)))
      ] in
      go (is_there (objects_of items) o) refl is

  pub there_named : NoneDead items → (o : ℕ) → is_there (objects_of items) o ≡ true → 0 < names_of (naming (at k items)) o
  there_named none o there =
      let sum : names_of (naming (at k items)) o ≡ rooted k o + tally (objects_of items) o = naming_tally (at k items) o in
      let is : names_at items o ≡ rooted k o + tally (objects_of items) o + 0 + 1 = counted.counts o ∙ ap (λ (b : Bool). rooted k o + tally (objects_of items) o + 0 + cond b 1 0) there in
      let split : (rooted k o + tally (objects_of items) o ≡ 0) ⊎ (0 < rooted k o + tally (objects_of items) o) = grind arith in
      elim split [
        | inl zero_sum ↦ absurd (none o (omega (arith, is, zero_sum)))
        | inr some ↦ omega (arith, some, sum)
      ]

pub begins : (items : List (Held Body)) → Sweeping items items
begins items k fit counted = record { left = all_left (at k items) fit; counted = counted }

last_dead : (o : Option (Held Body)) → option_map_or (λ (h : Held Body). h.names) o 0 ≡ 1 → (b : Body) × (option_and_then last_named o ≡ Some b)
last_dead None is = absurd (cc is)
last_dead (Some h) is =
    let one : (h.names == 1) ≡ true = grind (arith, tests) in
    (h.value, ap (λ (b : Bool). cond b (Some h.value) None) one)

pub dead_value : (items : List (Held Body)) (x : ℕ) → names_at items x ≡ 1 → (b : Body) × (last_at items x ≡ Some b)
dead_value items x one = last_dead (held_at items x) one

-- each turn drops one
pub goes_on : (old new left : List (Held Body)) (next x : ℕ) → Sweeping old new → IsSoundFrom 0 new next → names_at new x ≡ 1 → HasDropped x new left → Sweeping old left
goes_on old new left next x sweeping sound one has k fit counted =
    let s : IsSweeping k old new = sweeping k fit counted in
    let there : NamedThere (at k new) = named_there k new s.counted in
    let fits : Fit (at k new) = left_fits (at k old) (at k new) fit there s.left in
    let v : (b : Body) × (last_at new x ≡ Some b) = dead_value new x one in
    let d : HasDroppedTo x v.0 new left = has v.0 v.1 in
    let done : Dropped (rooted k) next x k new (dropped_items x d.port v.0 new) = drops (rooted k) k new next x v.0 d.port fits sound s.counted v.1 d.lister in
    let is : at k left ≡ dropped x (at k new) = ap (at k) d.items ∙ done.same in
    record {
      left = subst (λ (c : CoreState). IsLeft (at k old) c) (sym is) (drops_on (at k old) (at k new) x fit there s.left);
      counted = subst (λ l. IsOwed (rooted k) l []) (sym d.items) done.owed;
    }

pub ends : (old new : List (Held Body)) → Sweeping old new → NoneDead new → Swept old new
ends old new sweeping none k fit ranked counted =
    let s : IsSweeping k old new = sweeping k fit counted in
    record {
      state = ends_swept (at k old) (at k new) fit ranked (named_there k new s.counted) (there_named k new s.counted none) s.left;
      fit = left_fits (at k old) (at k new) fit (named_there k new s.counted) s.left;
      ranked = left_ranked (at k old) (at k new) fit ranked (named_there k new s.counted) s.left;
      counted = s.counted;
    }

-- Each turn leaves fewer.

unnamed_most : (items : List (Held Body)) (s : ℕ) → length (unnamed items s) ≤ length items
unnamed_most [] s = omega arith
unnamed_most (h ∷ rest) s =
    let more : length (unnamed rest s) ≤ length rest = unnamed_most rest s in
    elim (less_on s h) as (λ o. length (cons_option o (unnamed rest s)) ≤ length (h ∷ rest)) [ None ↦ omega (arith, more) | Some x ↦ omega (arith, more) ]

all_most : (debts : List ℕ) (items : List (Held Body)) → length (fold unnamed items debts) ≤ length items
all_most [] items = omega arith
all_most (d ∷ debts) items = omega (arith, all_most debts (unnamed items d), unnamed_most items d)

same_length : (f : Held Body → Held Body) (n : ℕ) (items : List (Held Body)) → length (changed items n f) ≡ length items
same_length f n [] = refl
same_length f n (h ∷ rest) = let more : length (changed rest n f) ≡ length rest = same_length f n rest in omega (arith, more)

if_length : (f : Body → Body) (n : Option ℕ) (items : List (Held Body)) → length (changed_if f n items) ≡ length items
if_length f None items = refl
if_length f (Some n) items = same_length (on_value f) n items

last_fewer : (items : List (Held Body)) (x : ℕ) → names_at items x ≡ 1 → length (unnamed items x) + 1 ≤ length items
last_fewer [] x one = absurd (cc one)
last_fewer (h ∷ rest) x one =
    let names : Option (Held Body) → ℕ = λ o. option_map_or (λ (k : Held Body). k.names) o 0 in
    let P : Bool → Type 0 = λ b. (h.serial == x) ≡ b → names (cond b (Some h) (held_at rest x)) ≡ 1 → length (cons_option (cond b (one_less h) (Some h)) (unnamed rest x)) + 1 ≤ length (h ∷ rest) in
    let most : length (unnamed rest x) ≤ length rest = unnamed_most rest x in
    let gone : h.names ≡ 1 → length (cons_option (one_less h) (unnamed rest x)) + 1 ≤ length (h ∷ rest) = λ is.
    let test : (h.names == 1) ≡ true = grind (arith, tests) in
    subst (λ (b : Bool). length (cons_option (cond b None (Some (one_fewer h))) (unnamed rest x)) + 1 ≤ length (h ∷ rest)) (sym test) (omega (arith, most)) in
    let go : (b : Bool) → P b = λ b. elim b as (λ v. P v) [
      | true ↦ (λ e is. gone is)
      | false ↦ (λ e is. omega (arith, last_fewer rest x is))
    ] in
    go (h.serial == x) refl one

pub fewer : (new left : List (Held Body)) (x : ℕ) → names_at new x ≡ 1 → HasDropped x new left → length left + 1 ≤ length new
fewer new left x one has =
    let v : (b : Body) × (last_at new x ≡ Some b) = dead_value new x one in
    let d : HasDroppedTo x v.0 new left = has v.0 v.1 in
    let one_gone : List (Held Body) = changed_if (on_port (unlisted (peer_in v.0))) d.port (unnamed new x) in
    let two : List (Held Body) = changed_if (on_end (cut_from x)) (peer_in v.0) one_gone in
    subst (λ l. length l + 1 ≤ length new) (sym d.items)
    (omega (arith, all_most (listed_by (peer_in v.0) d.port ++ named_in v.0) two, if_length (on_end (cut_from x)) (peer_in v.0) one_gone, if_length (on_port (unlisted (peer_in v.0))) d.port (unnamed new x), last_fewer new x one))

pub none_left : (items : List (Held Body)) (n : ℕ) → length items + n ≤ n → NoneDead items
none_left [] n le o one = absurd (cc one)
none_left (h ∷ rest) n le o one = absurd (omega (arith, le))
