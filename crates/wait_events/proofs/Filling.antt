-- One open set, while members are added to it.
use Rattle.std.proofs.Common.{◌≡◌, ◌∙◌, ℕ, ◌+◌, ◌==◌, true, false, List, [], ◌∷◌, map, slice_get, Option, Some, None, refl, sym, ap, subst, arith, eq-eqb}
use Rattle.std.specs.Option.{option_map}
use Rattle.std.specs.List.{position_or_len}
use Rattle.std.proofs.lemmas.Bool.Decides.{nat_tests}
use Rattle.kernel_values.specs.declared.flags.Events.{Events}
use Rattle.handle_set.specs.declared.records.TrackedMember.{TrackedMember}
use Rattle.handle_set.specs.declared.settle.OpenSet.{OpenSet}
use Rattle.handle_set.specs.Members.{set_if}
use Rattle.handle_set.specs.Sets.{CanHave, IsUpToDate, are_of, has_id, has_ready, id_of, is_open, members_changed, ready_in, with_changed}
use Rattle.handle_set.proofs.Changing.{changed_ids}
use Rattle.handle_set.proofs.Levels.{none_found, same_ids}

head_same : (a b : ℕ) (xs ys : List ℕ) → a ∷ xs ≡ b ∷ ys → a ≡ b
head_same a b xs ys is = cc

tail_same : (a b : ℕ) (xs ys : List ℕ) → a ∷ xs ≡ b ∷ ys → xs ≡ ys
tail_same a b xs ys is = cc

pub open_alone : (sets : List OpenSet) → map id_of sets ≡ 0 ∷ [] → is_open sets 0 ≡ true
open_alone [] is = absurd (cc)
open_alone (x ∷ xs) is = rw (eq-eqb x.id 0 (head_same x.id 0 (map id_of xs) [] is)) refl

none_left : (xs : List OpenSet) (id : ℕ) → map id_of xs ≡ [] → is_open xs id ≡ false
none_left [] id is = refl
none_left (x ∷ xs) id is = absurd (cc)

zero_other : (id : ℕ) → (0 == id + 1) ≡ false
zero_other id = grind (arith, nat_tests)

pub closed_other : (sets : List OpenSet) (id : ℕ) → map id_of sets ≡ 0 ∷ [] → is_open sets (id + 1) ≡ false
closed_other [] id is = absurd (cc)
closed_other (x ∷ xs) id is =
    let first : (x.id == id + 1) ≡ false = ap (λ n. n == id + 1) (head_same x.id 0 (map id_of xs) [] is) ∙ zero_other id in
    rw first (none_left xs (id + 1) (tail_same x.id 0 (map id_of xs) [] is))

pub can_have : (sets : List OpenSet) (id : ℕ) (events : Events) → map id_of sets ≡ 0 ∷ [] → CanHave sets (id + 1) events
can_have sets id events is =
    let none : ready_in sets (id + 1) ≡ None = ap (option_map has_ready) (none_found sets (id + 1) (closed_other sets id is)) in
    subst (λ r. are_of r events) (sym none) tt

pub ids_changed : (change : List TrackedMember → List TrackedMember) (id : ℕ) (sets : List OpenSet) → map id_of (members_changed change id sets) ≡ map id_of sets
ids_changed change id sets = by_place (slice_get sets (position_or_len (has_id id) sets)) refl
  where
    by_place : (o : Option OpenSet) → slice_get sets (position_or_len (has_id id) sets) ≡ o → map id_of (set_if sets (position_or_len (has_id id) sets) (option_map (with_changed change) o)) ≡ map id_of sets
    by_place None is = refl
    by_place (Some s) is = changed_ids change sets (position_or_len (has_id id) sets) s is

pub ids_after : (change : List TrackedMember → List TrackedMember) (id : ℕ) (sets now : List OpenSet) → IsUpToDate (members_changed change id sets) now → map id_of now ≡ map id_of sets
ids_after change id sets now up = same_ids now (members_changed change id sets) up.shape ∙ ids_changed change id sets
