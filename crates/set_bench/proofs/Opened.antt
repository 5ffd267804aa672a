-- What `ready` tells of a number, and what stays when events are told.
use Rattle.std.proofs.Common.{◌≡◌, ◌==◌, ℕ, ◌++◌, Bool, true, false, cond, ◌||◌, List, [], ◌∷◌, map, Option, Some, None, refl, ap, ◌∙◌, subst, sym}
use Rattle.std.specs.List.{find}
use Rattle.std.specs.Option.{is_some, option_map}
use Rattle.std.proofs.lemmas.List.Folds.{list_any-append}
use Rattle.kernel_values.specs.declared.flags.Events.{Events}
use Rattle.handle_set.specs.declared.settle.OpenSet.{OpenSet}
use Rattle.handle_set.specs.Sets.{CanHave, IsUpToDate, are_of, empty_set, has_id, has_member, has_ready, is_member, is_open, ready_in, set_told}
use Rattle.handle_set.proofs.Levels.{none_found, same_open, told_open}
use Rattle.set_bench.specs.Fresh.{HaveNoMembers}

pub shut : (sets : List OpenSet) (id : ℕ) → ready_in sets id ≡ None → is_open sets id ≡ false
shut [] id none = refl
shut (set ∷ sets) id none = by_test (set.id == id) none (shut sets id)
  where
    by_test : (b : Bool) → option_map has_ready (cond b (Some set) (find (has_id id) sets)) ≡ None → (ready_in sets id ≡ None → is_open sets id ≡ false) → (b || is_open sets id) ≡ false
    by_test true bad later = absurd (cc)
    by_test false is later = later is

pub is_there : (sets : List OpenSet) (id : ℕ) (ready : Bool) → ready_in sets id ≡ Some ready → is_open sets id ≡ true
is_there [] id ready bad = absurd (cc)
is_there (set ∷ sets) id ready there = by_test (set.id == id) there (is_there sets id ready)
  where
    by_test : (b : Bool) → option_map has_ready (cond b (Some set) (find (has_id id) sets)) ≡ Some ready → (ready_in sets id ≡ Some ready → is_open sets id ≡ true) → (b || is_open sets id) ≡ true
    by_test true is later = refl
    by_test false is later = later is

pub none_of : {A : Type 0} (o : Option A) → is_some o ≡ false → o ≡ None
none_of None is = refl
none_of (Some x) bad = absurd (cc)

pub none_at_first : (sets : List OpenSet) → sets ≡ [] → HaveNoMembers sets
none_at_first sets is object = ap (λ (xs : List OpenSet). is_member xs object) is

pub none_still : (sets now : List OpenSet) (id : ℕ) → HaveNoMembers sets → now ≡ sets ++ empty_set id ∷ [] → HaveNoMembers now
none_still sets now id none is object =
    ap (λ xs. is_member xs object) is ∙ list_any-append (has_member object) sets (empty_set id ∷ []) ∙ ap (λ b. b || false) (none object)

pub may_have : (sets : List OpenSet) (object : ℕ) (events : Events) → ready_in sets object ≡ None → CanHave sets object events
may_have sets object events none = subst (λ o. are_of o events) (sym none) tt

pub may_have_any : (sets : List OpenSet) (object : ℕ) (events : Events) → is_open sets object ≡ false → CanHave sets object events
may_have_any sets object events closed = may_have sets object events (ap (option_map has_ready) (none_found sets object closed))

pub shut_still : (sets now : List OpenSet) (object : ℕ) (events : Events) → is_open sets object ≡ false → IsUpToDate (map (set_told object events) sets) now → is_open now object ≡ false
shut_still sets now object events closed told = same_open now (map (set_told object events) sets) object told.shape ∙ told_open object events sets object ∙ closed
