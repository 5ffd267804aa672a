-- What a member that comes to a set makes of the counts.
use Rattle.std.proofs.Common.{◌≡◌, ℕ, ◌+◌, ◌≤◌, ◌<◌, ◌^◌, ◌==◌, ◌||◌, Bool, true, false, cond, length, List, [], ◌∷◌, ◌++◌, map, Option, Some, None, refl, sym, ◌∙◌, ap, subst, arith, tests}
use Rattle.std.specs.Option.{is_some}
use Rattle.std.proofs.lemmas.List.Sums.{sum_by-cons}
use Rattle.kernel_values.specs.declared.state.Body.{Body}
use Rattle.kernel_values.specs.declared.state.Body.TheVariants as body
use Rattle.kernel_values.specs.declared.state.CoreState.{CoreState}
use Rattle.kernel_values.specs.declared.state.Member.{Member}
use Rattle.kernel_values.specs.declared.state.Thread.{Thread}
use Rattle.kernel_types.specs.Names.{named_in}
use Rattle.kernel_types.specs.Objects.{is_there, on_set, set_of}
use Rattle.kernel_types.specs.Reach.{is_in}
use Rattle.kernel_types.specs.Sets.{with_member}
use Rattle.object_store.specs.Stock.{Held, IsSoundFrom, changed, total_names, value_at}
use Rattle.counted_core.specs.Found.{set_if}
use Rattle.counted_core.specs.Held.{objects_of, on_value, times}
use Rattle.counted_core.specs.Sending.{named_more}
use Rattle.counted_core.specs.Sweeping.{IsCounted}
use Rattle.counted_core.specs.Waiting.{IsWaitable}
use Rattle.counted_core.proofs.Drops.{changed_sound}
use Rattle.counted_core.proofs.Moves.{moves_more, pushed_else}
use Rattle.counted_core.proofs.Naming.{More, Pushed, changed_total, name_one, set_value}
use Rattle.counted_core.proofs.Totals.{named_waitable}

abbrev objects_in : List Member → List ℕ
objects_in members = map (λ member. member.object) members

first_time : (x : ℕ) (xs : List ℕ) (o : ℕ) → times (x ∷ xs) o ≡ cond (x == o) 1 0 + times xs o
first_time x xs o = sum_by-cons (λ y. cond (y == o) 1 0) x xs

member_times : (o : ℕ) (members : List Member) (m : Member) → times (objects_in (members ++ m ∷ [])) o + 0 ≡ times (objects_in members) o + times (m.object ∷ []) o
member_times o [] m = omega arith
member_times o (x ∷ members) m =
    let more : times (objects_in (members ++ m ∷ [])) o + 0 ≡ times (objects_in members) o + times (m.object ∷ []) o = member_times o members m in
    let one : times (x.object ∷ objects_in (members ++ m ∷ [])) o ≡ cond (x.object == o) 1 0 + times (objects_in (members ++ m ∷ [])) o = first_time x.object (objects_in (members ++ m ∷ [])) o in
    let two : times (x.object ∷ objects_in members) o ≡ cond (x.object == o) 1 0 + times (objects_in members) o = first_time x.object (objects_in members) o in
    omega (arith, more, one, two)

-- another kind of object stays
pub no_member : (k : CoreState) (member : Member) (next id : ℕ) (items : List (Held Body)) → IsSoundFrom 0 items next → IsCounted k items → is_some (set_of (objects_of items) id) ≡ false
    → Pushed k (on_set (with_member member)) next id items items
no_member k member next id items sound counted none =
    let none_if : is_some (set_if (value_at items id)) ≡ false = sym (ap is_some (set_value items id)) ∙ none in
    let leaves : (v : Body) → is_some (set_if (Some v)) ≡ false → on_set (with_member member) v ≡ v = λ v. elim v as (λ w. is_some (set_if (Some w)) ≡ false → on_set (with_member member) w ≡ w) [
      | body.Port port ↦ (λ e. refl)
      | body.End end ↦ (λ e. refl)
      | body.Set set ↦ (λ e. absurd (cc))
      | body.Memory memory ↦ (λ e. refl)
    ] in
    pushed_else k (on_set (with_member member)) next id items sound counted (λ v e. leaves v (sym (ap (λ w. is_some (set_if w)) e) ∙ none_if))

one_in : (x o : ℕ) → is_in (x ∷ []) o ≡ true → x ≡ o
one_in x o is =
    let P : Bool → Type 0 = λ b. (x == o) ≡ b → (b || false) ≡ true → x ≡ o in
    let go : (b : Bool) → P b = λ b. elim b as (λ v. P v) [ true ↦ (λ e k. grind (arith, tests)) | false ↦ (λ e k. absurd (cc)) ] in
    go (x == o) refl is

pub adds_member : (k : CoreState) (member : Member) (next id : ℕ) (items : List (Held Body)) → IsSoundFrom 0 items next → IsCounted k items → is_some (set_of (objects_of items) id) ≡ true
    → is_there (objects_of items) member.object ≡ true
    → Pushed k (on_set (with_member member)) next id items (named_more (changed items id (on_value (on_set (with_member member)))) member.object)
adds_member k member next id items sound counted some there =
    let f : Body → Body = on_set (with_member member) in
    let some_if : is_some (set_if (value_at items id)) ≡ true = sym (ap is_some (set_value items id)) ∙ some in
    let out : List (Held Body) = named_more (changed items id (on_value f)) member.object in
    let times_of : (v : Body) → is_some (set_if (Some v)) ≡ true → (o : ℕ) → times (named_in (f v)) o + 0 ≡ times (named_in v) o + times (member.object ∷ []) o =
    λ v. elim v as (λ w. is_some (set_if (Some w)) ≡ true → (o : ℕ) → times (named_in (f w)) o + 0 ≡ times (named_in w) o + times (member.object ∷ []) o) [
      | body.Port port ↦ (λ e o. absurd (cc))
      | body.End end ↦ (λ e o. absurd (cc))
      | body.Set set ↦ (λ e o. member_times o set.members member)
      | body.Memory memory ↦ (λ e o. absurd (cc))
    ] in
    let P : Option Body → Type 0 = λ v. value_at items id ≡ v → is_some (set_if v) ≡ true → Pushed k f next id items out in
    let go : (v : Option Body) → P v = λ v. elim v as (λ w. P w) [
      | None ↦ (λ e s. absurd (cc))
      | Some b ↦ (λ e s. moves_more k f (member.object ∷ []) next id b items sound counted e (times_of b s) (λ o h. subst (λ n. is_there (objects_of items) n ≡ true) (one_in member.object o h) there))
    ] in
    go (value_at items id) refl some_if

-- one name more, for which there is room
pub one_waitable : (threads : List Thread) (f : Body → Body) (next id object : ℕ) (items : List (Held Body)) → IsSoundFrom 0 items next → total_names items + 1 + length threads < 2 ^ 64
    → IsWaitable threads (named_more (changed items id (on_value f)) object)
one_waitable threads f next id object items sound room =
    let left : List (Held Body) = changed items id (on_value f) in
    let more : More 0 next object left = name_one 0 next object left (changed_sound f 0 next id items sound) in
    let most : total_names (named_more left object) ≤ total_names left + 1 = more.total in
    named_waitable threads 1 items (named_more left object) (omega (arith, most, changed_total f id items)) room
