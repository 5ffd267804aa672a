-- What a member that goes from a set makes of the counts.
use Rattle.std.proofs.Common.{◌≡◌, ℕ, ◌+◌, ◌≤◌, ◌==◌, true, false, cond, List, [], ◌∷◌, ◌++◌, map, not, Option, Some, None, refl, ◌∙◌, ap, subst, arith}
use Rattle.std.specs.List.{filter, flat_map, fold}
use Rattle.std.proofs.lemmas.List.Sums.{sum_by-cons}
use Rattle.kernel_values.specs.declared.state.Body.{Body}
use Rattle.kernel_values.specs.declared.state.Body.TheVariants as body
use Rattle.kernel_values.specs.declared.state.CoreState.{CoreState}
use Rattle.kernel_values.specs.declared.state.Member.{Member}
use Rattle.core_changes.specs.Looks.{members_in}
use Rattle.kernel_types.specs.Names.{named_in}
use Rattle.kernel_types.specs.Objects.{on_set}
use Rattle.kernel_types.specs.Sets.{has_label, without_label}
use Rattle.object_store.specs.Stock.{Held, IsSoundFrom, total_names, unnamed, value_at}
use Rattle.counted_core.specs.Found.{set_if}
use Rattle.counted_core.specs.Held.{changed_if, times}
use Rattle.counted_core.specs.Members.{having, is_labelled_else, labelled_objects, removed_items}
use Rattle.counted_core.specs.Sweeping.{IsCounted}
use Rattle.counted_core.proofs.Loans.{lent_none}
use Rattle.counted_core.proofs.Moves.{pushed_none, relists}
use Rattle.counted_core.proofs.Naming.{Pushed}
use Rattle.counted_core.proofs.Totals.{all_less_total, if_total}

abbrev objects_in : List Member → List ℕ
objects_in members = map (λ member. member.object) members

first_time : (x : ℕ) (xs : List ℕ) (o : ℕ) → times (x ∷ xs) o ≡ cond (x == o) 1 0 + times xs o
first_time x xs o = sum_by-cons (λ y. cond (y == o) 1 0) x xs

removed_times : (label o : ℕ) (members : List Member) → times (objects_in members) o ≡ times (objects_in (filter (is_labelled_else label) members)) o + times (flat_map (labelled_objects label) members) o
unfolding is_labelled_else labelled_objects
removed_times label o [] = refl
removed_times label o (m ∷ rest) =
    let left : List Member = filter (is_labelled_else label) rest in
    let gone : List ℕ = flat_map (labelled_objects label) rest in
    let more : times (objects_in rest) o ≡ times (objects_in left) o + times gone o = removed_times label o rest in
    let all : times (m.object ∷ objects_in rest) o ≡ cond (m.object == o) 1 0 + times (objects_in rest) o = first_time m.object (objects_in rest) o in
    let kept : times (m.object ∷ objects_in left) o ≡ cond (m.object == o) 1 0 + times (objects_in left) o = first_time m.object (objects_in left) o in
    let went : times (m.object ∷ gone) o ≡ cond (m.object == o) 1 0 + times gone o = first_time m.object gone o in
    elim (has_label label m) as (λ b. times (m.object ∷ objects_in rest) o ≡ times (objects_in (cond (not b) (m ∷ left) left)) o + times (cond b (m.object ∷ []) [] ++ gone) o) [
      | true ↦ omega (arith, more, all, went)
      | false ↦ omega (arith, more, all, kept)
    ]

abbrev kept_count : ℕ → Option Body → ℕ → ℕ
kept_count label v o = times (objects_in (filter (is_labelled_else label) (members_in (set_if v)))) o

abbrev gone_objects : ℕ → Option Body → List ℕ
gone_objects label v = flat_map (labelled_objects label) (members_in (set_if v))

before : (label : ℕ) (v : Body) (o : ℕ) → times (named_in v) o ≡ times (named_in (on_set (having []) v)) o + kept_count label (Some v) o + times (gone_objects label (Some v)) o
before label (body.Port port) o = omega arith
before label (body.Set set) o =
    let r : times (objects_in set.members) o ≡ times (objects_in (filter (is_labelled_else label) set.members)) o + times (flat_map (labelled_objects label) set.members) o = removed_times label o set.members in
    omega (arith, r)
before label (body.End end) o = omega arith
before label (body.Memory memory) o = omega arith

abbrev put_back : ℕ → Option Body → Body → Body
put_back label v = on_set (having (filter (is_labelled_else label) (members_in (set_if v))))

after : (label : ℕ) (v : Body) (o : ℕ) → times (named_in (put_back label (Some v) (on_set (having []) v))) o ≡ times (named_in (on_set (having []) v)) o + kept_count label (Some v) o
after label (body.Port port) o = omega arith
after label (body.Set set) o = omega arith
after label (body.End end) o = omega arith
after label (body.Memory memory) o = omega arith

same_body : (label : ℕ) (v : Body) → put_back label (Some v) (on_set (having []) v) ≡ on_set (without_label label) v
unfolding is_labelled_else
same_body label (body.Port port) = refl
same_body label (body.Set set) = refl
same_body label (body.End end) = refl
same_body label (body.Memory memory) = refl

pub removes_member : (k : CoreState) (label next id : ℕ) (items : List (Held Body)) → IsSoundFrom 0 items next → IsCounted k items
    → Pushed k (on_set (without_label label)) next id items (removed_items label id (members_in (set_if (value_at items id))) items)
removes_member k label next id items sound counted =
    let g : Body → Body = on_set (without_label label) in
    let empty : Body → Body = on_set (having []) in
    let out : Option Body → List (Held Body) = λ v. changed_if (put_back label v) (Some id) (fold unnamed (changed_if empty (Some id) items) (gone_objects label v)) in
    let P : Option Body → Type 0 = λ v. value_at items id ≡ v → Pushed k g next id items (out v) in
    let go : (v : Option Body) → P v = λ v. elim v as (λ w. P w) [
      | None ↦ (λ e.
          let same : items ≡ changed_if empty (Some id) items = lent_none empty items id id (Some id) refl refl e in
          let again : items ≡ out None = lent_none (put_back label None) items id id (Some id) refl refl e ∙ ap (λ l. changed_if (put_back label None) (Some id) l) same in
          subst (λ l. Pushed k g next id items l) again (pushed_none k g next id items sound counted e))
      | Some b ↦ (λ e. relists k empty g (put_back label (Some b)) (kept_count label (Some b)) (gone_objects label (Some b)) next id b items sound counted e (before label b) (after label b) (same_body label b))
    ] in
    go (value_at items id) refl

pub removed_total : (label id : ℕ) (members : List Member) (items : List (Held Body)) → total_names (removed_items label id members items) ≤ total_names items
removed_total label id members items =
    let one : List (Held Body) = changed_if (on_set (having [])) (Some id) items in
    let two : List (Held Body) = fold unnamed one (flat_map (labelled_objects label) members) in
    omega (arith, if_total (on_set (having [])) (Some id) items, all_less_total (flat_map (labelled_objects label) members) one, if_total (on_set (having (filter (is_labelled_else label) members))) (Some id) two)
