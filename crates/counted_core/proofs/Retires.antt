-- What a message that is retired makes of the counts.
use Rattle.std.proofs.Common.{◌≡◌, ℕ, ◌+◌, ◌≤◌, ◌==◌, true, false, cond, List, [], ◌∷◌, ◌++◌, not, Option, Some, None, refl, ◌∙◌, ap, subst, arith}
use Rattle.std.specs.List.{filter, flat_map, fold}
use Rattle.std.proofs.lemmas.List.Sums.{sum_by-append}
use Rattle.kernel_values.specs.declared.state.Body.{Body}
use Rattle.kernel_values.specs.declared.state.Body.TheVariants as body
use Rattle.kernel_values.specs.declared.state.CoreState.{CoreState}
use Rattle.kernel_values.specs.declared.state.Message.{Message}
use Rattle.core_changes.specs.Looks.{messages_in}
use Rattle.kernel_types.specs.Messages.{is_opened_as, without_opened}
use Rattle.kernel_types.specs.Names.{message_objects, named_in}
use Rattle.kernel_types.specs.Objects.{on_end}
use Rattle.object_store.specs.Stock.{Held, IsSoundFrom, total_names, unnamed, value_at}
use Rattle.plain_objects.specs.Predicates.{is_another}
use Rattle.counted_core.specs.Found.{end_if}
use Rattle.counted_core.specs.Held.{changed_if, times}
use Rattle.counted_core.specs.Retiring.{holding, opened_parts, retired_items}
use Rattle.counted_core.specs.Sweeping.{IsCounted}
use Rattle.counted_core.proofs.Loans.{lent_none}
use Rattle.counted_core.proofs.Moves.{pushed_none, relists}
use Rattle.counted_core.proofs.Naming.{Pushed}
use Rattle.counted_core.proofs.Totals.{all_less_total, if_total}

both_times : (o : ℕ) (xs ys : List ℕ) → times (xs ++ ys) o ≡ times xs o + times ys o
both_times o xs ys = sum_by-append (λ y. cond (y == o) 1 0) xs ys

retired_times : (number o : ℕ) (messages : List Message) → times (message_objects messages) o ≡ times (message_objects (filter (is_another number) messages)) o + times (flat_map (opened_parts number) messages) o
unfolding is_another opened_parts
retired_times number o [] = refl
retired_times number o (m ∷ rest) =
    let left : List Message = filter (is_another number) rest in
    let gone : List ℕ = flat_map (opened_parts number) rest in
    let more : times (message_objects rest) o ≡ times (message_objects left) o + times gone o = retired_times number o rest in
    let all : times (m.parts ++ message_objects rest) o ≡ times m.parts o + times (message_objects rest) o = both_times o m.parts (message_objects rest) in
    let kept : times (m.parts ++ message_objects left) o ≡ times m.parts o + times (message_objects left) o = both_times o m.parts (message_objects left) in
    let went : times (m.parts ++ gone) o ≡ times m.parts o + times gone o = both_times o m.parts gone in
    elim (is_opened_as number m) as (λ b. times (m.parts ++ message_objects rest) o ≡ times (message_objects (cond (not b) (m ∷ left) left)) o + times (cond b m.parts [] ++ gone) o) [
      | true ↦ omega (arith, more, all, went)
      | false ↦ omega (arith, more, all, kept)
    ]

abbrev kept_count : ℕ → Option Body → ℕ → ℕ
kept_count number v o = times (message_objects (filter (is_another number) (messages_in (end_if v)))) o

abbrev gone_parts : ℕ → Option Body → List ℕ
gone_parts number v = flat_map (opened_parts number) (messages_in (end_if v))

before : (number : ℕ) (v : Body) (o : ℕ) → times (named_in v) o ≡ times (named_in (on_end (holding []) v)) o + kept_count number (Some v) o + times (gone_parts number (Some v)) o
before number (body.Port port) o = omega arith
before number (body.End end) o =
    let r : times (message_objects end.messages) o ≡ times (message_objects (filter (is_another number) end.messages)) o + times (flat_map (opened_parts number) end.messages) o = retired_times number o end.messages in
    omega (arith, r)
before number (body.Set set) o = omega arith
before number (body.Memory memory) o = omega arith

abbrev put_back : ℕ → Option Body → Body → Body
put_back number v = on_end (holding (filter (is_another number) (messages_in (end_if v))))

after : (number : ℕ) (v : Body) (o : ℕ) → times (named_in (put_back number (Some v) (on_end (holding []) v))) o ≡ times (named_in (on_end (holding []) v)) o + kept_count number (Some v) o
after number (body.Port port) o = omega arith
after number (body.End end) o = omega arith
after number (body.Set set) o = omega arith
after number (body.Memory memory) o = omega arith

same_body : (number : ℕ) (v : Body) → put_back number (Some v) (on_end (holding []) v) ≡ on_end (without_opened number) v
unfolding is_another
same_body number (body.Port port) = refl
same_body number (body.End end) = refl
same_body number (body.Set set) = refl
same_body number (body.Memory memory) = refl

pub retires : (k : CoreState) (number next id : ℕ) (items : List (Held Body)) → IsSoundFrom 0 items next → IsCounted k items
    → Pushed k (on_end (without_opened number)) next id items (retired_items number id (messages_in (end_if (value_at items id))) items)
retires k number next id items sound counted =
    let g : Body → Body = on_end (without_opened number) in
    let empty : Body → Body = on_end (holding []) in
    let out : Option Body → List (Held Body) = λ v. changed_if (put_back number v) (Some id) (fold unnamed (changed_if empty (Some id) items) (gone_parts number v)) in
    let P : Option Body → Type 0 = λ v. value_at items id ≡ v → Pushed k g next id items (out v) in
    let go : (v : Option Body) → P v = λ v. elim v as (λ w. P w) [
      | None ↦ (λ e.
          let same : items ≡ changed_if empty (Some id) items = lent_none empty items id id (Some id) refl refl e in
          let again : items ≡ out None = lent_none (put_back number None) items id id (Some id) refl refl e ∙ ap (λ l. changed_if (put_back number None) (Some id) l) same in
          subst (λ l. Pushed k g next id items l) again (pushed_none k g next id items sound counted e))
      | Some b ↦ (λ e. relists k empty g (put_back number (Some b)) (kept_count number (Some b)) (gone_parts number (Some b)) next id b items sound counted e (before number b) (after number b) (same_body number b))
    ] in
    go (value_at items id) refl

pub retired_total : (number id : ℕ) (messages : List Message) (items : List (Held Body)) → total_names (retired_items number id messages items) ≤ total_names items
retired_total number id messages items =
    let one : List (Held Body) = changed_if (on_end (holding [])) (Some id) items in
    let two : List (Held Body) = fold unnamed one (flat_map (opened_parts number) messages) in
    omega (arith, if_total (on_end (holding [])) (Some id) items, all_less_total (flat_map (opened_parts number) messages) one, if_total (on_end (holding (filter (is_another number) messages))) (Some id) two)
