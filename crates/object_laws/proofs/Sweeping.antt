-- What a sweep leaves: the names of roots and of marked holders, and so exactly the objects that those name.
use Rattle.std.proofs.Common.{◌≡◌, ℕ, ◌+◌, ◌<◌, Bool, true, false, cond, ◌&&◌, ◌||◌, ◌==◌, inl, inr, List, [], ◌∷◌, ◌++◌, map, Option, Some, None, refl, sym, ◌∙◌, ap, subst, arith, ◌↔◌, tests}
use Rattle.std.specs.List.{count_by, filter, flat_map}
use Rattle.std.proofs.lemmas.List.Elements.{filter-append}
use Rattle.std.proofs.lemmas.Map.Views.{any-filter_same}
use Rattle.std.proofs.lemmas.List.Sums.{sum_by-cons}
use Rattle.kernel_values.specs.declared.state.Activity.{Activity}
use Rattle.kernel_values.specs.declared.state.Activity.TheVariants as activity
use Rattle.kernel_values.specs.declared.state.Application.{Application}
use Rattle.kernel_values.specs.declared.state.Body.{Body}
use Rattle.kernel_values.specs.declared.state.Body.TheVariants as body
use Rattle.kernel_values.specs.declared.state.CoreState.{CoreState}
use Rattle.kernel_values.specs.declared.state.Object.{Object}
use Rattle.kernel_values.specs.declared.state.TableEntry.{TableEntry}
use Rattle.kernel_values.specs.declared.state.Thread.{Thread}
use Rattle.kernel_values.specs.declared.state.WaitOn.{WaitOn}
use Rattle.kernel_values.specs.declared.state.WaitOn.TheVariants as wait_on
use Rattle.kernel_types.proofs.Reaching.{marked_is_reached}
use Rattle.kernel_types.specs.Names.{Name, activity_names, held_by, named_in, names_of, naming, object_names, root, table_names, wait_names, waited_names}
use Rattle.kernel_types.specs.Objects.{is_there, on_body, on_end, on_port}
use Rattle.kernel_types.specs.Reach.{Among, Reached, is_in, is_marked_holder, reached_by}
use Rattle.kernel_types.specs.Reach.Reached.{by_holder, by_root}
use Rattle.kernel_types.specs.Sweep.{cut_end, kept, pruned, pruned_port, reached, sweep}

-- the name stays: it is of a root or of a marked holder
abbrev pub is_left : List ℕ → Name → Bool
is_left marked name = is_marked_holder marked name.holder

-- The names that are left.

module _ (m : List ℕ) where
  appended : (xs ys zs : List Name) → filter (is_left m) xs ≡ xs → filter (is_left m) ys ≡ zs → filter (is_left m) (xs ++ ys) ≡ xs ++ zs
  appended xs ys zs one other = filter-append (is_left m) xs ys ∙ (ap (λ l. l ++ filter (is_left m) ys) one ∙ ap (λ l. xs ++ l) other)

  table_passes : (entries : List TableEntry) → filter (is_left m) (map (λ entry. root entry.object) entries) ≡ map (λ entry. root entry.object) entries
  table_passes [] = refl
  table_passes (entry ∷ entries) = ap (λ l. root entry.object ∷ l) (table_passes entries)

  apps_pass : (apps : List Application) → filter (is_left m) (flat_map table_names apps) ≡ flat_map table_names apps
  apps_pass [] = refl
  apps_pass (app ∷ apps) = appended (table_names app) (flat_map table_names apps) (flat_map table_names apps) (table_passes app.table) (apps_pass apps)

  roots_pass : (objects : List ℕ) → filter (is_left m) (map root objects) ≡ map root objects
  roots_pass [] = refl
  roots_pass (object ∷ objects) = ap (λ l. root object ∷ l) (roots_pass objects)

  wait_passes : (on : WaitOn) → filter (is_left m) (waited_names on) ≡ waited_names on
  wait_passes (wait_on.Object object handle cookie) = refl
  wait_passes (wait_on.Connect end handle) = refl
  wait_passes wait_on.Any = refl

  activity_passes : (a : Activity) → filter (is_left m) (activity_names a) ≡ activity_names a
  activity_passes activity.Off = refl
  activity_passes (activity.Running start) = refl
  activity_passes (activity.Waiting start wait) = wait_passes wait.on
  activity_passes (activity.Ended start) = refl

  threads_pass : (threads : List Thread) → filter (is_left m) (flat_map wait_names threads) ≡ flat_map wait_names threads
  threads_pass [] = refl
  threads_pass (thread ∷ threads) =
      appended (wait_names thread) (flat_map wait_names threads) (flat_map wait_names threads) (activity_passes thread.activity) (threads_pass threads)

  -- a marked object's names are left, and no others
  held_pass : (holder : ℕ) (b : Bool) → is_in m holder ≡ b → (objects : List ℕ) → filter (is_left m) (map (held_by holder) objects) ≡ cond b (map (held_by holder) objects) []
  held_pass holder true is [] = refl
  held_pass holder false is [] = refl
  held_pass holder true is (object ∷ objects) =
      let rest : List Name = filter (is_left m) (map (held_by holder) objects) in
      ap (λ b. cond b (held_by holder object ∷ rest) rest) is ∙ ap (λ l. held_by holder object ∷ l) (held_pass holder true is objects)
  held_pass holder false is (object ∷ objects) =
      let rest : List Name = filter (is_left m) (map (held_by holder) objects) in
      ap (λ b. cond b (held_by holder object ∷ rest) rest) is ∙ held_pass holder false is objects

  abbrev cut : Object → Object
  cut object = on_body (on_end (cut_end m)) object

  same_named : (b : Body) → named_in (on_end (cut_end m) b) ≡ named_in b
  same_named (body.Port port) = refl
  same_named (body.End end) = refl
  same_named (body.Set set) = refl
  same_named (body.Memory memory) = refl

  same_names : (object : Object) → object_names (cut object) ≡ object_names object
  same_names object = ap (λ l. map (held_by object.id) l) (same_named object.body)

  objects_pass : (objects : List Object) → filter (is_left m) (flat_map object_names objects) ≡ flat_map object_names (map cut (filter (λ object. is_in m object.id) objects))
  objects_pass [] = refl
  objects_pass (object ∷ objects) =
      let left : List Object = filter (λ o. is_in m o.id) objects in
      let names : List Name = object_names object in
      let rest : List Name = flat_map object_names (map cut left) in
      let both : (b : Bool) → is_in m object.id ≡ b → filter (is_left m) names ++ rest ≡ flat_map object_names (map cut (cond b (object ∷ left) left)) =
      λ b. elim b as (λ v. is_in m object.id ≡ v → filter (is_left m) names ++ rest ≡ flat_map object_names (map cut (cond v (object ∷ left) left))) [
        | true ↦ (λ is. ap (λ l. l ++ rest) (held_pass object.id true is (named_in object.body) ∙ sym (same_names object)))
        | false ↦ (λ is. ap (λ l. l ++ rest) (held_pass object.id false is (named_in object.body)))
      ] in
      filter-append (is_left m) names (flat_map object_names objects) ∙ (ap (λ l. filter (is_left m) names ++ l) (objects_pass objects) ∙ both (is_in m object.id) refl)

  pub kept_naming : (c : CoreState) → filter (is_left m) (naming c) ≡ naming (kept m c)
  unfolding naming kept
  kept_naming c =
      let objects : List Name = flat_map object_names c.objects in
      let left : List Name = flat_map object_names (map cut (filter (λ object. is_in m object.id) c.objects)) in
      let waits : List Name = flat_map wait_names c.threads in
      let bridged : List Name = map root c.bridged in
      let tables : List Name = flat_map table_names c.apps in
      appended (tables ++ bridged ++ waits) objects left
      (appended (tables ++ bridged) waits waits (appended tables bridged bridged (apps_pass c.apps) (roots_pass c.bridged)) (threads_pass c.threads)) (objects_pass c.objects)

-- The objects that are left.

there_mapped : (h : Object → Object) → ((object : Object) → (h object).id ≡ object.id) → (objects : List Object) (id : ℕ) → is_there (map h objects) id ≡ is_there objects id
there_mapped h keeps [] id = refl
there_mapped h keeps (object ∷ objects) id =
    ap (λ n. (n == id) || is_there (map h objects) id) (keeps object) ∙ ap (λ b. (object.id == id) || b) (there_mapped h keeps objects id)

there_filtered : (m : List ℕ) (objects : List Object) (id : ℕ) → is_there (filter (λ object. is_in m object.id) objects) id ≡ (is_in m id && is_there objects id)
there_filtered m objects id =
    any-filter_same (λ object. object.id == id) (λ object. is_in m object.id) (is_in m id)
    (λ object is. let eq : object.id ≡ id = grind (arith, tests) in ap (λ n. is_in m n) eq) objects

there_kept : (m : List ℕ) (c : CoreState) (id : ℕ) → is_there (kept m c).objects id ≡ (is_in m id && is_there c.objects id)
unfolding kept
there_kept m c id = there_mapped (cut m) (λ object. refl) (filter (λ object. is_in m object.id) c.objects) id ∙ there_filtered m c.objects id

there_pruned : (m : List ℕ) (c : CoreState) (id : ℕ) → is_there (pruned m c).objects id ≡ is_there c.objects id
unfolding pruned
there_pruned m c id = there_mapped (on_body (on_port (pruned_port m c.objects))) (λ object. refl) c.objects id

-- What is reached is what a name that is left names.

abbrev is_name_of : ℕ → Name → Bool
is_name_of object name = name.object == object

count_first : (object : ℕ) (first : Name) (names : List Name) → count_by (is_name_of object) (first ∷ names) ≡ cond (is_name_of object first) 1 0 + count_by (is_name_of object) names
count_first object first names = sum_by-cons (λ name. cond (is_name_of object name) 1 0) first names

counted : (m : List ℕ) (object : ℕ) (name : Name) (entries : List Name) → Among name entries → is_left m name ≡ true → is_name_of object name ≡ true
    → 0 < count_by (is_name_of object) (filter (is_left m) entries)
counted m object name [] among passes is = absurd among
counted m object name (other ∷ entries) (inl same) passes is =
    let rest : List Name = filter (is_left m) entries in
    let P : Name → Type 0 = λ n. is_left m n ≡ true × is_name_of object n ≡ true in
    let both : is_left m other ≡ true × is_name_of object other ≡ true = subst P (sym same) (passes, is) in
    subst (λ (b : Bool). 0 < count_by (is_name_of object) (cond b (other ∷ rest) rest)) (sym both.0)
    (subst (λ n. 0 < n) (sym (count_first object other rest)) (subst (λ (b : Bool). 0 < cond b 1 0 + count_by (is_name_of object) rest) (sym both.1) (omega arith)))
counted m object name (other ∷ entries) (inr more) passes is =
    let rest : List Name = filter (is_left m) entries in
    let few : 0 < count_by (is_name_of object) rest = counted m object name entries more passes is in
    elim (is_left m other) as (λ b. 0 < count_by (is_name_of object) (cond b (other ∷ rest) rest)) [
      | true ↦ subst (λ n. 0 < n) (sym (count_first object other rest)) (omega (arith, few))
      | false ↦ few
    ]

-- a name that is left and is of the object
record PassingName (m : List ℕ) (object : ℕ) (entries : List Name) : Type 0 where
  name : Name
  among : Among name entries
  passes : is_left m name ≡ true
  names : is_name_of object name ≡ true

one_more : (m : List ℕ) (object : ℕ) (first : Name) (entries : List Name) → PassingName m object entries → PassingName m object (first ∷ entries)
one_more m object first entries found = record { name = found.name; among = inr found.among; passes = found.passes; names = found.names }

passing : (m : List ℕ) (object : ℕ) (entries : List Name) → 0 < count_by (is_name_of object) (filter (is_left m) entries) → PassingName m object entries
passing m object [] few = absurd (omega (arith, few))
passing m object (first ∷ entries) few =
    let rest : List Name = filter (is_left m) entries in
    let more : 0 < count_by (is_name_of object) rest → PassingName m object (first ∷ entries) = λ left. one_more m object first entries (passing m object entries left) in
    let named : (b : Bool) → is_left m first ≡ true → is_name_of object first ≡ b → 0 < cond b 1 0 + count_by (is_name_of object) rest → PassingName m object (first ∷ entries) =
    λ b. elim b as (λ v. is_left m first ≡ true → is_name_of object first ≡ v → 0 < cond v 1 0 + count_by (is_name_of object) rest → PassingName m object (first ∷ entries)) [
      | true ↦ (λ passes is left. record { name = first; among = inl refl; passes = passes; names = is })
      | false ↦ (λ passes is left. more (omega (arith, left)))
    ] in
    let go : (b : Bool) → is_left m first ≡ b → 0 < count_by (is_name_of object) (cond b (first ∷ rest) rest) → PassingName m object (first ∷ entries) =
    λ b. elim b as (λ v. is_left m first ≡ v → 0 < count_by (is_name_of object) (cond v (first ∷ rest) rest) → PassingName m object (first ∷ entries)) [
      | true ↦ (λ passes left. named (is_name_of object first) passes refl (subst (λ n. 0 < n) (count_first object first rest) left))
      | false ↦ (λ passes left. more left)
    ] in
    go (is_left m first) refl few

module _ (entries : List Name) where
  abbrev marked : List ℕ
  marked = reached_by entries

  same_object : (object : ℕ) → is_name_of object (root object) ≡ true
  same_object object = grind (arith, tests)

  reached_named : (object : ℕ) → Reached entries object → 0 < count_by (is_name_of object) (filter (is_left marked) entries)
  reached_named object (by_root _ among) = counted marked object (root object) entries among refl (same_object object)
  reached_named object (by_holder holder _ held among) =
      counted marked object (held_by holder object) entries among ((marked_is_reached entries holder).1 held) (same_object object)

  passing_reached : (object : ℕ) (holder : Option ℕ) (named : ℕ) → Among (record { holder = holder; object = named }) entries → is_marked_holder marked holder ≡ true
      → named ≡ object → Reached entries object
  passing_reached object None named among passes same = subst (λ n. Reached entries n) same (by_root named among)
  passing_reached object (Some holder) named among passes same =
      subst (λ n. Reached entries n) same (by_holder holder named ((marked_is_reached entries holder).0 passes) among)

  named_reached : (object : ℕ) → 0 < count_by (is_name_of object) (filter (is_left marked) entries) → Reached entries object
  named_reached object few =
      let found : PassingName marked object entries = passing marked object entries few in
      let is : is_name_of object found.name ≡ true = found.names in
      let same : found.name.object ≡ object = grind (arith, tests) in
      passing_reached object found.name.holder found.name.object found.among found.passes same

  pub marked_named : (object : ℕ) → is_in marked object ≡ true → 0 < names_of (filter (is_left marked) entries) object
  marked_named object is = reached_named object ((marked_is_reached entries object).0 is)

  pub named_marked : (object : ℕ) → 0 < names_of (filter (is_left marked) entries) object → is_in marked object ≡ true
  named_marked object few = (marked_is_reached entries object).1 (named_reached object few)

-- The sweep.

module _ (c : CoreState) (object : ℕ) where
  abbrev before : CoreState
  before = pruned (reached c) c

  abbrev marks : List ℕ
  marks = reached_by (naming before)

  there_swept : is_there (sweep c).objects object ≡ (is_in marks object && is_there c.objects object)
  unfolding sweep
  there_swept = there_kept marks before object ∙ ap (λ b. is_in marks object && b) (there_pruned (reached c) c object)

  names_left : names_of (filter (is_left marks) (naming before)) object ≡ names_of (naming (sweep c)) object
  unfolding sweep
  names_left = ap (λ l. names_of l object) (kept_naming marks before)

  both_of : (a b : Bool) → (a && b) ≡ true → (a ≡ true) × (b ≡ true)
  both_of true true is = (refl, refl)
  both_of true false is = absurd (cc)
  both_of false b is = absurd (cc)

  left_named : is_there (sweep c).objects object ≡ true → (is_there c.objects object ≡ true) × (0 < names_of (naming (sweep c)) object)
  left_named there =
      let both : (is_in marks object ≡ true) × (is_there c.objects object ≡ true) = both_of (is_in marks object) (is_there c.objects object) (sym there_swept ∙ there) in
      (both.1, subst (λ n. 0 < n) names_left (marked_named (naming before) object both.0))

  named_left : (is_there c.objects object ≡ true) × (0 < names_of (naming (sweep c)) object) → is_there (sweep c).objects object ≡ true
  named_left given =
      let mark : is_in marks object ≡ true = named_marked (naming before) object (subst (λ n. 0 < n) (sym names_left) given.1) in
      there_swept ∙ (ap (λ b. b && is_there c.objects object) mark ∙ given.0)

  pub swept_iff : (is_there (sweep c).objects object ≡ true) ↔ ((is_there c.objects object ≡ true) × (0 < names_of (naming (sweep c)) object))
  swept_iff = (left_named, named_left)
