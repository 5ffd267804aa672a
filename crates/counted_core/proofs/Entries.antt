-- What the numbers of a table name is there.
use Rattle.std.proofs.Common.{◌≡◌, ℕ, zero, suc, ◌+◌, ◌≤◌, Bool, true, false, cond, ◌&&◌, ◌||◌, ◌==◌, List, [], ◌∷◌, ◌++◌, map, Option, Some, None, refl, sym, ◌∙◌, ap, subst, arith, tests}
use Rattle.std.specs.Prelude.{slice_get}
use Rattle.std.specs.List.{flat_map, list_all}
use Rattle.std.specs.Option.{is_some, option_map}
use Rattle.kernel_values.specs.declared.state.Application.{Application}
use Rattle.kernel_values.specs.declared.state.Body.{Body}
use Rattle.kernel_values.specs.declared.state.CoreState.{CoreState}
use Rattle.kernel_values.specs.declared.state.TableEntry.{TableEntry}
use Rattle.kernel_values.specs.declared.state.Body.TheVariants as body
use Rattle.core_changes.specs.Looks.{pending_in}
use Rattle.kernel_types.specs.Messages.{entry_object, is_in_table, part_objects}
use Rattle.kernel_types.specs.Names.{Name, named_in, names_of, root, table_names}
use Rattle.kernel_types.specs.Objects.{is_there}
use Rattle.kernel_types.specs.Reach.{is_in}
use Rattle.kernel_types.specs.Tables.{entry_at, table_in, table_of}
use Rattle.object_store.specs.Stock.{Held, held_at, names_at, value_at}
use Rattle.counted_core.specs.Held.{objects_of, tally, times}
use Rattle.counted_core.specs.Found.{port_if}
use Rattle.counted_core.specs.Sending.{AllHeldThere, AllPendingThere}
use Rattle.counted_core.specs.Sweeping.{IsCounted, at, rooted}
use Rattle.counted_core.proofs.Drops.{times_in}
use Rattle.counted_core.proofs.Naming.{port_value}
use Rattle.counted_core.proofs.Owing.{absent_names}
use Rattle.counted_core.proofs.Roots.{rooted_split}
use Rattle.counted_core.proofs.Sweeps.{both_names, first_name}

abbrev entry_names : List TableEntry → List Name
entry_names table = map (λ entry. root entry.object) table

entry_counted : (table : List TableEntry) (handle : ℕ) → is_in_table table handle ≡ true → 1 ≤ names_of (entry_names table) (entry_object (entry_at table handle))
entry_counted [] handle is = absurd (cc)
entry_counted (entry ∷ table) handle is =
    let P : Bool → Type 0 = λ b. is_some (cond b (Some entry) (entry_at table handle)) ≡ true → 1 ≤ names_of (entry_names (entry ∷ table)) (entry_object (cond b (Some entry) (entry_at table handle))) in
    let go : (b : Bool) → P b = λ b. elim b as (λ v. P v) [
      | true ↦ (λ e.
          let one : names_of (entry_names (entry ∷ table)) entry.object ≡ cond (entry.object == entry.object) 1 0 + names_of (entry_names table) entry.object = first_name entry.object (root entry.object) (entry_names table) in
          let here : (entry.object == entry.object) ≡ true = grind (arith, tests) in
          let counted : names_of (entry_names (entry ∷ table)) entry.object ≡ 1 + names_of (entry_names table) entry.object = one ∙ ap (λ (b : Bool). cond b 1 0 + names_of (entry_names table) entry.object) here in
          omega (arith, counted))
      | false ↦ (λ e.
          let o : ℕ = entry_object (entry_at table handle) in
          let more : 1 ≤ names_of (entry_names table) o = entry_counted table handle e in
          let one : names_of (entry_names (entry ∷ table)) o ≡ cond (entry.object == o) 1 0 + names_of (entry_names table) o = first_name o (root entry.object) (entry_names table) in
          omega (arith, more, one))
    ] in
    go (entry.handle == handle) is

apps_counted : (apps : List Application) (app o : ℕ) → 1 ≤ names_of (entry_names (table_in (slice_get apps app))) o → 1 ≤ names_of (flat_map table_names apps) o
apps_counted [] app o some = absurd (omega (arith, some))
apps_counted (a ∷ apps) zero o some =
    let one : names_of (table_names a ++ flat_map table_names apps) o ≡ names_of (table_names a) o + names_of (flat_map table_names apps) o = both_names o (table_names a) (flat_map table_names apps) in
    omega (arith, some, one)
apps_counted (a ∷ apps) (suc app) o some =
    let more : 1 ≤ names_of (flat_map table_names apps) o = apps_counted apps app o some in
    let one : names_of (table_names a ++ flat_map table_names apps) o ≡ names_of (table_names a) o + names_of (flat_map table_names apps) o = both_names o (table_names a) (flat_map table_names apps) in
    omega (arith, more, one)

-- what roots name is there
pub root_there : (k : CoreState) (items : List (Held Body)) (o : ℕ) → IsCounted k items → 1 ≤ rooted k o → is_there (objects_of items) o ≡ true
root_there k items o counted some =
    let is : names_at items o ≡ rooted k o + tally (objects_of items) o + 0 + cond (is_there (objects_of items) o) 1 0 = counted.counts o in
    let P : Bool → Type 0 = λ b. is_there (objects_of items) o ≡ b → names_at items o ≡ rooted k o + tally (objects_of items) o + 0 + cond b 1 0 → b ≡ true in
    let go : (b : Bool) → P b = λ b. elim b as (λ v. P v) [
      | true ↦ (λ e f. refl)
      | false ↦ (λ e f. let none : names_at items o ≡ 0 = absent_names items o e in absurd (omega (arith, f, none, some)))
    ] in
    go (is_there (objects_of items) o) refl is

pub held_there : (k : CoreState) (items : List (Held Body)) → IsCounted k items → AllHeldThere (at k items)
held_there k items counted app handle is =
    let o : ℕ = entry_object (entry_at (table_of k app) handle) in
    let some : 1 ≤ names_of (flat_map table_names k.apps) o = apps_counted k.apps app o (entry_counted (table_of k app) handle is) in
    root_there k items o counted (omega (arith, some, rooted_split k o))

halves : (a b : Bool) → (a && b) ≡ true → (a ≡ true) × (b ≡ true)
halves true b is = (refl, is)
halves false b is = absurd (cc)

pub parts_there : (c : CoreState) (app : ℕ) (parts : List ℕ) → AllHeldThere c → list_all (is_in_table (table_of c app)) parts ≡ true
    → (o : ℕ) → is_in (part_objects (table_of c app) parts) o ≡ true → is_there c.objects o ≡ true
parts_there c app [] there all o h = absurd (cc)
parts_there c app (handle ∷ parts) there all o h =
    let both : (is_in_table (table_of c app) handle ≡ true) × (list_all (is_in_table (table_of c app)) parts ≡ true) = halves (is_in_table (table_of c app) handle) (list_all (is_in_table (table_of c app)) parts) all in
    let part : ℕ = entry_object (entry_at (table_of c app) handle) in
    let P : Bool → Type 0 = λ b. (part == o) ≡ b → (b || is_in (part_objects (table_of c app) parts) o) ≡ true → is_there c.objects o ≡ true in
    let go : (b : Bool) → P b = λ b. elim b as (λ v. P v) [
      | true ↦ (λ e g. let same : part ≡ o = grind (arith, tests) in subst (λ n. is_there c.objects n ≡ true) same (there app handle both.0))
      | false ↦ (λ e g. parts_there c app parts there both.1 o g)
    ] in
    go (part == o) refl h

-- what an object names is there

names_least : (items : List (Held Body)) (id o : ℕ) (b : Body) → value_at items id ≡ Some b → times (named_in b) o ≤ tally (objects_of items) o
names_least [] id o b is = absurd (cc)
names_least (h ∷ rest) id o b is =
    let P : Bool → Type 0 = λ t. option_map (λ (k : Held Body). k.value) (cond t (Some h) (held_at rest id)) ≡ Some b → times (named_in b) o ≤ times (named_in h.value) o + tally (objects_of rest) o in
    let go : (t : Bool) → P t = λ t. elim t as (λ v. P v) [
      | true ↦ (λ e. let same : h.value ≡ b = cc in let here : times (named_in h.value) o ≡ times (named_in b) o = ap (λ v. times (named_in v) o) same in omega (arith, here))
      | false ↦ (λ e. let more : times (named_in b) o ≤ tally (objects_of rest) o = names_least rest id o b e in omega (arith, more))
    ] in
    go (h.serial == id) is

named_there : (k : CoreState) (items : List (Held Body)) (id o : ℕ) (b : Body) → IsCounted k items → value_at items id ≡ Some b → 1 ≤ times (named_in b) o → is_there (objects_of items) o ≡ true
named_there k items id o b counted is some =
    let sum : names_at items o ≡ rooted k o + tally (objects_of items) o + 0 + cond (is_there (objects_of items) o) 1 0 = counted.counts o in
    let least : times (named_in b) o ≤ tally (objects_of items) o = names_least items id o b is in
    let P : Bool → Type 0 = λ t. is_there (objects_of items) o ≡ t → names_at items o ≡ rooted k o + tally (objects_of items) o + 0 + cond t 1 0 → t ≡ true in
    let go : (t : Bool) → P t = λ t. elim t as (λ v. P v) [
      | true ↦ (λ e f. refl)
      | false ↦ (λ e f. let none : names_at items o ≡ 0 = absent_names items o e in absurd (omega (arith, f, none, some, least)))
    ] in
    go (is_there (objects_of items) o) refl sum

pub pending_there : (k : CoreState) (items : List (Held Body)) → IsCounted k items → AllPendingThere (at k items)
pending_there k items counted port o h =
    let P : Option Body → Type 0 = λ v. value_at items port ≡ v → is_in (pending_in (port_if v)) o ≡ true → is_there (objects_of items) o ≡ true in
    let of_body : (b : Body) → P (Some b) = λ b. elim b as (λ w. P (Some w)) [
      | body.Port p ↦ (λ e i. named_there k items port o (body.Port p) counted e (times_in p.pending o i))
      | body.End end ↦ (λ e i. absurd (cc))
      | body.Set set ↦ (λ e i. absurd (cc))
      | body.Memory memory ↦ (λ e i. absurd (cc))
    ] in
    let go : (v : Option Body) → P v = λ v. elim v as (λ w. P w) [ None ↦ (λ e i. absurd (cc)) | Some b ↦ of_body b ] in
    go (value_at items port) refl (sym (ap (λ p. is_in (pending_in p) o) (port_value items port)) ∙ h)

pub there_held : (items : List (Held Body)) (id : ℕ) → is_some (held_at items id) ≡ is_there (objects_of items) id
there_held [] id = refl
there_held (h ∷ rest) id = elim (h.serial == id) as (λ b. is_some (cond b (Some h) (held_at rest id)) ≡ b || is_there (objects_of rest) id) [ true ↦ refl | false ↦ there_held rest id ]
