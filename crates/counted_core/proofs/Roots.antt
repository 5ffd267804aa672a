-- How changes of tables change what roots name.
use Rattle.std.proofs.Common.{◌≡◌, ℕ, zero, suc, ◌+◌, ◌<◌, ◌≤◌, Bool, true, false, cond, ◌==◌, List, [], ◌∷◌, ◌++◌, map, not, Some, None, refl, sym, ◌∙◌, ap, subst, arith, tests}
use Rattle.std.specs.Prelude.{slice_get, slice_set}
use Rattle.std.specs.List.{filter, flat_map, fold}
use Rattle.std.proofs.lemmas.List.Sums.{sum_by-cons}
use Rattle.kernel_values.specs.declared.state.Application.{Application}
use Rattle.kernel_values.specs.declared.state.Body.{Body}
use Rattle.kernel_values.specs.declared.state.CoreState.{CoreState}
use Rattle.kernel_values.specs.declared.state.TableEntry.{TableEntry}
use Rattle.kernel_values.specs.declared.state.Thread.{Thread}
use Rattle.kernel_types.specs.Names.{Name, names_of, root, table_names, wait_names}
use Rattle.kernel_types.specs.Objects.{is_there, map_at}
use Rattle.kernel_types.specs.Tables.{entry_at, table_in, without}
use Rattle.kernel_laws.proofs.Mapped.{map_at_same}
use Rattle.handle_table.specs.Tables.{IsTableFrom}
use Rattle.object_store.specs.Stock.{Held, IsSoundFrom, names_at, unnamed}
use Rattle.counted_core.specs.Held.{IsOwed, objects_of, tally, times}
use Rattle.counted_core.specs.Sweeping.{IsCounted, core_of, removed, rooted}
use Rattle.counted_core.proofs.Owing.{Settled, settles}
use Rattle.counted_core.proofs.Sweeps.{both_names, first_name, named_there, naming_tally}

pub rooted_split : (c : CoreState) (o : ℕ) → rooted c o ≡ names_of (flat_map table_names c.apps) o + names_of (map root c.bridged) o + names_of (flat_map wait_names c.threads) o
rooted_split c o =
    both_names o (flat_map table_names c.apps ++ map root c.bridged) (flat_map wait_names c.threads)
    ∙ ap (λ k. k + names_of (flat_map wait_names c.threads) o) (both_names o (flat_map table_names c.apps) (map root c.bridged))

pub app_names : (apps : List Application) (at : ℕ) (a b : Application) (o x y : ℕ) → slice_get apps at ≡ Some a → names_of (table_names b) o + x ≡ names_of (table_names a) o + y
    → names_of (flat_map table_names (slice_set apps at b)) o + x ≡ names_of (flat_map table_names apps) o + y
app_names [] at a b o x y is change = absurd (cc is)
app_names (first ∷ apps) zero a b o x y is change =
    let same : first ≡ a = cc in
    let here : names_of (table_names b) o + x ≡ names_of (table_names first) o + y = subst (λ (z : Application). names_of (table_names b) o + x ≡ names_of (table_names z) o + y) (sym same) change in
    let one : names_of (table_names b ++ flat_map table_names apps) o ≡ names_of (table_names b) o + names_of (flat_map table_names apps) o = both_names o (table_names b) (flat_map table_names apps) in
    let two : names_of (table_names first ++ flat_map table_names apps) o ≡ names_of (table_names first) o + names_of (flat_map table_names apps) o = both_names o (table_names first) (flat_map table_names apps) in
    omega (arith, here, one, two)
app_names (first ∷ apps) (suc at) a b o x y is change =
    let more : names_of (flat_map table_names (slice_set apps at b)) o + x ≡ names_of (flat_map table_names apps) o + y = app_names apps at a b o x y is change in
    let one : names_of (table_names first ++ flat_map table_names (slice_set apps at b)) o ≡ names_of (table_names first) o + names_of (flat_map table_names (slice_set apps at b)) o = both_names o (table_names first) (flat_map table_names (slice_set apps at b)) in
    let two : names_of (table_names first ++ flat_map table_names apps) o ≡ names_of (table_names first) o + names_of (flat_map table_names apps) o = both_names o (table_names first) (flat_map table_names apps) in
    omega (arith, more, one, two)

abbrev entry_names : List TableEntry → List Name
entry_names table = map (λ entry. root entry.object) table

table_removed : (table : List TableEntry) (handle o : ℕ) → names_of (entry_names (without table handle)) o + times (removed table handle) o ≡ names_of (entry_names table) o + 0
table_removed [] handle o = refl
table_removed (entry ∷ table) handle o =
    let left : List TableEntry = without table handle in
    let gone : List ℕ = removed table handle in
    let more : names_of (entry_names left) o + times gone o ≡ names_of (entry_names table) o + 0 = table_removed table handle o in
    let one : names_of (root entry.object ∷ entry_names left) o ≡ cond (entry.object == o) 1 0 + names_of (entry_names left) o = first_name o (root entry.object) (entry_names left) in
    let two : names_of (root entry.object ∷ entry_names table) o ≡ cond (entry.object == o) 1 0 + names_of (entry_names table) o = first_name o (root entry.object) (entry_names table) in
    let three : times (entry.object ∷ gone) o ≡ cond (entry.object == o) 1 0 + times gone o = sum_by-cons (λ x. cond (x == o) 1 0) entry.object gone in
    let had : List TableEntry = filter (λ e. e.handle == handle) table in
    elim (entry.handle == handle) as (λ b. names_of (entry_names (cond (not b) (entry ∷ left) left)) o + times (map (λ e. e.object) (cond b (entry ∷ had) had)) o ≡ names_of (root entry.object ∷ entry_names table) o + 0) [
      | true ↦ omega (arith, more, two, three)
      | false ↦ omega (arith, more, one, two)
    ]

-- a number has one entry at most

removed_above : (low : ℕ) (table : List TableEntry) (handle : ℕ) → IsTableFrom low table → handle < low → removed table handle ≡ []
removed_above low [] handle sound above = refl
removed_above low (entry ∷ table) handle sound above =
    let from : low ≤ entry.handle = sound.0 in
    let other : (entry.handle == handle) ≡ false = grind (arith, tests) in
    let had : List TableEntry = filter (λ e. e.handle == handle) table in
    ap (λ b. map (λ e. e.object) (cond b (entry ∷ had) had)) other ∙ removed_above (entry.handle + 1) table handle sound.2 (omega (arith, from, above))

pub removed_one : (low : ℕ) (table : List TableEntry) (handle : ℕ) (found : TableEntry) → IsTableFrom low table → entry_at table handle ≡ Some found → removed table handle ≡ found.object ∷ []
removed_one low [] handle found sound is = absurd (cc)
removed_one low (entry ∷ table) handle found sound is =
    let had : List TableEntry = filter (λ e. e.handle == handle) table in
    let P : Bool → Type 0 = λ b. (entry.handle == handle) ≡ b → cond b (Some entry) (entry_at table handle) ≡ Some found
    → map (λ e. e.object) (cond b (entry ∷ had) had) ≡ found.object ∷ [] in
    let go : (b : Bool) → P b = λ b. elim b as (λ v. P v) [
      | true ↦ (λ e f.
          let same : entry ≡ found = cc in
          let at : entry.handle ≡ handle = grind (arith, tests) in
          ap (λ l. entry.object ∷ l) (removed_above (entry.handle + 1) table handle sound.2 (omega (arith, at))) ∙ ap (λ (x : TableEntry). x.object ∷ []) same)
      | false ↦ (λ e f. removed_one (entry.handle + 1) table handle found sound.2 f)
    ] in
    go (entry.handle == handle) refl is

pub removed_none : (table : List TableEntry) (handle : ℕ) → entry_at table handle ≡ None → (removed table handle ≡ []) × (without table handle ≡ table)
removed_none [] handle is = (refl, refl)
removed_none (entry ∷ table) handle is =
    let had : List TableEntry = filter (λ e. e.handle == handle) table in
    let P : Bool → Type 0 = λ b. cond b (Some entry) (entry_at table handle) ≡ None
    → (map (λ e. e.object) (cond b (entry ∷ had) had) ≡ []) × (cond (not b) (entry ∷ without table handle) (without table handle) ≡ entry ∷ table) in
    let go : (b : Bool) → P b = λ b. elim b as (λ v. P v) [
      | true ↦ (λ f. absurd (cc))
      | false ↦ (λ f. let rest : (removed table handle ≡ []) × (without table handle ≡ table) = removed_none table handle f in (rest.0, ap (λ l. entry ∷ l) rest.1))
    ] in
    go (entry.handle == handle) is

-- an application that names the same as before
pub same_roots : (apps : List Application) (threads : List Thread) (items : List (Held Body)) (next clock : ℕ) (bridged : List ℕ) (at : ℕ) (a b : Application)
    → slice_get apps at ≡ Some a → table_names b ≡ table_names a → IsCounted (core_of apps threads items next clock bridged) items
    → IsCounted (core_of (slice_set apps at b) threads items next clock bridged) items
same_roots apps threads items next clock bridged at a b is same counted =
    let c : CoreState = core_of apps threads items next clock bridged in
    let d : CoreState = core_of (slice_set apps at b) threads items next clock bridged in
    record {
      counts = λ o.
          let was : names_at items o ≡ rooted c o + tally (objects_of items) o + 0 + cond (is_there (objects_of items) o) 1 0 = counted.counts o in
          let names : names_of (table_names b) o ≡ names_of (table_names a) o = ap (λ l. names_of l o) same in
          let change : names_of (flat_map table_names (slice_set apps at b)) o + 0 ≡ names_of (flat_map table_names apps) o + 0 = app_names apps at a b o 0 0 is (omega (arith, names)) in
          omega (arith, was, change, rooted_split c o, rooted_split d o);
    }

pub cookie_names : (table : List TableEntry) (at cookie : ℕ) → map (λ entry. root entry.object) (map_at (λ e. record e { cookie = cookie }) table at) ≡ map (λ entry. root entry.object) table
cookie_names table at cookie = map_at_same (λ (entry : TableEntry). root entry.object) (λ e. record e { cookie = cookie }) (λ e. refl) table at

-- What a table names is there.

entry_named : (table : List TableEntry) (handle : ℕ) (found : TableEntry) → entry_at table handle ≡ Some found → 1 ≤ names_of (entry_names table) found.object
entry_named [] handle found is = absurd (cc is)
entry_named (entry ∷ table) handle found is =
    let one : names_of (root entry.object ∷ entry_names table) found.object ≡ cond (entry.object == found.object) 1 0 + names_of (entry_names table) found.object = first_name found.object (root entry.object) (entry_names table) in
    let P : Bool → Type 0 = λ b. cond b (Some entry) (entry_at table handle) ≡ Some found → 1 ≤ cond (entry.object == found.object) 1 0 + names_of (entry_names table) found.object in
    let go : (b : Bool) → P b = λ b. elim b as (λ v. P v) [
      | true ↦ (λ f.
          let same : entry ≡ found = cc in
          let here : (entry.object == entry.object) ≡ true = grind (arith, tests) in
          let test : (entry.object == found.object) ≡ true = ap (λ (e : TableEntry). entry.object == e.object) (sym same) ∙ here in
          subst (λ (t : Bool). 1 ≤ cond t 1 0 + names_of (entry_names table) found.object) (sym test) (omega arith))
      | false ↦ (λ f. omega (arith, entry_named table handle found f))
    ] in
    let least : 1 ≤ cond (entry.object == found.object) 1 0 + names_of (entry_names table) found.object = go (entry.handle == handle) is in
    omega (arith, one, least)

app_named : (apps : List Application) (at handle : ℕ) (found : TableEntry) → entry_at (table_in (slice_get apps at)) handle ≡ Some found → 1 ≤ names_of (flat_map table_names apps) found.object
app_named [] at handle found is = absurd (cc is)
app_named (app ∷ apps) zero handle found is = omega (arith, both_names found.object (table_names app) (flat_map table_names apps), entry_named app.table handle found is)
app_named (app ∷ apps) (suc at) handle found is = omega (arith, both_names found.object (table_names app) (flat_map table_names apps), app_named apps at handle found is)

pub held_there : (apps : List Application) (threads : List Thread) (items : List (Held Body)) (next clock : ℕ) (bridged : List ℕ) (at handle : ℕ) (found : TableEntry)
    → IsCounted (core_of apps threads items next clock bridged) items → entry_at (table_in (slice_get apps at)) handle ≡ Some found → is_there (objects_of items) found.object ≡ true
held_there apps threads items next clock bridged at handle found counted is =
    let c : CoreState = core_of apps threads items next clock bridged in
    named_there c items counted found.object (omega (arith, naming_tally c found.object, rooted_split c found.object, app_named apps at handle found is))

-- the state after an entry went
pub record Removed (apps : List Application) (threads : List Thread) (items out : List (Held Body)) (next clock : ℕ) (bridged : List ℕ) (at handle : ℕ) : Type 0 where
  pub same : objects_of out ≡ objects_of items
  pub counted : IsCounted (core_of apps threads out next clock bridged) out

pub removes : (apps : List Application) (threads : List Thread) (items : List (Held Body)) (next clock : ℕ) (bridged : List ℕ) (at handle : ℕ) (a : Application)
    → slice_get apps at ≡ Some a → IsSoundFrom 0 items next → IsCounted (core_of apps threads items next clock bridged) items
    → Removed (slice_set apps at (record a { table = without a.table handle })) threads items (fold unnamed items (removed a.table handle)) next clock bridged at handle
removes apps threads items next clock bridged at handle a is sound counted =
    let b : Application = record a { table = without a.table handle } in
    let c : CoreState = core_of apps threads items next clock bridged in
    let d : CoreState = core_of (slice_set apps at b) threads items next clock bridged in
    let debts : List ℕ = removed a.table handle in
    let owed : IsOwed (rooted d) items debts = record {
      counts = λ o.
          let was : names_at items o ≡ rooted c o + tally (objects_of items) o + 0 + cond (is_there (objects_of items) o) 1 0 = counted.counts o in
          let change : names_of (flat_map table_names (slice_set apps at b)) o + times debts o ≡ names_of (flat_map table_names apps) o + 0 = app_names apps at a b o (times debts o) 0 is (table_removed a.table handle o) in
          omega (arith, was, change, rooted_split c o, rooted_split d o);
    } in
    let settled : Settled (rooted d) next items (fold unnamed items debts) = settles (rooted d) next debts items sound owed in
    record { same = settled.same; counted = settled.owed }

-- the same of a table whose numbers rise: the one entry's object has one name less
pub takes : (apps : List Application) (threads : List Thread) (items : List (Held Body)) (next clock : ℕ) (bridged : List ℕ) (at handle : ℕ) (a : Application) (found : TableEntry)
    → slice_get apps at ≡ Some a → IsTableFrom 0 a.table → entry_at a.table handle ≡ Some found → IsSoundFrom 0 items next → IsCounted (core_of apps threads items next clock bridged) items
    → Removed (slice_set apps at (record a { table = without a.table handle })) threads items (unnamed items found.object) next clock bridged at handle
takes apps threads items next clock bridged at handle a found is rises held sound counted =
    let one : removed a.table handle ≡ found.object ∷ [] = removed_one 0 a.table handle found rises held in
    subst (λ (debts : List ℕ). Removed (slice_set apps at (record a { table = without a.table handle })) threads items (fold unnamed items debts) next clock bridged at handle) one
    (removes apps threads items next clock bridged at handle a is sound counted)
