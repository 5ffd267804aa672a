-- How new objects and new numbers of tables change the counts.
use Rattle.std.proofs.Common.{◌≡◌, ℕ, zero, suc, ◌+◌, ◌<◌, ◌≤◌, ◌^◌, Bool, true, false, cond, ◌||◌, ◌==◌, List, [], ◌∷◌, ◌++◌, take, drop, length, map, Option, Some, None, refl, sym, ◌∙◌, ap, subst, arith, tests}
use Rattle.std.proofs.lemmas.List.Sums.{sum_by-append, sum_by-cons}
use Rattle.std.specs.Prelude.{slice_get, slice_set}
use Rattle.std.specs.List.{flat_map, fold}
use Rattle.std.specs.Option.{option_map, option_map_or}
use Rattle.kernel_values.specs.declared.state.Application.{Application}
use Rattle.kernel_values.specs.declared.state.Body.{Body}
use Rattle.kernel_values.specs.declared.state.CoreState.{CoreState}
use Rattle.kernel_values.specs.declared.state.TableEntry.{TableEntry}
use Rattle.kernel_values.specs.declared.state.Thread.{Thread}
use Rattle.kernel_types.specs.Messages.{all_installed}
use Rattle.kernel_types.specs.Names.{Name, named_in, names_of, root, table_names}
use Rattle.kernel_types.specs.Objects.{is_there, map_at, set_if}
use Rattle.kernel_types.specs.Reach.{is_in}
use Rattle.kernel_types.specs.Tables.{installed, table_changed}
use Rattle.object_store.specs.Stock.{Held, IsSoundFrom, held_at, names_at, new_held, total_names}
use Rattle.counted_core.specs.Held.{object_of_held, objects_of, tally, times}
use Rattle.counted_core.specs.Installing.{named_by}
use Rattle.counted_core.specs.Sending.{named_more}
use Rattle.counted_core.specs.Sweeping.{IsCounted, core_of, rooted}
use Rattle.counted_core.specs.Waiting.{IsExact}
use Rattle.counted_core.proofs.Loans.{above_absent}
use Rattle.counted_core.proofs.Naming.{AllNamed, IsLacking, names_all}
use Rattle.counted_core.proofs.Owing.{absent_names}
use Rattle.counted_core.proofs.Roots.{app_names, rooted_split}
use Rattle.counted_core.proofs.Sweeps.{first_name}
use Rattle.counted_core.proofs.Totals.{Recounted, more_total, named_waitable}

-- New numbers for objects that are there.

abbrev entry_names : List TableEntry → List Name
entry_names table = map (λ entry. root entry.object) table

inserted : (o : ℕ) (entry : TableEntry) (n : ℕ) (table : List TableEntry) → names_of (entry_names (take n table ++ entry ∷ drop n table)) o ≡ names_of (entry_names table) o + cond (entry.object == o) 1 0
inserted o entry zero table = let one : names_of (entry_names (entry ∷ table)) o ≡ cond (entry.object == o) 1 0 + names_of (entry_names table) o = first_name o (root entry.object) (entry_names table) in omega (arith, one)
inserted o entry (suc n) [] = let one : names_of (entry_names (entry ∷ [])) o ≡ cond (entry.object == o) 1 0 + names_of (entry_names []) o = first_name o (root entry.object) [] in omega (arith, one)
inserted o entry (suc n) (first ∷ table) =
    let more : names_of (entry_names (take n table ++ entry ∷ drop n table)) o ≡ names_of (entry_names table) o + cond (entry.object == o) 1 0 = inserted o entry n table in
    let one : names_of (root first.object ∷ entry_names (take n table ++ entry ∷ drop n table)) o ≡ cond (first.object == o) 1 0 + names_of (entry_names (take n table ++ entry ∷ drop n table)) o = first_name o (root first.object) (entry_names (take n table ++ entry ∷ drop n table)) in
    let two : names_of (root first.object ∷ entry_names table) o ≡ cond (first.object == o) 1 0 + names_of (entry_names table) o = first_name o (root first.object) (entry_names table) in
    omega (arith, more, one, two)

all_names : (o : ℕ) (objects : List ℕ) (table : List TableEntry) → names_of (entry_names (all_installed table objects)) o ≡ names_of (entry_names table) o + times objects o
all_names o [] table = omega arith
all_names o (object ∷ objects) table =
    let more : names_of (entry_names (all_installed (installed table object) objects)) o ≡ names_of (entry_names (installed table object)) o + times objects o = all_names o objects (installed table object) in
    let one : names_of (entry_names (installed table object)) o ≡ names_of (entry_names table) o + cond (object == o) 1 0 = inserted o _ _ table in
    let two : times (object ∷ objects) o ≡ cond (object == o) 1 0 + times objects o = sum_by-cons (λ y. cond (y == o) 1 0) object objects in
    omega (arith, more, one, two)

-- objects get numbers of a table, each its own
pub gives : (apps : List Application) (threads : List Thread) (items : List (Held Body)) (next clock : ℕ) (bridged : List ℕ) (at : ℕ) (objects : List ℕ) (a : Application)
    → slice_get apps at ≡ Some a → ((o : ℕ) → is_in objects o ≡ true → is_there (objects_of items) o ≡ true) → IsSoundFrom 0 items next
    → total_names items + length objects + length threads < 2 ^ 64 → IsExact (core_of apps threads items next clock bridged) items
    → Recounted (core_of (slice_set apps at (record a { table = all_installed a.table objects })) threads (fold named_more items objects) next clock bridged) items (fold named_more items objects)
gives apps threads items next clock bridged at objects a is there sound room exact =
    let b : Application = record a { table = all_installed a.table objects } in
    let c : CoreState = core_of apps threads items next clock bridged in
    let d : CoreState = core_of (slice_set apps at b) threads items next clock bridged in
    let lacking : IsLacking (rooted d) items objects = record {
      counts = λ o.
          let was : names_at items o ≡ rooted c o + tally (objects_of items) o + 0 + cond (is_there (objects_of items) o) 1 0 = exact.counted.counts o in
          let all : names_of (table_names b) o ≡ names_of (table_names a) o + times objects o = all_names o objects a.table in
          let change : names_of (flat_map table_names (slice_set apps at b)) o + 0 ≡ names_of (flat_map table_names apps) o + times objects o = app_names apps at a b o 0 (times objects o) is (omega (arith, all)) in
          omega (arith, was, change, rooted_split c o, rooted_split d o);
    } in
    let all : AllNamed (rooted d) next items (fold named_more items objects) = names_all (rooted d) next objects items sound lacking there in
    record {
      same = all.same;
      exact = record { counted = all.owed; waitable = named_waitable threads (length objects) items (fold named_more items objects) (more_total objects next items sound) room };
    }

-- an object gets a number of a table, where the application is there
pub installs : (apps : List Application) (threads : List Thread) (items : List (Held Body)) (next clock : ℕ) (bridged : List ℕ) (at object : ℕ)
    → is_there (objects_of items) object ≡ true → IsSoundFrom 0 items next → total_names items + 1 + length threads < 2 ^ 64 → IsExact (core_of apps threads items next clock bridged) items
    → Recounted (core_of (map_at (table_changed (λ table. installed table object)) apps at) threads (named_by (slice_get apps at) object items) next clock bridged) items (named_by (slice_get apps at) object items)
installs apps threads items next clock bridged at object there sound room exact =
    let P : Option Application → Type 0 = λ o. slice_get apps at ≡ o
    → Recounted (core_of (set_if apps at (option_map (table_changed (λ table. installed table object)) o)) threads (named_by o object items) next clock bridged) items (named_by o object items) in
    let go : (o : Option Application) → P o = λ o. elim o as (λ v. P v) [
      | None ↦ (λ is. record { same = refl; exact = exact })
      | Some a ↦ (λ is. gives apps threads items next clock bridged at (object ∷ []) a is
          (λ o h. let same : object ≡ o = grind (arith, tests) in subst (λ n. is_there (objects_of items) n ≡ true) same there) sound room exact)
    ] in
    go (slice_get apps at) refl

-- New objects.

put_names : (items : List (Held Body)) (h : Held Body) (o : ℕ) → names_at (items ++ h ∷ []) o ≡ cond (is_there (objects_of items) o) (names_at items o) (cond (h.serial == o) h.names 0)
put_names [] h o = elim (h.serial == o) as (λ b. option_map_or (λ (k : Held Body). k.names) (cond b (Some h) None) 0 ≡ cond b h.names 0) [ true ↦ refl | false ↦ refl ]
put_names (first ∷ items) h o =
    let names : Option (Held Body) → ℕ = λ k. option_map_or (λ (x : Held Body). x.names) k 0 in
    elim (first.serial == o) as (λ b. names (cond b (Some first) (held_at (items ++ h ∷ []) o))
    ≡ cond (b || is_there (objects_of items) o) (names (cond b (Some first) (held_at items o))) (cond (h.serial == o) h.names 0)) [
      | true ↦ refl
      | false ↦ put_names items h o
    ]

put_there : (items : List (Held Body)) (h : Held Body) (o : ℕ) → is_there (objects_of (items ++ h ∷ [])) o ≡ (is_there (objects_of items) o || (h.serial == o))
put_there [] h o = elim (h.serial == o) as (λ b. (b || false) ≡ (false || b)) [ true ↦ refl | false ↦ refl ]
put_there (first ∷ items) h o =
    elim (first.serial == o) as (λ b. (b || is_there (objects_of (items ++ h ∷ [])) o) ≡ ((b || is_there (objects_of items) o) || (h.serial == o))) [
      | true ↦ refl
      | false ↦ put_there items h o
    ]

put_tally : (items : List (Held Body)) (h : Held Body) (o : ℕ) → tally (objects_of (items ++ h ∷ [])) o ≡ tally (objects_of items) o + times (named_in h.value) o
put_tally [] h o = omega arith
put_tally (first ∷ items) h o = let more : tally (objects_of (items ++ h ∷ [])) o ≡ tally (objects_of items) o + times (named_in h.value) o = put_tally items h o in omega (arith, more)

put_objects : (items : List (Held Body)) (h : Held Body) → objects_of (items ++ h ∷ []) ≡ objects_of items ++ object_of_held h ∷ []
put_objects [] h = refl
put_objects (first ∷ items) h = ap (λ l. object_of_held first ∷ l) (put_objects items h)

put_sound : (low next : ℕ) (items : List (Held Body)) (b : Body) → IsSoundFrom low items next → low ≤ next → IsSoundFrom low (items ++ new_held next b ∷ []) (next + 1)
put_sound low next [] b sound le = (le, omega arith, omega arith, tt)
put_sound low next (first ∷ items) b sound le =
    let below : first.serial < next = sound.1 in
    (sound.0, omega (arith, below), sound.2, put_sound (first.serial + 1) next items b sound.3 (omega (arith, below)))

pub put_total : (items : List (Held Body)) (next : ℕ) (b : Body) → total_names (items ++ new_held next b ∷ []) ≡ total_names items + 1
put_total items next b = sum_by-append (λ (h : Held Body). h.names) items (new_held next b ∷ [])

put_counts : (k : CoreState) (items : List (Held Body)) (next : ℕ) (b : Body) → named_in b ≡ [] → IsSoundFrom 0 items next → IsCounted k items → IsCounted k (items ++ new_held next b ∷ [])
put_counts k items next b none sound counted =
    let out : List (Held Body) = items ++ new_held next b ∷ [] in
    record {
      counts = λ o.
          let was : names_at items o ≡ rooted k o + tally (objects_of items) o + 0 + cond (is_there (objects_of items) o) 1 0 = counted.counts o in
          let same_tally : tally (objects_of out) o ≡ tally (objects_of items) o + times (named_in b) o = put_tally items (new_held next b) o in
          let names_none : times (named_in b) o ≡ 0 = ap (λ l. times l o) none in
          let P : Bool → Type 0 = λ t. is_there (objects_of items) o ≡ t
          → names_at items o ≡ rooted k o + tally (objects_of items) o + 0 + cond t 1 0
          → cond t (names_at items o) (cond (next == o) 1 0) ≡ rooted k o + tally (objects_of out) o + 0 + cond (t || (next == o)) 1 0 in
          let go : (t : Bool) → P t = λ t. elim t as (λ v. P v) [
            | true ↦ (λ e f. omega (arith, f, same_tally, names_none))
            | false ↦ (λ e f. let absent : names_at items o ≡ 0 = absent_names items o e in omega (arith, f, same_tally, names_none, absent))
          ] in
          let is : cond (is_there (objects_of items) o) (names_at items o) (cond (next == o) 1 0)
          ≡ rooted k o + tally (objects_of out) o + 0 + cond (is_there (objects_of items) o || (next == o)) 1 0 = go (is_there (objects_of items) o) refl was in
          put_names items (new_held next b) o ∙ (is ∙ ap (λ (t : Bool). rooted k o + tally (objects_of out) o + 0 + cond t 1 0) (sym (put_there items (new_held next b) o)));
    }

-- the state with one more object, which has a number where the application is there
pub record Made (c : CoreState) (items out : List (Held Body)) (next : ℕ) (b : Body) : Type 0 where
  pub objects : objects_of out ≡ objects_of items ++ (record { id = next; body = b }) ∷ []
  pub exact : IsExact c out

pub makes : (apps : List Application) (threads : List Thread) (items : List (Held Body)) (next clock : ℕ) (bridged : List ℕ) (at : ℕ) (b : Body)
    → named_in b ≡ [] → IsSoundFrom 0 items next → total_names items + 2 + length threads < 2 ^ 64 → IsExact (core_of apps threads items next clock bridged) items
    → Made (core_of (map_at (table_changed (λ table. installed table next)) apps at) threads (named_by (slice_get apps at) next (items ++ new_held next b ∷ [])) (next + 1) clock bridged)
    items (named_by (slice_get apps at) next (items ++ new_held next b ∷ [])) next b
makes apps threads items next clock bridged at b none sound room exact =
    let put : List (Held Body) = items ++ new_held next b ∷ [] in
    let total : total_names put ≡ total_names items + 1 = put_total items next b in
    let there : is_there (objects_of put) next ≡ true =
    put_there items (new_held next b) next ∙ (ap (λ t. t || (next == next)) (above_absent 0 next items next sound (omega arith)) ∙ grind (arith, tests)) in
    let after : IsExact (core_of apps threads put (next + 1) clock bridged) put = record {
      counted = put_counts (core_of apps threads items next clock bridged) items next b none sound exact.counted;
      waitable = named_waitable threads 1 items put (omega (arith, total)) (omega (arith, room));
    } in
    let installed_put = installs apps threads put (next + 1) clock bridged at next there (put_sound 0 next items b sound (omega arith)) (omega (arith, room, total)) after in
    record { objects = installed_put.same ∙ put_objects items (new_held next b); exact = installed_put.exact }
