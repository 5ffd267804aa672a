-- What a new number of a table makes of the counts.
use Rattle.std.proofs.Common.{◌≡◌, ℕ, zero, suc, ◌+◌, ◌<◌, ◌^◌, true, false, cond, ◌==◌, length, List, [], ◌∷◌, ◌++◌, take, drop, map, Some, subst, arith, tests}
use Rattle.std.proofs.lemmas.List.Sums.{sum_by-cons}
use Rattle.std.specs.Prelude.{nat_le, slice_get, slice_set}
use Rattle.std.specs.List.{flat_map}
use Rattle.kernel_values.specs.declared.state.Application.{Application}
use Rattle.kernel_values.specs.declared.state.Body.{Body}
use Rattle.kernel_values.specs.declared.state.CoreState.{CoreState}
use Rattle.kernel_values.specs.declared.state.TableEntry.{TableEntry}
use Rattle.kernel_values.specs.declared.state.Thread.{Thread}
use Rattle.kernel_types.specs.Names.{Name, names_of, root, table_names}
use Rattle.kernel_types.specs.Objects.{is_there}
use Rattle.kernel_types.specs.Tables.{handle_limit, installed, is_full}
use Rattle.object_store.specs.Stock.{Held, IsSoundFrom, names_at, total_names}
use Rattle.counted_core.specs.Held.{objects_of, tally, times}
use Rattle.counted_core.specs.Sending.{named_more}
use Rattle.counted_core.specs.Sweeping.{core_of, rooted}
use Rattle.counted_core.specs.Waiting.{IsExact}
use Rattle.counted_core.proofs.Naming.{AllNamed, IsLacking, More, name_one, names_all}
use Rattle.counted_core.proofs.Roots.{app_names, rooted_split}
use Rattle.counted_core.proofs.Sweeps.{first_name}
use Rattle.counted_core.proofs.Totals.{named_waitable}

abbrev entry_names : List TableEntry → List Name
entry_names table = map (λ entry. root entry.object) table

put_in : (o : ℕ) (entry : TableEntry) (n : ℕ) (table : List TableEntry) → names_of (entry_names (take n table ++ entry ∷ drop n table)) o + 0 ≡ names_of (entry_names table) o + cond (entry.object == o) 1 0
put_in o entry zero table = let one : names_of (entry_names (entry ∷ table)) o ≡ cond (entry.object == o) 1 0 + names_of (entry_names table) o = first_name o (root entry.object) (entry_names table) in omega (arith, one)
put_in o entry (suc n) [] = let one : names_of (entry_names (entry ∷ [])) o ≡ cond (entry.object == o) 1 0 + names_of (entry_names []) o = first_name o (root entry.object) [] in omega (arith, one)
put_in o entry (suc n) (first ∷ table) =
    let more : names_of (entry_names (take n table ++ entry ∷ drop n table)) o + 0 ≡ names_of (entry_names table) o + cond (entry.object == o) 1 0 = put_in o entry n table in
    let one : names_of (root first.object ∷ entry_names (take n table ++ entry ∷ drop n table)) o ≡ cond (first.object == o) 1 0 + names_of (entry_names (take n table ++ entry ∷ drop n table)) o = first_name o (root first.object) (entry_names (take n table ++ entry ∷ drop n table)) in
    let two : names_of (root first.object ∷ entry_names table) o ≡ cond (first.object == o) 1 0 + names_of (entry_names table) o = first_name o (root first.object) (entry_names table) in
    omega (arith, more, one, two)

pub record Handed (apps : List Application) (threads : List Thread) (items out : List (Held Body)) (next clock : ℕ) (bridged : List ℕ) : Type 0 where
  pub same : objects_of out ≡ objects_of items
  pub exact : IsExact (core_of apps threads out next clock bridged) out

pub hands : (apps : List Application) (threads : List Thread) (items : List (Held Body)) (next clock : ℕ) (bridged : List ℕ) (at object : ℕ) (a : Application)
    → slice_get apps at ≡ Some a → is_there (objects_of items) object ≡ true → IsSoundFrom 0 items next → IsExact (core_of apps threads items next clock bridged) items
    → total_names items + 1 + length threads < 2 ^ 64
    → Handed (slice_set apps at (record a { table = installed a.table object })) threads items (named_more items object) next clock bridged
hands apps threads items next clock bridged at object a is there sound exact room =
    let b : Application = record a { table = installed a.table object } in
    let c : CoreState = core_of apps threads items next clock bridged in
    let d : CoreState = core_of (slice_set apps at b) threads items next clock bridged in
    let lacking : IsLacking (rooted d) items (object ∷ []) = record {
      counts = λ o.
          let was : names_at items o ≡ rooted c o + tally (objects_of items) o + 0 + cond (is_there (objects_of items) o) 1 0 = exact.counted.counts o in
          let one : times (object ∷ []) o ≡ cond (object == o) 1 0 + times [] o = sum_by-cons (λ y. cond (y == o) 1 0) object [] in
          let change : names_of (flat_map table_names (slice_set apps at b)) o + 0 ≡ names_of (flat_map table_names apps) o + cond (object == o) 1 0 = app_names apps at a b o 0 (cond (object == o) 1 0) is (put_in o _ _ a.table) in
          omega (arith, was, one, change, rooted_split c o, rooted_split d o);
    } in
    let all : AllNamed (rooted d) next items (named_more items object) = names_all (rooted d) next (object ∷ []) items sound lacking
    (λ o h. let same : object ≡ o = grind (arith, tests) in subst (λ n. is_there (objects_of items) n ≡ true) same there) in
    let more : More 0 next object items = name_one 0 next object items sound in
    record { same = all.same; exact = record { counted = all.owed; waitable = named_waitable threads 1 items (named_more items object) more.total room } }

pub not_full : (table : List TableEntry) → is_full table ≡ false → length table ≡ 64 → ⊥
unfolding is_full
not_full table room full = let clash : true ≡ false = subst (λ n. nat_le handle_limit n ≡ false) full room in absurd (cc)
