-- How the bridge's entries change what roots name.
use Rattle.std.proofs.Common.{◌≡◌, ℕ, ◌+◌, ◌==◌, true, false, cond, List, [], ◌∷◌, ◌++◌, map, not, refl, arith}
use Rattle.std.specs.List.{filter, flat_map, fold}
use Rattle.std.proofs.lemmas.List.Sums.{sum_by-cons}
use Rattle.kernel_values.specs.declared.state.Application.{Application}
use Rattle.kernel_values.specs.declared.state.Body.{Body}
use Rattle.kernel_values.specs.declared.state.CoreState.{CoreState}
use Rattle.kernel_values.specs.declared.state.Thread.{Thread}
use Rattle.kernel_types.specs.Names.{names_of, root}
use Rattle.kernel_types.specs.Objects.{is_there}
use Rattle.object_store.specs.Stock.{Held, IsSoundFrom, names_at, unnamed}
use Rattle.counted_core.specs.Bridged.{bridged_entry}
use Rattle.counted_core.specs.Held.{IsOwed, objects_of, tally, times}
use Rattle.counted_core.specs.Sweeping.{IsCounted, core_of, rooted}
use Rattle.counted_core.proofs.Owing.{Settled, settles}
use Rattle.counted_core.proofs.Roots.{rooted_split}
use Rattle.counted_core.proofs.Sweeps.{first_name}

abbrev left_bridged : ℕ → List ℕ → List ℕ
left_bridged end bridged = filter (λ other. not (other == end)) bridged

bridge_names : (end o : ℕ) (bridged : List ℕ) → names_of (map root (left_bridged end bridged)) o + times (flat_map (bridged_entry end) bridged) o ≡ names_of (map root bridged) o
unfolding bridged_entry
bridge_names end o [] = refl
bridge_names end o (x ∷ rest) =
    let left : List ℕ = left_bridged end rest in
    let gone : List ℕ = flat_map (bridged_entry end) rest in
    let more : names_of (map root left) o + times gone o ≡ names_of (map root rest) o = bridge_names end o rest in
    let all : names_of (map root (x ∷ rest)) o ≡ cond (x == o) 1 0 + names_of (map root rest) o = first_name o (root x) (map root rest) in
    let kept : names_of (map root (x ∷ left)) o ≡ cond (x == o) 1 0 + names_of (map root left) o = first_name o (root x) (map root left) in
    let went : times (x ∷ gone) o ≡ cond (x == o) 1 0 + times gone o = sum_by-cons (λ y. cond (y == o) 1 0) x gone in
    elim (x == end) as (λ b. names_of (map root (cond (not b) (x ∷ left) left)) o + times (cond b (x ∷ []) [] ++ gone) o ≡ names_of (map root (x ∷ rest)) o) [
      | true ↦ omega (arith, more, all, went)
      | false ↦ omega (arith, more, all, kept)
    ]

pub record Unbridged (apps : List Application) (threads : List Thread) (items out : List (Held Body)) (next clock : ℕ) (bridged : List ℕ) : Type 0 where
  pub same : objects_of out ≡ objects_of items
  pub counted : IsCounted (core_of apps threads out next clock bridged) out

pub unbridges : (apps : List Application) (threads : List Thread) (items : List (Held Body)) (next clock : ℕ) (bridged : List ℕ) (end : ℕ)
    → IsSoundFrom 0 items next → IsCounted (core_of apps threads items next clock bridged) items
    → Unbridged apps threads items (fold unnamed items (flat_map (bridged_entry end) bridged)) next clock (left_bridged end bridged)
unbridges apps threads items next clock bridged end sound counted =
    let c : CoreState = core_of apps threads items next clock bridged in
    let d : CoreState = core_of apps threads items next clock (left_bridged end bridged) in
    let debts : List ℕ = flat_map (bridged_entry end) bridged in
    let owed : IsOwed (rooted d) items debts = record {
      counts = λ o.
          let was : names_at items o ≡ rooted c o + tally (objects_of items) o + 0 + cond (is_there (objects_of items) o) 1 0 = counted.counts o in
          let change : names_of (map root (left_bridged end bridged)) o + times debts o ≡ names_of (map root bridged) o = bridge_names end o bridged in
          omega (arith, was, change, rooted_split c o, rooted_split d o);
    } in
    let settled : Settled (rooted d) next items (fold unnamed items debts) = settles (rooted d) next debts items sound owed in
    record { same = settled.same; counted = settled.owed }
