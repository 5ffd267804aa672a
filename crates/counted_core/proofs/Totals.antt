-- The sum of all counts, and room for waits.
use Rattle.std.proofs.Common.{◌≡◌, ℕ, ◌+◌, ◌<◌, ◌≤◌, ◌^◌, Bool, true, false, cond, ◌==◌, List, [], ◌∷◌, ◌++◌, length, Option, Some, None, refl, sym, subst, arith, tests}
use Rattle.std.specs.List.{cons_option, flat_map, fold}
use Rattle.std.specs.Option.{option_map_or}
use Rattle.std.proofs.lemmas.List.Sums.{sum_by-cons}
use Rattle.kernel_values.specs.declared.state.Body.{Body}
use Rattle.kernel_values.specs.declared.state.CoreState.{CoreState}
use Rattle.kernel_values.specs.declared.state.Thread.{Thread}
use Rattle.kernel_types.specs.Names.{named_in, wait_names}
use Rattle.kernel_types.specs.Objects.{on_end, on_port}
use Rattle.count_laws.specs.Dropping.{cut_from, unlisted}
use Rattle.object_store.specs.Stock.{Held, IsSoundFrom, changed, held_at, last_at, names_at, one_fewer, one_less, total_names, unnamed}
use Rattle.counted_core.specs.Held.{changed_if, listed_by, objects_of, on_value, peer_in}
use Rattle.counted_core.specs.Sending.{named_more}
use Rattle.counted_core.specs.Sweeping.{HasDropped, HasDroppedTo}
use Rattle.counted_core.specs.Waiting.{IsExact, IsWaitable}
use Rattle.counted_core.proofs.Naming.{More, changed_total, name_one}
use Rattle.counted_core.proofs.Sweeps.{dead_value}

total_first : (h : Held Body) (rest : List (Held Body)) → total_names (h ∷ rest) ≡ h.names + total_names rest
total_first h rest = sum_by-cons (λ (k : Held Body). k.names) h rest

pub less_total : (items : List (Held Body)) (s : ℕ) → total_names (unnamed items s) ≤ total_names items
less_total [] s = omega arith
less_total (h ∷ rest) s =
    let more : total_names (unnamed rest s) ≤ total_names rest = less_total rest s in
    let all : total_names (h ∷ rest) ≡ h.names + total_names rest = total_first h rest in
    elim (h.serial == s) as (λ a. total_names (cons_option (cond a (one_less h) (Some h)) (unnamed rest s)) ≤ total_names (h ∷ rest)) [
      | true ↦ elim (h.names == 1) as (λ b. total_names (cons_option (cond b None (Some (one_fewer h))) (unnamed rest s)) ≤ total_names (h ∷ rest)) [
        | true ↦ omega (arith, more, all)
        | false ↦ omega (arith, more, all, total_first (one_fewer h) (unnamed rest s))
      ]
      | false ↦ omega (arith, more, all, total_first h (unnamed rest s))
    ]

pub less_total_one : (items : List (Held Body)) (s : ℕ) → 1 ≤ names_at items s → total_names (unnamed items s) + 1 ≤ total_names items
less_total_one [] s named = absurd (omega (arith, named))
less_total_one (h ∷ rest) s named =
    let names : Option (Held Body) → ℕ = λ o. option_map_or (λ (k : Held Body). k.names) o 0 in
    let most : total_names (unnamed rest s) ≤ total_names rest = less_total rest s in
    let all : total_names (h ∷ rest) ≡ h.names + total_names rest = total_first h rest in
    let P : Bool → Type 0 = λ a. 1 ≤ names (cond a (Some h) (held_at rest s)) → total_names (cons_option (cond a (one_less h) (Some h)) (unnamed rest s)) + 1 ≤ total_names (h ∷ rest) in
    let Q : Bool → Type 0 = λ b. (h.names == 1) ≡ b → 1 ≤ h.names → total_names (cons_option (cond b None (Some (one_fewer h))) (unnamed rest s)) + 1 ≤ total_names (h ∷ rest) in
    let here : (b : Bool) → Q b = λ b. elim b as (λ v. Q v) [
      | true ↦ (λ e one. let is : h.names ≡ 1 = grind (arith, tests) in omega (arith, most, all, is))
      | false ↦ (λ e one. omega (arith, most, all, one, total_first (one_fewer h) (unnamed rest s)))
    ] in
    let go : (a : Bool) → P a = λ a. elim a as (λ v. P v) [
      | true ↦ (λ one. here (h.names == 1) refl one)
      | false ↦ (λ one. omega (arith, all, less_total_one rest s one, total_first h (unnamed rest s)))
    ] in
    go (h.serial == s) named

pub all_less_total : (debts : List ℕ) (items : List (Held Body)) → total_names (fold unnamed items debts) ≤ total_names items
all_less_total [] items = omega arith
all_less_total (d ∷ debts) items = omega (arith, all_less_total debts (unnamed items d), less_total items d)

pub changed_total_most : (f : Body → Body) (at : ℕ) (items : List (Held Body)) → total_names (changed items at (on_value f)) ≤ total_names items
changed_total_most f at items = omega (arith, changed_total f at items)

pub if_total : (f : Body → Body) (n : Option ℕ) (items : List (Held Body)) → total_names (changed_if f n items) ≡ total_names items
if_total f None items = refl
if_total f (Some n) items = changed_total f n items

-- a value that is dropped leaves no more names
pub dropped_total : (new left : List (Held Body)) (x : ℕ) → names_at new x ≡ 1 → HasDropped x new left → total_names left ≤ total_names new
dropped_total new left x one has =
    let v : (b : Body) × (last_at new x ≡ Some b) = dead_value new x one in
    let d : HasDroppedTo x v.0 new left = has v.0 v.1 in
    let unlisted_items : List (Held Body) = changed_if (on_port (unlisted (peer_in v.0))) d.port (unnamed new x) in
    let cut_items : List (Held Body) = changed_if (on_end (cut_from x)) (peer_in v.0) unlisted_items in
    subst (λ l. total_names l ≤ total_names new) (sym d.items)
    (omega (arith, all_less_total (listed_by (peer_in v.0) d.port ++ named_in v.0) cut_items, if_total (on_end (cut_from x)) (peer_in v.0) unlisted_items, if_total (on_port (unlisted (peer_in v.0))) d.port (unnamed new x), less_total new x))

-- so many names more
pub more_total : (parts : List ℕ) (next : ℕ) (items : List (Held Body)) → IsSoundFrom 0 items next → total_names (fold named_more items parts) ≤ total_names items + length parts
more_total [] next items sound = omega arith
more_total (part ∷ parts) next items sound =
    let one : More 0 next part items = name_one 0 next part items sound in
    let first : total_names (named_more items part) ≤ total_names items + 1 = one.total in
    let rest : total_names (fold named_more (named_more items part) parts) ≤ total_names (named_more items part) + length parts = more_total parts next (named_more items part) one.sound in
    omega (arith, first, rest)

-- Room for waits.

-- a state whose objects stay, with its counts
pub record Recounted (c : CoreState) (items out : List (Held Body)) : Type 0 where
  pub same : objects_of out ≡ objects_of items
  pub exact : IsExact c out

pub still_waitable : (threads : List Thread) (items out : List (Held Body)) → total_names out ≤ total_names items → IsWaitable threads items → IsWaitable threads out
still_waitable threads items out less room =
    let was : total_names items + length threads < 2 ^ 64 + length (flat_map wait_names threads) = room in
    let is : total_names out + length threads < 2 ^ 64 + length (flat_map wait_names threads) = omega (arith, was, less) in is

-- after the names that there was room for
pub named_waitable : (threads : List Thread) (n : ℕ) (items out : List (Held Body)) → total_names out ≤ total_names items + n → total_names items + n + length threads < 2 ^ 64 → IsWaitable threads out
named_waitable threads n items out less room =
    let is : total_names out + length threads < 2 ^ 64 + length (flat_map wait_names threads) = omega (arith, less, room) in is
