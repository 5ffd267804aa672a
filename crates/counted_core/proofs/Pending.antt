-- What becomes of the counts where a server end is pending no more.
use Rattle.std.proofs.Common.{◌≡◌, ℕ, ◌+◌, ◌≤◌, ◌==◌, ◌||◌, true, cond, length, List, [], ◌∷◌, Option, Some, None, refl, sym, ◌∙◌, ap, arith, tests}
use Rattle.std.proofs.lemmas.List.Sums.{sum_by-cons}
use Rattle.std.specs.Prelude.{slice_index_or}
use Rattle.kernel_values.specs.declared.state.Body.{Body}
use Rattle.kernel_values.specs.declared.state.Body.TheVariants as body
use Rattle.kernel_values.specs.declared.state.CoreState.{CoreState}
use Rattle.core_changes.specs.Looks.{pending_in}
use Rattle.kernel_types.specs.Objects.{on_port, port_of}
use Rattle.kernel_types.specs.Reach.{is_in}
use Rattle.object_store.specs.Stock.{Held, IsSoundFrom, changed, total_names, unnamed, value_at}
use Rattle.counted_core.specs.Accepting.{listing}
use Rattle.counted_core.specs.Found.{port_if}
use Rattle.counted_core.specs.Held.{objects_of, on_value, times}
use Rattle.counted_core.specs.Sweeping.{IsCounted}
use Rattle.counted_core.proofs.Moves.{moves_less}
use Rattle.counted_core.proofs.Naming.{Pushed, changed_total, port_value}
use Rattle.counted_core.proofs.Totals.{less_total}

rest_times : (server : ℕ) (rest pending : List ℕ) (o : ℕ) → pending ≡ server ∷ rest → times rest o + times (server ∷ []) o ≡ times pending o + 0
rest_times server rest pending o is =
    let all : times pending o ≡ times (server ∷ rest) o = ap (λ l. times l o) is in
    let one : times (server ∷ rest) o ≡ cond (server == o) 1 0 + times rest o = sum_by-cons (λ y. cond (y == o) 1 0) server rest in
    let first : times (server ∷ []) o ≡ cond (server == o) 1 0 + times [] o = sum_by-cons (λ y. cond (y == o) 1 0) server [] in
    omega (arith, all, one, first)

pub takes_first : (k : CoreState) (server : ℕ) (rest : List ℕ) (next port : ℕ) (items : List (Held Body)) → IsSoundFrom 0 items next → IsCounted k items
    → pending_in (port_of (objects_of items) port) ≡ server ∷ rest
    → Pushed k (on_port (listing rest)) next port items (unnamed (changed items port (on_value (on_port (listing rest)))) server)
takes_first k server rest next port items sound counted is =
    let f : Body → Body = on_port (listing rest) in
    let out : List (Held Body) = unnamed (changed items port (on_value f)) server in
    let pending : pending_in (port_if (value_at items port)) ≡ server ∷ rest = sym (ap pending_in (port_value items port)) ∙ is in
    let P : Option Body → Type 0 = λ v. value_at items port ≡ v → pending_in (port_if v) ≡ server ∷ rest → Pushed k f next port items out in
    let of_body : (b : Body) → P (Some b) = λ b. elim b as (λ w. P (Some w)) [
      | body.Port p ↦ (λ e l. moves_less k f (server ∷ []) next port (body.Port p) items sound counted e (λ o. rest_times server rest p.pending o l))
      | body.End end ↦ (λ e l. absurd (cc))
      | body.Set set ↦ (λ e l. absurd (cc))
      | body.Memory memory ↦ (λ e l. absurd (cc))
    ] in
    let go : (v : Option Body) → P v = λ v. elim v as (λ w. P w) [ None ↦ (λ e l. absurd (cc)) | Some b ↦ of_body b ] in
    go (value_at items port) refl pending

pub first_total : (f : Body → Body) (server port : ℕ) (items : List (Held Body)) → total_names (unnamed (changed items port (on_value f)) server) ≤ total_names items
first_total f server port items = omega (arith, less_total (changed items port (on_value f)) server, changed_total f port items)

-- the first of a list is in it
pub first_listed : (pending : List ℕ) → 1 ≤ length pending → is_in pending (slice_index_or pending 0 0) ≡ true
first_listed [] some = absurd (omega (arith, some))
first_listed (server ∷ rest) some = let here : (server == server) ≡ true = grind (arith, tests) in ap (λ b. b || is_in rest server) here
