-- What is pending at ports is pruned in place, one port after another.
use Rattle.std.proofs.Common.{◌≡◌, ◌+◌, ℕ, zero, suc, ◌==◌, Bool, true, false, cond, List, [], ◌∷◌, ◌++◌, map, take, drop, Option, Some, None, refl, sym, ap, ◌∙◌, arith}
use Rattle.std.specs.Prelude.{slice_get}
use Rattle.std.specs.List.{filter}
use Rattle.std.specs.Option.{option_map}
use Rattle.kernel_values.specs.declared.state.Body.{Body}
use Rattle.kernel_values.specs.declared.state.Body.TheVariants as body
use Rattle.kernel_values.specs.declared.state.Object.{Object}
use Rattle.kernel_values.specs.declared.state.Port.{Port}
use Rattle.kernel_types.specs.Objects.{as_end, as_port, end_in, end_of, map_at, on_body, on_port, port_in, set_if}
use Rattle.kernel_types.specs.Sweep.{has_marked_peer, pruned_port}
use Rattle.kernel_laws.proofs.Found.{found, found_is}
use Rattle.plain_objects.specs.Pending.{pending_at, pending_of, with_pending}
use Rattle.plain_objects.specs.Predicates.{is_served}
use Rattle.plain_objects.proofs.Changing.{changed_alike, changed_twice, filtered_alike, later_changed, mapped_more}

-- A change of ports leaves the ends.

end_left : (f : Port → Port) (b : Body) → end_in (on_port f b) ≡ end_in b
end_left f (body.Port port) = refl
end_left f (body.End end) = refl
end_left f (body.Set set) = refl
end_left f (body.Memory memory) = refl

first_left : (f : Port → Port) (object : Object) (id : ℕ) (o p : Option Object) → as_end o ≡ as_end p
    → as_end (cond (object.id == id) (Some (on_body (on_port f) object)) o) ≡ as_end (cond (object.id == id) (Some object) p)
first_left f object id o p same =
    elim (object.id == id) as (λ b. as_end (cond b (Some (on_body (on_port f) object)) o) ≡ as_end (cond b (Some object) p)) [ true ↦ end_left f object.body | false ↦ same ]

later_left : (object : Object) (id : ℕ) (o p : Option Object) → as_end o ≡ as_end p → as_end (cond (object.id == id) (Some object) o) ≡ as_end (cond (object.id == id) (Some object) p)
later_left object id o p same = elim (object.id == id) as (λ b. as_end (cond b (Some object) o) ≡ as_end (cond b (Some object) p)) [ true ↦ refl | false ↦ same ]

found_at : (f : Port → Port) (objects : List Object) (at id : ℕ) → as_end (found (map_at (on_body (on_port f)) objects at) id) ≡ as_end (found objects id)
found_at f [] at id = refl
found_at f (object ∷ objects) zero id = first_left f object id (found objects id) (found objects id) refl
found_at f (object ∷ objects) (suc at) id =
    ap (λ os. as_end (found os id)) (later_changed (on_body (on_port f)) object objects at)
    ∙ later_left object id (found (map_at (on_body (on_port f)) objects at) id) (found objects id) (found_at f objects at id)

found_before : (f : Port → Port) (objects : List Object) (n id : ℕ) → as_end (found (map (on_body (on_port f)) (take n objects) ++ drop n objects) id) ≡ as_end (found objects id)
found_before f [] zero id = refl
found_before f [] (suc n) id = refl
found_before f (object ∷ objects) zero id = refl
found_before f (object ∷ objects) (suc n) id = first_left f object id (found (map (on_body (on_port f)) (take n objects) ++ drop n objects) id) (found objects id) (found_before f objects n id)

ends_at : (f : Port → Port) (objects : List Object) (at id : ℕ) → end_of (map_at (on_body (on_port f)) objects at) id ≡ end_of objects id
ends_at f objects at id = ap as_end (found_is (map_at (on_body (on_port f)) objects at) id) ∙ (found_at f objects at id ∙ sym (ap as_end (found_is objects id)))

ends_before : (f : Port → Port) (objects : List Object) (n id : ℕ) → end_of (map (on_body (on_port f)) (take n objects) ++ drop n objects) id ≡ end_of objects id
ends_before f objects n id =
    ap as_end (found_is (map (on_body (on_port f)) (take n objects) ++ drop n objects) id) ∙ (found_before f objects n id ∙ sym (ap as_end (found_is objects id)))

-- Where the ends are the same, the same server ends are served.

pruned_alike : (marked : List ℕ) (others objects : List Object) → ((id : ℕ) → end_of others id ≡ end_of objects id)
    → (object : Object) → on_body (on_port (pruned_port marked others)) object ≡ on_body (on_port (pruned_port marked objects)) object
pruned_alike marked others objects same object =
    let P : Body → Type 0 = λ b. on_port (pruned_port marked others) b ≡ on_port (pruned_port marked objects) b in
    let go : (b : Body) → P b = λ b. elim b as (λ v. P v) [
      | body.Port port ↦ ap (λ servers. body.Port (record port { pending = servers }))
          (filtered_alike (λ server. has_marked_peer marked (end_of others server)) (λ server. has_marked_peer marked (end_of objects server)) (λ server. ap (has_marked_peer marked) (same server)) port.pending)
      | body.End end ↦ refl
      | body.Set set ↦ refl
      | body.Memory memory ↦ refl
    ] in
    ap (λ b. record object { body = b }) (go object.body)

-- what is pending is taken out, cut and put back
pub put_back : (marked : List ℕ) (objects : List Object) (at : ℕ)
    → with_pending (filter (is_served marked (with_pending [] objects at)) (pending_at objects at)) (with_pending [] objects at) at
    ≡ map_at (on_body (on_port (pruned_port marked objects))) objects at
unfolding is_served
put_back marked objects at =
    let out : Port → Port = λ port. record port { pending = [] } in
    let test : ℕ → Bool = λ server. has_marked_peer marked (end_of (with_pending [] objects at) server) in
    let back : List ℕ → Port → Port = λ servers port. record port { pending = servers } in
    let P : Body → Type 0 = λ b. on_port (back (filter test (pending_of (port_in b)))) (on_port out b) ≡ on_port (pruned_port marked objects) b in
    let cut : (b : Body) → P b = λ b. elim b as (λ v. P v) [
      | body.Port port ↦ ap (λ servers. body.Port (record port { pending = servers }))
          (filtered_alike test (λ server. has_marked_peer marked (end_of objects server)) (λ server. ap (has_marked_peer marked) (ends_at out objects at server)) port.pending)
      | body.End end ↦ refl
      | body.Set set ↦ refl
      | body.Memory memory ↦ refl
    ] in
    let Q : Option Object → Type 0 = λ o. set_if objects at (option_map (λ object. on_body (on_port (back (filter test (pending_of (as_port o))))) (on_body (on_port out) object)) o)
    ≡ set_if objects at (option_map (on_body (on_port (pruned_port marked objects))) o) in
    let go : (o : Option Object) → Q o = λ o. elim o as (λ v. Q v) [ None ↦ refl | Some object ↦ ap (λ b. set_if objects at (Some (record object { body = b }))) (cut object.body) ] in
    changed_twice (on_body (on_port (back (filter test (pending_at objects at))))) (on_body (on_port out)) objects at ∙ go (slice_get objects at)

-- so many ports are pruned, and then one more
pub pruned_more : (marked : List ℕ) (objects : List Object) (at : ℕ)
    → map_at (on_body (on_port (pruned_port marked (map (on_body (on_port (pruned_port marked objects))) (take at objects) ++ drop at objects))))
    (map (on_body (on_port (pruned_port marked objects))) (take at objects) ++ drop at objects) at
    ≡ map (on_body (on_port (pruned_port marked objects))) (take (suc at) objects) ++ drop (suc at) objects
pruned_more marked objects at =
    let prune : Object → Object = on_body (on_port (pruned_port marked objects)) in
    let there : List Object = map prune (take at objects) ++ drop at objects in
    changed_alike (on_body (on_port (pruned_port marked there))) prune (pruned_alike marked there objects (ends_before (pruned_port marked objects) objects at)) there at
    ∙ mapped_more prune objects at

-- the same for a list that is so far pruned, as in a loop over the places
pub pruned_next : (marked : List ℕ) (objects so others : List Object) (at : ℕ)
    → so ≡ map (on_body (on_port (pruned_port marked objects))) (take at objects) ++ drop at objects
    → others ≡ map_at (on_body (on_port (pruned_port marked so))) so at
    → others ≡ map (on_body (on_port (pruned_port marked objects))) (take (at + 1) objects) ++ drop (at + 1) objects
pruned_next marked objects so others at so_far now =
    let next : suc at ≡ at + 1 = omega arith in
    now ∙ (ap (λ os. map_at (on_body (on_port (pruned_port marked os))) os at) so_far
    ∙ (pruned_more marked objects at ∙ ap (λ n. map (on_body (on_port (pruned_port marked objects))) (take n objects) ++ drop n objects) next))
