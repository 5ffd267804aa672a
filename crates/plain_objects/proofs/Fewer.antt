-- No more names are there after a sweep and after time passed.
use Rattle.std.proofs.Common.{◌≡◌, ◌≤◌, ℕ, zero, suc, ◌+◌, Bool, true, false, cond, List, [], ◌∷◌, ◌++◌, map, length, Option, Some, None, refl, sym, ap, ◌∙◌, subst, arith, length-append}
use Rattle.std.specs.List.{filter, flat_map}
use Rattle.std.proofs.lemmas.List.{length-map}
use Rattle.std.proofs.lemmas.List.Sums.{length-filter, count_by-le-length}
use Rattle.kernel_values.specs.declared.state.Activity.{Activity}
use Rattle.kernel_values.specs.declared.state.Activity.TheVariants as activity
use Rattle.kernel_values.specs.declared.state.Body.{Body}
use Rattle.kernel_values.specs.declared.state.Body.TheVariants as body
use Rattle.kernel_values.specs.declared.state.ChannelEnd.{ChannelEnd}
use Rattle.kernel_values.specs.declared.state.CoreState.{CoreState}
use Rattle.kernel_values.specs.declared.state.Object.{Object}
use Rattle.kernel_values.specs.declared.state.Port.{Port}
use Rattle.kernel_values.specs.declared.state.Thread.{Thread}
use Rattle.kernel_types.specs.CoreStep.{cancelled_activity, core_idle}
use Rattle.kernel_types.specs.Names.{activity_names, held_by, message_objects, named_in, naming, object_names, root, table_names, wait_names}
use Rattle.kernel_types.specs.Objects.{map_at, on_body, on_end, on_port, with_objects}
use Rattle.kernel_types.specs.Reach.{is_in}
use Rattle.kernel_types.specs.Sweep.{cut_end, kept, pruned, pruned_port}
use Rattle.kernel_types.specs.Threads.{activity_changed}
use Rattle.plain_objects.proofs.Changing.{later_changed}

-- how many names objects hold
abbrev held : List Object → ℕ
held objects = length (flat_map object_names objects)

pub by_parts : (c : CoreState) → length (naming c) ≡ length (flat_map table_names c.apps) + length c.bridged + length (flat_map wait_names c.threads) + held c.objects
unfolding naming
by_parts c =
    let tables : List _ = flat_map table_names c.apps in
    let bridge : List _ = map root c.bridged in
    let waits : List _ = flat_map wait_names c.threads in
    omega (arith, length-append (tables ++ bridge ++ waits) (flat_map object_names c.objects), length-append (tables ++ bridge) waits, length-append tables bridge, length-map c.bridged root)

pub by_objects : (c : CoreState) (objects : List Object) → held objects ≤ held c.objects → length (naming (with_objects objects c)) ≤ length (naming c)
by_objects c objects le = omega (arith, le, by_parts c, by_parts (with_objects objects c))

-- Changes of objects that hold no more.

abbrev NoMore : (Object → Object) → Type 0
NoMore f = (object : Object) → length (object_names (f object)) ≤ length (object_names object)

one_more : (object : Object) (objects : List Object) → held (object ∷ objects) ≡ length (object_names object) + held objects
one_more object objects = length-append (object_names object) (flat_map object_names objects)

fewer_mapped : (f : Object → Object) → NoMore f → (objects : List Object) → held (map f objects) ≤ held objects
fewer_mapped f less [] = omega arith
fewer_mapped f less (object ∷ objects) = omega (arith, less object, one_more object objects, one_more (f object) (map f objects), fewer_mapped f less objects)

fewer_filtered : (p : Object → Bool) (objects : List Object) → held (filter p objects) ≤ held objects
fewer_filtered p [] = omega arith
fewer_filtered p (object ∷ objects) =
    elim (p object) as (λ b. held (cond b (object ∷ filter p objects) (filter p objects)) ≤ held (object ∷ objects)) [
      | true ↦ omega (arith, one_more object objects, one_more object (filter p objects), fewer_filtered p objects)
      | false ↦ omega (arith, one_more object objects, fewer_filtered p objects)
    ]

pub fewer_changed : (f : Object → Object) → NoMore f → (objects : List Object) (at : ℕ) → held (map_at f objects at) ≤ held objects
fewer_changed f less [] at = omega arith
fewer_changed f less (object ∷ objects) zero = omega (arith, less object, one_more object objects, one_more (f object) objects)
fewer_changed f less (object ∷ objects) (suc at) =
    subst (λ os. held os ≤ held (object ∷ objects)) (sym (later_changed f object objects at))
    (omega (arith, one_more object objects, one_more object (map_at f objects at), fewer_changed f less objects at))

by_body : (g : Body → Body) → ((b : Body) → length (named_in (g b)) ≤ length (named_in b)) → NoMore (on_body g)
by_body g less object = omega (arith, less object.body, length-map (named_in object.body) (held_by object.id), length-map (named_in (g object.body)) (held_by object.id))

pub filter_less : {X : Type 0} (p : X → Bool) (xs : List X) → length (filter p xs) ≤ length xs
filter_less p xs = omega (arith, length-filter p xs, count_by-le-length p xs)

port_less : (f : Port → Port) → ((port : Port) → length (f port).pending ≤ length port.pending) → NoMore (on_body (on_port f))
port_less f less = by_body (on_port f) (λ b. elim b as (λ v. length (named_in (on_port f v)) ≤ length (named_in v)) [
  | body.Port port ↦ less port
  | body.End end ↦ omega arith
  | body.Set set ↦ omega arith
  | body.Memory memory ↦ omega arith
])

pub end_less : (f : ChannelEnd → ChannelEnd) → ((end : ChannelEnd) → length (message_objects (f end).messages) ≤ length (message_objects end.messages)) → NoMore (on_body (on_end f))
end_less f less = by_body (on_end f) (λ b. elim b as (λ v. length (named_in (on_end f v)) ≤ length (named_in v)) [
  | body.End end ↦ less end
  | body.Port port ↦ omega arith
  | body.Set set ↦ omega arith
  | body.Memory memory ↦ omega arith
])

-- A sweep.

pub fewer_pruned : (marked : List ℕ) (c : CoreState) → length (naming (pruned marked c)) ≤ length (naming c)
unfolding pruned
fewer_pruned marked c =
    let prune : Port → Port = pruned_port marked c.objects in
    by_objects c _ (fewer_mapped (on_body (on_port prune)) (port_less prune (λ port. filter_less _ port.pending)) c.objects)

pub fewer_kept : (marked : List ℕ) (c : CoreState) → length (naming (kept marked c)) ≤ length (naming c)
unfolding kept
fewer_kept marked c =
    let test : Object → Bool = λ object. is_in marked object.id in
    let cut : held (map (on_body (on_end (cut_end marked))) (filter test c.objects)) ≤ held (filter test c.objects) =
    fewer_mapped (on_body (on_end (cut_end marked))) (end_less (cut_end marked) (λ end. omega arith)) (filter test c.objects) in
    by_objects c _ (omega (arith, cut, fewer_filtered test c.objects))

-- Time that passes.

cancelled_names : (a : Activity) → activity_names (cancelled_activity a) ≡ activity_names a
cancelled_names activity.Off = refl
cancelled_names (activity.Running start) = refl
cancelled_names (activity.Waiting start wait) = refl
cancelled_names (activity.Ended start) = refl

waits_same : (threads : List Thread) → flat_map wait_names (map (activity_changed cancelled_activity) threads) ≡ flat_map wait_names threads
waits_same [] = refl
waits_same (thread ∷ threads) = ap (λ names. names ++ flat_map wait_names (map (activity_changed cancelled_activity) threads)) (cancelled_names thread.activity)
    ∙ ap (λ names. wait_names thread ++ names) (waits_same threads)

pub idled_naming : (clock : Option ℕ) (c : CoreState) → naming (core_idle clock c) ≡ naming c
unfolding naming core_idle
idled_naming None c = ap (λ waits. flat_map table_names c.apps ++ map root c.bridged ++ waits ++ flat_map object_names c.objects) (waits_same c.threads)
idled_naming (Some clock) c = refl
