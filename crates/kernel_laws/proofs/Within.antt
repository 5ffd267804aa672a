-- Limits on each object, and which changes of the objects keep them.
use Rattle.std.proofs.Common.{◌≡◌, ◌≤◌, ℕ, zero, suc, ◌==◌, Bool, true, false, cond, List, [], ◌∷◌, ◌++◌, length, map, Option, Some, None, refl, sym, ◌∙◌, subst, ap}
use Rattle.std.specs.Prelude.{slice_get}
use Rattle.std.specs.List.{AllByRecursion, filter, find}
use Rattle.std.specs.Option.{option_map}
use Rattle.kernel_values.specs.declared.state.Object.{Object}
use Rattle.kernel_values.specs.declared.state.Body.{Body}
use Rattle.kernel_values.specs.declared.state.Body.TheVariants as body
use Rattle.kernel_values.specs.declared.state.ChannelEnd.{ChannelEnd}
use Rattle.kernel_values.specs.declared.state.MemoryRef.{MemoryRef}
use Rattle.kernel_values.specs.declared.state.Port.{Port}
use Rattle.kernel_values.specs.declared.state.HandleSet.{HandleSet}
use Rattle.kernel_values.specs.declared.state.CoreState.{CoreState}
use Rattle.kernel_types.specs.Objects.{set_if, map_at, as_end, as_memory, as_set, set_in, set_of, end_of, memory_of, object_of, end_in, port_in, memory_in, on_body, on_port, on_end, on_set, on_memory, changed}
use Rattle.kernel_types.specs.Limits.{IsBodyWithin, IsEndWithin, IsPortWithin}
use Rattle.kernel_laws.proofs.Found.{changed_cons, found_is}

abbrev pub Within : List Object → Type 0
Within objects = AllByRecursion (λ object. IsBodyWithin object.body) objects

abbrev pub WithinCore : CoreState → Type 0
WithinCore c = Within c.objects

-- Lists.

pub all_find : {X : Type 0} (P : X → Type 0) (p : X → Bool) (xs : List X) → AllByRecursion P xs → (x : X) → find p xs ≡ Some x → P x
all_find P p [] all x is = absurd (cc)
all_find {X} P p (y ∷ ys) all x is =
    let Q : Bool → Type 0 = λ b. cond b (Some y) (find p ys) ≡ Some x → P x in
    let go : (b : Bool) → Q b = λ b. elim b as (λ v. Q v) [
      | true ↦ (λ same. let eq : y ≡ x = cc in subst P eq all.0)
      | false ↦ (λ same. all_find P p ys all.1 x same)
    ] in
    go (p y) is

pub all_map_at : {X : Type 0} (P : X → Type 0) (f : X → X) → ((x : X) → P x → P (f x)) → (xs : List X) (at : ℕ) → AllByRecursion P xs → AllByRecursion P (map_at f xs at)
all_map_at P f keeps [] at all = tt
all_map_at P f keeps (x ∷ xs) zero all = (keeps x all.0, all.1)
all_map_at P f keeps (x ∷ xs) (suc at) all =
    let rest : AllByRecursion P (set_if xs at (option_map f (slice_get xs at))) = all_map_at P f keeps xs at all.1 in
    let Q : Option _ → Type 0 = λ o. AllByRecursion P (set_if xs at o) → AllByRecursion P (set_if (x ∷ xs) (suc at) o) in
    let go : (o : Option _) → Q o = λ o. elim o as (λ v. Q v) [ None ↦ (λ some. (all.0, some)) | Some y ↦ (λ some. (all.0, some)) ] in
    go (option_map f (slice_get xs at)) rest

-- Changes of objects.

abbrev pub KeepsWithin : (Body → Body) → Type 0
KeepsWithin f = (b : Body) → IsBodyWithin b → IsBodyWithin (f b)

pub within_changed : (f : Body → Body) → KeepsWithin f → (objects : List Object) → Within objects → (id : ℕ) → Within (changed f objects id)
within_changed f keeps [] w id = tt
within_changed f keeps (object ∷ objects) w id =
    subst (λ os. Within os) (sym (changed_cons f object objects id))
    (elim (object.id == id) as (λ b. Within (cond b (on_body f object ∷ objects) (object ∷ changed f objects id))) [
      | true ↦ (keeps object.body w.0, w.1)
      | false ↦ (w.0, within_changed f keeps objects w.1 id)
    ])

-- a change of the one object that has the number
pub within_changed_at : (f : Body → Body) (objects : List Object) → Within objects → (id : ℕ)
    → ((object : Object) → find (λ o. o.id == id) objects ≡ Some object → IsBodyWithin object.body → IsBodyWithin (f object.body)) → Within (changed f objects id)
within_changed_at f [] w id keeps = tt
within_changed_at f (object ∷ objects) w id keeps =
    let P : Bool → Type 0 = λ b. ((o : Object) → cond b (Some object) (find (λ x. x.id == id) objects) ≡ Some o → IsBodyWithin o.body → IsBodyWithin (f o.body))
    → Within (cond b (on_body f object ∷ objects) (object ∷ changed f objects id)) in
    let go : (b : Bool) → P b = λ b. elim b as (λ v. P v) [
      | true ↦ (λ at. (at object refl w.0, w.1))
      | false ↦ (λ at. (w.0, within_changed_at f objects w.1 id at))
    ] in
    subst (λ os. Within os) (sym (changed_cons f object objects id)) (go (object.id == id) keeps)

pub within_mapped : (h : Object → Object) → ((object : Object) → IsBodyWithin object.body → IsBodyWithin (h object).body) → (objects : List Object) → Within objects → Within (map h objects)
within_mapped h keeps [] w = tt
within_mapped h keeps (object ∷ objects) w = (keeps object w.0, within_mapped h keeps objects w.1)

pub within_filtered : (p : Object → Bool) (objects : List Object) → Within objects → Within (filter p objects)
within_filtered p [] w = tt
within_filtered p (object ∷ objects) w =
    elim (p object) as (λ b. Within (cond b (object ∷ filter p objects) (filter p objects))) [ true ↦ (w.0, within_filtered p objects w.1) | false ↦ within_filtered p objects w.1 ]

pub within_appended : (objects more : List Object) → Within objects → Within more → Within (objects ++ more)
within_appended [] more w v = v
within_appended (object ∷ objects) more w v = (w.0, within_appended objects more w.1 v)

pub keeps_set : (change : HandleSet → HandleSet) → ((set : HandleSet) → length set.members ≤ 64 → length (change set).members ≤ 64) → KeepsWithin (on_set change)
keeps_set change keeps (body.Set set) w = keeps set w
keeps_set change keeps (body.Port port) w = w
keeps_set change keeps (body.End end) w = w
keeps_set change keeps (body.Memory memory) w = w

pub keeps_port : (change : Port → Port) → ((port : Port) → IsPortWithin port → IsPortWithin (change port)) → KeepsWithin (on_port change)
keeps_port change keeps (body.Set set) w = w
keeps_port change keeps (body.Port port) w = keeps port w
keeps_port change keeps (body.End end) w = w
keeps_port change keeps (body.Memory memory) w = w

pub keeps_end : (change : ChannelEnd → ChannelEnd) → ((end : ChannelEnd) → IsEndWithin end → IsEndWithin (change end)) → KeepsWithin (on_end change)
keeps_end change keeps (body.Set set) w = w
keeps_end change keeps (body.Port port) w = w
keeps_end change keeps (body.End end) w = keeps end w
keeps_end change keeps (body.Memory memory) w = w

-- What is found.

found_within : (objects : List Object) → Within objects → (id : ℕ) (object : Object) → object_of objects id ≡ Some object → IsBodyWithin object.body
found_within objects w id object is =
    all_find (λ (o : Object). IsBodyWithin o.body) (λ o. o.id == id) objects w object (sym (found_is objects id) ∙ is)

end_in_within : (b : Body) → IsBodyWithin b → (end : ChannelEnd) → end_in b ≡ Some end → IsEndWithin end
end_in_within (body.Port x) w end is = absurd (cc)
end_in_within (body.Set x) w end is = absurd (cc)
end_in_within (body.Memory x) w end is = absurd (cc)
end_in_within (body.End x) w end is = let eq : x ≡ end = cc in subst (λ (y : ChannelEnd). IsEndWithin y) eq w

pub port_in_within : (b : Body) → IsBodyWithin b → (port : Port) → port_in b ≡ Some port → IsPortWithin port
port_in_within (body.End x) w port is = absurd (cc)
port_in_within (body.Set x) w port is = absurd (cc)
port_in_within (body.Memory x) w port is = absurd (cc)
port_in_within (body.Port x) w port is = let eq : x ≡ port = cc in subst (λ (y : Port). IsPortWithin y) eq w

memory_in_within : (b : Body) → IsBodyWithin b → (memory : MemoryRef) → memory_in b ≡ Some memory → length memory.bytes ≤ 65536
memory_in_within (body.End x) w memory is = absurd (cc)
memory_in_within (body.Set x) w memory is = absurd (cc)
memory_in_within (body.Port x) w memory is = absurd (cc)
memory_in_within (body.Memory x) w memory is = let eq : x ≡ memory = cc in subst (λ (y : MemoryRef). length y.bytes ≤ 65536) eq w

pub end_within : (objects : List Object) → Within objects → (id : ℕ) (end : ChannelEnd) → end_of objects id ≡ Some end → IsEndWithin end
end_within objects w id end is =
    let P : Option Object → Type 0 = λ o. object_of objects id ≡ o → as_end o ≡ Some end → IsEndWithin end in
    let go : (o : Option Object) → P o = λ o. elim o as (λ v. P v) [
      | None ↦ (λ at none. absurd (cc))
      | Some object ↦ (λ at here. end_in_within object.body (found_within objects w id object at) end here)
    ] in
    go (object_of objects id) refl is

pub memory_within : (objects : List Object) → Within objects → (id : ℕ) (memory : MemoryRef) → memory_of objects id ≡ Some memory → length memory.bytes ≤ 65536
memory_within objects w id memory is =
    let P : Option Object → Type 0 = λ o. object_of objects id ≡ o → as_memory o ≡ Some memory → length memory.bytes ≤ 65536 in
    let go : (o : Option Object) → P o = λ o. elim o as (λ v. P v) [
      | None ↦ (λ at none. absurd (cc))
      | Some object ↦ (λ at here. memory_in_within object.body (found_within objects w id object at) memory here)
    ] in
    go (object_of objects id) refl is

-- Changes of the end, the set or the memory that was found.

end_body : (b : Body) (end : ChannelEnd) → end_in b ≡ Some end → b ≡ body.End end
end_body (body.Port x) end is = absurd (cc)
end_body (body.Set x) end is = absurd (cc)
end_body (body.Memory x) end is = absurd (cc)
end_body (body.End x) end is = let eq : x ≡ end = cc in ap body.End eq

set_body : (b : Body) (set : HandleSet) → set_in b ≡ Some set → b ≡ body.Set set
set_body (body.Port x) set is = absurd (cc)
set_body (body.End x) set is = absurd (cc)
set_body (body.Memory x) set is = absurd (cc)
set_body (body.Set x) set is = let eq : x ≡ set = cc in ap body.Set eq

memory_body : (b : Body) (memory : MemoryRef) → memory_in b ≡ Some memory → b ≡ body.Memory memory
memory_body (body.Port x) memory is = absurd (cc)
memory_body (body.End x) memory is = absurd (cc)
memory_body (body.Set x) memory is = absurd (cc)
memory_body (body.Memory x) memory is = let eq : x ≡ memory = cc in ap body.Memory eq

changed_found : (f : Body → Body) (objects : List Object) → Within objects → (id : ℕ) (b : Body)
    → ((object : Object) → object_of objects id ≡ Some object → object.body ≡ b) → (IsBodyWithin b → IsBodyWithin (f b)) → Within (changed f objects id)
changed_found f objects w id b is keeps =
    within_changed_at f objects w id
    (λ object found within. let same : object.body ≡ b = is object (found_is objects id ∙ found) in
    subst (λ (x : Body). IsBodyWithin (f x)) (sym same) (keeps (subst IsBodyWithin same within)))

pub end_changed_within : (change : ChannelEnd → ChannelEnd) (objects : List Object) → Within objects → (id : ℕ) (end : ChannelEnd) → end_of objects id ≡ Some end
    → (IsEndWithin end → IsEndWithin (change end)) → Within (changed (on_end change) objects id)
end_changed_within change objects w id end is keeps =
    changed_found (on_end change) objects w id (body.End end) (λ object at. end_body object.body end (sym (ap as_end at) ∙ is)) keeps

pub set_changed_within : (change : HandleSet → HandleSet) (objects : List Object) → Within objects → (id : ℕ) (set : HandleSet) → set_of objects id ≡ Some set
    → (length set.members ≤ 64 → length (change set).members ≤ 64) → Within (changed (on_set change) objects id)
set_changed_within change objects w id set is keeps =
    changed_found (on_set change) objects w id (body.Set set) (λ object at. set_body object.body set (sym (ap as_set at) ∙ is)) keeps

pub memory_changed_within : (change : MemoryRef → MemoryRef) (objects : List Object) → Within objects → (id : ℕ) (memory : MemoryRef) → memory_of objects id ≡ Some memory
    → (length memory.bytes ≤ 65536 → length (change memory).bytes ≤ 65536) → Within (changed (on_memory change) objects id)
memory_changed_within change objects w id memory is keeps =
    changed_found (on_memory change) objects w id (body.Memory memory) (λ object at. memory_body object.body memory (sym (ap as_memory at) ∙ is)) keeps
