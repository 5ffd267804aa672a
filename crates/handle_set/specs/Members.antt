-- The members of a set, each with the events last told for its object.
use Rattle.std.specs.Prelude.{◌≡◌, ℕ, Bool, false, not, ◌==◌, List, [], ◌∷◌, ◌++◌, take, drop, Option, Some, None, bit_and, slice_get, slice_set, if◌then◌else◌}
use Rattle.std.specs.List.{remove, filter, list_any, position_or_len}
use Rattle.std.specs.Option.{option_map}
use Rattle.kernel_values.specs.declared.flags.Events.{Events}
use Rattle.object_store.specs.declared.key.ObjKey.{ObjKey}
use Rattle.handle_set.specs.declared.records.TrackedMember.{TrackedMember}
use Rattle.handle_set.specs.declared.ready_list.Picked.{Picked}

-- the events of its mask that a member's object has
abbrev pub masked : TrackedMember → ℕ
masked told = bit_and told.events.0 told.mask.0

abbrev pub is_ready : TrackedMember → Bool
is_ready told = not (masked told == 0)

-- whether the object is an open set
abbrev pub is_inner : TrackedMember → Bool
is_inner told = told.inner

abbrev pub has_label : ℕ → TrackedMember → Bool
has_label label told = told.label == label

abbrev pub is_other : ℕ → TrackedMember → Bool
is_other label told = not (told.label == label)

abbrev pub object_of : TrackedMember → ObjKey
object_of told = told.object

abbrev pub has_object : ℕ → TrackedMember → Bool
has_object object told = told.object.serial == object

abbrev pub is_label_in : List TrackedMember → ℕ → Bool
is_label_in members label = list_any (has_label label) members

-- no two members have one label
abbrev pub AreDifferent : List TrackedMember → Type 0
AreDifferent [] = Unit {0}
AreDifferent (told ∷ rest) = (is_label_in rest told.label ≡ false) × AreDifferent rest

-- the item at a place goes last
abbrev pub moved_last : {X : Type 0} → ℕ → List X → List X
moved_last at xs = remove xs at ++ take 1 (drop at xs)

abbrev pub set_if : {X : Type 0} → List X → ℕ → Option X → List X
set_if xs at None = xs
set_if xs at (Some x) = slice_set xs at x

abbrev pub map_at : {X : Type 0} → (X → X) → ℕ → List X → List X
map_at change at xs = set_if xs at (option_map change (slice_get xs at))

abbrev pub with_events : Events → TrackedMember → TrackedMember
with_events events told = record told { events = events }

abbrev pub with_events_at : ℕ → Events → List TrackedMember → List TrackedMember
with_events_at at events members = map_at (with_events events) at members

abbrev pub with_mask : Events → ℕ → TrackedMember → TrackedMember
with_mask mask cookie told = record told { mask = mask; cookie = cookie }

abbrev pub with_mask_at : ℕ → Events → ℕ → List TrackedMember → List TrackedMember
with_mask_at at mask cookie members = map_at (with_mask mask cookie) at members

-- the member under a label gets another mask and cookie
abbrev pub remasked : ℕ → Events → ℕ → List TrackedMember → List TrackedMember
remasked label mask cookie members = with_mask_at (position_or_len (has_label label) members) mask cookie members

-- the members of an object get other events
abbrev pub with_told : ℕ → Events → TrackedMember → TrackedMember
with_told object events told = if told.object.serial == object then with_events events told else told

-- what is reported of a member
abbrev pub picked : TrackedMember → Picked
picked told = record { label = told.label; object = told.object; events = record { 0 = masked told }; cookie = told.cookie }

-- the reported member goes last
abbrev pub with_last : TrackedMember → List TrackedMember → List TrackedMember
with_last told members = filter (λ other. not (other.label == told.label)) members ++ told ∷ []

abbrev pub after_pick : List TrackedMember → Option TrackedMember → List TrackedMember
after_pick members None = members
after_pick members (Some told) = with_last told members
