-- All open sets. A member may be a set itself; the events told for it are then READY where that set has
-- a ready member, and none otherwise.
use Rattle.std.specs.Prelude.{◌≡◌, ◌<◌, ◌≤◌, ℕ, Bool, true, false, not, ◌==◌, List, [], ◌∷◌, map, drop, Option, Some, None, slice_get, bit_and}
use Rattle.std.specs.List.{list_any, find, filter, position_or_len}
use Rattle.std.specs.Option.{option_map}
use Rattle.object_store.specs.declared.key.ObjKey.{ObjKey}
use Rattle.kernel_values.specs.declared.flags.Events.{Events}
use Rattle.handle_set.specs.declared.records.TrackedMember.{TrackedMember}
use Rattle.handle_set.specs.declared.settle.OpenSet.{OpenSet}
use Rattle.handle_set.specs.declared.ready_list.Picked.{Picked}
use Rattle.handle_set.specs.Members.{is_ready, has_label, has_object, is_label_in, is_other, object_of, remasked, with_events, with_told, map_at, after_pick, picked}

abbrev pub has_id : ℕ → OpenSet → Bool
has_id id set = set.id == id

abbrev pub has_ready : OpenSet → Bool
has_ready set = list_any is_ready set.members

-- whether an open set has a ready member; none where no such set is open
abbrev pub ready_in : List OpenSet → ℕ → Option Bool
ready_in sets id = option_map has_ready (find (has_id id) sets)

abbrev pub ready_events : Bool → Events
ready_events true = record { 0 = 1 }
ready_events false = record { 0 = 0 }

abbrev pub settled_told : Option Bool → TrackedMember → TrackedMember
settled_told None told = told
settled_told (Some ready) told = with_events (ready_events ready) told

-- a member with the events that its object has, where that is an open set
abbrev pub settled_in : List OpenSet → TrackedMember → TrackedMember
settled_in sets told = settled_told (ready_in sets told.object.serial) told

abbrev pub with_members : List TrackedMember → OpenSet → OpenSet
with_members members set = record set { members = members }

-- each item of a list
abbrev pub Each : {X : Type 0} → List X → (X → Type 0) → Type 0
Each {X} xs P = (k : ℕ) (x : X) → slice_get xs k ≡ Some x → P x

-- the set knows of each member that is an open set whether that one is ready
abbrev pub IsExactIn : List OpenSet → OpenSet → Type 0
IsExactIn sets set = map (settled_in sets) set.members ≡ set.members

abbrev pub IsExact : List OpenSet → Type 0
IsExact sets = Each sets (IsExactIn sets)

-- chains are short: each open set has a rank from 1 to 8, above those of its members' objects
abbrev pub IsHeight : ℕ → Type 0
IsHeight rank = (0 < rank) × (rank ≤ 8)

abbrev pub IsRankedIn : (ℕ → ℕ) → OpenSet → Type 0
IsRankedIn rank set = IsHeight (rank set.id) × Each set.members (λ told. rank told.object.serial < rank set.id)

abbrev pub IsRankedBy : (ℕ → ℕ) → List OpenSet → Type 0
IsRankedBy rank sets = Each sets (IsRankedIn rank)

abbrev pub IsRanked : List OpenSet → Type 0
IsRanked sets = (rank : ℕ → ℕ) × IsRankedBy rank sets

-- whether a set of this number is open
abbrev pub is_open : List OpenSet → ℕ → Bool
is_open sets id = list_any (has_id id) sets

-- what told events leave as it is
abbrev pub bare_told : TrackedMember → TrackedMember
bare_told told = with_events (ready_events false) told

abbrev pub bare : OpenSet → OpenSet
bare set = with_members (map bare_told set.members) set

-- the sets without the events told
abbrev pub shape : List OpenSet → List OpenSet
shape sets = map bare sets

-- the events told are those of `events`: for what is no open set
abbrev pub LeavesFollow : (ℕ → ℕ) → List OpenSet → Type 0
LeavesFollow events sets = Each sets (λ set. Each set.members (λ told. is_open sets told.object.serial ≡ false → told.events.0 ≡ events told.object.serial))

-- for every member
abbrev pub Follows : (ℕ → ℕ) → List OpenSet → Type 0
Follows events sets = Each sets (λ set. Each set.members (λ told. told.events.0 ≡ events told.object.serial))

-- `events` gives each open set READY exactly where a member's object has an event of its mask
abbrev pub is_ready_by : (ℕ → ℕ) → TrackedMember → Bool
is_ready_by events told = not (bit_and (events told.object.serial) told.mask.0 == 0)

abbrev pub IsOfSets : (ℕ → ℕ) → List OpenSet → Type 0
IsOfSets events sets = Each sets (λ set. events set.id ≡ (ready_events (list_any (is_ready_by events) set.members)).0)

-- the members of an object are told
abbrev pub set_told : ℕ → Events → OpenSet → OpenSet
set_told object events set = with_members (map (with_told object events) set.members) set

-- of what is no open set, the events change at one object alone
abbrev pub OnlyChanges : ℕ → (ℕ → ℕ) → (ℕ → ℕ) → List OpenSet → Type 0
OnlyChanges object before now sets = (id : ℕ) → (id == object) ≡ false → is_open sets id ≡ false → now id ≡ before id

-- no number stands twice
abbrev pub is_number : ℕ → ℕ → Bool
is_number n m = m == n

abbrev pub AreOnce : List ℕ → Type 0
AreOnce [] = Unit {0}
AreOnce (n ∷ ns) = (list_any (is_number n) ns ≡ false) × AreOnce ns

abbrev pub id_of : OpenSet → ℕ
id_of set = set.id

-- it is known of each member whether its object is an open set
abbrev pub IsKnown : List OpenSet → Type 0
IsKnown sets = Each sets (λ set. Each set.members (λ told. told.inner ≡ is_open sets told.object.serial))

-- what holds of the open sets between calls: no set is open twice, chains are short, and of each member that is a set, it is
-- known whether that one is ready
pub record IsSettled (sets : List OpenSet) : Type 0 where
  pub once : AreOnce (map id_of sets)
  pub ranked : IsRanked sets
  pub known : IsKnown sets
  pub exact : IsExact sets

-- the open sets, and whether one more can be opened with no memory
pub record Memberships : Type 0 where
  pub sets : List OpenSet
  pub spare : Bool

-- whether an object is a member of some open set
abbrev pub has_member : ℕ → OpenSet → Bool
has_member object set = list_any (has_object object) set.members

abbrev pub is_member : List OpenSet → ℕ → Bool
is_member sets object = list_any (has_member object) sets

-- events that an object may be told: any of what is no open set; of an open set READY where it is ready, else none
abbrev pub are_of : Option Bool → Events → Type 0
are_of None events = Unit {0}
are_of (Some ready) events = events ≡ ready_events ready

abbrev pub CanHave : List OpenSet → ℕ → Events → Type 0
CanHave sets object events = are_of (ready_in sets object) events

-- `now` is `changed` with every set brought up to date: the same members, the same events told for what is no open set, and
-- of each member that is a set, whether it is ready
pub record IsUpToDate (changed now : List OpenSet) : Type 0 where
  pub shape : shape now ≡ shape changed
  pub leaves : (events : ℕ → ℕ) → LeavesFollow events changed → LeavesFollow events now
  pub exact : IsExact now

-- the sets with the members of one changed
abbrev pub with_changed : (List TrackedMember → List TrackedMember) → OpenSet → OpenSet
with_changed change set = with_members (change set.members) set

abbrev pub members_changed : (List TrackedMember → List TrackedMember) → ℕ → List OpenSet → List OpenSet
members_changed change id sets = map_at (with_changed change) (position_or_len (has_id id) sets) sets

-- what is said of an open set's members, where it is open
abbrev pub of_set : {X : Type 0} → (List TrackedMember → Option X) → Option OpenSet → Option X
of_set f None = None
of_set f (Some set) = f set.members

-- a report of a set, and what it makes of the members
abbrev pub first_ready : List TrackedMember → Option Picked
first_ready members = option_map picked (find is_ready members)

abbrev pub reported : List TrackedMember → List TrackedMember
reported members = after_pick members (find is_ready members)

-- the object of the member under a label, and the members without it
abbrev pub labelled : ℕ → List TrackedMember → Option ObjKey
labelled label members = option_map object_of (find (has_label label) members)

abbrev pub without_label : ℕ → List TrackedMember → List TrackedMember
without_label label members = filter (is_other label) members

abbrev pub remasked_at : ℕ → Events → ℕ → List TrackedMember → List TrackedMember
remasked_at label mask cookie members = remasked label mask cookie members

-- whether a set has a member under a label
abbrev pub has_labelled : ℕ → Option OpenSet → Bool
has_labelled label None = false
has_labelled label (Some set) = is_label_in set.members label

-- the first member of a set that ends; a set without members is closed
abbrev pub first_object : List TrackedMember → Option ObjKey
first_object members = option_map object_of (slice_get members 0)

abbrev pub is_other_set : ℕ → OpenSet → Bool
is_other_set id set = not (set.id == id)

abbrev pub cleared_by : Option ObjKey → ℕ → List OpenSet → List OpenSet
cleared_by None id sets = filter (is_other_set id) sets
cleared_by (Some object) id sets = members_changed (drop 1) id sets

abbrev pub cleared : ℕ → List OpenSet → List OpenSet
cleared id sets = cleared_by (of_set first_object (find (has_id id) sets)) id sets

-- a set that was just opened
abbrev pub empty_set : ℕ → OpenSet
empty_set id = record { id = id; members = [] }
