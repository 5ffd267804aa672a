-- Why a member is not added to a set, in the order in which it is asked.
use Rattle.std.specs.Prelude.{◌≡◌, ◌⊎◌, ℕ, nat_lt, nat_le, List, [], ◌∷◌, ◌++◌, length, Option, Some, None, if◌then◌else◌}
use Rattle.std.specs.List.{find}
use Rattle.kernel_values.specs.declared.flags.Events.{Events}
use Rattle.kernel_types.specs.Events.{chain_limit}
use Rattle.kernel_types.specs.Sets.{is_or_contains, chain_through, member_limit}
use Rattle.handle_set.specs.declared.records.TrackedMember.{TrackedMember}
use Rattle.handle_set.specs.declared.adding.Member.{Member}
use Rattle.handle_set.specs.declared.adding.SetRefused.{SetRefused}
use Rattle.handle_set.specs.declared.adding.SetRefused.TheVariants as refused
use Rattle.handle_set.specs.declared.settle.OpenSet.{OpenSet}
use Rattle.handle_set.specs.Chains.{objects_of}
use Rattle.handle_set.specs.Sets.{has_id, has_labelled, is_open, members_changed}

abbrev pub members_in : Option OpenSet → List TrackedMember
members_in None = []
members_in (Some set) = set.members

-- the set itself or one that contains it, at any depth; a label that the set has; a chain of more than 8 sets; 64 members
abbrev pub add_refusal : List OpenSet → ℕ → Member → Option SetRefused
add_refusal sets id member =
    (if is_or_contains (objects_of sets) member.object.serial id then Some refused.Circle
    else if has_labelled member.label (find (has_id id) sets) then Some refused.Exists
    else if nat_lt chain_limit (chain_through (objects_of sets) id member.object.serial) then Some refused.TooDeep
    else if nat_le member_limit (length (members_in (find (has_id id) sets))) then Some refused.Full
    else None)

-- a member with the events that its object has
abbrev pub told_as : List OpenSet → Member → Events → TrackedMember
told_as sets member events = record {
  label = member.label;
  object = member.object;
  mask = member.mask;
  cookie = member.cookie;
  events = events;
  inner = is_open sets member.object.serial;
}

abbrev pub with_pushed : TrackedMember → List TrackedMember → List TrackedMember
with_pushed told members = members ++ told ∷ []

-- the sets with one more member, which goes last
abbrev pub with_added : ℕ → Member → Events → List OpenSet → List OpenSet
with_added id member events sets = members_changed (with_pushed (told_as sets member events)) id sets

-- a refusal is out of memory, which may come at any time, or has its cause
abbrev pub IsCause : Option SetRefused → SetRefused → Type 0
IsCause cause answer = (answer ≡ refused.NoMemory) ⊎ (cause ≡ Some answer)
