-- The open sets as sets of the kernel's state: how they stand in one another is said there.
use Rattle.std.specs.Prelude.{ℕ, List, map}
use Rattle.kernel_values.specs.declared.state.Object.{Object}
use Rattle.kernel_values.specs.declared.state.Body.TheVariants as body
use Rattle.kernel_values.specs.declared.state.HandleSet.{HandleSet}
use Rattle.kernel_values.specs.declared.state.Member.{Member}
use Rattle.handle_set.specs.declared.records.TrackedMember.{TrackedMember}
use Rattle.handle_set.specs.declared.settle.OpenSet.{OpenSet}

abbrev pub member_of : TrackedMember → Member
member_of told = record { label = told.label; object = told.object.serial; mask = told.mask; cookie = told.cookie }

abbrev pub set_value : OpenSet → HandleSet
set_value set = record { members = map member_of set.members }

abbrev pub object_value : OpenSet → Object
object_value set = record { id = set.id; body = body.Set (set_value set) }

abbrev pub objects_of : List OpenSet → List Object
objects_of sets = map object_value sets

-- the objects of a set's members
abbrev pub objects_in : List TrackedMember → List ℕ
objects_in members = map (λ member. member.object) (map member_of members)
