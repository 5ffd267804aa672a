-- How a set lays out its members. No public clause cites this file.
use Rattle.std.specs.Prelude.{◌≡◌, ℕ, ◌≤◌, List, length, map}
use lib.Lanes.{mask_l}
use Rattle.handle_set.specs.declared.records.TrackedMember.{TrackedMember}
use Rattle.handle_set.specs.Members.{is_ready, is_inner, AreDifferent}

-- at most 64 members, a bit for each that is ready, and one for each whose object is an open set
pub record IsReadyList (members : List TrackedMember) (ready inner : ℕ) : Type 0 where
  pub few : length members ≤ 64
  pub marked : ready ≡ mask_l (map is_ready members)
  pub nested : inner ≡ mask_l (map is_inner members)
  pub different : AreDifferent members
