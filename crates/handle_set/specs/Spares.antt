-- What a spare set is: no members, and a place in the list of sets. No public clause cites this file.
use Rattle.std.specs.Prelude.{◌≡◌, ℕ, ◌<◌, List, [], Option, Some, None}
use Rattle.handle_set.specs.declared.records.TrackedMember.{TrackedMember}

abbrev pub IsSpare : ℕ → ℕ → Option (List TrackedMember) → Type 0
IsSpare len capacity None = Unit {0}
IsSpare len capacity (Some members) = (members ≡ []) × (len < capacity)
