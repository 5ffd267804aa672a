-- Sets to which no member was added yet.
use Rattle.std.specs.Prelude.{◌≡◌, ℕ, false, List}
use Rattle.handle_set.specs.declared.settle.OpenSet.{OpenSet}
use Rattle.handle_set.specs.Sets.{is_member}

-- no object is a member of one of them
abbrev pub HaveNoMembers : List OpenSet → Type 0
HaveNoMembers sets = (object : ℕ) → is_member sets object ≡ false
