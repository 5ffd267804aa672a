-- Room for copies of answers.
use Rattle.std.specs.Prelude.{◌≤◌, Bool}
use Rattle.kernel_types.specs.Limits.{Room}

-- at least as much room
pub record Holds (spare room : Room) : Type 0 where
  pub bytes : room.bytes ≤ spare.bytes
  pub handles : room.handles ≤ spare.handles
