-- Sources and sinks in memory, as contracts see them.
use Rattle.std.specs.Prelude.{◌==◌, ℕ, ◌-◌, Bool, List, ◌++◌, length, take, drop, max, min, ◌||◌, if◌then◌else◌}
use Rattle.outside_io.specs.Faults.{later}
use Rattle.outside_io.specs.Plans.{fails_next, went_on}
use Rattle.outside_io.specs.declared.plan.Plan.{Plan}

-- bytes that a source hands out, at most `piece` of them a read
pub record Feed : Type 0 where
  pub left : List ℕ
  pub piece : ℕ

-- how many bytes a read takes into a buffer with this much room
abbrev pub reach : Feed → ℕ → ℕ
reach feed room = min (min (length feed.left) feed.piece) room

-- the feed after such a read
abbrev pub fed : Feed → ℕ → Feed
fed feed room = record feed { left = drop (reach feed room) feed.left }

-- the buffer after such a read
abbrev pub filled : Feed → List ℕ → List ℕ
filled feed buf = take (reach feed (length buf)) feed.left ++ drop (reach feed (length buf)) buf

-- what a sink holds, the room that is left in it, and how many of its writes failed
pub record Sheet : Type 0 where
  pub written : List ℕ
  pub room : ℕ
  pub faults : ℕ

-- no byte fits in the sheet any more
abbrev pub is_full : Sheet → Bool
is_full sheet = sheet.room == 0

-- the sheet after a write of these bytes, as far as its room allows
abbrev pub inked : Sheet → List ℕ → Sheet
inked sheet bytes = record sheet { written = sheet.written ++ take sheet.room bytes; room = sheet.room - length bytes }

-- the sheet after a write that failed
abbrev pub spoiled : Sheet → Sheet
spoiled sheet = record sheet { faults = later sheet.faults }

-- the sheet after a write
abbrev pub after_write : Sheet → List ℕ → Sheet
after_write sheet bytes = if is_full sheet then spoiled sheet else inked sheet bytes

-- a source whose calls fail by a plan, and the most bytes that one of its reads asked for
pub record PlannedFeed : Type 0 where
  pub feed : Feed
  pub plan : Plan
  pub faults : ℕ
  pub asked : ℕ

abbrev pub after_planned_read : PlannedFeed → ℕ → PlannedFeed
after_planned_read source room = if fails_next source.plan
    then record source { plan = went_on source.plan; faults = later source.faults; asked = max source.asked room }
    else record source { plan = went_on source.plan; feed = fed source.feed room; asked = max source.asked room }

-- a sink whose calls fail by a plan, and which takes at most `piece` bytes a write
pub record PlannedSheet : Type 0 where
  pub sheet : Sheet
  pub piece : ℕ
  pub plan : Plan

abbrev pub planned_write_fails : PlannedSheet → Bool
planned_write_fails sink = fails_next sink.plan || is_full sink.sheet

abbrev pub after_planned_write : PlannedSheet → List ℕ → PlannedSheet
after_planned_write sink bytes = record sink {
  plan = went_on sink.plan;
  sheet = if fails_next sink.plan then spoiled sink.sheet else after_write sink.sheet (take sink.piece bytes);
}
