use Rattle.std.proofs.Common.{◌≡◌, ◌++◌, drop, map}
use Rattle.counted_core.specs.Sending.{held_object}
use Rattle.counted_core.proofs.counts.CountedCore.part_objects.Given as goal

abbrev pub invariant-loop-handle : goal.invariant-loop-handle
invariant-loop-handle l = l.objects ++ map (held_object l.self l.app) (drop l.handle-index l.parts) ≡ map (held_object l.self l.app) l.parts
