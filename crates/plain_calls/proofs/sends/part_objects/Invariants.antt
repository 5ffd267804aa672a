use Rattle.std.proofs.Common.{◌≡◌, map, take}
use Rattle.plain_objects.specs.Predicates.{part_object}
use Rattle.plain_calls.proofs.sends.part_objects.Given as goal

abbrev pub invariant-loop-handle : goal.invariant-loop-handle
invariant-loop-handle l = l.objects ≡ map (part_object l.table) (take l.handle-index l.parts)
