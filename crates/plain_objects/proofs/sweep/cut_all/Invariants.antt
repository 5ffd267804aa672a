use Rattle.std.proofs.Common.{◌≡◌, ◌++◌, map, take, drop}
use Rattle.kernel_types.specs.Objects.{on_body, on_end}
use Rattle.kernel_types.specs.Sweep.{cut_end}
use Rattle.plain_objects.proofs.sweep.cut_all.Given as goal

abbrev pub invariant-loop-at : goal.invariant-loop-at
invariant-loop-at l = l.objects ≡ map (on_body (on_end (cut_end l.marked))) (take l.at l.initial.objects) ++ drop l.at l.initial.objects
