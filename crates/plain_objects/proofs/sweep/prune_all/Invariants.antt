use Rattle.std.proofs.Common.{◌≡◌, ◌++◌, map, take, drop}
use Rattle.kernel_types.specs.Objects.{on_body, on_port}
use Rattle.kernel_types.specs.Sweep.{pruned_port}
use Rattle.plain_objects.proofs.sweep.prune_all.Given as goal

abbrev pub invariant-loop-at : goal.invariant-loop-at
invariant-loop-at l = l.objects ≡ map (on_body (on_port (pruned_port l.marked l.initial.objects))) (take l.at l.initial.objects) ++ drop l.at l.initial.objects
