use Rattle.std.proofs.Common.{◌≡◌, sum_by, take}
use Rattle.plain_objects.specs.Predicates.{names_on}
use Rattle.plain_kernel.proofs.facts.sum_names.Given as goal

abbrev pub invariant-loop-object : goal.invariant-loop-object
invariant-loop-object l = l.sum ≡ sum_by (names_on l.names) (take l.object-index l.objects)
