use Rattle.kernel_types.specs.Objects.{is_there}
use Rattle.std.proofs.Common.{drop, ◌≡◌}
use Rattle.plain_objects.proofs.objects.is_object_there.Given as goal

abbrev pub invariant-loop-object : goal.invariant-loop-object
invariant-loop-object l = is_there (drop l.object-index l.objects) l.id ≡ is_there l.objects l.id
