use Rattle.kernel_types.specs.Objects.{published}
use Rattle.std.proofs.Common.{drop, ◌≡◌}
use Rattle.plain_objects.proofs.objects.find_published.Given as goal

abbrev pub invariant-loop-object : goal.invariant-loop-object
invariant-loop-object l = published (drop l.object-index l.objects) l.path ≡ published l.objects l.path
