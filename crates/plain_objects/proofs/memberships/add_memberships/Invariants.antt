use Rattle.std.proofs.Common.{◌≡◌, ◌++◌, take}
use Rattle.kernel_types.specs.Sets.{memberships}
use Rattle.plain_objects.proofs.memberships.add_memberships.Given as goal

abbrev pub invariant-loop-object : goal.invariant-loop-object
invariant-loop-object l = l.names ≡ l.initial.names ++ memberships (take l.object-index l.objects)
