use Rattle.std.proofs.Common.{◌+◌, drop, ◌≡◌}
use Rattle.kernel_types.specs.Objects.{place_of}
use Rattle.plain_objects.proofs.objects.place_of_object.Given as goal

abbrev pub invariant-loop-at : goal.invariant-loop-at
invariant-loop-at l = l.at + place_of (drop l.at l.objects) l.id ≡ place_of l.objects l.id
