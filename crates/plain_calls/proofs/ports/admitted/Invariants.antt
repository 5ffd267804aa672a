use Rattle.std.proofs.Common.{◌≡◌, map, take}
use Rattle.std.specs.List.{filter}
use Rattle.kernel_types.specs.Ports.{end_is_admitted}
use Rattle.plain_calls.proofs.ports.admitted.Given as goal

abbrev pub invariant-loop-object : goal.invariant-loop-object
invariant-loop-object l = l.clients ≡ map (λ object. object.id) (filter (λ object. end_is_admitted l.port object.body) (take l.object-index l.objects))
