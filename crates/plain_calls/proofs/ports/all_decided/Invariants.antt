use Rattle.std.proofs.Common.{◌≡◌, map, take}
use Rattle.kernel_types.specs.Ports.{decided}
use Rattle.plain_calls.proofs.ports.all_decided.Given as goal

abbrev pub invariant-loop-object : goal.invariant-loop-object
invariant-loop-object l = l.others ≡ map (decided l.port l.first l.clients) (take l.object-index l.object-items)
