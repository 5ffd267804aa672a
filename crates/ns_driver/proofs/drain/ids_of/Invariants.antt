-- proofs/drain/ids_of/Invariants.antt
use Rattle.std.proofs.Common.{◌≡◌, ◌<◌, take, map}
use Rattle.std.specs.List.{All}
use Rattle.ns_driver.proofs.drain.ids_of.Given as goal

abbrev pub invariant-loop-element : goal.invariant-loop-element
invariant-loop-element l = record {
  ids : l.ids ≡ map (λ e. e.id) (take l.element-index l.element-items);
  inside : All (λ id. id < 32) l.ids;
}
