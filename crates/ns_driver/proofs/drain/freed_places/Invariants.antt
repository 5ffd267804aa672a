-- proofs/drain/freed_places/Invariants.antt
use Rattle.std.proofs.Common.{◌≡◌, ◌<◌, take, map}
use Rattle.std.specs.Prelude.{nat_lt}
use Rattle.std.specs.List.{All, filter}
use Rattle.kernel_types.specs.GuestMemory.{buffer_count}
use Rattle.ns_driver.proofs.drain.freed_places.Given as goal

abbrev pub invariant-loop-element : goal.invariant-loop-element
invariant-loop-element l = record {
  found : l.places ≡ filter (λ place. nat_lt place (buffer_count l.driver.size)) (map (λ e. e.id) (take l.element-index l.element-items));
  inside : All (λ place. place < buffer_count l.driver.size) l.places;
}
