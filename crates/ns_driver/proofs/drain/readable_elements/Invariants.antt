-- proofs/drain/readable_elements/Invariants.antt
use Rattle.std.proofs.Common.{◌≡◌, ◌<◌, ◌≤◌, take}
use Rattle.std.specs.List.{All, filter}
use Rattle.kernel_types.specs.Drains.{is_readable}
use Rattle.ns_driver.proofs.drain.readable_elements.Given as goal

abbrev pub invariant-loop-element : goal.invariant-loop-element
invariant-loop-element l = record {
  found : l.readable ≡ filter (is_readable l.driver.size) (take l.element-index l.element-items);
  inside : All (λ e. (e.id < 32) × (e.len ≤ 0x2000)) l.readable;
}
