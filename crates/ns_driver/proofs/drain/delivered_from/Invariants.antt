-- proofs/drain/delivered_from/Invariants.antt
use Rattle.std.proofs.Common.{◌≡◌, drop, map}
use Rattle.std.specs.List.{fold}
use Rattle.kernel_types.specs.Drains.{frame_at, delivered}
use Rattle.ns_driver.proofs.drain.delivered_from.Given as goal

abbrev pub invariant-loop-element : goal.invariant-loop-element
invariant-loop-element l =
    fold delivered l.after (map (frame_at l.mem) (drop l.element-index l.elements)) ≡ fold delivered l.connections (map (frame_at l.mem) l.elements)
