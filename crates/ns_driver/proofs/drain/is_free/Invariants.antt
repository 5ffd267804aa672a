-- proofs/drain/is_free/Invariants.antt
use Rattle.std.proofs.Common.{◌≡◌, ◌==◌, drop}
use Rattle.std.specs.List.{list_any}
use Rattle.ns_driver.proofs.drain.is_free.Given as goal

abbrev pub invariant-loop-other : goal.invariant-loop-other
invariant-loop-other l = list_any (λ other. other == l.place) (drop l.other-index l.free) ≡ list_any (λ other. other == l.place) l.free
