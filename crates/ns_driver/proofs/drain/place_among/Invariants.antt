-- proofs/drain/place_among/Invariants.antt
use Rattle.std.proofs.Common.{◌≡◌, ◌+◌, drop}
use Rattle.std.specs.Prelude.{nat_lt}
use Rattle.std.specs.List.{position_or_len}
use Rattle.ns_driver.proofs.drain.place_among.Given as goal

abbrev pub invariant-loop-at : goal.invariant-loop-at
invariant-loop-at l = l.at + position_or_len (λ other. nat_lt l.place other) (drop l.at l.free) ≡ position_or_len (λ other. nat_lt l.place other) l.free
