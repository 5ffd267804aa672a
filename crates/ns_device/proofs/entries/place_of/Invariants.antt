use Rattle.std.proofs.Common.{◌≡◌, ◌+◌, drop}
use Rattle.std.specs.Prelude.{nat_lt}
use Rattle.std.specs.List.{position_or_len}
use Rattle.ns_device.proofs.entries.place_of.Given as goal

abbrev pub invariant-loop-at : goal.invariant-loop-at
invariant-loop-at l =
    l.at + position_or_len (λ other. nat_lt l.secure other.secure) (drop l.at l.entries) ≡ position_or_len (λ other. nat_lt l.secure other.secure) l.entries
