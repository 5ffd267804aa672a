-- proofs/driver/Driver/new/Invariants.antt
use Rattle.std.proofs.Common.{◌≡◌, None, replicate}
use Rattle.std.specs.List.{range_with_len}
use Rattle.ns_driver.proofs.driver.Driver.new.Given as goal

abbrev pub invariant-loop-place : goal.invariant-loop-place
invariant-loop-place l = l.free ≡ range_with_len 0 l.place

abbrev pub invariant-loop-client : goal.invariant-loop-client
invariant-loop-client l = l.waits ≡ replicate l._client None
