-- proofs/drain/freed/Invariants.antt
use Rattle.std.proofs.Common.{◌≡◌, ◌<◌, drop}
use Rattle.std.specs.List.{All, fold}
use Rattle.kernel_types.specs.Drains.{with_free}
use Rattle.ns_driver.proofs.drain.freed.Given as goal

abbrev pub invariant-loop-place : goal.invariant-loop-place
invariant-loop-place l = record {
  free : fold with_free l.after (drop l.place-index l.places) ≡ fold with_free l.initial.after l.places;
  inside : All (λ place. place < l.count) l.after;
}
