-- proofs/acting/give_all/Invariants.antt
use Rattle.std.proofs.Common.{◌≡◌, drop}
use Rattle.std.specs.List.{fold}
use Rattle.kernel_types.specs.GuestMemory.{given}
use Rattle.ns_driver.proofs.acting.give_all.Given as goal

abbrev pub invariant-loop-place : goal.invariant-loop-place
invariant-loop-place l = fold (given l.size) l.mem (drop l.place-index l.places) ≡ fold (given l.size) l.initial.mem l.places
