-- proofs/copies/copied_messages/Invariants.antt
use Rattle.std.proofs.Common.{◌≡◌, take}
use Rattle.ns_driver.proofs.copies.copied_messages.Given as goal

abbrev pub invariant-loop-bytes : goal.invariant-loop-bytes
invariant-loop-bytes l = l.copy ≡ take l.bytes-index l.messages
