use Rattle.std.proofs.Common.{◌≡◌, ◌≤◌, ◌*◌, take}
use Rattle.virtqueue.specs.Bytes.{room}
use Rattle.virtqueue.proofs.chain.chain_len.Given as goal

abbrev pub invariant-loop-part : goal.invariant-loop-part
invariant-loop-part l = record { total : l.total ≡ room (take l.part-index l.parts); small : l.total ≤ l.part-index * 4294967295 }
