use Rattle.std.proofs.Common.{◌≡◌, drop}
use Rattle.virtqueue.specs.Bytes.{stored}
use Rattle.virtqueue.proofs.chain.store.Given as goal

abbrev pub invariant-loop-part : goal.invariant-loop-part
invariant-loop-part l = stored (drop l.part-index l.parts) l.rest l.mem ≡ stored l.parts l.bytes l.initial.mem
