use Rattle.std.proofs.Common.{◌≡◌, length, take}
use Rattle.virtqueue.specs.Layout.{written_at}
use Rattle.virtqueue.specs.Bytes.{bytes_at}
use Rattle.virtqueue.proofs.chain.read_chain.Given as goal

abbrev pub invariant-loop-part : goal.invariant-loop-part
invariant-loop-part l = record {
  count : l.done ≡ length (take (length l.initial.out) (bytes_at (take l.part-index l.parts) l.mem));
  bytes : l.out ≡ written_at 0 (take (length l.initial.out) (bytes_at (take l.part-index l.parts) l.mem)) l.initial.out;
}
