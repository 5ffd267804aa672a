use Rattle.std.proofs.Common.{◌≡◌, length, arith}
use Rattle.virtqueue.specs.Bytes.{bytes_at}
use Rattle.ns_device.proofs.Fronts.{frame_read}
use Rattle.ns_device.proofs.taken.frame_of.Goals as goal

pub returns : goal.returns
returns c =
    let bytes = bytes_at c.args.chain.now.parts c.args.mem.now in
    let len : c.in_ok-frame.frame.len ≡ length bytes = omega (arith, c.in_ok-frame.ensures.len, c.chain_len.ensures, c.read_chain.ensures.whole) in
    let long : length c.deref_mut.result.now ≡ length bytes = omega (arith, len, c.deref_mut.ensures.len) in
    frame_read bytes _ _ _ _ long c.read_chain.ensures.bytes len
