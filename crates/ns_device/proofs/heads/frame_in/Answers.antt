use Rattle.std.proofs.Common.{◌≡◌, ◌≤◌, ◌+◌, ◌==◌, false, length, refl, sym, arith, tests, length-drop}
use Rattle.virtqueue.specs.Bytes.{bytes_at}
use Rattle.tipc_proto.specs.Frames.{fields_of}
use Rattle.ns_device.proofs.Fronts.{front_count, frame_broken, frame_whole, head_read}
use Rattle.ns_device.proofs.heads.frame_in.Goals as goal

pub returns-then-chain_len-frame : goal.returns-then-chain_len-frame
returns-then-chain_len-frame c =
    let bytes = bytes_at c.args.chain.now.parts c.args.mem.now in
    let f = c.fields_of-frame.result in
    let f_is : f ≡ fields_of bytes = head_read bytes _ _ _ _ f refl refl c.read_chain.ensures.count (omega arith) c.read_chain.ensures.bytes c.fields_of-frame.ensures in
    let enough : 16 ≤ length bytes = omega (arith, c.read_chain.ensures.count, front_count 16 bytes) in
    let other : (length bytes == 16 + f.len) ≡ false = grind (arith, tests, c.read_chain.ensures.whole, c.chain_len.ensures, c.if-chain_len-frame.true) in
    record { frame = sym (frame_broken bytes f f_is enough other); long = tt; payload = tt }

pub returns : goal.returns
returns c =
    let bytes = bytes_at c.args.chain.now.parts c.args.mem.now in
    let f = c.fields_of-frame.result in
    let f_is : f ≡ fields_of bytes = head_read bytes _ _ _ _ f refl refl c.read_chain.ensures.count (omega arith) c.read_chain.ensures.bytes c.fields_of-frame.ensures in
    let enough : 16 ≤ length bytes = omega (arith, c.read_chain.ensures.count, front_count 16 bytes) in
    let long : length bytes ≡ 16 + f.len = omega (arith, c.read_chain.ensures.whole, c.chain_len.ensures, c.if-chain_len-frame.false) in
    record {
      frame = sym (frame_whole bytes f f_is enough long);
      long = omega (arith, c.read_chain.ensures.whole, long);
      payload = omega (arith, long, length-drop 16 bytes);
    }
