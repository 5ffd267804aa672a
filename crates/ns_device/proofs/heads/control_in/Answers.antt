use Rattle.std.proofs.Common.{◌≤◌, refl, ap, ◌∙◌, arith}
use Rattle.virtqueue.specs.Bytes.{bytes_at}
use Rattle.tipc_proto.specs.Controls.{control_in}
use Rattle.ns_device.proofs.Fronts.{control_front, front_count, payload_read}
use Rattle.ns_device.proofs.heads.control_in.Goals as goal

pub behind-requires : goal.behind-requires
behind-requires c =
    let bytes = bytes_at c.args.chain.now.parts c.args.mem.now in
    let low : 16 ≤ c.read_chain-count.result = omega (arith, c.read_chain-count.ensures.count, c.read_chain-count.ensures.whole, c.requires.long, front_count 281 bytes) in
    record { low = low; high = omega (arith, c.read_chain-count.ensures.count, front_count 281 bytes) }

pub returns : goal.returns
returns c =
    let bytes = bytes_at c.args.chain.now.parts c.args.mem.now in
    let low : 16 ≤ c.read_chain-count.result = omega (arith, c.read_chain-count.ensures.count, c.read_chain-count.ensures.whole, c.requires.long, front_count 281 bytes) in
    c.control_of.ensures.exact
    ∙ ap control_in (payload_read bytes _ _ _ _ _ refl c.read_chain-count.ensures.count low c.read_chain-count.ensures.bytes c.behind.ensures)
    ∙ control_front _
