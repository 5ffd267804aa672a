use Rattle.std.proofs.Common.{◌<◌, ◌∙◌, sym, ap, arith, get_or, length, take}
use Rattle.std.proofs.lemmas.List.{take_more}
use Rattle.virtqueue.specs.declared.parts.Part.{Part}
use Rattle.virtqueue.specs.Bytes.{room}
use Rattle.virtqueue.proofs.Bytes.{room_none, room_more}
use Rattle.virtqueue.proofs.chain.chain_len.Goals as goal

pub loop-part-init : goal.loop-part-init
loop-part-init c = record { total = sym room_none; small = omega arith }

pub loop-part-preserved : goal.loop-part-preserved
loop-part-preserved c =
    let d : Part = record { addr = 0; len = 0 } in
    let lt : c.loop-part.part-index < length c.as_slice-parts.result.now = omega arith in
    let more = ap room (take_more c.as_slice-parts.result.now c.loop-part.part-index d lt) ∙ room_more (take c.loop-part.part-index c.as_slice-parts.result.now) (get_or c.as_slice-parts.result.now c.loop-part.part-index d) in
    record {
      total = omega (arith, more);
      small = omega arith;
    }
