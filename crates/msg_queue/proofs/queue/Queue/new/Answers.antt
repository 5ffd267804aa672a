use Rattle.std.proofs.Common.{◌-◌, length, false, ap, arith}
use Rattle.msg_queue.proofs.Places.{hold_push}
use Rattle.msg_queue.proofs.queue.Queue.new.Goals as goal

pub invariant_of-result : goal.invariant_of-result
invariant_of-result c =
    let len = c.loop.spare.ok.0 in
    let cap = c.loop.spare.ok.1 in
    let count = c.loop.invariant.0 in
    let past = c.loop-test.false in
    let upto = c.loop.auto.counter-end in
    let none = ap length c.in_ok-messages.ensures.items in
    let exact = c.in_ok-messages.ensures.exact in
    record {
      few = c.requires.few;
      short = c.requires.short;
      places = omega arith;
      room = omega arith;
      spare_room = omega arith;
      hold = rw c.in_ok-messages.ensures.items tt;
      spare_hold = c.loop.invariant.1;
      apart = rw c.in_ok-messages.ensures.items tt;
    }

pub loop-preserved : goal.loop-preserved
loop-preserved c =
    let len = c.in_ok-push.ensures.len in
    let count = c.loop.invariant.0 in
    let room = c.in_ok-new.ensures.room in
    let empty = ap length c.in_ok-new.ensures.empty in (
      omega arith,
      rw c.in_ok-push.ensures.items (hold_push c.args.size c.loop.spare.items c.in_ok-new.field-0 c.loop.invariant.1 (omega arith) (omega arith)),
    )
