use Rattle.std.proofs.Common.{◌-◌, ◌∷◌, [], length, ap, ◌∙◌, arith, length-append}
use Rattle.msg_queue.proofs.Places.{hold_push, hold_front, apart_push}
use Rattle.msg_queue.proofs.queue.Queue.push.Goals as goal

pub fill-requires : goal.fill-requires
fill-requires c =
    let front = hold_front c.self.inside.size c.pop.new.self.items c.in-Some.place (rw c.in-Some.ensures.items at c.self.invariant.spare_hold) in
    let fits = rw (← c.self.view_is) at c.requires.fits in
    let room = front.1 in
    omega arith

pub invariant_of-self-2 : goal.invariant_of-self-2
invariant_of-self-2 c =
    let front = hold_front c.self.inside.size c.pop.new.self.items c.in-Some.place (rw c.in-Some.ensures.items at c.self.invariant.spare_hold) in
    let fits = rw (← c.self.view_is) at c.requires.fits in
    let room = front.1 in
    let wide = c.fill.ensures.room in
    let bytes = ap length c.fill.ensures.bytes in
    let counts = ap length c.in-Some.ensures.items ∙ length-append c.pop.new.self.items (c.in-Some.place ∷ []) in
    let more = ap length c.push_reserved.ensures.items ∙ length-append c.self.inside.messages.items (c.fill.new.self ∷ []) in
    let places = c.self.invariant.places in
    record {
      few = c.self.invariant.few;
      short = c.self.invariant.short;
      places = omega arith;
      room = omega (arith, c.self.invariant.room, c.push_reserved.ensures.capacity);
      spare_room = omega (arith, c.self.invariant.spare_room, c.in-Some.ensures.capacity);
      hold = rw c.push_reserved.ensures.items (hold_push c.self.inside.size c.self.inside.messages.items c.fill.new.self c.self.invariant.hold (omega arith) (omega arith));
      spare_hold = front.0;
      apart = rw c.push_reserved.ensures.items (apart_push c.self.inside.messages.items c.fill.new.self c.self.invariant.apart c.fill.ensures.opened);
    }
