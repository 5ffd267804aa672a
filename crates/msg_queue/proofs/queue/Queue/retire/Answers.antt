use Rattle.std.proofs.Common.{◌-◌, ◌∷◌, [], length, refl, ap, ◌∙◌, arith, length-append}
use Rattle.msg_queue.specs.Messages.{is_opened_as}
use Rattle.msg_queue.specs.Places.{messages_of}
use Rattle.msg_queue.proofs.Places.{found_here, within_here, place_here, none_here, no_any_here, hold_at, hold_push, hold_remove, apart_remove, others_only, retired_is}
use Rattle.msg_queue.proofs.queue.Queue.retire.Goals as goal

pub returns-in_default-clause-retired : goal.returns-in_default-clause-retired
returns-in_default-clause-retired c =
    let none = none_here (is_opened_as c.args.id) c.self.inside.messages.items c.deref.result.now c.deref.ensures.value c.in_default.ensures in
    rw (← c.self.view_is, none) refl

pub returns-in_default-clause-messages : goal.returns-in_default-clause-messages
returns-in_default-clause-messages c =
    let none = no_any_here (is_opened_as c.args.id) c.self.inside.messages.items c.deref.result.now c.deref.ensures.value c.in_default.ensures in
    rw (← c.self.view_is, others_only c.args.id (messages_of c.self.inside.messages.items) none) refl

pub invariant_of-self : goal.invariant_of-self
invariant_of-self c =
    let within = within_here (is_opened_as c.args.id) c.self.inside.messages.items c.deref.result.now c.deref.ensures.value c.in-Some.at c.in-Some.ensures in
    let hold = rw (← c.remove-place.ensures.value) at (hold_at c.self.inside.size c.self.inside.messages.items c.in-Some.at c.remove-place.result c.self.invariant.hold within) in
    let more = ap length c.push_reserved.ensures.items ∙ length-append c.self.inside.spare.items (c.remove-place.result ∷ []) in
    let fewer = c.remove-place.ensures.len in
    let old = c.self.inside.messages.ok.0 in
    let new = c.remove-place.new.self.ok.0 in
    let places = c.self.invariant.places in
    record {
      few = c.self.invariant.few;
      short = c.self.invariant.short;
      places = omega arith;
      room = omega (arith, c.self.invariant.room, c.remove-place.ensures.capacity);
      spare_room = omega (arith, c.self.invariant.spare_room, c.push_reserved.ensures.capacity);
      hold = rw c.remove-place.ensures.items (hold_remove c.self.inside.size c.self.inside.messages.items c.in-Some.at c.self.invariant.hold);
      spare_hold = rw c.push_reserved.ensures.items (hold_push c.self.inside.size c.self.inside.spare.items c.remove-place.result c.self.invariant.spare_hold hold.0 hold.1);
      apart = rw c.remove-place.ensures.items (apart_remove c.self.inside.messages.items c.in-Some.at c.self.invariant.apart);
    }

pub returns-clause-retired : goal.returns-clause-retired
returns-clause-retired c =
    let here = found_here (is_opened_as c.args.id) c.self.inside.messages.items c.deref.result.now c.deref.ensures.value c.in-Some.at c.remove-place.result c.in-Some.ensures c.remove-place.ensures.value in
    rw (← c.self.view_is, here, c.copied.ensures) refl

pub returns-clause-messages : goal.returns-clause-messages
returns-clause-messages c =
    let within = within_here (is_opened_as c.args.id) c.self.inside.messages.items c.deref.result.now c.deref.ensures.value c.in-Some.at c.in-Some.ensures in
    let first = place_here (is_opened_as c.args.id) c.self.inside.messages.items c.deref.result.now c.deref.ensures.value c.in-Some.at c.in-Some.ensures in
    let gone = retired_is c.args.id c.self.inside.messages.items c.in-Some.at c.self.invariant.apart within first in
    rw (← c.self.view_is, gone, c.remove-place.ensures.items) refl
