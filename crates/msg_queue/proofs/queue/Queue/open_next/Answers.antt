use Rattle.std.proofs.Common.{◌≡◌, ◌-◌, ℕ, List, false, Some, refl, ap, ◌∙◌, arith, length-set}
use Rattle.std.specs.List.{list_any}
use Rattle.msg_queue.specs.declared.place.Place.{Place}
use Rattle.msg_queue.specs.Messages.{is_filled, is_opened_as, opened_as, free_id}
use Rattle.msg_queue.specs.Places.{message_of, messages_of}
use Rattle.msg_queue.proofs.Ids.{free_id_is_free}
use Rattle.msg_queue.proofs.Places.{found_here, within_here, place_here, none_here, nowhere_here, hold_at, hold_set, opened_set, opened_none, apart_set}
use Rattle.msg_queue.proofs.queue.Queue.open_next.Goals as goal

pub returns-in_default-clause-opened : goal.returns-in_default-clause-opened
returns-in_default-clause-opened c =
    let none = none_here is_filled c.self.inside.messages.items c.deref.result.now c.deref.ensures.value c.in_default.ensures in
    rw (← c.self.view_is, none) refl

pub returns-in_default-clause-messages : goal.returns-in_default-clause-messages
returns-in_default-clause-messages c =
    let none = nowhere_here is_filled c.self.inside.messages.items c.deref.result.now c.deref.ensures.value c.in_default.ensures in
    rw (← c.self.view_is, opened_none (messages_of c.self.inside.messages.items) none) refl

pub overflow_cast-opened : goal.overflow_cast-opened
overflow_cast-opened c =
    let within = within_here is_filled c.self.inside.messages.items c.deref.result.now c.deref.ensures.value c.in-Some.at c.in-Some.ensures in
    let hold = rw (← c.index_mut-place.ensures.value) at (hold_at c.self.inside.size c.self.inside.messages.items c.in-Some.at c.index_mut-place.result.now c.self.invariant.hold within) in
    let short = c.self.invariant.short in
    let len = c.index_mut-place.result.now.bytes.ok.0 in
    omega arith

pub invariant_of-self : goal.invariant_of-self
invariant_of-self c =
    let within = within_here is_filled c.self.inside.messages.items c.deref.result.now c.deref.ensures.value c.in-Some.at c.in-Some.ensures in
    let hold = rw (← c.index_mut-place.ensures.value) at (hold_at c.self.inside.size c.self.inside.messages.items c.in-Some.at c.index_mut-place.result.now c.self.invariant.hold within) in
    let id : c.least_free_id-id.result ≡ free_id (messages_of c.self.inside.messages.items) = c.least_free_id-id.ensures ∙ ap (λ (l : List Place). free_id (messages_of l)) c.deref-2.ensures.value in
    let free : list_any (is_opened_as c.least_free_id-id.result) (messages_of c.self.inside.messages.items) ≡ false = rw id (free_id_is_free (messages_of c.self.inside.messages.items)) in
    record {
      few = c.self.invariant.few;
      short = c.self.invariant.short;
      places = rw length-set c.self.invariant.places;
      room = c.self.invariant.room;
      spare_room = c.self.invariant.spare_room;
      hold = hold_set c.self.inside.size c.self.inside.messages.items c.in-Some.at _ c.self.invariant.hold hold.0 hold.1;
      spare_hold = c.self.invariant.spare_hold;
      apart = apart_set c.self.inside.messages.items c.in-Some.at _ c.least_free_id-id.result c.self.invariant.apart refl free;
    }

pub returns-clause-opened : goal.returns-clause-opened
returns-clause-opened c =
    let here = found_here is_filled c.self.inside.messages.items c.deref.result.now c.deref.ensures.value c.in-Some.at c.index_mut-place.result.now c.in-Some.ensures c.index_mut-place.ensures.value in
    let id : c.least_free_id-id.result ≡ free_id (messages_of c.self.inside.messages.items) = c.least_free_id-id.ensures ∙ ap (λ (l : List Place). free_id (messages_of l)) c.deref-2.ensures.value in
    let len = c.len.ensures ∙ c.index_mut-place.result.now.bytes.ok.0 in
    rw (← c.self.view_is, here, id, len, c.len-2.ensures.value) refl

pub returns-clause-messages : goal.returns-clause-messages
returns-clause-messages c =
    let within = within_here is_filled c.self.inside.messages.items c.deref.result.now c.deref.ensures.value c.in-Some.at c.in-Some.ensures in
    let first = place_here is_filled c.self.inside.messages.items c.deref.result.now c.deref.ensures.value c.in-Some.at c.in-Some.ensures in
    let d = c.index_mut-place.result.now in
    let id : c.least_free_id-id.result ≡ free_id (messages_of c.self.inside.messages.items) = c.least_free_id-id.ensures ∙ ap (λ (l : List Place). free_id (messages_of l)) c.deref-2.ensures.value in
    let is = ap (λ (n : ℕ). opened_as n (message_of c.index_mut-place.result.now)) id ∙ ap (λ (q : Place). opened_as (free_id (messages_of c.self.inside.messages.items)) (message_of q)) c.index_mut-place.ensures.value in
    let set_is = opened_set c.self.inside.messages.items c.in-Some.at d (record c.index_mut-place.result.now { opened = Some c.least_free_id-id.result }) within first is in
    rw (← c.self.view_is, set_is) refl
