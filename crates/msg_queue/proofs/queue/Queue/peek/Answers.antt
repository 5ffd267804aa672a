use Rattle.std.proofs.Common.{◌-◌, ℕ, Some, refl, ap, ◌∙◌, arith}
use Rattle.msg_queue.specs.Messages.{is_filled}
use Rattle.msg_queue.proofs.Places.{found_here, within_here, none_here, hold_at}
use Rattle.msg_queue.proofs.queue.Queue.peek.Goals as goal

pub overflow_cast-result : goal.overflow_cast-result
overflow_cast-result c =
    let within = within_here is_filled c.self.inside.messages.items c.deref.result.now c.deref.ensures.value c.in-Some.at c.in-Some.ensures in
    let hold = rw (← c.index-place.ensures) at (hold_at c.self.inside.size c.self.inside.messages.items c.in-Some.at c.index-place.result.now c.self.invariant.hold within) in
    let short = c.self.invariant.short in
    let len = c.index-place.result.now.bytes.ok.0 in
    omega arith

pub returns-in-Some-clause-len : goal.returns-in-Some-clause-len
returns-in-Some-clause-len c =
    let here = found_here is_filled c.self.inside.messages.items c.deref.result.now c.deref.ensures.value c.in-Some.at c.index-place.result.now c.in-Some.ensures c.index-place.ensures in
    rw (← c.self.view_is, here) (ap (λ (n : ℕ). Some n) (c.len.ensures ∙ c.index-place.result.now.bytes.ok.0))

pub returns-in-Some-clause-out : goal.returns-in-Some-clause-out
returns-in-Some-clause-out c =
    let here = found_here is_filled c.self.inside.messages.items c.deref.result.now c.deref.ensures.value c.in-Some.at c.index-place.result.now c.in-Some.ensures c.index-place.ensures in
    rw (← c.self.view_is, here) c.read.ensures.out

pub returns-in-None-clause-len : goal.returns-in-None-clause-len
returns-in-None-clause-len c =
    let none = none_here is_filled c.self.inside.messages.items c.deref.result.now c.deref.ensures.value c.in-None.ensures in
    rw (← c.self.view_is, none) refl

pub returns-in-None-clause-out : goal.returns-in-None-clause-out
returns-in-None-clause-out c =
    let none = none_here is_filled c.self.inside.messages.items c.deref.result.now c.deref.ensures.value c.in-None.ensures in
    rw (← c.self.view_is, none) refl
