use Rattle.std.proofs.Common.{◌-◌, refl}
use Rattle.msg_queue.specs.Messages.{is_opened_as}
use Rattle.msg_queue.proofs.Places.{found_here, none_here}
use Rattle.msg_queue.proofs.queue.Queue.read.Goals as goal

pub returns-in-Some-clause-count : goal.returns-in-Some-clause-count
returns-in-Some-clause-count c =
    let here = found_here (is_opened_as c.args.id) c.self.inside.messages.items c.deref.result.now c.deref.ensures.value c.in-Some.at c.index.result.now c.in-Some.ensures c.index.ensures in
    rw (← c.self.view_is, here) c.read.ensures.count

pub returns-in-None-clause-count : goal.returns-in-None-clause-count
returns-in-None-clause-count c =
    let none = none_here (is_opened_as c.args.id) c.self.inside.messages.items c.deref.result.now c.deref.ensures.value c.in-None.ensures in
    rw (← c.self.view_is, none) refl

pub returns-in-Some-clause-out : goal.returns-in-Some-clause-out
returns-in-Some-clause-out c =
    let here = found_here (is_opened_as c.args.id) c.self.inside.messages.items c.deref.result.now c.deref.ensures.value c.in-Some.at c.index.result.now c.in-Some.ensures c.index.ensures in
    rw (← c.self.view_is, here) c.read.ensures.out

pub returns-in-None-clause-out : goal.returns-in-None-clause-out
returns-in-None-clause-out c =
    let none = none_here (is_opened_as c.args.id) c.self.inside.messages.items c.deref.result.now c.deref.ensures.value c.in-None.ensures in
    rw (← c.self.view_is, none) refl
