use Rattle.std.proofs.Common.{◌-◌, ℕ, List, Some, refl, ap}
use Rattle.msg_queue.specs.Messages.{is_opened_as}
use Rattle.msg_queue.proofs.Places.{found_here, none_here}
use Rattle.msg_queue.proofs.queue.Queue.parts.Goals as goal

pub returns-in-Some : goal.returns-in-Some
returns-in-Some c =
    let here = found_here (is_opened_as c.args.id) c.self.inside.messages.items c.deref.result.now c.deref.ensures.value c.in-Some.at c.index.result.now c.in-Some.ensures c.index.ensures in
    rw (← c.self.view_is, here) (ap (λ (l : List ℕ). Some l) c.copied.ensures)

pub returns-in-None : goal.returns-in-None
returns-in-None c =
    let none = none_here (is_opened_as c.args.id) c.self.inside.messages.items c.deref.result.now c.deref.ensures.value c.in-None.ensures in
    rw (← c.self.view_is, none) refl
