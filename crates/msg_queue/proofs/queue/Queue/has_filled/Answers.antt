use Rattle.std.proofs.Common.{sym}
use Rattle.msg_queue.specs.Messages.{is_filled}
use Rattle.msg_queue.proofs.Places.{some_here, no_any_here}
use Rattle.msg_queue.proofs.queue.Queue.has_filled.Goals as goal

pub returns-in-Some : goal.returns-in-Some
returns-in-Some c =
    rw (← c.self.view_is) (sym (some_here is_filled c.self.inside.messages.items c.deref.result.now c.deref.ensures.value c.in-Some._at c.in-Some.ensures))

pub returns-in-None : goal.returns-in-None
returns-in-None c =
    rw (← c.self.view_is) (sym (no_any_here is_filled c.self.inside.messages.items c.deref.result.now c.deref.ensures.value c.in-None.ensures))
