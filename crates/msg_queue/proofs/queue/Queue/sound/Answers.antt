use Rattle.std.proofs.Common.{arith}
use Rattle.msg_queue.proofs.Searches.{length_of_messages}
use Rattle.msg_queue.proofs.queue.Queue.sound.Goals as goal

pub returns-clause-most : goal.returns-clause-most
returns-clause-most c =
    let same = length_of_messages c.self.inside.messages.items in
    let places = c.self.invariant.places in
    rw (← c.self.view_is) (omega arith)

pub returns-clause-few : goal.returns-clause-few
returns-clause-few c = rw (← c.self.view_is) c.self.invariant.few

pub returns-clause-short : goal.returns-clause-short
returns-clause-short c = rw (← c.self.view_is) c.self.invariant.short
