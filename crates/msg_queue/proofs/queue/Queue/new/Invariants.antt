use Rattle.std.proofs.Common.{◌≡◌}
use Rattle.std.specs.Vec.{vec_len}
use Rattle.msg_queue.specs.Places.{AllHold}
use Rattle.msg_queue.proofs.queue.Queue.new.Given as goal

-- so many places are made
abbrev pub invariant-loop : goal.invariant-loop
invariant-loop l = (vec_len l.spare ≡ l.counter) × AllHold l.size l.spare.items
