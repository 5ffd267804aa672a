-- A queue without slots.
use Rattle.std.specs.Prelude.{[]}
use Rattle.msg_queue.specs.Messages.{Queued}

abbrev pub no_queue : Queued
no_queue = record { slots = 0; size = 0; next = 0; messages = [] }
