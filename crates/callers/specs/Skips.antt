-- Whether there was a chain, or the fault of the ring.
use Rattle.std.specs.Prelude.{Bool, true, false, Option, Some, None, Result, Ok, Err}
use Rattle.virtqueue.specs.declared.chain.Chain.{Chain}
use Rattle.virtqueue.specs.declared.queue.RingFault.{RingFault}

abbrev pub is_there : Result (Option Chain) RingFault → Result Bool RingFault
is_there (Ok None) = Ok false
is_there (Ok (Some chain)) = Ok true
is_there (Err fault) = Err fault
