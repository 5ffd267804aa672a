-- What a call comes to apart from the memory: no call reads any of it after the drain, and each writes one frame at most.
use Rattle.std.specs.Prelude.{ℕ, List, [], ◌∷◌, Option, Some, None}
use Rattle.std.specs.Option.{unwrap_or}
use Rattle.kernel_values.specs.declared.call.Call.{Call}
use Rattle.kernel_values.specs.declared.call.Call.TheVariants as call
use Rattle.kernel_values.specs.declared.reply.Answer.{Answer}
use Rattle.kernel_values.specs.declared.world.ClientWaitOn.{ClientWaitOn}
use Rattle.kernel_values.specs.declared.world.Driver.{Driver}
use Rattle.kernel_values.specs.declared.world.World.{World}
use Rattle.kernel_types.specs.GuestMemory.{with_frame}
use Rattle.kernel_types.specs.Clients.{Acted, ns_connect_call, ns_send_call, ns_recv_call, ns_close_call, answer_of_wait}
use Rattle.ns_driver.specs.Acts.{DriverOutcome, bare, still_waits}

pub record Outcome : Type 0 where
  pub answer : Answer
  pub frame : Option (List ℕ)
  pub driver : Driver

abbrev pub outcome_of : Acted → Outcome
outcome_of a = record { answer = a.answer; frame = a.frame; driver = a.world.driver }

abbrev pub outcome : Answer → Option (List ℕ) → Driver → Outcome
outcome answer frame driver = record { answer = answer; frame = frame; driver = driver }

-- the world of the driver alone
abbrev pub alone : Driver → World
alone driver = bare [] driver

-- a call in a world that was drained
abbrev pub after_drain : ℕ → Call → World → Option Acted
after_drain client (call.NsConnect path) w = Some (ns_connect_call client path w)
after_drain client (call.NsSend conn bytes) w = Some (ns_send_call client conn bytes w)
after_drain client (call.NsRecv conn timeout) w = Some (ns_recv_call 0 client conn timeout w)
after_drain client (call.NsClose conn) w = Some (ns_close_call client conn w)
after_drain client other w = None

-- the end of a wait there
abbrev pub resumed_there : Option ClientWaitOn → World → Option Acted
resumed_there None w = None
resumed_there (Some on) w = Some (unwrap_or (answer_of_wait on w) (still_waits w))

unfoldable pub planned : ℕ → Option ClientWaitOn → Option Call → World → Option Acted
planned client before (Some call) w = after_drain client call w
planned client before None w = resumed_there before w

-- the memory after a frame went out, where one did, in the buffer of the least free descriptor
abbrev pub sent_from : ℕ → List ℕ → List ℕ → List ℕ → List ℕ
sent_from size [] frame memory = memory
sent_from size (place ∷ rest) frame memory = with_frame size place frame memory

abbrev pub memory_after : ℕ → List ℕ → Option (List ℕ) → List ℕ → List ℕ
memory_after size free None memory = memory
memory_after size free (Some frame) memory = sent_from size free frame memory

-- what is told of a world whose calls come to this apart from the memory
abbrev pub told_of : World → Outcome → DriverOutcome
told_of w o = record { answer = o.answer; memory = memory_after w.driver.size w.driver.free o.frame w.memory; driver = o.driver }

-- a list without its first item, where it has one
abbrev pub rest_of : {X : Type 0} → List X → Option (List X)
rest_of [] = None
rest_of (x ∷ xs) = Some xs

-- the first item and the others
abbrev pub oldest_of : {X : Type 0} → List X → Option (X × List X)
oldest_of [] = None
oldest_of (x ∷ xs) = Some (x, xs)
