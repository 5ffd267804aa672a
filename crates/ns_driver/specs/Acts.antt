-- What the driver does at a client's call and at the end of a client's wait: the model's call and the model's answer, in a
-- world of which the driver sees the memory and itself.
use Rattle.std.specs.Prelude.{ℕ, ◌+◌, ◌^◌, ◌<◌, Bool, false, List, [], length, Option, Some, None, IsTrue, IsSome}
use Rattle.std.specs.Option.{unwrap_or, is_some}
use Rattle.kernel_values.specs.declared.call.Call.{Call}
use Rattle.kernel_values.specs.declared.call.Call.TheVariants as call
use Rattle.kernel_values.specs.declared.reply.Answer.{Answer}
use Rattle.kernel_values.specs.declared.reply.Answer.TheVariants as answer
use Rattle.kernel_values.specs.declared.world.ClientWaitOn.{ClientWaitOn}
use Rattle.kernel_values.specs.declared.world.ClientWaitOn.TheVariants as wait_on
use Rattle.kernel_values.specs.declared.world.Driver.{Driver}
use Rattle.kernel_values.specs.declared.world.World.{World}
use Rattle.kernel_types.specs.Clients.{Acted, ns_act, answer_of_wait, first_address}
use Rattle.kernel_values.specs.Calls.{is_client_call, drains}
use Rattle.kernel_types.specs.Drains.{drained}
use Rattle.kernel_types.specs.Opening.{opening_device}

-- a world with this memory and this driver; nothing that the driver does depends on the rest
abbrev pub bare : List ℕ → Driver → World
bare memory driver = record { memory = memory; device = opening_device driver.size; driver = driver; clients = [] }

-- the clock counts only for the deadline of a wait, and the driver keeps none
abbrev pub begun : ℕ → Call → World → Option Acted
begun client call w = ns_act 0 client call w

abbrev pub still_waits : World → Acted
still_waits w = record { answer = answer.Waits; world = w; frame = None }

-- the answer that the wait has after a drain; without one the client still waits
abbrev pub resumed : Option ClientWaitOn → World → Option Acted
resumed None w = None
resumed (Some on) w = Some (unwrap_or (answer_of_wait on (drained w)) (still_waits (drained w)))

-- a call, or the end of the wait that there was before
abbrev pub acted : ℕ → Option ClientWaitOn → Option Call → World → Option Acted
acted client before (Some call) w = begun client call w
acted client before None w = resumed before w

-- what is left of a world: the answer, the memory, the driver
pub record DriverOutcome : Type 0 where
  pub answer : Answer
  pub memory : List ℕ
  pub driver : Driver

abbrev pub told : Acted → DriverOutcome
told a = record { answer = a.answer; memory = a.world.memory; driver = a.world.driver }

-- What the client waits for afterwards: a call that waits begins a new wait, and an answer ends one.

abbrev pub awaited : Driver → Call → Option ClientWaitOn
awaited d (call.NsConnect path) = Some (wait_on.Connect (first_address + length d.connections))
awaited d (call.NsRecv conn timeout) = Some (wait_on.Receive conn)
awaited d other = None

abbrev pub new_wait_of : Driver → Option ClientWaitOn → Option Call → Option ClientWaitOn
new_wait_of d before (Some call) = awaited d call
new_wait_of d before None = before

abbrev pub wait_if : Option ClientWaitOn → Answer → Option ClientWaitOn
wait_if wait answer.Waits = wait
wait_if wait other = None

abbrev pub wait_after : Driver → Option ClientWaitOn → Option Call → Answer → Option ClientWaitOn
wait_after d before call answer = wait_if (new_wait_of d before call) answer

-- What the driver is asked: a call of a client but `finish`, where an address of 32 bits is left for a new connection; or the end
-- of the wait of a client that waits.

abbrev pub HasRoom : Driver → Call → Type 0
HasRoom d (call.NsConnect path) = first_address + length d.connections < 2 ^ 32
HasRoom d other = Unit {0}

abbrev pub MayAct : Driver → Option ClientWaitOn → Option Call → Type 0
MayAct d before (Some call) = IsTrue (is_client_call call) × HasRoom d call
MayAct d before None = IsSome before

-- what is asked of a driver that drains first

abbrev pub MayFollow : Driver → Option ClientWaitOn → Option Call → Type 0
MayFollow d before (Some call) = IsTrue (drains call) × HasRoom d call
MayFollow d before None = IsSome before

-- whether a client's wait has an answer after a drain
abbrev pub has_answer : Option ClientWaitOn → World → Bool
has_answer None w = false
has_answer (Some on) w = is_some (answer_of_wait on (drained w))
