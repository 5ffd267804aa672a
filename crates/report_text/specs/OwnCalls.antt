-- One actor's calls in a history, each with its answer.
use Rattle.std.specs.Prelude.{ℕ, List, [], ◌∷◌, ◌==◌, Option, Some, None, if◌then◌else◌}
use Rattle.kernel_values.specs.declared.call.Call.{Call}
use Rattle.kernel_values.specs.declared.entry.Event.{Event}
use Rattle.kernel_values.specs.declared.entry.Event.TheVariants as event
use Rattle.kernel_values.specs.declared.entry.Entry.{Entry}
use Rattle.kernel_values.specs.declared.reply.Answer.{Answer}
use Rattle.kernel_values.specs.declared.reply.Answer.TheVariants as answer
use Rattle.kernel_log.specs.Books.{is_of_actor}

-- the call that the actor begins with the event
abbrev pub begun_by : ℕ → Event → Option Call
begun_by actor (event.Begin own start call) = (if own.0 == actor then Some call else None)
begun_by actor (event.Resume own start) = None
begun_by actor event.Device = None
begun_by actor event.Idle = None

-- the answer, where the event ends a wait
abbrev pub wait_answer : Event → Answer → Option Answer
wait_answer (event.Begin own start call) answer = None
wait_answer (event.Resume own start) answer = Some answer
wait_answer event.Device answer = None
wait_answer event.Idle answer = None

-- the answer to a wait, as the entries after it tell: the actor's next entry ends it, or the wait was cut off
abbrev pub answer_in : ℕ → List Entry → Option Answer
answer_in actor [] = None
answer_in actor (entry ∷ later) = (if is_of_actor actor entry.event then wait_answer entry.event entry.answer else answer_in actor later)

-- the answer to a call: the one of its own entry, or where it waited the one of the wait's end, if that came
abbrev pub final_answer : ℕ → Answer → List Entry → Option Answer
final_answer actor answer.Waits later = answer_in actor later
final_answer actor answer later = Some answer

abbrev pub led_by : Option Call → Option Answer → List (Call × Option Answer) → List (Call × Option Answer)
led_by None answer calls = calls
led_by (Some call) answer calls = (call, answer) ∷ calls

-- the actor's calls of all its starts in order
abbrev pub calls_of : ℕ → List Entry → List (Call × Option Answer)
calls_of actor [] = []
calls_of actor (entry ∷ later) = led_by (begun_by actor entry.event) (final_answer actor entry.answer later) (calls_of actor later)
