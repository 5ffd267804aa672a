-- How many entries of a history are of which kind.
use Rattle.std.specs.Prelude.{ℕ, Bool, true, false, ◌&&◌, List, count_by}
use Rattle.kernel_values.specs.declared.entry.Event.{Event}
use Rattle.kernel_values.specs.declared.entry.Event.TheVariants as event
use Rattle.kernel_values.specs.declared.entry.Entry.{Entry}
use Rattle.kernel_values.specs.declared.reply.Answer.{Answer}
use Rattle.kernel_values.specs.declared.reply.Answer.TheVariants as answer
use Rattle.report_text.specs.declared.summary.Kind.{Kind}
use Rattle.report_text.specs.declared.summary.Kind.TheVariants.{Begin, Resume, Device, Idle, Given, Refused}

abbrev pub is_begin : Event → Bool
is_begin (event.Begin actor start call) = true
is_begin (event.Resume actor start) = false
is_begin event.Device = false
is_begin event.Idle = false

abbrev pub is_resume : Event → Bool
is_resume (event.Begin actor start call) = false
is_resume (event.Resume actor start) = true
is_resume event.Device = false
is_resume event.Idle = false

abbrev pub is_device : Event → Bool
is_device (event.Begin actor start call) = false
is_device (event.Resume actor start) = false
is_device event.Device = true
is_device event.Idle = false

abbrev pub is_idle : Event → Bool
is_idle (event.Begin actor start call) = false
is_idle (event.Resume actor start) = false
is_idle event.Device = false
is_idle event.Idle = true

-- an actor's event
abbrev pub is_call : Event → Bool
is_call (event.Begin actor start call) = true
is_call (event.Resume actor start) = true
is_call event.Device = false
is_call event.Idle = false

abbrev pub gives : Answer → Bool
gives answer.Waits = false
gives (answer.Gives reply) = true
gives (answer.Refuses errno) = false
gives (answer.Device did) = false
gives (answer.Clock time) = false
gives answer.CancelAll = false

abbrev pub refuses : Answer → Bool
refuses answer.Waits = false
refuses (answer.Gives reply) = false
refuses (answer.Refuses errno) = true
refuses (answer.Device did) = false
refuses (answer.Clock time) = false
refuses answer.CancelAll = false

-- an entry by its event; and calls and ends of waits by what they answer
unfoldable pub is_of_kind : Kind → Entry → Bool
is_of_kind Begin entry = is_begin entry.event
is_of_kind Resume entry = is_resume entry.event
is_of_kind Device entry = is_device entry.event
is_of_kind Idle entry = is_idle entry.event
is_of_kind Given entry = is_call entry.event && gives entry.answer
is_of_kind Refused entry = is_call entry.event && refuses entry.answer

abbrev pub count_of : Kind → List Entry → ℕ
count_of kind entries = count_by (is_of_kind kind) entries
