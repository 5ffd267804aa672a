-- When a wait began, what would end it if it were not cancelled, and which entries of a history cancel waits.
use Rattle.std.specs.Prelude.{◌≡◌, ◌++◌, ◌∷◌, ◌==◌, ◌&&◌, ℕ, Bool, true, false, List, Option, Some, None, slice_get}
use Rattle.std.specs.List.{list_any}
use Rattle.std.specs.Option.{is_some}
use Rattle.kernel_values.specs.declared.call.Call.{Call}
use Rattle.kernel_values.specs.declared.entry.Entry.{Entry}
use Rattle.kernel_values.specs.declared.entry.Event.{Event}
use Rattle.kernel_values.specs.declared.entry.Event.TheVariants as event
use Rattle.kernel_values.specs.declared.entry.Seqs.{Seqs}
use Rattle.kernel_values.specs.declared.errno.Errno.TheVariants as errno
use Rattle.kernel_values.specs.declared.reply.Answer.{Answer}
use Rattle.kernel_values.specs.declared.reply.Answer.TheVariants as answer
use Rattle.kernel_values.specs.declared.state.Activity.{Activity}
use Rattle.kernel_values.specs.declared.state.Activity.TheVariants as activity
use Rattle.kernel_values.specs.declared.state.CoreState.{CoreState}
use Rattle.kernel_values.specs.declared.state.Thread.{Thread}
use Rattle.kernel_values.specs.declared.state.WaitOn.{WaitOn}
use Rattle.kernel_values.specs.declared.state.WaitOn.TheVariants as wait_on
use Rattle.kernel_values.specs.declared.state.State.{State}
use Rattle.kernel_values.specs.declared.world.ClientActivity.{ClientActivity}
use Rattle.kernel_values.specs.declared.world.ClientActivity.TheVariants as client_activity
use Rattle.kernel_values.specs.declared.world.ClientState.{ClientState}
use Rattle.kernel_values.specs.declared.world.World.{World}
use Rattle.kernel_types.specs.Clients.{answer_of_wait}
use Rattle.kernel_types.specs.Connects.{connect_decision}
use Rattle.kernel_types.specs.Drains.{drained}
use Rattle.kernel_types.specs.Reports.{report_of}
use Rattle.kernel_types.specs.Step.{client_number}

-- an entry of this actor: a call that it began, or the end of its wait
abbrev pub is_event_of : ℕ → Event → Bool
is_event_of actor (event.Begin other start asked) = other.0 == actor
is_event_of actor (event.Resume other start) = other.0 == actor
is_event_of actor other = false

abbrev pub is_entry_of : ℕ → Entry → Bool
is_entry_of actor entry = is_event_of actor entry.event

-- an Idle that cancelled every wait

abbrev pub is_idle : Event → Bool
is_idle event.Idle = true
is_idle other = false

abbrev pub is_cancel_all : Answer → Bool
is_cancel_all answer.CancelAll = true
is_cancel_all other = false

abbrev pub cancels : Entry → Bool
cancels entry = is_idle entry.event && is_cancel_all entry.answer

-- The wait in which an actor is after these entries: it began with a call by this start, whose answer was that it waits, and
-- no entry of the actor came since.

abbrev pub waiting_entry : ℕ → ℕ → Call → Seqs → Entry
waiting_entry actor start asked seqs = record { event = event.Begin (record { 0 = actor }) start asked; answer = answer.Waits; seqs = seqs }

pub record BegunWait (actor start : ℕ) (entries : List Entry) : Type 0 where
  pub before : List Entry
  pub asked : Call
  pub seqs : Seqs
  pub since : List Entry
  pub parts : entries ≡ before ++ waiting_entry actor start asked seqs ∷ since
  pub alone : list_any (is_entry_of actor) since ≡ false

-- Whether something is reported to the wait of a thread, or its connect is decided, be it cancelled or not.

abbrev pub is_told_of : CoreState → ℕ → WaitOn → Bool
is_told_of c app (wait_on.Object object handle cookie) = is_some (report_of c app (wait_on.Object object handle cookie))
is_told_of c app (wait_on.Connect end handle) = is_some (connect_decision c app end handle false)
is_told_of c app wait_on.Any = is_some (report_of c app wait_on.Any)

abbrev pub is_activity_told : CoreState → ℕ → Activity → Bool
is_activity_told c app (activity.Waiting start wait) = is_told_of c app wait.on
is_activity_told c app other = false

abbrev pub is_thread_told : CoreState → Option Thread → Bool
is_thread_told c None = false
is_thread_told c (Some thread) = is_activity_told c thread.app thread.activity

abbrev pub is_told : CoreState → ℕ → Bool
is_told c thread = is_thread_told c (slice_get c.threads thread)

-- Whether the wait of a client has its answer from the other side, in the drained world.

abbrev pub is_client_activity_told : World → ClientActivity → Bool
is_client_activity_told w (client_activity.Waiting start wait) = is_some (answer_of_wait wait.on (drained w))
is_client_activity_told w other = false

abbrev pub is_state_told : World → Option ClientState → Bool
is_state_told w None = false
is_state_told w (Some client) = is_client_activity_told w client.activity

abbrev pub is_client_told : State → ℕ → Bool
is_client_told s actor = is_state_told s.world (slice_get s.world.clients (client_number s actor))

abbrev pub is_cancelled : Answer → Bool
is_cancelled (answer.Refuses errno.Cancelled) = true
is_cancelled other = false

abbrev pub is_end_of_wait : Event → Bool
is_end_of_wait (event.Resume actor start) = true
is_end_of_wait other = false
