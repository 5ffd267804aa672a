-- What a step does to the core: a row of changes of tables, objects, threads, applications and the clock, and the sweep last.
use Rattle.std.specs.Prelude.{◌≡◌, ◌++◌, ℕ, Bool, true, false, List, [], ◌∷◌, Option, Some, None, slice_get, length, nat_le, nat_lt}
use Rattle.kernel_values.specs.declared.call.Call.{Call}
use Rattle.kernel_values.specs.declared.call.Call.TheVariants as call
use Rattle.kernel_values.specs.declared.call.Timeout.{Timeout}
use Rattle.kernel_values.specs.declared.call.Timeout.TheVariants as timeout
use Rattle.kernel_values.specs.declared.entry.EndSeq.{EndSeq}
use Rattle.kernel_values.specs.declared.entry.Event.{Event}
use Rattle.kernel_values.specs.declared.entry.Event.TheVariants as event
use Rattle.kernel_values.specs.declared.entry.Seqs.{Seqs}
use Rattle.kernel_values.specs.declared.flags.Events.{Events}
use Rattle.kernel_values.specs.declared.reply.Answer.{Answer}
use Rattle.kernel_values.specs.declared.reply.Answer.TheVariants as answer
use Rattle.kernel_values.specs.declared.state.Activity.TheVariants as activity
use Rattle.kernel_values.specs.declared.state.Application.{Application}
use Rattle.kernel_values.specs.declared.state.Body.TheVariants as body
use Rattle.kernel_values.specs.declared.state.CoreState.{CoreState}
use Rattle.kernel_values.specs.declared.state.HandleSet.{HandleSet}
use Rattle.kernel_types.specs.Events.{chain_limit}
use Rattle.kernel_types.specs.Sets.{chain_through, is_label_in, is_or_contains, member_limit, new_member, with_member}
use Rattle.std.specs.Option.{is_some}
use Rattle.kernel_values.specs.declared.state.TableEntry.{TableEntry}
use Rattle.kernel_values.specs.declared.state.Thread.{Thread}
use Rattle.kernel_values.specs.declared.state.Wait.{Wait}
use Rattle.kernel_values.specs.declared.state.WaitOn.{WaitOn}
use Rattle.kernel_values.specs.declared.state.WaitOn.TheVariants as wait_on
use Rattle.kernel_types.specs.Applications.{application_ended, is_over, started, thread_ended}
use Rattle.kernel_types.specs.Bridge.{bridging, unbridged}
use Rattle.kernel_types.specs.CoreStep.{core_idle}
use Rattle.kernel_types.specs.Objects.{added, map_at, memory_of, set_changed, set_of}
use Rattle.kernel_types.specs.Sweep.{sweep}
use Rattle.kernel_types.specs.Tables.{entry_at, install, is_full, table_of}
use Rattle.kernel_types.specs.Threads.{new_wait, running_activity, waiting_activity, with_activity}
use Rattle.kernel_types.specs.Waits.{deadline_of, is_zero_timeout}
use Rattle.step_laws.specs.SmallChanges.{IsMade, Move, SmallChange, after, is_of_app, is_of_bridge, moves}
use Rattle.step_laws.specs.SmallChanges.Move.{was_sent, was_opened, was_retired}

-- What a thread makes by its call.

-- the timeout that a call names; a connect waits without one
abbrev pub timeout_of : Call → Timeout
timeout_of (call.Wait handle asked) = asked
timeout_of (call.WaitAny asked) = asked
timeout_of _ = timeout.Forever

-- a call that ends its thread
abbrev pub is_ending : Call → Bool
is_ending (call.Exit code) = true
is_ending call.Finish = true
is_ending _ = false

abbrev pub is_connecting : Call → Bool
is_connecting (call.Connect path flags) = true
is_connecting _ = false

-- what a wait that begins is for
pub data Awaits (app : ℕ) (asked : Call) (b : CoreState) (on : WaitOn) : Type 0 where
  for_object : (handle : ℕ) (entry : TableEntry) → entry_at (table_of b app) handle ≡ Some entry → on ≡ wait_on.Object entry.object entry.handle entry.cookie → Awaits app asked b on
  for_connect : (end handle : ℕ) → IsMade is_of_app b end → on ≡ wait_on.Connect end handle → timeout_of asked ≡ timeout.Forever → Awaits app asked b on
  for_any : on ≡ wait_on.Any → Awaits app asked b on

-- an object may become a member of a set under a label
pub record MayJoin (b : CoreState) (id : ℕ) (set : HandleSet) (object label : ℕ) : Type 0 where
  pub there : set_of b.objects id ≡ Some set
  pub apart : is_or_contains b.objects object id ≡ false
  pub no_memory : is_some (memory_of b.objects object) ≡ false
  pub unlabelled : is_label_in set.members label ≡ false
  pub shallow : nat_lt chain_limit (chain_through b.objects id object) ≡ false
  pub room : nat_le member_limit (length set.members) ≡ false

-- who makes a change: a thread of the application that has not ended, or the bridge
pub data MadeBy (by : Option ℕ) (b : CoreState) : Type 0 where
  by_thread : (thread : ℕ) (found : Thread) → slice_get b.threads thread ≡ Some found → by ≡ Some found.app → is_over found.activity ≡ false → MadeBy by b
  by_bridge : by ≡ None → MadeBy by b

-- what a thread makes by its call, after all else, told by which call it is; `said` is its answer
pub data ThreadChange (app thread : ℕ) (asked : Call) (said : Answer) (b : CoreState) : Type 0 where
  -- sets: a new one with its entry, and a member
  set_made : asked ≡ call.SetCreate → MadeBy (Some app) b → is_full (table_of b app) ≡ false → ThreadChange app thread asked said b
  member_added : (held handle : ℕ) (mask : Events) (cookie id : ℕ) (set : HandleSet) (entry : TableEntry) → asked ≡ call.SetAdd held handle mask cookie
      → entry_at (table_of b app) handle ≡ Some entry → MayJoin b id set entry.object handle → ThreadChange app thread asked said b
  -- threads and applications
  wait_begun : (on : WaitOn) → Awaits app asked b on → is_zero_timeout (timeout_of asked) ≡ false → said ≡ answer.Waits → ThreadChange app thread asked said b
  app_started : (place : ℕ) (was : Application) → slice_get b.apps place ≡ Some was → was.running ≡ false → is_connecting asked ≡ true → ThreadChange app thread asked said b
  thread_over : is_ending asked ≡ true → ThreadChange app thread asked said b
  app_over : is_ending asked ≡ true → ThreadChange app thread asked said b

abbrev pub after_thread : (app thread : ℕ) (asked : Call) (said : Answer) (b : CoreState) → ThreadChange app thread asked said b → CoreState
after_thread app thread asked said b (set_made is made room) = install app b.next (added (body.Set (record { members = [] })) b)
after_thread app thread asked said b (member_added held handle mask cookie id set entry is here may) = set_changed (with_member (new_member handle entry.object mask cookie)) id b
after_thread app thread asked said b (wait_begun on awaits goes is) = with_activity (waiting_activity (new_wait on (deadline_of b.clock (timeout_of asked)))) thread b
after_thread app thread asked said b (app_started place was there still connects) = started place b
after_thread app thread asked said b (thread_over ends) = record b { threads = map_at thread_ended b.threads thread }
after_thread app thread asked said b (app_over ends) = application_ended app b

-- Whatever a step does.

-- `asked` is the call that the step begins, if it begins one
pub data CoreChange (asked : Option Call) (b : CoreState) : Type 0 where
  by_small : (by : Option ℕ) → MadeBy by b → SmallChange by b → CoreChange asked b
  by_call : (app thread : ℕ) (begun : Call) (said : Answer) → asked ≡ Some begun → ThreadChange app thread begun said b → CoreChange asked b
  -- a thread whose wait ended runs again
  wait_over : (thread start : ℕ) (found : Thread) (wait : Wait) → slice_get b.threads thread ≡ Some found → found.activity ≡ activity.Waiting start wait → CoreChange asked b
  -- an application is started for a client of the normal world
  app_served : (place : ℕ) (was : Application) → slice_get b.apps place ≡ Some was → was.running ≡ false → CoreChange asked b
  end_bridged : (end : ℕ) → IsMade is_of_bridge b end → CoreChange asked b
  end_unbridged : (end : ℕ) → CoreChange asked b
  time_passed : (deadline : Option ℕ) → CoreChange asked b
  objects_swept : CoreChange asked b

abbrev pub after_core : (asked : Option Call) (b : CoreState) → CoreChange asked b → CoreState
after_core asked b (by_small by made change) = after by b change
after_core asked b (by_call app thread begun said is change) = after_thread app thread begun said b change
after_core asked b (wait_over thread start found wait there waited) = with_activity running_activity thread b
after_core asked b (app_served place was there still) = started place b
after_core asked b (end_bridged end given) = bridging end b
after_core asked b (end_unbridged end) = unbridged end b
after_core asked b (time_passed deadline) = core_idle deadline b
after_core asked b objects_swept = sweep b

abbrev pub core_moves : (asked : Option Call) (b : CoreState) → CoreChange asked b → List Move
core_moves asked b (by_small by made change) = moves by b change
core_moves asked b _ = []

-- Rows.

-- a row of changes of one kind, one after the other
pub data Row (S : CoreState → Type 0) (next : (b : CoreState) → S b → CoreState) (c : CoreState) : CoreState → Type 0 where
  stays : (d : CoreState) → d ≡ c → Row S next c d
  goes_on : (d b : CoreState) → Row S next c b → (change : S b) → d ≡ next b change → Row S next c d

module _ (S : CoreState → Type 0) (next : (b : CoreState) → S b → CoreState) (tell : (b : CoreState) → S b → List Move) where
  -- what a row tells of messages, the last first
  abbrev pub told_by : (c d : CoreState) → Row S next c d → List Move
  told_by c d (stays _ is) = []
  told_by c d (goes_on _ b row change is) = tell b change ++ told_by c b row

  -- a row that tells this
  pub record Tells (c : CoreState) (told : List Move) (d : CoreState) : Type 0 where
    pub row : Row S next c d
    pub tells : told_by c d row ≡ told

-- of changes of tables and objects
abbrev pub SmallRow : Option ℕ → CoreState → CoreState → Type 0
SmallRow by c d = Row (SmallChange by) (after by) c d

abbrev pub SmallWalk : Option ℕ → CoreState → List Move → CoreState → Type 0
SmallWalk by c told d = Tells (SmallChange by) (after by) (moves by) c told d

abbrev pub CoreWalk : Option Call → CoreState → List Move → CoreState → Type 0
CoreWalk asked c told d = Tells (CoreChange asked) (after_core asked) (core_moves asked) c told d

-- the moves that the numbers of an entry tell, the last first: a message is retired after it is opened

abbrev pub told_if : (EndSeq → Move) → Option EndSeq → List Move → List Move
told_if of None told = told
told_if of (Some seq) told = of seq ∷ told

abbrev pub moves_of : Seqs → List Move
moves_of seqs = told_if was_retired seqs.retired (told_if was_opened seqs.opened (told_if was_sent seqs.sent []))

-- the core is as before, or the sweep came last
pub data EndsSwept (c d : CoreState) : Type 0 where
  as_before : d ≡ c → EndsSwept c d
  swept_last : (b : CoreState) → d ≡ sweep b → EndsSwept c d

-- the call that an event begins
abbrev pub asked_by : Event → Option Call
asked_by (event.Begin actor start asked) = Some asked
asked_by _ = None

-- how a step changes the core: by a row of changes that moves what the entry says, with the sweep last
pub record IsWalk (asked : Option Call) (c : CoreState) (seqs : Seqs) (d : CoreState) : Type 0 where
  pub walk : CoreWalk asked c (moves_of seqs) d
  pub ends : EndsSwept c d
