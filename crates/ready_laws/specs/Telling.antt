-- What was told of waits is what the kernel's state says.
use Rattle.std.specs.Prelude.{◌≡◌, ℕ, Bool, false, List, Option, Some, None, slice_get}
use Rattle.std.specs.List.{list_any}
use Rattle.std.specs.Option.{is_some}
use Rattle.kernel_values.specs.declared.state.CoreState.{CoreState}
use Rattle.kernel_values.specs.declared.state.Thread.{Thread}
use Rattle.kernel_values.specs.declared.state.Activity.{Activity}
use Rattle.kernel_values.specs.declared.state.Activity.TheVariants as activity
use Rattle.kernel_values.specs.declared.state.Wait.{Wait}
use Rattle.kernel_values.specs.declared.state.WaitOn.TheVariants as state_on
use Rattle.kernel_types.specs.Connects.{connect_decision}
use Rattle.kernel_types.specs.Events.{events_of}
use Rattle.kernel_types.specs.Reports.{has_events}
use Rattle.kernel_types.specs.Tables.{table_of}
use Rattle.object_store.specs.declared.key.ObjKey.{ObjKey}
use Rattle.wait_events.specs.declared.waits.WaitOn.TheVariants as wait_on
use Rattle.wait_events.specs.declared.waits.Waiting.{Waiting}
use Rattle.wait_events.specs.Waits.{AllWaits, table_told, waiting_at}

-- what was told of the object, the connect or the table that a wait of a thread of `app` is on
pub data IsTold (c : CoreState) (waits : AllWaits) (app : ℕ) (waiting : Waiting) (wait : Wait) : Type 0 where
  of_object : (key : ObjKey) (handle cookie : ℕ) → waiting.wait.on ≡ wait_on.Object key → wait.on ≡ state_on.Object key.serial handle cookie → waiting.events.0 ≡ events_of c.objects key.serial → IsTold c waits app waiting wait
  of_connect : (key : ObjKey) (end handle : ℕ) → waiting.wait.on ≡ wait_on.Connect key → wait.on ≡ state_on.Connect end handle → waiting.decided ≡ is_some (connect_decision c app end handle false) → IsTold c waits app waiting wait
  of_table : waiting.wait.on ≡ wait_on.Any (record { 0 = app }) → wait.on ≡ state_on.Any → table_told (slice_get waits.tables app) ≡ list_any (has_events c.objects) (table_of c app) → IsTold c waits app waiting wait

-- the same deadline, cancelled or not, and told what it is on
pub record Tells (c : CoreState) (waits : AllWaits) (app : ℕ) (waiting : Waiting) (wait : Wait) : Type 0 where
  pub deadline : waiting.wait.deadline ≡ wait.deadline
  pub cancelled : waiting.cancelled ≡ wait.cancelled
  pub on : IsTold c waits app waiting wait

-- an actor waits exactly where its thread does
abbrev pub TellsActivity : CoreState → AllWaits → ℕ → Option Waiting → Activity → Type 0
TellsActivity c waits app (Some waiting) (activity.Waiting start wait) = Tells c waits app waiting wait
TellsActivity c waits app None (activity.Waiting start wait) = ⊥
TellsActivity c waits app actor other = actor ≡ None

abbrev pub TellsThread : CoreState → AllWaits → Option Waiting → Option Thread → Type 0
TellsThread c waits actor None = actor ≡ None
TellsThread c waits actor (Some thread) = TellsActivity c waits thread.app actor thread.activity

-- the clock, and each thread's wait
pub record TellsWaits (c : CoreState) (waits : AllWaits) : Type 0 where
  pub clock : waits.clock ≡ c.clock
  pub threads : (thread : ℕ) → TellsThread c waits (waiting_at waits.actors thread) (slice_get c.threads thread)
