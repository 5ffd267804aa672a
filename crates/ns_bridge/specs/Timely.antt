-- Deadlines: no wait ends later than a call that begins now can say.
use Rattle.std.specs.Prelude.{◌≡◌, ◌<◌, ◌+◌, ℕ, List, Option, Some, None}
use Rattle.std.specs.List.{AllByRecursion}
use Rattle.kernel_values.specs.declared.call.Call.{Call}
use Rattle.kernel_values.specs.declared.call.Call.TheVariants as call
use Rattle.kernel_values.specs.declared.call.Timeout.{Timeout}
use Rattle.kernel_values.specs.declared.call.Timeout.TheVariants as timeout
use Rattle.kernel_values.specs.declared.entry.Event.{Event}
use Rattle.kernel_values.specs.declared.entry.Event.TheVariants as event
use Rattle.kernel_values.specs.declared.state.Activity.{Activity}
use Rattle.kernel_values.specs.declared.state.Activity.TheVariants as activity
use Rattle.kernel_values.specs.declared.state.CoreState.{CoreState}
use Rattle.kernel_values.specs.declared.state.Thread.{Thread}
use Rattle.kernel_values.specs.declared.state.WaitOn.{WaitOn}
use Rattle.kernel_values.specs.declared.state.WaitOn.TheVariants as wait_on
use Rattle.kernel_values.specs.declared.world.ClientActivity.{ClientActivity}
use Rattle.kernel_values.specs.declared.world.ClientActivity.TheVariants as client_activity
use Rattle.kernel_values.specs.declared.world.ClientState.{ClientState}

-- a number of milliseconds has 32 bits
abbrev pub IsShort : Timeout → Type 0
IsShort timeout.Forever = Unit {0}
IsShort (timeout.Millis millis) = millis < 4294967296

abbrev pub IsShortCall : Call → Type 0
IsShortCall (call.Wait handle timeout) = IsShort timeout
IsShortCall (call.WaitAny timeout) = IsShort timeout
IsShortCall (call.NsRecv conn timeout) = IsShort timeout
IsShortCall other = Unit {0}

abbrev pub IsShortEvent : Event → Type 0
IsShortEvent (event.Begin actor start asked) = IsShortCall asked
IsShortEvent other = Unit {0}

abbrev pub IsNear : ℕ → Option ℕ → Type 0
IsNear clock None = Unit {0}
IsNear clock (Some deadline) = deadline < clock + 4294967296

-- a connect has no deadline
abbrev pub IsNearOn : ℕ → WaitOn → Option ℕ → Type 0
IsNearOn clock (wait_on.Connect end handle) deadline = deadline ≡ None
IsNearOn clock (wait_on.Object object handle cookie) deadline = IsNear clock deadline
IsNearOn clock wait_on.Any deadline = IsNear clock deadline

abbrev pub IsInTime : ℕ → Activity → Type 0
IsInTime clock activity.Off = Unit {0}
IsInTime clock (activity.Running start) = Unit {0}
IsInTime clock (activity.Waiting start wait) = IsNearOn clock wait.on wait.deadline
IsInTime clock (activity.Ended start) = Unit {0}

abbrev pub AreInTime : ℕ → List Thread → Type 0
AreInTime clock threads = AllByRecursion (λ (thread : Thread). IsInTime clock thread.activity) threads

-- the clock stands so, and every deadline of a thread is near
pub record IsTimely (clock : ℕ) (c : CoreState) : Type 0 where
  pub clock_is : c.clock ≡ clock
  pub threads : AreInTime clock c.threads

abbrev pub IsClientInTime : ℕ → ClientActivity → Type 0
IsClientInTime clock (client_activity.Running start) = Unit {0}
IsClientInTime clock (client_activity.Waiting start wait) = IsNear clock wait.deadline
IsClientInTime clock (client_activity.Ended start) = Unit {0}

abbrev pub AreClientsInTime : ℕ → List ClientState → Type 0
AreClientsInTime clock clients = AllByRecursion (λ (client : ClientState). IsClientInTime clock client.activity) clients

-- what the whole kernel keeps of deadlines
pub record IsOnTime (c : CoreState) (states : List ClientState) : Type 0 where
  pub threads : AreInTime c.clock c.threads
  pub clients : AreClientsInTime c.clock states
