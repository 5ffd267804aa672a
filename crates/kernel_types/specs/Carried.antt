-- The frames that cross the bridge in a history, in both directions, and that none of them is lost, changed or overtaken.
use Rattle.std.specs.Prelude.{ℕ, Bool, true, false, List, [], ◌∷◌, ◌++◌, Option, Some, None, if◌then◌else◌, IsTrue, IsFalse}
use Rattle.std.specs.List.{list_all}
use mathlib.Core.List.{IsPrefix}
use Rattle.kernel_values.specs.declared.entry.Entry.{Entry}
use Rattle.kernel_values.specs.declared.entry.Event.{Event}
use Rattle.kernel_values.specs.declared.entry.Event.TheVariants as event
use Rattle.kernel_values.specs.declared.scene.Client.{Client}
use Rattle.kernel_values.specs.SceneLaw.{SceneValue, IsLawfulScene, scripts_of}
use Rattle.kernel_types.specs.Whole.{FollowsScripts}
use Rattle.kernel_values.specs.declared.state.State.{State}
use Rattle.kernel_types.specs.Clients.{Acted}
use Rattle.kernel_values.specs.Calls.{drains, is_honest_call}
use Rattle.kernel_types.specs.Drains.{drained_frames}
use Rattle.kernel_types.specs.Device.{DeviceStep, device_step}
use Rattle.kernel_types.specs.Step.{is_thread, client_number, client_begin, client_resume}
use Rattle.kernel_types.specs.History.{Legal, next_state, state_after}
use Rattle.kernel_types.specs.Opening.{opening}

-- What one step carries.

abbrev pub one_if : Option (List ℕ) → List (List ℕ)
one_if None = []
one_if (Some frame) = frame ∷ []

abbrev pub client_frame : Option Acted → List (List ℕ)
client_frame None = []
client_frame (Some acted) = one_if acted.frame

abbrev pub where_done : List (List ℕ) → Option Acted → List (List ℕ)
where_done frames None = []
where_done frames (Some acted) = frames

abbrev pub given_frame : Option DeviceStep → List (List ℕ)
given_frame None = []
given_frame (Some done) = one_if done.gave

abbrev pub taken_frame : Option DeviceStep → List (List ℕ)
taken_frame None = []
taken_frame (Some done) = one_if done.took

-- the step of a client that an event is, where it is one
abbrev pub client_step : State → Event → Option Acted
client_step s (event.Begin actor start call) = (if is_thread s actor.0 then None else client_begin s (client_number s actor.0) start call)
client_step s (event.Resume actor start) = (if is_thread s actor.0 then None else client_resume s (client_number s actor.0) start)
client_step s other = None

abbrev pub event_drains : Event → Bool
event_drains (event.Begin actor start call) = drains call
event_drains (event.Resume actor start) = true
event_drains other = false

-- the frame that the driver publishes on queue 1
unfoldable pub offered_in : State → Event → List (List ℕ)
offered_in s event = client_frame (client_step s event)

-- the frames that the driver reads from queue 0
unfoldable pub drained_in : State → Event → List (List ℕ)
drained_in s event = (if event_drains event then where_done (drained_frames s.world) (client_step s event) else [])

-- the frame that the device writes to queue 0, and the one that it uses from queue 1

unfoldable pub given_in : State → Event → List (List ℕ)
given_in s event.Device = given_frame (device_step s)
given_in s other = []

unfoldable pub taken_in : State → Event → List (List ℕ)
taken_in s event.Device = taken_frame (device_step s)
taken_in s other = []

-- What a history carries, in its order.
abbrev pub frames_over : (State → Event → List (List ℕ)) → State → List Entry → List (List ℕ)
frames_over frames s [] = []
frames_over frames s (entry ∷ entries) = frames s entry.event ++ frames_over frames (next_state s entry.event) entries

abbrev pub offered : State → List Entry → List (List ℕ)
offered s entries = frames_over offered_in s entries

abbrev pub taken : State → List Entry → List (List ℕ)
taken s entries = frames_over taken_in s entries

abbrev pub given_out : State → List Entry → List (List ℕ)
given_out s entries = frames_over given_in s entries

abbrev pub read_back : State → List Entry → List (List ℕ)
read_back s entries = frames_over drained_in s entries

-- a client that writes memory and rings through the driver alone

abbrev pub is_honest : Client → Bool
is_honest client = list_all (λ command. is_honest_call command.call) client.script

-- In both directions, what came is what was sent, byte for byte and in order, as far as it came; and the device is not broken.
pub record IsCarried (s : State) (entries : List Entry) : Type 0 where
  pub to_device : IsPrefix (taken s entries) (offered s entries)
  pub to_driver : IsPrefix (read_back s entries) (given_out s entries)
  pub unbroken : IsFalse (state_after s entries).world.device.broken

-- so in every legal history of honest clients in which the calls are those of the scripts
abbrev pub CarriedInOrder : Type 0
CarriedInOrder = (scene : SceneValue) (entries : List Entry) → IsLawfulScene scene → IsTrue (list_all is_honest scene.clients)
    → Legal (opening scene) entries → FollowsScripts (scripts_of scene) entries → IsCarried (opening scene) entries
