-- What the whole kernel stands for, and what its type keeps.
use Rattle.std.specs.Prelude.{◌≡◌, ◌≤◌, ◌<◌, ◌+◌, ◌&&◌, ◌||◌, not, ℕ, Bool, List, [], ◌∷◌, length}
use Rattle.kernel_values.specs.declared.scene.App.{App}
use Rattle.kernel_values.specs.declared.entry.Event.{Event}
use Rattle.kernel_values.specs.declared.entry.Event.TheVariants as event
use Rattle.kernel_values.specs.declared.state.CoreState.{CoreState}
use Rattle.kernel_values.specs.declared.state.State.{State}
use Rattle.kernel_values.specs.declared.world.ClientState.{ClientState}
use Rattle.kernel_types.specs.Step.{client_status, has_begun_and_goes_on, is_running}

pub record KernelValue : Type 0 where
  pub state : State
  pub made : ℕ

-- the core made no more steps than the kernel, and has so many threads
pub record IsWhole (c : CoreState) (core_made threads made : ℕ) : Type 0 where
  pub fewer : core_made ≤ made
  pub count : length c.threads ≡ threads

-- how many threads applications have together
abbrev pub threads_of : List App → ℕ
threads_of [] = 0
threads_of (app ∷ apps) = length app.threads + threads_of apps

-- an event of an actor below `threads`
abbrev pub IsOfThread : ℕ → Event → Type 0
IsOfThread threads (event.Begin actor start asked) = actor.0 < threads
IsOfThread threads (event.Resume actor start) = actor.0 < threads
IsOfThread threads other = ⊥

-- an event of an actor from `threads` on, the client with this number
abbrev pub IsOfClient : ℕ → ℕ → Event → Type 0
IsOfClient threads client (event.Begin actor start asked) = actor.0 ≡ threads + client
IsOfClient threads client (event.Resume actor start) = actor.0 ≡ threads + client
IsOfClient threads client other = ⊥

-- Tests of clients.

unfoldable pub goes_on : ClientState → Bool
goes_on client = has_begun_and_goes_on (client_status client.activity)

unfoldable pub runs : ClientState → Bool
runs client = is_running (client_status client.activity)

-- Whether time may pass, and whether all is at its end, by what the core says alone and by the clients and the device.

abbrev pub may_idle : Bool → Bool → Bool → Bool → Bool → Bool → Bool
may_idle rests lawful begun running moving working = (rests || lawful) && (not rests || begun) && not running && not moving && not working

abbrev pub may_end : Bool → Bool → Bool → Bool
may_end rests begun working = rests && not begun && not working
