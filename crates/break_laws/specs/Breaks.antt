-- What is left of a state when ends are cut off, as the bridge's are by a break: they go, their peers hear of it, and nothing else changes.
use Rattle.std.specs.Prelude.{◌≡◌, ℕ, Bool, true, false, List, [], Some}
use Rattle.std.specs.List.{filter, list_any}
use Rattle.kernel_values.specs.SceneLaw.{SceneValue}
use Rattle.kernel_values.specs.declared.entry.Entry.{Entry}
use Rattle.kernel_values.specs.declared.state.Body.{Body}
use Rattle.kernel_values.specs.declared.state.Body.TheVariants as body
use Rattle.kernel_values.specs.declared.state.ChannelEnd.{ChannelEnd}
use Rattle.kernel_values.specs.declared.state.CoreState.{CoreState}
use Rattle.kernel_values.specs.declared.state.EndState.TheVariants as end_state
use Rattle.kernel_values.specs.declared.state.HandleSet.{HandleSet}
use Rattle.kernel_values.specs.declared.state.MemoryRef.{MemoryRef}
use Rattle.kernel_values.specs.declared.state.Object.{Object}
use Rattle.kernel_values.specs.declared.state.Port.{Port}
use Rattle.kernel_values.specs.declared.state.State.{State}
use Rattle.kernel_types.specs.History.{Legal, state_after}
use Rattle.kernel_types.specs.Opening.{opening}
use Rattle.kernel_types.specs.Objects.{end_of, is_there, memory_of, port_of, set_of}
use Rattle.kernel_types.specs.Reach.{is_in}
use Rattle.kernel_types.specs.Sweep.{is_marked}

-- the end's peer is one of these
abbrev pub faces : List ℕ → ChannelEnd → Bool
faces ends end = is_marked ends end.peer

abbrev pub pending_in : Body → List ℕ
pending_in (body.Port port) = port.pending
pending_in _ = []

-- some port lists the server end as pending
abbrev pub is_pending : List Object → ℕ → Bool
is_pending objects server = list_any (λ object. is_in (pending_in object.body) server) objects

-- an end whose peer is cut off
abbrev pub bereft : ChannelEnd → ChannelEnd
bereft end = record end { state = end_state.Disconnected; error = true }

-- a port's pending server ends, less those that are gone
abbrev pub listing_what_is_left : List Object → Port → Port
listing_what_is_left left port = record port { pending = filter (is_there left) port.pending }

-- the state `d` is what is left of `c` when these ends are cut off
pub record AreCutOff (ends : List ℕ) (c d : CoreState) : Type 0 where
  pub tables_stay : d.apps ≡ c.apps
  pub waits_stay : d.threads ≡ c.threads
  pub clock_stays : d.clock ≡ c.clock
  pub next_stays : d.next ≡ c.next
  -- the ends go, and so does a server end that was pending for one of them
  pub ends_go : (n : ℕ) → is_in ends n ≡ true → is_there d.objects n ≡ false
  pub pending_go : (n : ℕ) (end : ChannelEnd) → end_of c.objects n ≡ Some end → faces ends end ≡ true → is_pending c.objects n ≡ true → is_there d.objects n ≡ false
  -- every other peer of one of them is Disconnected and has the error mark
  pub peers_hear : (n : ℕ) (end : ChannelEnd) → end_of c.objects n ≡ Some end → is_in ends n ≡ false → faces ends end ≡ true → is_pending c.objects n ≡ false
      → end_of d.objects n ≡ Some (bereft end)
  -- all else stays, but that ports list no end that is gone
  pub others_stay : (n : ℕ) (end : ChannelEnd) → end_of c.objects n ≡ Some end → is_in ends n ≡ false → faces ends end ≡ false → end_of d.objects n ≡ Some end
  pub ports_stay : (n : ℕ) (port : Port) → port_of c.objects n ≡ Some port → port_of d.objects n ≡ Some (listing_what_is_left d.objects port)
  pub sets_stay : (n : ℕ) (set : HandleSet) → set_of c.objects n ≡ Some set → set_of d.objects n ≡ Some set
  pub memories_stay : (n : ℕ) (memory : MemoryRef) → memory_of c.objects n ≡ Some memory → memory_of d.objects n ≡ Some memory
  pub nothing_comes : (n : ℕ) → is_there d.objects n ≡ true → is_there c.objects n ≡ true

-- what a break of the bridge leaves: its ends are cut off, it names none any more, and its device is broken, with no entry and no refusal
pub record IsBreak (s t : State) : Type 0 where
  pub cut_off : AreCutOff s.core.bridged s.core t.core
  pub none_bridged : t.core.bridged ≡ []
  pub device_is_broken : t.world ≡ record s.world { device = record s.world.device { broken = true; entries = []; refusals = [] } }

-- the state after a legal history of a scene
pub record IsReachable (s : State) : Type 0 where
  pub scene : SceneValue
  pub entries : List Entry
  pub legal : Legal (opening scene) entries
  pub is : state_after (opening scene) entries ≡ s
