-- How the objects fit together, at every moment and also in the middle of a call: who is whose peer, what is pending, and what messages carry.
use Rattle.std.specs.Prelude.{◌≡◌, ◌≤◌, ◌<◌, ◌==◌, ℕ, Bool, true, false, not, List, Option, Some, None}
use Rattle.std.specs.List.{count_by}
use Rattle.std.specs.Option.{is_some}
use Rattle.kernel_values.specs.declared.state.ChannelEnd.{ChannelEnd}
use Rattle.kernel_values.specs.declared.state.CoreState.{CoreState}
use Rattle.kernel_values.specs.declared.state.EndState.TheVariants as end_state
use Rattle.kernel_values.specs.declared.state.Object.{Object}
use Rattle.kernel_values.specs.declared.state.Port.{Port}
use Rattle.kernel_laws.specs.Numbers.{RisesFrom}
use Rattle.kernel_types.specs.Messages.{is_unconnected}
use Rattle.kernel_types.specs.Names.{message_objects}
use Rattle.kernel_types.specs.Objects.{end_of, memory_of, port_of}
use Rattle.kernel_types.specs.Ports.{is_waiting}
use Rattle.kernel_types.specs.Reach.{is_in}
use Rattle.kernel_types.specs.Sweep.{is_live}

-- the end's peer is there, is its peer's peer, has the same state, and is of the other side
pub record IsMated (ends : ℕ → Option ChannelEnd) (n : ℕ) (end : ChannelEnd) : Type 0 where
  pub number : ℕ
  pub mate : ChannelEnd
  pub is : end.peer ≡ Some number
  pub there : ends number ≡ Some mate
  pub back : mate.peer ≡ Some n
  pub state : mate.state ≡ end.state
  pub sides : is_some mate.client ≡ not (is_some end.client)

-- a server end that nobody accepted yet
pub record IsServer (ends : ℕ → Option ChannelEnd) (n : ℕ) : Type 0 where
  pub end : ChannelEnd
  pub there : ends n ≡ Some end
  pub state : end.state ≡ end_state.Connecting
  pub side : is_some end.client ≡ false

-- Said of the ends and ports by their numbers, and of the numbers of memory references. A live end (Connecting or Connected) is mated. An end's peer, where
-- it is there, has the end as its peer. A Waiting end has no peer. The messages of an end that is not connected yet carry no parts, and parts are memory
-- references. What a port lists as pending is a server end that nobody accepted yet; one port lists it, once.
pub record Fits (ends : ℕ → Option ChannelEnd) (ports : ℕ → Option Port) (memories : ℕ → Bool) (next : ℕ) : Type 0 where
  pub live : (n : ℕ) (end : ChannelEnd) → ends n ≡ Some end → is_live end.state ≡ true → IsMated ends n end
  pub mates : (n m : ℕ) (end mate : ChannelEnd) → ends n ≡ Some end → end.peer ≡ Some m → ends m ≡ Some mate → mate.peer ≡ Some n
  pub alone : (n : ℕ) (end : ChannelEnd) → ends n ≡ Some end → is_waiting end.state ≡ true → end.peer ≡ None
  pub low : (n m : ℕ) (end : ChannelEnd) → ends n ≡ Some end → end.peer ≡ Some m → m < next
  pub quiet : (n object : ℕ) (end : ChannelEnd) → ends n ≡ Some end → is_unconnected end.state ≡ true → is_in (message_objects end.messages) object ≡ true → ⊥
  pub parts : (n object : ℕ) (end : ChannelEnd) → ends n ≡ Some end → is_in (message_objects end.messages) object ≡ true → memories object ≡ true
  pub pending : (n s : ℕ) (port : Port) → ports n ≡ Some port → is_in port.pending s ≡ true → IsServer ends s
  pub once : (n m s : ℕ) (port other : Port) → ports n ≡ Some port → ports m ≡ Some other → is_in port.pending s ≡ true → is_in other.pending s ≡ true → n ≡ m
  pub single : (n s : ℕ) (port : Port) → ports n ≡ Some port → count_by (λ other. other == s) port.pending ≤ 1

abbrev pub holds_memory : List Object → ℕ → Bool
holds_memory objects object = is_some (memory_of objects object)

-- numbers rise, and the objects fit
pub record Fitting (objects : List Object) (next : ℕ) : Type 0 where
  pub rises : RisesFrom 0 objects next
  pub fits : Fits (end_of objects) (port_of objects) (holds_memory objects) next

abbrev pub FittingCore : CoreState → Type 0
FittingCore c = Fitting c.objects c.next
