-- What the calls of the bridge leave of a kernel: the core changes as `Bridge` says, the world stays.
use Rattle.std.specs.Prelude.{◌≡◌, ◌≤◌, ◌<◌, ◌+◌, ◌^◌, ◌==◌, ℕ, Bool, List, true, false, Option, Some, None, Ok, Err, length, IsTrue, IsFalse, ⊤}
use Rattle.std.specs.List.{list_any}
use Rattle.kernel_values.specs.declared.entry.EndSeq.{EndSeq}
use Rattle.kernel_values.specs.declared.state.CoreState.{CoreState}
use Rattle.kernel_values.specs.declared.state.State.{State}
use Rattle.kernel_types.specs.declared.bridge.NsRefused.{NsRefused}
use Rattle.kernel_types.specs.declared.bridge.NsRefused.TheVariants as refused
use Rattle.kernel_types.specs.Bridge.{ns_connect, ns_view, ns_push, ns_take, ns_drop}
use Rattle.kernel_types.specs.CoreStep.{core_idle}
use Rattle.kernel_types.specs.Sweep.{sweep}

abbrev pub with_core : CoreState → State → State
with_core c s = record s { core = c }

-- an entry of the bridge names the end
abbrev pub IsBridged : ℕ → State → Type 0
IsBridged end s = IsTrue (list_any (λ other. other == end) s.core.bridged)

-- a message is filled
abbrev pub CanTake : ℕ → State → Type 0
CanTake end s = 0 < (ns_view s.core end).filled

-- a message with these bytes can go to the peer
pub record CanPush (end : ℕ) (bytes : List ℕ) (s : State) : Type 0 where
  pub small : length bytes ≤ (ns_view s.core end).size
  pub free : (ns_view s.core end).peer_full ≡ false

-- the clock does not fall, and rises by less than 2 ^ 32
abbrev pub IsLater : ℕ → Option ℕ → Type 0
IsLater clock None = ⊤
IsLater clock (Some later) = (clock ≤ later) × (later < clock + 2 ^ 32)

pub record Idled (clock : Option ℕ) (s t : State) (made remade : ℕ) : Type 0 where
  pub state_is : t ≡ with_core (sweep (core_idle clock s.core)) s
  pub made_is : remade ≡ made + 1

-- the end gets the next number
pub record Connected (path : List ℕ) (end : ℕ) (s t : State) (made remade : ℕ) : Type 0 where
  pub end_is : end ≡ s.core.next
  pub core_is : ns_connect s.core path ≡ Ok t.core
  pub state_is : t ≡ with_core t.core s
  pub made_is : remade ≡ made + 1

abbrev pub NsCauseHolds : List ℕ → State → NsRefused → Type 0
NsCauseHolds path s (refused.Errno errno) = ns_connect s.core path ≡ Err errno
NsCauseHolds path s refused.NoMemory = ⊤

pub record NotConnected (path : List ℕ) (refused : NsRefused) (s t : State) (made remade : ℕ) : Type 0 where
  pub cause : NsCauseHolds path s refused
  pub state_is : t ≡ s
  pub made_is : remade ≡ made

pub record Pushed (end : ℕ) (bytes : List ℕ) (sent : EndSeq) (s t : State) (made remade : ℕ) : Type 0 where
  pub seqs_are : (ns_push s.core end bytes).seqs ≡ record { sent = Some sent; opened = None; retired = None }
  pub state_is : t ≡ with_core (ns_push s.core end bytes).core s
  pub made_is : remade ≡ made + 1

pub record Took (end : ℕ) (seq : EndSeq) (s t : State) : Type 0 where
  pub seqs_are : (ns_take s.core end).seqs ≡ record { sent = None; opened = Some seq; retired = Some seq }
  pub state_is : t ≡ with_core (ns_take s.core end).core s

abbrev pub Dropped : ℕ → Bool → State → State → Type 0
Dropped end broken s t = t ≡ with_core (ns_drop broken end s.core) s
