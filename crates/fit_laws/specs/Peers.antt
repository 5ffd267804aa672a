-- Peers and pending connections, as a user of channels meets them.
use Rattle.std.specs.Prelude.{◌≡◌, ◌≤◌, ◌==◌, ℕ, List, true, Some}
use Rattle.std.specs.List.{count_by}
use Rattle.kernel_values.specs.declared.state.ChannelEnd.{ChannelEnd}
use Rattle.kernel_values.specs.declared.state.CoreState.{CoreState}
use Rattle.kernel_values.specs.declared.state.EndState.TheVariants as end_state
use Rattle.kernel_values.specs.declared.state.Object.{Object}
use Rattle.kernel_values.specs.declared.state.Port.{Port}
use Rattle.kernel_types.specs.Objects.{end_of, port_of}
use Rattle.kernel_types.specs.Reach.{is_in}
use Rattle.kernel_types.specs.Sweep.{is_live}

-- the end's peer is an end that is there and has it as its peer, in the same state
pub record HasPeer (objects : List Object) (id : ℕ) (end : ChannelEnd) : Type 0 where
  pub number : ℕ
  pub peer : ChannelEnd
  pub is : end.peer ≡ Some number
  pub there : end_of objects number ≡ Some peer
  pub back : peer.peer ≡ Some id
  pub state : peer.state ≡ end.state

-- a server end that nobody accepted yet, with its client end, which is there and waits for that
pub record HasClient (objects : List Object) (server : ℕ) : Type 0 where
  pub end : ChannelEnd
  pub client : ℕ
  pub client_end : ChannelEnd
  pub there : end_of objects server ≡ Some end
  pub client_there : end_of objects client ≡ Some client_end
  pub connecting : end.state ≡ end_state.Connecting
  pub client_connecting : client_end.state ≡ end_state.Connecting
  pub peer : end.peer ≡ Some client
  pub client_peer : client_end.peer ≡ Some server

pub record HasMutualPeers (c : CoreState) : Type 0 where
  -- a Connecting or Connected end has a peer
  pub peers : (id : ℕ) (end : ChannelEnd) → end_of c.objects id ≡ Some end → is_live end.state ≡ true → HasPeer c.objects id end
  -- and no other end has that peer
  pub apart : (id other : ℕ) (one two : ChannelEnd) (peer : ℕ) → end_of c.objects id ≡ Some one → is_live one.state ≡ true → one.peer ≡ Some peer
      → end_of c.objects other ≡ Some two → two.peer ≡ Some peer → other ≡ id
  -- what a port lists as pending has a client
  pub clients : (id server : ℕ) (port : Port) → port_of c.objects id ≡ Some port → is_in port.pending server ≡ true → HasClient c.objects server
  -- and one port lists it, once
  pub once : (id other server : ℕ) (one two : Port) → port_of c.objects id ≡ Some one → is_in one.pending server ≡ true
      → port_of c.objects other ≡ Some two → is_in two.pending server ≡ true → other ≡ id
  pub single : (id server : ℕ) (port : Port) → port_of c.objects id ≡ Some port → count_by (λ other. other == server) port.pending ≤ 1
