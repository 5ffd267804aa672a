-- `port`: a port is published, and the ends that wait for its path are decided.
use Rattle.std.specs.Prelude.{ℕ, Bool, true, false, List, [], ◌∷◌, ◌++◌, ◌+◌, ◌==◌, ◌&&◌, not, nat_le, length, map, Option, Some, None, bit_and, bytes_eq, if◌then◌else◌}
use Rattle.std.specs.List.{filter, position_or_len}
use Rattle.std.specs.Option.{is_some}
use Rattle.kernel_values.specs.Words.{is_path}
use Rattle.kernel_values.specs.declared.flags.PortFlags.{PortFlags}
use Rattle.kernel_values.specs.declared.reply.Reply.TheVariants as reply
use Rattle.kernel_values.specs.declared.errno.Errno.TheVariants as errno
use Rattle.kernel_values.specs.declared.state.Object.{Object}
use Rattle.kernel_values.specs.declared.state.Body.{Body}
use Rattle.kernel_values.specs.declared.state.Body.TheVariants as body
use Rattle.kernel_values.specs.declared.state.Port.{Port}
use Rattle.kernel_values.specs.declared.state.ChannelEnd.{ChannelEnd}
use Rattle.kernel_values.specs.declared.state.EndState.{EndState}
use Rattle.kernel_values.specs.declared.state.EndState.TheVariants as end_state
use Rattle.kernel_values.specs.declared.state.Connector.{Connector}
use Rattle.kernel_values.specs.declared.state.Connector.TheVariants as connector
use Rattle.kernel_values.specs.declared.state.CoreState.{CoreState}
use Rattle.kernel_types.specs.Objects.{published, new_end, on_body, on_end}
use Rattle.kernel_types.specs.Tables.{table_of, is_full, free_handle, install}
use Rattle.kernel_types.specs.Outcome.{Outcome, gives, refuses}

-- a port has 1 to 32 buffers of 1 to 4,096 bytes

abbrev pub slot_limit : ℕ
slot_limit = 32

abbrev pub message_limit : ℕ
message_limit = 4096

abbrev pub is_lawful_port : List ℕ → ℕ → ℕ → Bool
is_lawful_port path bufs size = is_path path && (nat_le 1 bufs && nat_le bufs slot_limit) && (nat_le 1 size && nat_le size message_limit)

-- the bit of a port's flags that lets this kind of client in: TA for an application, NS for the normal world
abbrev pub admitting_bit : Connector → ℕ
admitting_bit (connector.App app) = 1
admitting_bit connector.NormalWorld = 2

abbrev pub admits : PortFlags → Connector → Bool
admits flags client = not (bit_and flags.0 (admitting_bit client) == 0)

abbrev pub admits_client : PortFlags → Option Connector → Bool
admits_client flags None = false
admits_client flags (Some client) = admits flags client

abbrev pub is_waiting : EndState → Bool
is_waiting end_state.Waiting = true
is_waiting _ = false

abbrev pub is_some_path : List ℕ → Option (List ℕ) → Bool
is_some_path path None = false
is_some_path path (Some other) = bytes_eq other path

-- whether the end waits for this path
abbrev pub waits_for : List ℕ → ChannelEnd → Bool
waits_for path end = is_waiting end.state && is_some_path path end.path

-- a waiting end that is let in, with the port's slots and the server end `server`
abbrev pub connecting_end : ℕ → ℕ → ℕ → ChannelEnd → ChannelEnd
connecting_end server bufs size end = record end { peer = Some server; state = end_state.Connecting; path = None; slots = bufs; size = size }

-- a waiting end that is not let in
abbrev pub denied_end : ChannelEnd → ChannelEnd
denied_end end = record end { state = end_state.Disconnected; path = None }

-- a pending server end of this client end
abbrev pub server_end : ℕ → ℕ → ℕ → Body
server_end client bufs size = body.End (new_end (Some client) end_state.Connecting None None bufs size)

-- whether the object is an end that waits for the port's path, and one that the port lets in

abbrev pub end_waits_for : Port → Body → Bool
end_waits_for port (body.End end) = waits_for port.path end
end_waits_for port other = false

abbrev pub end_is_admitted : Port → Body → Bool
end_is_admitted port (body.End end) = waits_for port.path end && admits_client port.flags end.client
end_is_admitted port other = false

-- the numbers of the ends that wait for the port and are let in, in rising order
unfoldable pub admitted : Port → List Object → List ℕ
admitted port objects = map (λ object. object.id) (filter (λ object. end_is_admitted port object.body) objects)

-- the server end of the k-th of these has the number `first` plus k
abbrev pub server_of : ℕ → List ℕ → ℕ → ℕ
server_of first clients client = first + position_or_len (λ other. other == client) clients

-- an end that waits for the port: let in, or else Disconnected; every other object stays
abbrev pub decided_end : Port → ℕ → List ℕ → ℕ → ChannelEnd → ChannelEnd
decided_end port first clients id end =
    (if waits_for port.path end then
    (if admits_client port.flags end.client then connecting_end (server_of first clients id) port.bufs port.size end else denied_end end)
    else end)

abbrev pub decided : Port → ℕ → List ℕ → Object → Object
decided port first clients object = on_body (on_end (decided_end port first clients object.id)) object

abbrev pub new_server : Port → ℕ → List ℕ → ℕ → Object
new_server port first clients client = record { id = server_of first clients client; body = server_end client port.bufs port.size }

-- the port gets the next number, and after it come the server ends, which are pending in that order
abbrev pub publish_to : List ℕ → Port → CoreState → CoreState
publish_to clients port c = record c {
  objects = map (decided port (c.next + 1) clients) c.objects
      ++ (record { id = c.next; body = body.Port (record port { pending = map (server_of (c.next + 1) clients) clients }) })
      ∷ map (new_server port (c.next + 1) clients) clients;
  next = c.next + 1 + length clients;
}

abbrev pub publish : Port → CoreState → CoreState
publish port c = publish_to (admitted port c.objects) port c

abbrev pub new_port : List ℕ → ℕ → ℕ → PortFlags → Port
new_port path bufs size flags = record { path = path; bufs = bufs; size = size; flags = flags; pending = [] }

unfoldable pub port_create : CoreState → ℕ → List ℕ → ℕ → ℕ → PortFlags → Outcome
port_create c app path bufs size flags =
    (if not (is_lawful_port path bufs size) then refuses errno.InvalidArgs c
    else if is_some (published c.objects path) then refuses errno.AlreadyExists c
    else if is_full (table_of c app) then refuses errno.NoResources c
    else gives (reply.Handle (free_handle (table_of c app))) (install app c.next (publish (new_port path bufs size flags) c)))
