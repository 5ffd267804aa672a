-- `connect` and `accept`: how a connect goes about a port that is there or not, and how it is decided.
use Rattle.std.specs.Prelude.{ℕ, Bool, true, false, List, [], ◌∷◌, ◌++◌, ◌+◌, ◌==◌, ◌||◌, not, Option, Some, None, bit_and, slice_get, if◌then◌else◌}
use Rattle.std.specs.List.{find, position_or_len}
use Rattle.kernel_values.specs.Words.{is_path}
use Rattle.kernel_values.specs.declared.flags.PortFlags.{PortFlags}
use Rattle.kernel_values.specs.declared.flags.ConnectFlags.{ConnectFlags}
use Rattle.kernel_values.specs.declared.reply.Reply.TheVariants as reply
use Rattle.kernel_values.specs.declared.errno.Errno.TheVariants as errno
use Rattle.kernel_values.specs.declared.scene.StartPort.{StartPort}
use Rattle.kernel_values.specs.declared.state.Application.{Application}
use Rattle.kernel_values.specs.declared.state.Object.{Object}
use Rattle.kernel_values.specs.declared.state.Body.TheVariants as body
use Rattle.kernel_values.specs.declared.state.Port.{Port}
use Rattle.kernel_values.specs.declared.state.ChannelEnd.{ChannelEnd}
use Rattle.kernel_values.specs.declared.state.EndState.TheVariants as end_state
use Rattle.kernel_values.specs.declared.state.Connector.{Connector}
use Rattle.kernel_values.specs.declared.state.Connector.TheVariants as connector
use Rattle.kernel_values.specs.declared.state.TableEntry.{TableEntry}
use Rattle.kernel_values.specs.declared.state.WaitOn.TheVariants as wait_on
use Rattle.kernel_values.specs.declared.state.CoreState.{CoreState}
use Rattle.kernel_types.specs.Objects.{published, port_in, port_of, end_of, added, new_end, port_changed, end_changed}
use Rattle.kernel_types.specs.Tables.{table_of, is_full, free_handle, install, entry_at, remove_entry}
use Rattle.kernel_types.specs.Applications.{has_start_left, has_start_port, is_start_port, started}
use Rattle.kernel_types.specs.Events.{is_disconnected}
use Rattle.kernel_types.specs.Ports.{admits, server_end}
use Rattle.kernel_types.specs.Outcome.{Outcome, gives, refuses}
use Rattle.kernel_types.specs.Threads.{waits_on}

abbrev pub has_flag : ℕ → ConnectFlags → Bool
has_flag bit flags = not (bit_and flags.0 bit == 0)

abbrev pub waits_for_port : ConnectFlags → Bool
waits_for_port flags = has_flag 1 flags

abbrev pub is_asynchronous : ConnectFlags → Bool
is_asynchronous flags = has_flag 2 flags

-- how a connect goes on, by its path
pub data Way : Type 0 where
  -- a port has the path; its number and the port
  to_port : ℕ → Port → Way
  -- no port has it, and it is a start port of this application, which runs or has a start left; its flags
  to_start : ℕ → PortFlags → Way
  -- neither
  to_nothing : Way

abbrev pub may_serve : Application → Bool
may_serve app = app.running || has_start_left app

abbrev pub start_flags : List ℕ → Application → Option StartPort
start_flags path app = find (is_start_port path) app.manifest.ports

abbrev pub way_by_start_port : ℕ → Application → Option StartPort → Way
way_by_start_port place app None = to_nothing
way_by_start_port place app (Some port) = (if may_serve app then to_start place port.flags else to_nothing)

abbrev pub way_by_app : List ℕ → ℕ → Option Application → Way
way_by_app path place None = to_nothing
way_by_app path place (Some app) = way_by_start_port place app (start_flags path app)

abbrev pub app_place : List ℕ → CoreState → ℕ
app_place path c = position_or_len (has_start_port path) c.apps

abbrev pub way_by_body : ℕ → Option Port → Way
way_by_body id None = to_nothing
way_by_body id (Some port) = to_port id port

abbrev pub way_by_port : List ℕ → CoreState → Option Object → Way
way_by_port path c (Some object) = way_by_body object.id (port_in object.body)
way_by_port path c None = way_by_app path (app_place path c) (slice_get c.apps (app_place path c))

abbrev pub way_of : CoreState → List ℕ → Way
way_of c path = way_by_port path c (published c.objects path)

-- a client end and its server end, which is pending at the port
abbrev pub pending_pair : Connector → ℕ → Port → CoreState → CoreState
pending_pair client id port c = port_changed (λ p. record p { pending = p.pending ++ (c.next + 1) ∷ [] }) id
    (added (server_end c.next port.bufs port.size)
    (added (body.End (new_end (Some (c.next + 1)) end_state.Connecting None (Some client) port.bufs port.size)) c))

-- a client end that waits for a port of this path
abbrev pub waiting_client : Connector → List ℕ → CoreState → CoreState
waiting_client client path c = added (body.End (new_end None end_state.Waiting (Some path) (Some client) 0 0)) c

abbrev pub started_unless_running : ℕ → Option Application → CoreState → CoreState
started_unless_running place None c = c
started_unless_running place (Some app) c = (if app.running then c else started place c)

-- the connect goes through: its end is installed, and the answer is its number at once, or comes with the decision
abbrev pub connected : CoreState → ℕ → ℕ → ConnectFlags → CoreState → Outcome
connected c thread app flags made =
    (if is_asynchronous flags then gives (reply.Handle (free_handle (table_of c app))) (install app c.next made)
    else waits_on thread (wait_on.Connect c.next (free_handle (table_of c app))) None (install app c.next made))

abbrev pub connect_waiting : CoreState → ℕ → ℕ → List ℕ → ConnectFlags → Outcome
connect_waiting c thread app path flags =
    (if is_full (table_of c app) then refuses errno.NoResources c
    else connected c thread app flags (waiting_client (connector.App app) path c))

-- the application that is to serve the port is started, where it does not run, after all else
abbrev pub and_started : ℕ → Outcome → Outcome
and_started place outcome = record outcome { core = started_unless_running place (slice_get outcome.core.apps place) outcome.core }

abbrev pub connect_by : Way → CoreState → ℕ → ℕ → List ℕ → ConnectFlags → Outcome
connect_by (to_port id port) c thread app path flags =
    (if not (admits port.flags (connector.App app)) then refuses errno.AccessDenied c
    else if is_full (table_of c app) then refuses errno.NoResources c
    else connected c thread app flags (pending_pair (connector.App app) id port c))
connect_by (to_start place start) c thread app path flags =
    (if not (admits start (connector.App app)) then refuses errno.AccessDenied c
    else if is_full (table_of c app) then refuses errno.NoResources c
    else and_started place (connected c thread app flags (waiting_client (connector.App app) path c)))
connect_by to_nothing c thread app path flags =
    (if not (waits_for_port flags) then refuses errno.NotFound c
    else connect_waiting c thread app path flags)

unfoldable pub connect : CoreState → ℕ → ℕ → List ℕ → ConnectFlags → Outcome
connect c thread app path flags =
    (if not (is_path path) then refuses errno.InvalidArgs c
    else connect_by (way_of c path) c thread app path flags)

-- the decision on a connect that waits, by the first that holds: its number no longer holds its end; the end was
-- accepted; it is Disconnected; the wait is cancelled

abbrev pub holds_end : ℕ → Option TableEntry → Bool
holds_end end None = false
holds_end end (Some entry) = entry.object == end

abbrev pub unready : ChannelEnd → ChannelEnd
unready end = record end { ready = false }

abbrev pub decided_on : CoreState → ℕ → ℕ → ℕ → Bool → Option ChannelEnd → Option Outcome
decided_on c app id handle cancelled None = Some (refuses errno.ChannelClosed c)
decided_on c app id handle cancelled (Some end) =
    (if end.accepted then Some (gives (reply.Handle handle) (end_changed unready id c))
    else if is_disconnected end.state then Some (refuses errno.ChannelClosed (remove_entry app handle c))
    else if cancelled then Some (refuses errno.Cancelled (remove_entry app handle c))
    else None)

unfoldable pub connect_decision : CoreState → ℕ → ℕ → ℕ → Bool → Option Outcome
connect_decision c app end handle cancelled =
    (if holds_end end (entry_at (table_of c app) handle) then decided_on c app end handle cancelled (end_of c.objects end)
    else Some (refuses errno.ChannelClosed c))

-- `accept`: the first pending server end is installed; both ends are Connected and accepted, and the client's is ready

abbrev pub accepted_end : Bool → ChannelEnd → ChannelEnd
accepted_end ready end = record end { state = end_state.Connected; accepted = true; ready = ready || end.ready }

abbrev pub uuid_of_app : Option Application → ℕ
uuid_of_app None = 0
uuid_of_app (Some app) = app.manifest.uuid

-- the UUID of who made a connection; the normal world's is 0
abbrev pub uuid_of : CoreState → Option Connector → ℕ
uuid_of c (Some (connector.App app)) = uuid_of_app (slice_get c.apps app)
uuid_of c _ = 0

abbrev pub client_of : Option ChannelEnd → Option Connector
client_of None = None
client_of (Some end) = end.client

abbrev pub peer_of : Option ChannelEnd → Option ℕ
peer_of None = None
peer_of (Some end) = end.peer

abbrev pub accept_client : Option ℕ → CoreState → CoreState
accept_client None c = c
accept_client (Some client) c = end_changed (accepted_end true) client c

abbrev pub peer_uuid : CoreState → Option ℕ → ℕ
peer_uuid c None = 0
peer_uuid c (Some client) = uuid_of c (client_of (end_of c.objects client))

abbrev pub accept_server : CoreState → ℕ → ℕ → ℕ → List ℕ → Option ℕ → Outcome
accept_server c app port server rest client =
    gives (reply.Accepted (free_handle (table_of c app)) (peer_uuid c client))
    (install app server (accept_client client (end_changed (accepted_end false) server
    (port_changed (λ p. record p { pending = rest }) port c))))

abbrev pub accept_pending : CoreState → ℕ → ℕ → List ℕ → Outcome
accept_pending c app port [] = refuses errno.NoMsg c
accept_pending c app port (server ∷ rest) =
    (if is_full (table_of c app) then refuses errno.NoResources c
    else accept_server c app port server rest (peer_of (end_of c.objects server)))

abbrev pub accept_port : CoreState → ℕ → ℕ → Option Port → Outcome
accept_port c app id None = refuses errno.InvalidArgs c
accept_port c app id (Some port) = accept_pending c app id port.pending

abbrev pub accept_entry : CoreState → ℕ → Option TableEntry → Outcome
accept_entry c app None = refuses errno.BadHandle c
accept_entry c app (Some entry) = accept_port c app entry.object (port_of c.objects entry.object)

unfoldable pub accept : CoreState → ℕ → ℕ → Outcome
accept c app handle = accept_entry c app (entry_at (table_of c app) handle)
