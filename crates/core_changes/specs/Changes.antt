-- The states after the changes that a core makes at once.
use Rattle.std.specs.Prelude.{ℕ, Bool, false, List, [], ◌∷◌, ◌+◌, Option, Some, None, slice_get, nat_le, length}
use Rattle.kernel_values.specs.declared.state.ChannelEnd.{ChannelEnd}
use Rattle.kernel_values.specs.declared.state.Connector.{Connector}
use Rattle.kernel_values.specs.declared.state.Connector.TheVariants as connector
use Rattle.kernel_values.specs.declared.state.CoreState.{CoreState}
use Rattle.kernel_values.specs.declared.state.MemoryRef.{MemoryRef}
use Rattle.kernel_values.specs.declared.state.TableEntry.{TableEntry}
use Rattle.kernel_values.specs.declared.state.WaitOn.{WaitOn}
use Rattle.kernel_values.specs.declared.state.WaitOn.TheVariants as wait_on
use Rattle.kernel_types.specs.Bridge.{bridging, with_error}
use Rattle.kernel_types.specs.Connects.{Way, accept_client, accepted_end, peer_of, pending_pair, started_unless_running, unready, waiting_client}
use Rattle.kernel_types.specs.Connects.Way.{to_port, to_start, to_nothing}
use Rattle.kernel_types.specs.Messages.{blocked_end, unblocked_end}
use Rattle.kernel_types.specs.Objects.{end_changed, end_of, port_changed}
use Rattle.kernel_types.specs.Reports.{reported_end}
use Rattle.kernel_types.specs.Tables.{free_handle, install, table_of}
use Rattle.kernel_types.specs.Threads.{new_wait, waiting_activity, with_activity}
use Rattle.core_changes.specs.declared.core_changes.Mark.{Mark}
use Rattle.core_changes.specs.declared.core_changes.Mark.TheVariants as mark
use Rattle.core_changes.specs.Looks.{bytes_in}

-- the marks of an end
abbrev pub marked : Mark → ChannelEnd → ChannelEnd
marked mark.Blocked = blocked_end
marked mark.Unblocked = unblocked_end
marked mark.Decided = unready
marked (mark.Reported events) = reported_end events.0
marked mark.Failed = with_error

-- what a wait for an entry of a table is for
abbrev pub waited_entry : Option TableEntry → WaitOn
waited_entry None = wait_on.Any
waited_entry (Some entry) = wait_on.Object entry.object entry.handle entry.cookie

abbrev pub awaits : ℕ → WaitOn → Option ℕ → CoreState → CoreState
awaits thread on deadline c = with_activity (waiting_activity (new_wait on deadline)) thread c

-- the thread, where there is one, waits for the decision on the end
abbrev pub awaits_decision : Option ℕ → ℕ → ℕ → CoreState → CoreState
awaits_decision None end handle c = c
awaits_decision (Some thread) end handle c = awaits thread (wait_on.Connect end handle) None c

-- the end that a connect makes, by its way: one with a server end that is pending, or one that waits for a port
abbrev pub with_client : Way → Connector → List ℕ → CoreState → CoreState
with_client (to_port id port) client path c = pending_pair client id port c
with_client (to_start place flags) client path c = waiting_client client path c
with_client to_nothing client path c = waiting_client client path c

-- the application that is to serve the port is started, where it does not run
abbrev pub with_server : Way → CoreState → CoreState
with_server (to_start place flags) c = started_unless_running place (slice_get c.apps place) c
with_server other c = c

-- a connect of an application that goes through
abbrev pub connecting : Way → ℕ → List ℕ → Option ℕ → CoreState → CoreState
connecting way app path waiter c =
    with_server way (awaits_decision waiter c.next (free_handle (table_of c app)) (install app c.next (with_client way (connector.App app) path c)))

-- a connect of the normal world that goes through
abbrev pub bridge_connecting : Way → List ℕ → CoreState → CoreState
bridge_connecting way path c = with_server way (bridging c.next (with_client way connector.NormalWorld path c))

-- the first pending server end is installed; both ends are Connected and accepted, and the client's is ready
abbrev pub accepting : ℕ → ℕ → List ℕ → CoreState → CoreState
accepting app port [] c = c
accepting app port (server ∷ rest) c =
    install app server (accept_client (peer_of (end_of c.objects server)) (end_changed (accepted_end false) server
    (port_changed (λ p. record p { pending = rest }) port c)))

-- whether `len` bytes from `offset` on are within the memory reference
abbrev pub is_within : Option MemoryRef → ℕ → ℕ → Bool
is_within memory offset len = nat_le (offset + len) (length (bytes_in memory))
