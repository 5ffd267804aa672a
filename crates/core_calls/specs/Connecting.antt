-- How a connect is refused or goes through, by what is seen of its way.
use Rattle.std.specs.Prelude.{ℕ, List, Option, Some, None, if◌then◌else◌}
use Rattle.kernel_values.specs.declared.errno.Errno.{Errno}
use Rattle.kernel_values.specs.declared.errno.Errno.TheVariants as errno
use Rattle.kernel_values.specs.declared.flags.ConnectFlags.{ConnectFlags}
use Rattle.kernel_values.specs.declared.reply.Reply.TheVariants as reply
use Rattle.kernel_values.specs.declared.state.Connector.{Connector}
use Rattle.kernel_values.specs.declared.state.Connector.TheVariants as connector
use Rattle.kernel_values.specs.declared.state.CoreState.{CoreState}
use Rattle.kernel_types.specs.Connects.{Way, is_asynchronous, waits_for_port}
use Rattle.kernel_types.specs.Outcome.{Outcome, answers_waits, gives, refuses}
use Rattle.kernel_types.specs.Ports.{admits}
use Rattle.kernel_types.specs.Tables.{free_handle, is_full, table_of}
use Rattle.core_changes.specs.declared.looks.WayLook.{WayLook}
use Rattle.core_changes.specs.declared.looks.WayLook.TheVariants as seen
use Rattle.core_changes.specs.Changes.{connecting}
use Rattle.core_changes.specs.Looks.{look_of_way}

-- why the way lets a connect not go on, if so
abbrev pub refusal_by : WayLook → Connector → ConnectFlags → Option Errno
refusal_by (seen.ToPort port) client flags = (if admits port client then None else Some errno.AccessDenied)
refusal_by (seen.ToStart port) client flags = (if admits port client then None else Some errno.AccessDenied)
refusal_by seen.ToNothing client flags = (if waits_for_port flags then None else Some errno.NotFound)

-- the thread that waits for the decision, if one does
abbrev pub waiter_of : ConnectFlags → ℕ → Option ℕ
waiter_of flags thread = (if is_asynchronous flags then None else Some thread)

-- the answer is the end's number at once, or comes with the decision
abbrev pub answered_by : ConnectFlags → ℕ → CoreState → Outcome
answered_by flags handle c = (if is_asynchronous flags then gives (reply.Handle handle) c else answers_waits c)

abbrev pub unless : Option Errno → CoreState → Outcome → Outcome
unless None c outcome = outcome
unless (Some errno) c outcome = refuses errno c

-- a connect by a way that is seen, but not looked into
unfoldable pub connect_by_sight : Way → CoreState → ℕ → ℕ → List ℕ → ConnectFlags → Outcome
connect_by_sight way c thread app path flags =
    unless (refusal_by (look_of_way way) (connector.App app) flags) c
    (if is_full (table_of c app) then refuses errno.NoResources c
    else answered_by flags (free_handle (table_of c app)) (connecting way app path (waiter_of flags thread) c))
