-- A connect depends on what is seen of its way.
use Rattle.std.proofs.Common.{◌≡◌, ℕ, Bool, true, false, not, List, Some, None, refl, ap, ◌∙◌}
use Rattle.std.specs.Prelude.{slice_get, if◌then◌else◌}
use Rattle.kernel_values.specs.declared.errno.Errno.{Errno}
use Rattle.kernel_values.specs.declared.errno.Errno.TheVariants as errno
use Rattle.kernel_values.specs.declared.flags.ConnectFlags.{ConnectFlags}
use Rattle.kernel_values.specs.declared.reply.Reply.TheVariants as reply
use Rattle.kernel_values.specs.declared.state.Connector.TheVariants as connector
use Rattle.kernel_values.specs.declared.state.CoreState.{CoreState}
use Rattle.kernel_values.specs.declared.state.WaitOn.TheVariants as wait_on
use Rattle.kernel_types.specs.Connects.{Way, and_started, connect_by, is_asynchronous, pending_pair, started_unless_running, waiting_client, waits_for_port}
use Rattle.kernel_types.specs.Connects.Way.{to_port, to_start, to_nothing}
use Rattle.kernel_types.specs.Outcome.{Outcome, answers_waits, gives, refuses}
use Rattle.kernel_types.specs.Ports.{admits}
use Rattle.kernel_types.specs.Tables.{free_handle, install, is_full, table_of}
use Rattle.kernel_types.specs.Threads.{waits_on}
use Rattle.core_changes.specs.Changes.{awaits_decision}
use Rattle.core_calls.specs.Connecting.{connect_by_sight, unless}

let_on : (c : CoreState) (b : Bool) (why : Errno) (o : Outcome) → (if not b then refuses why c else o) ≡ unless (if b then None else Some why) c o
let_on c true why o = refl
let_on c false why o = refl

-- the end, installed, and whoever waits for the decision
abbrev waited : Bool → ℕ → ℕ → ℕ → ℕ → CoreState → CoreState
waited b thread app end handle made = awaits_decision (if b then None else Some thread) end handle (install app end made)

goes : (thread app end handle : ℕ) (made : CoreState) (b : Bool)
    → (if b then gives (reply.Handle handle) (install app end made) else waits_on thread (wait_on.Connect end handle) None (install app end made))
    ≡ (if b then gives (reply.Handle handle) (waited b thread app end handle made) else answers_waits (waited b thread app end handle made))
goes thread app end handle made true = refl
goes thread app end handle made false = refl

abbrev serving : ℕ → CoreState → CoreState
serving place c = started_unless_running place (slice_get c.apps place) c

starts : (thread app end handle place : ℕ) (made : CoreState) (b : Bool)
    → and_started place (if b then gives (reply.Handle handle) (install app end made) else waits_on thread (wait_on.Connect end handle) None (install app end made))
    ≡ (if b then gives (reply.Handle handle) (serving place (waited b thread app end handle made)) else answers_waits (serving place (waited b thread app end handle made)))
starts thread app end handle place made true = refl
starts thread app end handle place made false = refl

pub seen : (way : Way) (c : CoreState) (thread app : ℕ) (path : List ℕ) (flags : ConnectFlags) → connect_by way c thread app path flags ≡ connect_by_sight way c thread app path flags
unfolding connect_by_sight
seen (to_port id port) c thread app path flags =
    let_on c (admits port.flags (connector.App app)) errno.AccessDenied _
    ∙ ap (λ (o : Outcome). unless (if admits port.flags (connector.App app) then None else Some errno.AccessDenied) c (if is_full (table_of c app) then refuses errno.NoResources c else o))
    (goes thread app c.next (free_handle (table_of c app)) (pending_pair (connector.App app) id port c) (is_asynchronous flags))
seen (to_start place start) c thread app path flags =
    let_on c (admits start (connector.App app)) errno.AccessDenied _
    ∙ ap (λ (o : Outcome). unless (if admits start (connector.App app) then None else Some errno.AccessDenied) c (if is_full (table_of c app) then refuses errno.NoResources c else o))
    (starts thread app c.next (free_handle (table_of c app)) place (waiting_client (connector.App app) path c) (is_asynchronous flags))
seen to_nothing c thread app path flags =
    let_on c (waits_for_port flags) errno.NotFound _
    ∙ ap (λ (o : Outcome). unless (if waits_for_port flags then None else Some errno.NotFound) c (if is_full (table_of c app) then refuses errno.NoResources c else o))
    (goes thread app c.next (free_handle (table_of c app)) (waiting_client (connector.App app) path c) (is_asynchronous flags))
