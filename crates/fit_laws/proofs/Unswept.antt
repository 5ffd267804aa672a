-- What each kind of step leaves before its sweep: there the objects fit, what is named is there, and chains of sets are short.
use Rattle.std.proofs.Common.{◌≡◌, ◌≤◌, ℕ, Bool, true, false, List, [], length, Option, Some, None, ap, subst}
use Rattle.std.specs.Prelude.{slice_get}
use Rattle.std.specs.List.{find}
use Rattle.kernel_values.specs.declared.call.Call.{Call}
use Rattle.kernel_values.specs.declared.flags.PortFlags.{PortFlags}
use Rattle.kernel_values.specs.declared.state.Activity.TheVariants as activity
use Rattle.kernel_values.specs.declared.state.ChannelEnd.{ChannelEnd}
use Rattle.kernel_values.specs.declared.state.Connector.TheVariants as connector
use Rattle.kernel_values.specs.declared.state.CoreState.{CoreState}
use Rattle.kernel_values.specs.declared.state.Port.{Port}
use Rattle.kernel_values.specs.declared.state.Thread.{Thread}
use Rattle.kernel_values.specs.declared.state.Wait.{Wait}
use Rattle.kernel_types.specs.Applications.{is_over}
use Rattle.kernel_types.specs.Bridge.{bridging, marked_if, unbridged}
use Rattle.kernel_types.specs.Connects.{pending_pair, started_unless_running, waiting_client, way_of}
use Rattle.kernel_types.specs.Connects.Way.{to_port, to_start}
use Rattle.kernel_types.specs.CoreStep.{act, core_idle}
use Rattle.kernel_types.specs.Events.{is_filled}
use Rattle.kernel_types.specs.Messages.{deliver, free_id, get_message, peer_end, put_from}
use Rattle.kernel_types.specs.Objects.{end_of}
use Rattle.kernel_types.specs.Outcome.{Outcome}
use Rattle.kernel_types.specs.Ports.{admits}
use Rattle.kernel_types.specs.Threads.{running_activity, with_activity}
use Rattle.kernel_types.specs.Waits.{end_of_wait}
use Rattle.step_laws.specs.Walks.CoreChange.{time_passed}
use Rattle.step_laws.proofs.Acting.{DoesIf, act_goes}
use Rattle.step_laws.proofs.Calls.{GoesIf, end_of_wait_goes}
use Rattle.step_laws.proofs.Outcomes.{Acts, Comes}
use Rattle.step_laws.proofs.Steps.{acted_walks, acting, delivered_walks, dropped_walks, ended_walks, from_here, none_yet, put_walks, to_port_walks, to_start_walks}
use Rattle.fit_laws.specs.Sweeps.{IsCountable}
use Rattle.fit_laws.proofs.Ready.{change_countable, row_countable}

-- a call of a thread that runs
pub called : (c : CoreState) → IsCountable c → (thread start : ℕ) (found : Thread) → slice_get c.threads thread ≡ Some found → found.activity ≡ activity.Running start
    → (asked : Call) (outcome : Outcome) → act c thread found.app asked ≡ Some outcome → IsCountable outcome.core
called c k thread start found there runs asked outcome is =
    let goes : is_over found.activity ≡ false = ap is_over runs in
    let does : Acts found.app thread asked c outcome =
    subst (λ (o : Option Outcome). DoesIf found.app thread c asked o) is (act_goes found.app thread c (acting c thread found there goes) c (none_yet (Some found.app) c) asked) in
    row_countable (Some asked) c outcome.core k (acted_walks c thread found there asked goes outcome does).row

-- a wait that ends
pub ended : (c : CoreState) → IsCountable c → (thread start : ℕ) (found : Thread) → slice_get c.threads thread ≡ Some found → (wait : Wait) → found.activity ≡ activity.Waiting start wait
    → (outcome : Outcome) → end_of_wait c found.app wait ≡ Some outcome → IsCountable (with_activity running_activity thread outcome.core)
ended c k thread start found there wait waits outcome is =
    let comes : Comes (Some found.app) false true c outcome =
    subst (λ (o : Option Outcome). GoesIf (Some found.app) c o) is (end_of_wait_goes found.app c c (none_yet (Some found.app) c) wait) in
    row_countable None c (with_activity running_activity thread outcome.core) k (ended_walks c thread found there start wait waits (ap is_over waits) outcome comes).row

-- time that passes
pub idled : (c : CoreState) → IsCountable c → (deadline : Option ℕ) → IsCountable (core_idle deadline c)
idled c k deadline = change_countable None c k (time_passed deadline)

-- What the bridge asks.

pub joined_port : (c : CoreState) → IsCountable c → (path : List ℕ) (id : ℕ) (port : Port) → way_of c path ≡ to_port id port → admits port.flags connector.NormalWorld ≡ true
    → IsCountable (bridging c.next (pending_pair connector.NormalWorld id port c))
joined_port c k path id port is lets = row_countable None c (bridging c.next (pending_pair connector.NormalWorld id port c)) k (to_port_walks c path id port is lets).row

pub joined_start : (c : CoreState) → IsCountable c → (path : List ℕ) (place : ℕ) (start : PortFlags) → way_of c path ≡ to_start place start
    → IsCountable (started_unless_running place (slice_get c.apps place) (bridging c.next (waiting_client connector.NormalWorld path c)))
joined_start c k path place start is =
    row_countable None c (started_unless_running place (slice_get c.apps place) (bridging c.next (waiting_client connector.NormalWorld path c))) k (to_start_walks c path place start is).row

pub delivered : (c : CoreState) → IsCountable c → (end : ℕ) (source : ChannelEnd) → end_of c.objects end ≡ Some source → (bytes : List ℕ) → length bytes ≤ source.size
    → IsCountable (deliver c end source.peer (peer_end c.objects source.peer) bytes []).core
delivered c k end source is bytes short =
    row_countable None c (deliver c end source.peer (peer_end c.objects source.peer) bytes []).core k (delivered_walks c end source is bytes short).row

pub taken : (c : CoreState) → IsCountable c → (id : ℕ) (end : ChannelEnd) → end_of c.objects id ≡ Some end
    → let got : Outcome = get_message c id end (find is_filled end.messages) in
    IsCountable (put_from got.core id (free_id end.messages) (end_of got.core.objects id)).core
taken c k id end is =
    let got : Outcome = get_message c id end (find is_filled end.messages) in
    row_countable None c (put_from got.core id (free_id end.messages) (end_of got.core.objects id)).core k (put_walks c id end is).row

pub dropped : (c : CoreState) → IsCountable c → (broken : Bool) (end : ℕ) → IsCountable (unbridged end (marked_if broken end c))
dropped c k broken end = row_countable None c (unbridged end (marked_if broken end c)) k (dropped_walks c c (from_here None c) broken end).row
