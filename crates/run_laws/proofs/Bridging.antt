-- What the device does with the core keeps where every thread stands: a connect may start an application, and all else leaves threads and starts.
use Rattle.std.proofs.Common.{◌≡◌, ℕ, Bool, true, false, cond, List, not, Option, Some, None, refl, subst}
use Rattle.std.specs.Prelude.{slice_get, Result, Ok, Err}
use Rattle.std.specs.List.{fold}
use Rattle.kernel_values.specs.declared.entry.Entry.{Entry}
use Rattle.kernel_values.specs.declared.errno.Errno.{Errno}
use Rattle.kernel_values.specs.declared.state.Application.{Application}
use Rattle.kernel_values.specs.declared.state.Connector.TheVariants as connector
use Rattle.kernel_values.specs.declared.state.CoreState.{CoreState}
use Rattle.kernel_values.specs.declared.state.State.{State}
use Rattle.kernel_types.specs.Applications.{started}
use Rattle.kernel_types.specs.Bridge.{bridging, ns_connect, ns_connect_by, ns_drop, ns_push, ns_take}
use Rattle.kernel_types.specs.Connects.{Way, to_port, to_start, to_nothing, pending_pair, started_unless_running, waiting_client, way_of}
use Rattle.kernel_types.specs.Device.{DeviceStep, device_step, entry_dropped}
use Rattle.kernel_types.specs.Ports.{admits}
use Rattle.kernel_types.specs.Sweep.{sweep}
use Rattle.step_laws.proofs.Bridged.{DeviceKeeps, DeviceKeepsIf, OfDevice, device_keeps}
use Rattle.step_laws.proofs.BridgeLeaving.{drop_calm, drops_calm, push_leaves, take_leaves}
use Rattle.step_laws.proofs.Leaving.{Calm, calm_of}
use Rattle.run_laws.proofs.Places.{AllStand, quiet_stands, started_stands}
use Rattle.run_laws.proofs.Standings.{Standings}
use Rattle.run_laws.proofs.Stepping.{swept_stands}

-- what leaves threads and starts leaves where every thread stands
stay : (S : Standings) (entries : List Entry) (c d : CoreState) → Calm c d → AllStand S entries c → AllStand S entries d
stay S entries c d k all = quiet_stands S entries c d (record { threads = k.threads; starts = k.starts }) all

module _ (S : Standings) (entries : List Entry) where
  -- a connect

  served : (place : ℕ) (app : Option Application) (c : CoreState) → AllStand S entries c → AllStand S entries (started_unless_running place app c)
  served place None c all = all
  served place (Some app) c all =
      elim app.running as (λ b. AllStand S entries (cond b c (started place c))) [ true ↦ all | false ↦ started_stands S entries place c all ]

  abbrev StandIf : Result CoreState Errno → Type 0
  StandIf (Ok made) = AllStand S entries made
  StandIf (Err errno) = Unit {0}

  admitted : (b : Bool) (errno : Errno) (r : Result CoreState Errno) → StandIf r → StandIf (cond b (Err errno) r)
  admitted true errno r all = tt
  admitted false errno r all = all

  connect_by : (way : Way) (c : CoreState) (path : List ℕ) → AllStand S entries c → StandIf (ns_connect_by way c path)
  connect_by (to_port id port) c path all =
      let d : CoreState = bridging c.next (pending_pair connector.NormalWorld id port c) in
      admitted (not (admits port.flags connector.NormalWorld)) _ (Ok (sweep d)) (swept_stands S entries d (quiet_stands S entries c d (record { threads = refl; starts = refl }) all))
  connect_by (to_start place start) c path all =
      let d : CoreState = bridging c.next (waiting_client connector.NormalWorld path c) in
      let begun : CoreState = started_unless_running place (slice_get c.apps place) d in
      admitted (not (admits start connector.NormalWorld)) _ (Ok (sweep begun))
      (swept_stands S entries begun (served place (slice_get c.apps place) d (quiet_stands S entries c d (record { threads = refl; starts = refl }) all)))
  connect_by to_nothing c path all = tt

  connected : (c : CoreState) (path : List ℕ) (made : CoreState) → AllStand S entries c → ns_connect c path ≡ Ok made → AllStand S entries made
  unfolding ns_connect
  connected c path made all is = subst (λ (r : Result CoreState Errno). StandIf r) is (connect_by (way_of c path) c path all)

  of_device : (c : CoreState) → AllStand S entries c → OfDevice c
  of_device c all = record {
    holds = λ change. AllStand S entries change.core;
    left = all;
    connected = λ path made is. connected c path made all is;
    pushed = λ end bytes few. stay S entries c (ns_push c end bytes).core (calm_of c (ns_push c end bytes).core (push_leaves c end bytes)) all;
    taken = λ end. stay S entries c (ns_take c end).core (calm_of c (ns_take c end).core (take_leaves c end)) all;
    dropped = λ end. stay S entries c (ns_drop false end c) (drop_calm c false end) all;
    broke = λ gone. stay S entries c (fold entry_dropped c gone) (drops_calm c gone) all;
  }

  -- a step of the device keeps where every thread stands, and the clients
  pub device_stands : (s : State) (done : DeviceStep) → device_step s ≡ Some done → AllStand S entries s.core
      → AllStand S entries done.state.core × (done.state.world.clients ≡ s.world.clients)
  unfolding of_device
  device_stands s done is all =
      let K : OfDevice s.core = of_device s.core all in
      let keeps : DeviceKeeps s K done = subst (λ (o : Option DeviceStep). DeviceKeepsIf s K o) is (device_keeps s K) in
      (keeps.kept, keeps.clients)
