-- The ends that the bridge names: where no clients are beside the core, its steps leave them, and the calls of the bridge change
-- them as it asks.
use Rattle.std.proofs.Common.{◌≡◌, ℕ, ◌++◌, ◌==◌, Bool, true, false, cond, not, ◌&&◌, List, [], ◌∷◌, length, Option, Some, None, refl, sym, ◌∙◌, ap, subst}
use Rattle.std.specs.Prelude.{slice_get, Result, Ok, Err}
use Rattle.std.specs.List.{filter, find}
use Rattle.std.specs.Option.{option_map}
use Rattle.kernel_values.specs.declared.entry.Event.{Event}
use Rattle.kernel_values.specs.declared.entry.Event.TheVariants as event
use Rattle.kernel_values.specs.declared.errno.Errno.{Errno}
use Rattle.kernel_values.specs.declared.errno.Errno.TheVariants as errno
use Rattle.kernel_values.specs.declared.reply.Reply.TheVariants as reply
use Rattle.kernel_values.specs.declared.state.Application.{Application}
use Rattle.kernel_values.specs.declared.state.ChannelEnd.{ChannelEnd}
use Rattle.kernel_values.specs.declared.state.Connector.TheVariants as connector
use Rattle.kernel_values.specs.declared.state.CoreState.{CoreState}
use Rattle.kernel_values.specs.declared.state.Message.{Message}
use Rattle.kernel_values.specs.declared.state.State.{State}
use Rattle.kernel_values.specs.declared.world.World.{World}
use Rattle.kernel_types.specs.Applications.{started}
use Rattle.kernel_types.specs.Bridge.{bridging, marked_if, ns_connect, ns_connect_by, ns_drop, ns_push, ns_take, peer_marked, push_from, take_from, unbridged}
use Rattle.kernel_types.specs.Clients.{Acted}
use Rattle.kernel_types.specs.Connects.{Way, peer_of, pending_pair, started_unless_running, waiting_client, way_of}
use Rattle.kernel_types.specs.Connects.Way.{to_nothing, to_port, to_start}
use Rattle.kernel_types.specs.CoreStep.{core_begin, core_idle, core_resume}
use Rattle.kernel_types.specs.Device.{DeviceStep, device_step, due_of, has_device, step_by_due}
use Rattle.kernel_types.specs.Events.{is_disconnected, is_filled}
use Rattle.kernel_types.specs.Messages.{blocked_end, deliver, free_id, get_message, is_full_end, is_opened_as, peer_end, peer_unblocked, put_from, put_message, with_message, without_opened}
use Rattle.kernel_types.specs.Objects.{end_changed, end_of}
use Rattle.kernel_types.specs.Outcome.{Outcome, gives_with, refuses, sent_seq}
use Rattle.kernel_types.specs.Ports.{admits}
use Rattle.kernel_types.specs.Step.{Stepped, beside_core, client_begin, client_number, client_resume, device_stepped, step, idle, idle_lawful, in_world, is_thread, next_deadline}
use Rattle.kernel_types.specs.Sweep.{sweep}
use Rattle.step_laws.proofs.BridgeLeaving.{marked_leaves, push_leaves, take_leaves}
use Rattle.step_laws.proofs.Leaving.{sweep_leaves}
use Rattle.step_laws.proofs.TurnLeaving.{LeftIf, begin_leaves, idle_leaves, resume_leaves, started_left}

abbrev IfNames : List ℕ → Option Stepped → Type 0
IfNames ends None = Unit {0}
IfNames ends (Some stepped) = stepped.state.core.bridged ≡ ends

-- A step of a core that has no clients beside it.

thread_names : (c : CoreState) (world : World) (o : Option Outcome) → LeftIf c o → IfNames c.bridged (option_map (in_world world) o)
thread_names c world None left = tt
thread_names c world (Some outcome) left = left.bridged

client_names : (c : CoreState) (o : Option Acted) → IfNames c.bridged (option_map (beside_core c) o)
client_names c None = tt
client_names c (Some acted) = refl

device_names : (s : State) → s.world.clients ≡ [] → IfNames s.core.bridged (option_map device_stepped (device_step s))
unfolding device_step
device_names s none =
    let found : Option DeviceStep = step_by_due s (due_of s.core s.world.device) in
    let off : has_device s.world.clients ≡ false = ap has_device none in
    subst (λ b. IfNames s.core.bridged (option_map device_stepped (cond (b && not s.world.device.broken) found None))) (sym off) tt

step_names : (s : State) → s.world.clients ≡ [] → (ev : Event) → IfNames s.core.bridged (step s ev)
unfolding step
step_names s none (event.Begin actor start asked) =
    let one : Option Outcome = core_begin s.core actor.0 start asked in
    let other : Option Acted = client_begin s (client_number s actor.0) start asked in
    elim (is_thread s actor.0) as (λ b. IfNames s.core.bridged (cond b (option_map (in_world s.world) one) (option_map (beside_core s.core) other))) [
      | true ↦ thread_names s.core s.world one (begin_leaves s.core actor.0 start asked)
      | false ↦ client_names s.core other
    ]
step_names s none (event.Resume actor start) =
    let one : Option Outcome = core_resume s.core actor.0 start in
    let other : Option Acted = client_resume s (client_number s actor.0) start in
    elim (is_thread s actor.0) as (λ b. IfNames s.core.bridged (cond b (option_map (in_world s.world) one) (option_map (beside_core s.core) other))) [
      | true ↦ thread_names s.core s.world one (resume_leaves s.core actor.0 start)
      | false ↦ client_names s.core other
    ]
step_names s none event.Device = device_names s none
step_names s none event.Idle =
    elim (idle_lawful s) as (λ b. IfNames s.core.bridged (cond b (Some (idle s)) None)) [
      | true ↦ (sweep_leaves (core_idle (next_deadline s) s.core)).bridged ∙ idle_leaves s.core (next_deadline s)
      | false ↦ tt
    ]

stepped_names : (ends : List ℕ) (o : Option Stepped) (r : Stepped) → o ≡ Some r → IfNames ends o → r.state.core.bridged ≡ ends
stepped_names ends None r is names = absurd (cc)
stepped_names ends (Some stepped) r is names =
    let same : stepped ≡ r = cc in
    subst (λ (x : Stepped). x.state.core.bridged ≡ ends) same names

pub steps_keep_bridge : (s : State) (e : Event) (r : Stepped) → s.world.clients ≡ [] → step s e ≡ Some r → r.state.core.bridged ≡ s.core.bridged
steps_keep_bridge s e r none is = stepped_names s.core.bridged (step s e) r is (step_names s none e)

-- What the calls of the bridge make of the ends that it names.

abbrev IfMade : CoreState → Result CoreState Errno → Type 0
IfMade c (Ok made) = made.bridged ≡ c.bridged ++ c.next ∷ []
IfMade c (Err errno) = Unit {0}

unless_running_names : (place : ℕ) (o : Option Application) (c : CoreState) → (started_unless_running place o c).bridged ≡ c.bridged
unless_running_names place None c = refl
unless_running_names place (Some app) c = elim app.running as (λ b. (cond b c (started place c)).bridged ≡ c.bridged) [ true ↦ refl | false ↦ (started_left place c).bridged ]

connected_by : (c : CoreState) (path : List ℕ) (way : Way) → IfMade c (ns_connect_by way c path)
connected_by c path (to_port id port) =
    let made : CoreState = bridging c.next (pending_pair connector.NormalWorld id port c) in
    elim (not (admits port.flags connector.NormalWorld)) as (λ b. IfMade c (cond b (Err errno.AccessDenied) (Ok (sweep made)))) [ true ↦ tt | false ↦ (sweep_leaves made).bridged ]
connected_by c path (to_start place start) =
    let made : CoreState = bridging c.next (waiting_client connector.NormalWorld path c) in
    let there : CoreState = started_unless_running place (slice_get c.apps place) made in
    elim (not (admits start connector.NormalWorld)) as (λ b. IfMade c (cond b (Err errno.AccessDenied) (Ok (sweep there)))) [
      | true ↦ tt
      | false ↦ (sweep_leaves there).bridged ∙ unless_running_names place (slice_get c.apps place) made
    ]
connected_by c path to_nothing = tt

connected_if : (c : CoreState) (path : List ℕ) → IfMade c (ns_connect c path)
unfolding ns_connect
connected_if c path = connected_by c path (way_of c path)

-- a connect adds the new end
pub connect_names : (c : CoreState) (path : List ℕ) (made : CoreState) → ns_connect c path ≡ Ok made → made.bridged ≡ c.bridged ++ c.next ∷ []
connect_names c path made is = subst (IfMade c) is (connected_if c path)

-- a message that goes changes none
pub push_names : (c : CoreState) (end : ℕ) (bytes : List ℕ) → (ns_push c end bytes).core.bridged ≡ c.bridged
push_names c end bytes = (push_leaves c end bytes).bridged

-- nor does one that came
pub take_names : (c : CoreState) (end : ℕ) → (ns_take c end).core.bridged ≡ c.bridged
take_names c end = (take_leaves c end).bridged

-- a drop takes one end away
pub drop_names : (broken : Bool) (end : ℕ) (c : CoreState) → (ns_drop broken end c).bridged ≡ filter (λ other. not (other == end)) c.bridged
unfolding ns_drop
drop_names broken end c =
    (sweep_leaves (unbridged end (marked_if broken end c))).bridged ∙ ap (filter (λ other. not (other == end))) (marked_leaves c broken end).bridged

-- time changes none
pub idle_names : (c : CoreState) (deadline : Option ℕ) → (sweep (core_idle deadline c)).bridged ≡ c.bridged
idle_names c deadline = (sweep_leaves (core_idle deadline c)).bridged ∙ idle_leaves c deadline
