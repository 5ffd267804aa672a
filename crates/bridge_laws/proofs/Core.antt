-- What a connect of the bridge names, and a drop no more.
use Rattle.std.proofs.Common.{◌≡◌, ℕ, ◌++◌, ◌==◌, Bool, true, false, cond, not, List, [], ◌∷◌, Option, Some, None, refl, ap, ◌∙◌, subst}
use Rattle.std.specs.Prelude.{Result, Ok, Err, slice_get}
use Rattle.std.specs.List.{filter}
use Rattle.kernel_values.specs.declared.errno.Errno.{Errno}
use Rattle.kernel_values.specs.declared.errno.Errno.TheVariants as errno
use Rattle.kernel_values.specs.declared.state.Application.{Application}
use Rattle.kernel_values.specs.declared.state.Connector.TheVariants as connector
use Rattle.kernel_values.specs.declared.state.CoreState.{CoreState}
use Rattle.kernel_types.specs.Applications.{started}
use Rattle.kernel_types.specs.Bridge.{bridging, marked_if, ns_connect, ns_connect_by, ns_drop, unbridged}
use Rattle.kernel_types.specs.Connects.{Way, pending_pair, started_unless_running, waiting_client, way_of}
use Rattle.kernel_types.specs.Connects.Way.{to_nothing, to_port, to_start}
use Rattle.kernel_types.specs.Ports.{admits}
use Rattle.kernel_types.specs.Sweep.{sweep}
use Rattle.step_laws.proofs.BridgeLeaving.{marked_leaves}
use Rattle.step_laws.proofs.Leaving.{sweep_leaves}
use Rattle.step_laws.proofs.TurnLeaving.{started_left}

abbrev IfMade : CoreState → Result CoreState Errno → Type 0
IfMade c (Err e) = Unit {0}
IfMade c (Ok made) = made.bridged ≡ c.bridged ++ c.next ∷ []

unless_running_leaves : (place : ℕ) (o : Option Application) (c : CoreState) → (started_unless_running place o c).bridged ≡ c.bridged
unless_running_leaves place None c = refl
unless_running_leaves place (Some app) c =
    elim app.running as (λ b. (cond b c (started place c)).bridged ≡ c.bridged) [ true ↦ refl | false ↦ (started_left place c).bridged ]

way_names : (way : Way) (c : CoreState) (path : List ℕ) → IfMade c (ns_connect_by way c path)
way_names (to_port id port) c path =
    let made : CoreState = bridging c.next (pending_pair connector.NormalWorld id port c) in
    elim (not (admits port.flags connector.NormalWorld)) as (λ b. IfMade c (cond b (Err errno.AccessDenied) (Ok (sweep made)))) [ true ↦ tt | false ↦ (sweep_leaves made).bridged ]
way_names (to_start place start) c path =
    let client : CoreState = bridging c.next (waiting_client connector.NormalWorld path c) in
    let there : CoreState = started_unless_running place (slice_get c.apps place) client in
    elim (not (admits start connector.NormalWorld)) as (λ b. IfMade c (cond b (Err errno.AccessDenied) (Ok (sweep there))))
    [ true ↦ tt | false ↦ (sweep_leaves there).bridged ∙ unless_running_leaves place (slice_get c.apps place) client ]
way_names to_nothing c path = tt

made_names : (c made : CoreState) (r : Result CoreState Errno) → r ≡ Ok made → IfMade c r → made.bridged ≡ c.bridged ++ c.next ∷ []
made_names c made (Err e) is names = absurd (cc)
made_names c made (Ok other) is names = let same : other ≡ made = cc in subst (λ (x : CoreState). x.bridged ≡ c.bridged ++ c.next ∷ []) same names

pub connect_names : (c : CoreState) (path : List ℕ) (made : CoreState) → ns_connect c path ≡ Ok made → made.bridged ≡ c.bridged ++ c.next ∷ []
unfolding ns_connect
connect_names c path made is = made_names c made (ns_connect_by (way_of c path) c path) is (way_names (way_of c path) c path)

pub drop_names : (broken : Bool) (end : ℕ) (c : CoreState) → (ns_drop broken end c).bridged ≡ filter (λ other. not (other == end)) c.bridged
unfolding ns_drop
drop_names broken end c =
    (sweep_leaves (unbridged end (marked_if broken end c))).bridged ∙ ap (filter (λ other. not (other == end))) (marked_leaves c broken end).bridged
