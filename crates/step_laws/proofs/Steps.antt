-- Every step of the kernel is a row of changes of its core, with the sweep last.
use Rattle.std.proofs.Common.{◌≡◌, ◌≤◌, ℕ, ◌++◌, ◌==◌, Bool, true, false, cond, not, List, [], ◌∷◌, length, Option, Some, None, refl, ap, sym, subst, ◌∙◌}
use Rattle.std.specs.Prelude.{if◌then◌else◌, slice_get, Result, Ok, Err}
use Rattle.std.specs.List.{find, fold}
use Rattle.std.specs.Option.{option_map}
use Rattle.kernel_values.specs.declared.call.Call.{Call}
use Rattle.kernel_values.specs.declared.entry.Event.{Event}
use Rattle.kernel_values.specs.declared.entry.Event.TheVariants as event
use Rattle.kernel_values.specs.declared.entry.Seqs.{Seqs}
use Rattle.kernel_values.specs.declared.errno.Errno.{Errno}
use Rattle.kernel_values.specs.declared.errno.Errno.TheVariants as errno
use Rattle.kernel_values.specs.declared.flags.PortFlags.{PortFlags}
use Rattle.kernel_values.specs.declared.reply.Answer.{Answer}
use Rattle.kernel_values.specs.declared.state.Activity.{Activity}
use Rattle.kernel_values.specs.declared.state.Activity.TheVariants as activity
use Rattle.kernel_values.specs.declared.state.Application.{Application}
use Rattle.kernel_values.specs.declared.state.ChannelEnd.{ChannelEnd}
use Rattle.kernel_values.specs.declared.state.Connector.TheVariants as connector
use Rattle.kernel_values.specs.declared.state.CoreState.{CoreState}
use Rattle.kernel_values.specs.declared.state.Message.{Message}
use Rattle.kernel_values.specs.declared.state.Port.{Port}
use Rattle.kernel_values.specs.declared.state.State.{State}
use Rattle.kernel_values.specs.declared.state.Thread.{Thread}
use Rattle.kernel_values.specs.declared.state.Wait.{Wait}
use Rattle.kernel_values.specs.declared.world.BridgeEntry.{BridgeEntry}
use Rattle.kernel_values.specs.declared.world.World.{World}
use Rattle.kernel_types.specs.Applications.{is_over, started}
use Rattle.kernel_types.specs.Bridge.{bridging, marked_if, ns_connect, ns_connect_by, ns_drop, ns_push, ns_take, ns_view, peer_marked, push_from, take_from, unbridged, view_of}
use Rattle.kernel_types.specs.Clients.{Acted}
use Rattle.kernel_types.specs.Connects.{Way, peer_of, pending_pair, started_unless_running, waiting_client, way_of}
use Rattle.kernel_types.specs.Connects.Way.{to_port, to_start, to_nothing}
use Rattle.kernel_types.specs.CoreStep.{act, begin_as, begin_of, core_begin, core_idle, core_resume, resume_as, resume_of, resumed, swept}
use Rattle.kernel_types.specs.Device.{DeviceStep, device_step, entry_dropped}
use Rattle.kernel_types.specs.Events.{is_filled}
use Rattle.kernel_types.specs.Messages.{deliver, free_id, get_message, peer_end, put_from}
use Rattle.kernel_types.specs.Objects.{end_of}
use Rattle.kernel_types.specs.Outcome.{Outcome, no_seqs}
use Rattle.kernel_types.specs.Ports.{admits}
use Rattle.kernel_types.specs.Step.{Stepped, beside_core, client_begin, client_number, client_resume, device_stepped, step, idle, idle_lawful, in_world, is_thread, next_deadline}
use Rattle.kernel_types.specs.Sweep.{sweep}
use Rattle.kernel_types.specs.Threads.{running_activity, with_activity}
use Rattle.kernel_types.specs.Waits.{end_of_wait}
use Rattle.step_laws.specs.SmallChanges.{Move, SmallChange, after, is_of_bridge, is_to_port, moves}
use Rattle.step_laws.specs.SmallChanges.Carries.{no_parts}
use Rattle.step_laws.specs.SmallChanges.Mark.{mark_error}
use Rattle.step_laws.specs.SmallChanges.SmallChange.{client_made, end_marked, pair_made}
use Rattle.step_laws.specs.Walks.{asked_by, CoreChange, CoreWalk, IsWalk, MadeBy, Row, SmallRow, SmallWalk, ThreadChange, after_core, after_thread, core_moves, moves_of, told_by}
use Rattle.step_laws.specs.Walks.CoreChange.{app_served, by_call, by_small, end_bridged, end_unbridged, objects_swept, time_passed, wait_over}
use Rattle.step_laws.specs.Walks.EndsSwept.{as_before, swept_last}
use Rattle.step_laws.specs.Walks.MadeBy.{by_bridge, by_thread}
use Rattle.step_laws.specs.Walks.Row.{goes_on, stays}
use Rattle.step_laws.proofs.Acting.{DoesIf, act_goes}
use Rattle.step_laws.proofs.Bridged.{DeviceKeepsIf, OfDevice, device_keeps}
use Rattle.step_laws.proofs.Calls.{GoesIf, deliver_goes, end_of_wait_goes, get_message_goes, get_message_seqs, not_false, only_opened, put_from_told}
use Rattle.step_laws.proofs.Leaving.{row_leaves}
use Rattle.step_laws.proofs.Outcomes.{Acts, Comes}
use Rattle.step_laws.proofs.Rows.{no_change, one_more}
use Rattle.step_laws.proofs.There.{bridge_pair_made, client_made_so}

-- Rows of one kind within rows of changes of the core.

pub further : {asked : Option Call} {told : List Move} (s c : CoreState) → CoreWalk asked s told c → (change : CoreChange asked c) → core_moves asked c change ≡ [] → CoreWalk asked s told (after_core asked c change)
further {asked} s c k change still = one_more (CoreChange asked) (after_core asked) (core_moves asked) s c k change still

pub from_here : (asked : Option Call) (c : CoreState) → CoreWalk asked c [] c
from_here asked c = no_change (CoreChange asked) (after_core asked) (core_moves asked) c

pub none_yet : (by : Option ℕ) (c : CoreState) → SmallWalk by c [] c
none_yet by c = no_change (SmallChange by) (after by) (moves by) c

-- small changes leave the threads, so whoever makes the first makes them all
module _ (asked : Option Call) (by : Option ℕ) (s c : CoreState) (who : (b : CoreState) → b.threads ≡ c.threads → MadeBy by b) where
  row_walks : (d : CoreState) → CoreWalk asked s [] c → (row : SmallRow by c d) → CoreWalk asked s (told_by (SmallChange by) (after by) (moves by) c d row) d
  row_walks d k (stays _ is) = subst (λ (x : CoreState). CoreWalk asked s [] x) (sym is) k
  row_walks d k (goes_on _ b row change is) =
      let old : CoreWalk asked s (told_by (SmallChange by) (after by) (moves by) c b row) b = row_walks b k row in
      record {
        row = goes_on d b old.row (by_small by (who b (row_leaves by c b row).threads) change) is;
        tells = ap (λ (us : List Move). moves by b change ++ us) old.tells;
      }

  pub small_walks : {told : List Move} (d : CoreState) → CoreWalk asked s [] c → SmallWalk by c told d → CoreWalk asked s told d
  small_walks d k small = subst (λ (us : List Move). CoreWalk asked s us d) small.tells (row_walks d k small.row)

threads_walk : {told : List Move} (app thread : ℕ) (asked : Call) (said : Answer) (s c d : CoreState) → CoreWalk (Some asked) s told c
    → Row (ThreadChange app thread asked said) (after_thread app thread asked said) c d → CoreWalk (Some asked) s told d
threads_walk {told} app thread asked said s c d k (stays _ is) = subst (λ (x : CoreState). CoreWalk (Some asked) s told x) (sym is) k
threads_walk {told} app thread asked said s c d k (goes_on _ b row change is) =
    subst (λ (x : CoreState). CoreWalk (Some asked) s told x) (sym is)
    (further s b (threads_walk app thread asked said s c b k row) (by_call app thread asked said refl change) refl)

-- Steps of threads.

abbrev pub WalkedIf : Option Call → CoreState → Option Outcome → Type 0
WalkedIf asked c None = Unit {0}
WalkedIf asked c (Some outcome) = IsWalk asked c outcome.seqs outcome.core

-- a thread that has not ended makes changes as long as it stays as it is
pub acting : (c : CoreState) (thread : ℕ) (found : Thread) → slice_get c.threads thread ≡ Some found → is_over found.activity ≡ false → (b : CoreState) → b.threads ≡ c.threads
    → MadeBy (Some found.app) b
acting c thread found there goes b same = by_thread thread found (ap (λ (l : List Thread). slice_get l thread) same ∙ there) refl goes

module _ (c : CoreState) (thread : ℕ) (found : Thread) (there : slice_get c.threads thread ≡ Some found) where
  -- the state that a call leaves before the sweep
  pub acted_walks : (asked : Call) → is_over found.activity ≡ false → (outcome : Outcome) → Acts found.app thread asked c outcome → CoreWalk (Some asked) c (moves_of outcome.seqs) outcome.core
  acted_walks asked goes outcome does =
      let small : CoreWalk (Some asked) c (moves_of outcome.seqs) does.middle = small_walks (Some asked) (Some found.app) c c (acting c thread found there goes) does.middle (from_here (Some asked) c) does.walk in
      threads_walk found.app thread asked outcome.answer c does.middle outcome.core small does.changes

  -- the state that the end of a wait leaves before the sweep
  pub ended_walks : (start : ℕ) (wait : Wait) → found.activity ≡ activity.Waiting start wait → is_over found.activity ≡ false → (outcome : Outcome) → Comes (Some found.app) false true c outcome
      → CoreWalk None c (moves_of outcome.seqs) (with_activity running_activity thread outcome.core)
  ended_walks start wait waited goes outcome comes =
      let small : CoreWalk None c (moves_of outcome.seqs) outcome.core = small_walks None (Some found.app) c c (acting c thread found there goes) outcome.core (from_here None c) comes.walk in
      let still : outcome.core.threads ≡ c.threads = (row_leaves (Some found.app) c outcome.core comes.walk.row).threads in
      further c outcome.core small (wait_over thread start found wait (ap (λ (l : List Thread). slice_get l thread) still ∙ there) waited) refl

  swept_walks : (asked : Call) (goes : is_over found.activity ≡ false) → (o : Option Outcome) → DoesIf found.app thread c asked o → WalkedIf (Some asked) c (option_map swept o)
  swept_walks asked goes None does = tt
  swept_walks asked goes (Some outcome) does = record { walk = further c outcome.core (acted_walks asked goes outcome does) objects_swept refl; ends = swept_last outcome.core refl }

  resumed_walks : (start : ℕ) (wait : Wait) → found.activity ≡ activity.Waiting start wait → is_over found.activity ≡ false → (o : Option Outcome) → GoesIf (Some found.app) c o
      → WalkedIf None c (option_map (resumed thread) o)
  resumed_walks start wait waited goes None comes = tt
  resumed_walks start wait waited goes (Some outcome) comes =
      let runs : CoreState = with_activity running_activity thread outcome.core in
      record { walk = further c runs (ended_walks start wait waited goes outcome comes) objects_swept refl; ends = swept_last runs refl }

  walked_if : (asked : Option Call) (b : Bool) (o : Option Outcome) → WalkedIf asked c o → WalkedIf asked c (if b then o else None)
  walked_if asked true o walked = walked
  walked_if asked false o walked = tt

  begin_as_walks : (start : ℕ) (asked : Call) (a : Activity) → found.activity ≡ a → WalkedIf (Some asked) c (begin_as c thread start asked found.app a)
  begin_as_walks start asked (activity.Running running) is =
      walked_if (Some asked) (running == start) (option_map swept (act c thread found.app asked))
      (swept_walks asked (ap is_over is) (act c thread found.app asked) (act_goes found.app thread c (acting c thread found there (ap is_over is)) c (none_yet (Some found.app) c) asked))
  begin_as_walks start asked activity.Off is = tt
  begin_as_walks start asked (activity.Waiting since wait) is = tt
  begin_as_walks start asked (activity.Ended since) is = tt

  resume_as_walks : (start : ℕ) (a : Activity) → found.activity ≡ a → WalkedIf None c (resume_as c thread start found.app a)
  resume_as_walks start (activity.Waiting since wait) is =
      walked_if None (since == start) (option_map (resumed thread) (end_of_wait c found.app wait))
      (resumed_walks since wait is (ap is_over is) (end_of_wait c found.app wait) (end_of_wait_goes found.app c c (none_yet (Some found.app) c) wait))
  resume_as_walks start activity.Off is = tt
  resume_as_walks start (activity.Running since) is = tt
  resume_as_walks start (activity.Ended since) is = tt

begin_of_walks : (c : CoreState) (thread start : ℕ) (asked : Call) (o : Option Thread) → slice_get c.threads thread ≡ o → WalkedIf (Some asked) c (begin_of c thread start asked o)
begin_of_walks c thread start asked None is = tt
begin_of_walks c thread start asked (Some found) is = begin_as_walks c thread found is start asked found.activity refl

pub begin_walks : (c : CoreState) (thread start : ℕ) (asked : Call) → WalkedIf (Some asked) c (core_begin c thread start asked)
unfolding core_begin
begin_walks c thread start asked = begin_of_walks c thread start asked (slice_get c.threads thread) refl

resume_of_walks : (c : CoreState) (thread start : ℕ) (o : Option Thread) → slice_get c.threads thread ≡ o → WalkedIf None c (resume_of c thread start o)
resume_of_walks c thread start None is = tt
resume_of_walks c thread start (Some found) is = resume_as_walks c thread found is start found.activity refl

pub resume_walks : (c : CoreState) (thread start : ℕ) → WalkedIf None c (core_resume c thread start)
unfolding core_resume
resume_walks c thread start = resume_of_walks c thread start (slice_get c.threads thread) refl

-- What the bridge asks of the core: a row of changes, with the sweep last, or nothing.

by_itself : (c b : CoreState) → b.threads ≡ c.threads → MadeBy None b
by_itself c b same = by_bridge refl

bridge_walks : {told : List Move} (s c d : CoreState) → CoreWalk None s [] c → SmallWalk None c told d → CoreWalk None s told d
bridge_walks s c d k small = small_walks None None s c (by_itself c) d k small

by_bridge_one : (s c : CoreState) → CoreWalk None s [] c → (change : SmallChange None c) → moves None c change ≡ [] → CoreWalk None s [] (after None c change)
by_bridge_one s c k change still = further s c k (by_small None (by_bridge refl) change) still

swept_so : {seqs : Seqs} (c d : CoreState) → CoreWalk None c (moves_of seqs) d → IsWalk None c seqs (sweep d)
swept_so c d k = record { walk = further c d k objects_swept refl; ends = swept_last d refl }

pub stays_so : (asked : Option Call) (c : CoreState) → IsWalk asked c no_seqs c
stays_so asked c = record { walk = from_here asked c; ends = as_before refl }

abbrev pub MadeWalks : CoreState → Result CoreState Errno → Type 0
MadeWalks c (Err e) = Unit {0}
MadeWalks c (Ok made) = IsWalk None c no_seqs made

module _ (c : CoreState) where
  made_unless : (b : Bool) (e : Errno) (r : Result CoreState Errno) → (b ≡ false → MadeWalks c r) → MadeWalks c (if b then Err e else r)
  made_unless true e r walks = tt
  made_unless false e r walks = walks refl

  start_walks : (d : CoreState) → CoreWalk None c [] d → (place : ℕ) (o : Option Application) → slice_get d.apps place ≡ o → CoreWalk None c [] (started_unless_running place o d)
  start_walks d k place None is = k
  start_walks d k place (Some was) is =
      let P : Bool → Type 0 = λ b. was.running ≡ b → CoreWalk None c [] (cond b d (started place d)) in
      let go : (b : Bool) → P b = λ b. elim b as (λ v. P v) [ true ↦ (λ runs. k) | false ↦ (λ still. further c d k (app_served place was is still) refl) ] in
      go was.running refl

  -- what a connect of the normal world leaves before the sweep, by its way
  pub to_port_walks : (path : List ℕ) (id : ℕ) (port : Port) → way_of c path ≡ to_port id port → admits port.flags connector.NormalWorld ≡ true
      → CoreWalk None c [] (bridging c.next (pending_pair connector.NormalWorld id port c))
  to_port_walks path id port is lets =
      let made : CoreState = pending_pair connector.NormalWorld id port c in
      let pair : CoreWalk None c [] made = by_bridge_one c c (from_here None c) (pair_made connector.NormalWorld path id port is lets) refl in
      further c made pair (end_bridged c.next (bridge_pair_made id port c)) refl

  pub to_start_walks : (path : List ℕ) (place : ℕ) (start : PortFlags) → way_of c path ≡ to_start place start
      → CoreWalk None c [] (started_unless_running place (slice_get c.apps place) (bridging c.next (waiting_client connector.NormalWorld path c)))
  to_start_walks path place start is =
      let made : CoreState = waiting_client connector.NormalWorld path c in
      let client : CoreWalk None c [] made = by_bridge_one c c (from_here None c) (client_made connector.NormalWorld path (ap is_to_port is)) refl in
      let named : CoreWalk None c [] (bridging c.next made) = further c made client (end_bridged c.next (client_made_so is_of_bridge connector.NormalWorld path c refl)) refl in
      start_walks (bridging c.next made) named place (slice_get c.apps place) refl

  way_walks : (way : Way) (path : List ℕ) → way_of c path ≡ way → MadeWalks c (ns_connect_by way c path)
  way_walks (to_port id port) path is =
      made_unless (not (admits port.flags connector.NormalWorld)) errno.AccessDenied _ (λ lets.
      swept_so c (bridging c.next (pending_pair connector.NormalWorld id port c)) (to_port_walks path id port is (not_false (admits port.flags connector.NormalWorld) lets)))
  way_walks (to_start place start) path is =
      made_unless (not (admits start connector.NormalWorld)) errno.AccessDenied _ (λ lets.
      swept_so c (started_unless_running place (slice_get c.apps place) (bridging c.next (waiting_client connector.NormalWorld path c))) (to_start_walks path place start is))
  way_walks to_nothing path is = tt

  pub ns_connect_walks : (path : List ℕ) → MadeWalks c (ns_connect c path)
  unfolding ns_connect
  ns_connect_walks path = way_walks (way_of c path) path refl

  pub made_walks : (r : Result CoreState Errno) (made : CoreState) → MadeWalks c r → r ≡ Ok made → IsWalk None c no_seqs made
  made_walks (Err e) made walks is = absurd (cc)
  made_walks (Ok other) made walks is = let same : other ≡ made = cc in subst (λ (d : CoreState). IsWalk None c no_seqs d) same walks

  -- what a push leaves before the sweep
  pub delivered_walks : (end : ℕ) (source : ChannelEnd) → end_of c.objects end ≡ Some source → (bytes : List ℕ) → length bytes ≤ source.size
      → CoreWalk None c (moves_of (deliver c end source.peer (peer_end c.objects source.peer) bytes []).seqs) (deliver c end source.peer (peer_end c.objects source.peer) bytes []).core
  delivered_walks end source is bytes short =
      let outcome : Outcome = deliver c end source.peer (peer_end c.objects source.peer) bytes [] in
      let goes : Comes None false false c outcome = deliver_goes None c c (none_yet None c) end source is bytes [] short (no_parts refl) source.peer refl (peer_end c.objects source.peer) refl in
      bridge_walks c c outcome.core (from_here None c) goes.walk

  push_walks : (end : ℕ) (bytes : List ℕ) (o : Option ChannelEnd) → end_of c.objects end ≡ o → length bytes ≤ (view_of c o).size
      → IsWalk None c (push_from c end bytes o).seqs (push_from c end bytes o).core
  push_walks end bytes None is short = stays_so None c
  push_walks end bytes (Some source) is short = swept_so c (deliver c end source.peer (peer_end c.objects source.peer) bytes []).core (delivered_walks end source is bytes short)

  pub ns_push_walks : (end : ℕ) (bytes : List ℕ) → length bytes ≤ (ns_view c end).size → IsWalk None c (ns_push c end bytes).seqs (ns_push c end bytes).core
  unfolding ns_push ns_view
  ns_push_walks end bytes short = push_walks end bytes (end_of c.objects end) refl short

  -- what opening and retiring the oldest filled message leaves before the sweep
  pub put_walks : (id : ℕ) (end : ChannelEnd) → end_of c.objects id ≡ Some end
      → let got : Outcome = get_message c id end (find is_filled end.messages) in
      let last : Outcome = put_from got.core id (free_id end.messages) (end_of got.core.objects id) in
      CoreWalk None c (moves_of (record { sent = None; opened = got.seqs.opened; retired = last.seqs.retired })) last.core
  put_walks id end is =
      let first : Option Message = find is_filled end.messages in
      let got : Outcome = get_message c id end first in
      let opens : Comes None false false c got = get_message_goes None c c (none_yet None c) id end is first refl in
      let so_far : SmallWalk None c (moves_of (only_opened got.seqs.opened)) got.core = subst (λ (q : Seqs). SmallWalk None c (moves_of q) got.core) (get_message_seqs c id end first) opens.walk in
      let last : Outcome = put_from got.core id (free_id end.messages) (end_of got.core.objects id) in
      bridge_walks c c last.core (from_here None c) (put_from_told None c got.seqs.opened got.core so_far id (free_id end.messages) (end_of got.core.objects id) refl)

  take_walks : (id : ℕ) (o : Option ChannelEnd) → end_of c.objects id ≡ o → IsWalk None c (take_from c id o).seqs (take_from c id o).core
  take_walks id None is = stays_so None c
  take_walks id (Some end) is =
      let got : Outcome = get_message c id end (find is_filled end.messages) in
      let last : Outcome = put_from got.core id (free_id end.messages) (end_of got.core.objects id) in
      swept_so c last.core (put_walks id end is)

  pub ns_take_walks : (id : ℕ) → IsWalk None c (ns_take c id).seqs (ns_take c id).core
  unfolding ns_take
  ns_take_walks id = take_walks id (end_of c.objects id) refl

module _ (s : CoreState) where
  peer_marked_walks : (c : CoreState) → CoreWalk None s [] c → (peer : Option ℕ) → CoreWalk None s [] (peer_marked peer c)
  peer_marked_walks c k None = k
  peer_marked_walks c k (Some peer) = by_bridge_one s c k (end_marked mark_error peer) refl

  marked_walks : (c : CoreState) → CoreWalk None s [] c → (broken : Bool) (end : ℕ) → CoreWalk None s [] (marked_if broken end c)
  marked_walks c k true end = peer_marked_walks c k (peer_of (end_of c.objects end))
  marked_walks c k false end = k

  -- what a drop leaves before the sweep
  pub dropped_walks : (c : CoreState) → CoreWalk None s [] c → (broken : Bool) (end : ℕ) → CoreWalk None s [] (unbridged end (marked_if broken end c))
  dropped_walks c k broken end = further s (marked_if broken end c) (marked_walks c k broken end) (end_unbridged end) refl

  pub ns_drop_walks : (c : CoreState) → CoreWalk None s [] c → (broken : Bool) (end : ℕ) → IsWalk None s no_seqs (ns_drop broken end c)
  unfolding ns_drop
  ns_drop_walks c k broken end = swept_so s (unbridged end (marked_if broken end c)) (dropped_walks c k broken end)

  all_dropped_walk : (c : CoreState) → IsWalk None s no_seqs c → (entries : List BridgeEntry) → IsWalk None s no_seqs (fold entry_dropped c entries)
  all_dropped_walk c k [] = k
  all_dropped_walk c k (entry ∷ entries) = all_dropped_walk (ns_drop true entry.end c) (ns_drop_walks c k.walk true entry.end) entries

-- time passes
pub idled_walks : (c : CoreState) (deadline : Option ℕ) → IsWalk None c no_seqs (sweep (core_idle deadline c))
idled_walks c deadline = swept_so c (core_idle deadline c) (further c c (from_here None c) (time_passed deadline) refl)

-- what the device does to the core
of_device : (c : CoreState) → OfDevice c
of_device c = record {
  holds = λ change. IsWalk None c change.seqs change.core;
  left = stays_so None c;
  connected = λ path made is. made_walks c (ns_connect c path) made (ns_connect_walks c path) is;
  pushed = λ end bytes few. ns_push_walks c end bytes few;
  taken = λ end. ns_take_walks c end;
  dropped = λ end. ns_drop_walks c c (from_here None c) false end;
  broke = λ entries. all_dropped_walk c c (stays_so None c) entries;
}

-- Steps.

abbrev pub StepWalks : Option Call → CoreState → Option Stepped → Type 0
StepWalks asked c None = Unit {0}
StepWalks asked c (Some stepped) = IsWalk asked c stepped.seqs stepped.state.core

in_world_walks : (asked : Option Call) (c : CoreState) (world : World) (o : Option Outcome) → WalkedIf asked c o → StepWalks asked c (option_map (in_world world) o)
in_world_walks asked c world None walks = tt
in_world_walks asked c world (Some outcome) walks = record { walk = walks.walk; ends = walks.ends }

beside_walks : (asked : Option Call) (c : CoreState) (o : Option Acted) → StepWalks asked c (option_map (beside_core c) o)
beside_walks asked c None = tt
beside_walks asked c (Some acted) = stays_so asked c

device_walks : (s : State) (o : Option DeviceStep) → DeviceKeepsIf s (of_device s.core) o → StepWalks None s.core (option_map device_stepped o)
unfolding of_device
device_walks s None keeps = tt
device_walks s (Some stepped) keeps = keeps.kept

walks_if : (asked : Option Call) (c : CoreState) (b : Bool) (one other : Option Stepped) → StepWalks asked c one → StepWalks asked c other → StepWalks asked c (if b then one else other)
walks_if asked c true one other p q = p
walks_if asked c false one other p q = q

-- every step's change of the core is a row of changes
pub step_walks : (s : State) (ev : Event) → StepWalks (asked_by ev) s.core (step s ev)
unfolding step
step_walks s (event.Begin actor start asked) =
    walks_if (Some asked) s.core (is_thread s actor.0) _ _ (in_world_walks (Some asked) s.core s.world (core_begin s.core actor.0 start asked) (begin_walks s.core actor.0 start asked))
    (beside_walks (Some asked) s.core (client_begin s (client_number s actor.0) start asked))
step_walks s (event.Resume actor start) =
    walks_if None s.core (is_thread s actor.0) _ _ (in_world_walks None s.core s.world (core_resume s.core actor.0 start) (resume_walks s.core actor.0 start))
    (beside_walks None s.core (client_resume s (client_number s actor.0) start))
step_walks s event.Device = device_walks s (device_step s) (device_keeps s (of_device s.core))
step_walks s event.Idle = walks_if None s.core (idle_lawful s) (Some (idle s)) None (idled_walks s.core (next_deadline s)) tt

walk_if : (asked : Option Call) (c : CoreState) (o : Option Stepped) (r : Stepped) → o ≡ Some r → StepWalks asked c o → IsWalk asked c r.seqs r.state.core
walk_if asked c None r is walks = absurd (cc)
walk_if asked c (Some stepped) r is walks =
    let same : stepped ≡ r = cc in
    subst (λ (x : Stepped). IsWalk asked c x.seqs x.state.core) same walks

pub steps_walk : (s : State) (e : Event) (r : Stepped) → step s e ≡ Some r → IsWalk (asked_by e) s.core r.seqs r.state.core
steps_walk s e r is = walk_if (asked_by e) s.core (step s e) r is (step_walks s e)
