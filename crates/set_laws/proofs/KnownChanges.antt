-- What is known of each number that a state names is known of each that it names after a change, where it is known of what is new.
use Rattle.std.proofs.Common.{◌≡◌, ℕ, Bool, ◌+◌, ◌==◌, ◌&&◌, true, false, cond, not, List, [], ◌∷◌, ◌++◌, map, take, Option, Some, None, refl, sym, subst}
use Rattle.std.specs.Prelude.{slice_get}
use Rattle.std.specs.List.{AllByRecursion, filter, find, list_all, position_or_len}
use Rattle.std.specs.Option.{is_some}
use Rattle.kernel_values.specs.declared.call.Call.{Call}
use Rattle.kernel_values.specs.declared.reply.Answer.{Answer}
use Rattle.kernel_values.specs.declared.state.Activity.{Activity}
use Rattle.kernel_values.specs.declared.state.Activity.TheVariants as activity
use Rattle.kernel_values.specs.declared.state.Application.{Application}
use Rattle.kernel_values.specs.declared.state.Body.{Body}
use Rattle.kernel_values.specs.declared.state.Body.TheVariants as body
use Rattle.kernel_values.specs.declared.state.ChannelEnd.{ChannelEnd}
use Rattle.kernel_values.specs.declared.state.Connector.{Connector}
use Rattle.kernel_values.specs.declared.state.CoreState.{CoreState}
use Rattle.kernel_values.specs.declared.state.EndState.TheVariants as end_state
use Rattle.kernel_values.specs.declared.state.HandleSet.{HandleSet}
use Rattle.kernel_values.specs.declared.state.Member.{Member}
use Rattle.kernel_values.specs.declared.state.Message.{Message}
use Rattle.kernel_values.specs.declared.state.Object.{Object}
use Rattle.kernel_values.specs.declared.state.Port.{Port}
use Rattle.kernel_values.specs.declared.state.TableEntry.{TableEntry}
use Rattle.kernel_values.specs.declared.state.Thread.{Thread}
use Rattle.kernel_values.specs.declared.state.Wait.{Wait}
use Rattle.kernel_values.specs.declared.state.WaitOn.{WaitOn}
use Rattle.kernel_types.specs.Applications.{application_ended, ended_activity, ended_app, ended_thread, is_started_again, started, started_app, started_as, started_thread, without_app}
use Rattle.kernel_types.specs.Bridge.{bridging, unbridged}
use Rattle.kernel_types.specs.Connects.{accept_client, accepted_end, peer_of, pending_pair}
use Rattle.kernel_types.specs.CoreStep.{cancelled_activity, core_idle}
use Rattle.kernel_types.specs.Events.{events_of, is_filled, is_ready_member}
use Rattle.kernel_types.specs.Memories.{new_memory, written}
use Rattle.kernel_types.specs.Messages.{all_installed, entry_object, free_id, is_in_table, is_opened_as, opened_as, part_objects, with_message, with_opened, without_opened}
use Rattle.kernel_types.specs.Names.{activity_names, waited_names}
use Rattle.kernel_types.specs.Objects.{added, end_changed, end_of, new_end, on_end, on_memory, on_port, on_set, port_changed, port_of, set_changed, set_of}
use Rattle.kernel_types.specs.Ports.{admits_client, admitted, connecting_end, decided, decided_end, denied_end, new_port, new_server, publish, server_end, server_of, waits_for}
use Rattle.kernel_types.specs.Reports.{with_last, with_last_reported}
use Rattle.kernel_types.specs.Sets.{has_label, new_member, remasked, with_mask, with_member, without_label}
use Rattle.kernel_types.specs.Tables.{entry_at, installed, table_of, with_cookie, without}
use Rattle.kernel_types.specs.Threads.{activity_changed, new_wait, running_activity, waiting_activity}
use Rattle.kernel_types.specs.Waits.{deadline_of}
use Rattle.kernel_laws.proofs.Within.{all_map_at}
use Rattle.set_laws.proofs.Lists.{IfThere, all_appended, all_filtered, all_mapped, all_taken, found_there}
use Rattle.step_laws.specs.SmallChanges.{Carries, IsMade, Mark, Nameable, SmallChange, after, after_accept, is_of_app, marked_by}
use Rattle.step_laws.specs.SmallChanges.Carries.{no_parts, parts_held}
use Rattle.step_laws.specs.SmallChanges.Mark.{mark_blocked, mark_unblocked, mark_decided, mark_reported, mark_error}
use Rattle.step_laws.specs.SmallChanges.Nameable.{by_entry, by_number}
use Rattle.step_laws.specs.SmallChanges.SmallChange.{cookie_changed, entry_removed, entry_installed, parts_installed, last_changed, memory_made, client_made, pair_made, port_made, member_removed, member_remasked, member_put_last, memory_written, message_sent, message_opened, message_retired, end_marked, end_accepted}
use Rattle.step_laws.specs.Walks.{Awaits, ThreadChange, after_thread, timeout_of}
use Rattle.step_laws.specs.Walks.Awaits.{for_any, for_connect, for_object}
use Rattle.step_laws.specs.Walks.ThreadChange.{app_over, app_started, member_added, set_made, thread_over, wait_begun}
use Rattle.set_laws.proofs.Known.{BodyApart, Known, KnownApart, Knows, KnowsMembers, KnowsMessages, KnowsNames, KnowsTable, acted, added_known, changed_one, end_known, entry_known, installed_known, installs, on_end_known, on_memory_known, on_port_known, on_set_known, port_known, set_known, tabled}

-- the numbers of objects that a change makes and names, or moves to a table
abbrev pub NewApart : (P Q : ℕ → Type 0) (by : Option ℕ) (c : CoreState) → SmallChange by c → Type 0
NewApart P Q by c (pair_made client path id port way lets) = Q (c.next + 1)
NewApart P Q by c (port_made path bufs size flags lawful free) =
    Knows Q (map (server_of (c.next + 1) (admitted (new_port path bufs size flags) c.objects)) (admitted (new_port path bufs size flags) c.objects))
NewApart P Q by c (end_accepted app of_app id server rest port there first room) = P server
NewApart P Q by c _ = Unit {0}

-- those that it makes and names
abbrev pub NewKnown : (P : ℕ → Type 0) (by : Option ℕ) (c : CoreState) → SmallChange by c → Type 0
NewKnown P by c (pair_made client path id port way lets) = P (c.next + 1)
NewKnown P by c (port_made path bufs size flags lawful free) =
    Knows P (map (server_of (c.next + 1) (admitted (new_port path bufs size flags) c.objects)) (admitted (new_port path bufs size flags) c.objects))
NewKnown P by c _ = Unit {0}

-- the number of a set that a call makes and names
abbrev pub NewCalled : (P : ℕ → Type 0) (app thread : ℕ) (asked : Call) (said : Answer) (c : CoreState) → ThreadChange app thread asked said c → Type 0
NewCalled P app thread asked said c (set_made is made room) = P c.next
NewCalled P app thread asked said c _ = Unit {0}

is_there : {X : Type 0} (P : X → Type 0) (o : Option X) (x : X) → IfThere P o → o ≡ Some x → P x
is_there P o x there is = subst (λ v. IfThere P v) is there

module _ (P : ℕ → Type 0) where
  decided_messages : (port : Port) (first : ℕ) (clients : List ℕ) (id : ℕ) (end : ChannelEnd) → KnowsMessages P end.messages → KnowsMessages P (decided_end port first clients id end).messages
  decided_messages port first clients id end all =
      let joined : ChannelEnd = connecting_end (server_of first clients id) port.bufs port.size end in
      elim (waits_for port.path end) as (λ b. KnowsMessages P (cond b (cond (admits_client port.flags end.client) joined (denied_end end)) end).messages) [
        | true ↦ elim (admits_client port.flags end.client) as (λ b. KnowsMessages P (cond b joined (denied_end end)).messages) [ true ↦ all | false ↦ all ]
        | false ↦ all
      ]

  mark_known : (mark : Mark) (end : ChannelEnd) → KnowsMessages P end.messages → KnowsMessages P (marked_by mark end).messages
  mark_known mark_blocked end all = all
  mark_known mark_unblocked end all = all
  mark_known mark_decided end all = all
  mark_known (mark_reported events) end all = all
  mark_known mark_error end all = all

  all_in : (objects : List ℕ) → Knows P objects → (table : List TableEntry) → KnowsTable P table → KnowsTable P (all_installed table objects)
  all_in [] known table all = all
  all_in (object ∷ objects) known table all = all_in objects known.1 (installed table object) (installed_known P table object known.0 all)

  -- Threads and applications.

  waiting_known : (w : Wait) → KnowsNames P (waited_names w.on) → (a : Activity) → KnowsNames P (activity_names a) → KnowsNames P (activity_names (waiting_activity w a))
  waiting_known w known (activity.Running start) all = known
  waiting_known w known activity.Off all = all
  waiting_known w known (activity.Waiting start old) all = all
  waiting_known w known (activity.Ended start) all = all

  pub running_known : (a : Activity) → KnowsNames P (activity_names a) → KnowsNames P (activity_names (running_activity a))
  running_known activity.Off known = tt
  running_known (activity.Running start) known = tt
  running_known (activity.Waiting start wait) known = tt
  running_known (activity.Ended start) known = tt

  ended_known : (a : Activity) → KnowsNames P (activity_names a) → KnowsNames P (activity_names (ended_activity a))
  ended_known activity.Off known = tt
  ended_known (activity.Running start) known = tt
  ended_known (activity.Waiting start wait) known = tt
  ended_known (activity.Ended start) known = tt

  cancelled_known : (a : Activity) → KnowsNames P (activity_names a) → KnowsNames P (activity_names (cancelled_activity a))
  cancelled_known activity.Off known = known
  cancelled_known (activity.Running start) known = known
  cancelled_known (activity.Waiting start wait) known = known
  cancelled_known (activity.Ended start) known = known

  abbrev AppKnown : Application → Type 0
  AppKnown a = KnowsTable P a.table

  abbrev ThreadKnown : Thread → Type 0
  ThreadKnown t = KnowsNames P (activity_names t.activity)

  started_thread_known : (app start : ℕ) (t : Thread) → ThreadKnown t → ThreadKnown (started_thread app start t)
  started_thread_known app start t known =
      elim (t.app == app) as (λ b. ThreadKnown (cond b (record t { activity = activity.Running start }) t)) [ true ↦ tt | false ↦ known ]

module _ (P Q : ℕ → Type 0) where
  servers_named : (port : Port) (first : ℕ) (clients xs : List ℕ) → AllByRecursion (λ (o : Object). BodyApart P Q o.body) (map (new_server port first clients) xs)
  servers_named port first clients [] = tt
  servers_named port first clients (x ∷ xs) = (tt, servers_named port first clients xs)

  started_to : (app : ℕ) (c : CoreState) → KnownApart P Q c → (o : Option Application) → KnownApart P Q (started_as app o c)
  started_to app c k None = k
  started_to app c k (Some was) = record {
    tables = all_map_at (AppKnown P) started_app (λ a known. tt) c.apps app k.tables;
    bridged = k.bridged;
    waits = all_mapped (ThreadKnown P) (ThreadKnown P) (started_thread app (was.starts + 1)) (started_thread_known P app (was.starts + 1)) c.threads k.waits;
    objects = k.objects;
  }

  pub started_apart : (app : ℕ) (c : CoreState) → KnownApart P Q c → KnownApart P Q (started app c)
  unfolding started
  started_apart app c k = started_to app c k (slice_get c.apps app)

  ended_thread_known : (app : ℕ) (t : Thread) → (ThreadKnown P) t → (ThreadKnown P) (ended_thread app t)
  ended_thread_known app t known =
      elim (t.app == app) as (λ b. (ThreadKnown P) (cond b (record t { activity = ended_activity t.activity }) t)) [ true ↦ ended_known P t.activity known | false ↦ known ]

  over_known : (app : ℕ) (c : CoreState) → KnownApart P Q c → KnownApart P Q (application_ended app c)
  unfolding application_ended
  over_known app c k =
      let less : KnownApart P Q (without_app app c) = record {
        tables = all_map_at (AppKnown P) ended_app (λ a known. tt) c.apps app k.tables;
        bridged = k.bridged;
        waits = all_mapped (ThreadKnown P) (ThreadKnown P) (ended_thread app) (ended_thread_known app) c.threads k.waits;
        objects = k.objects;
      } in
      elim (is_started_again (slice_get c.apps app)) as (λ b. KnownApart P Q (cond b (started app (without_app app c)) (without_app app c))) [
        | true ↦ started_apart app (without_app app c) less
        | false ↦ less
      ]

  pub idled_apart : (c : CoreState) → KnownApart P Q c → (deadline : Option ℕ) → KnownApart P Q (core_idle deadline c)
  unfolding core_idle
  idled_apart c k None = record {
    tables = k.tables;
    bridged = k.bridged;
    waits = all_mapped (ThreadKnown P) (ThreadKnown P) (activity_changed cancelled_activity) (λ t known. cancelled_known P t.activity known) c.threads k.waits;
    objects = k.objects;
  }
  idled_apart c k (Some deadline) = record { tables = k.tables; bridged = k.bridged; waits = k.waits; objects = k.objects }

  pub bridging_apart : (c : CoreState) → KnownApart P Q c → (end : ℕ) → Q end → KnownApart P Q (bridging end c)
  bridging_apart c k end known = record { tables = k.tables; bridged = all_appended Q c.bridged (end ∷ []) k.bridged (known, tt); waits = k.waits; objects = k.objects }

  pub unbridged_apart : (c : CoreState) → KnownApart P Q c → (end : ℕ) → KnownApart P Q (unbridged end c)
  unbridged_apart c k end = record { tables = k.tables; bridged = all_filtered Q (λ other. not (other == end)) c.bridged k.bridged; waits = k.waits; objects = k.objects }

  -- Objects.

  end_kept : (c : CoreState) → KnownApart P Q c → (change : ChannelEnd → ChannelEnd) → ((end : ChannelEnd) → KnowsMessages P end.messages → KnowsMessages P (change end).messages)
      → (id : ℕ) → KnownApart P Q (end_changed change id c)
  end_kept c k change keeps id = changed_one P Q c k (on_end change) (on_end_known P Q change keeps) id

  set_kept : (c : CoreState) → KnownApart P Q c → (change : HandleSet → HandleSet) → ((set : HandleSet) → KnowsMembers P set.members → KnowsMembers P (change set).members)
      → (id : ℕ) → KnownApart P Q (set_changed change id c)
  set_kept c k change keeps id = changed_one P Q c k (on_set change) (on_set_known P Q change keeps) id

  put_last : (c : CoreState) → KnownApart P Q c → (m : Member) → P m.object → (id : ℕ) → KnownApart P Q (set_changed (with_last m) id c)
  put_last c k m known id =
      let R : Member → Type 0 = λ x. P x.object in
      set_kept c k (with_last m)
      (λ set all. all_appended R (filter (λ other. not (other.label == m.label)) set.members) (m ∷ []) (all_filtered R (λ other. not (other.label == m.label)) set.members all) (known, tt)) id

  marked_last : (c : CoreState) → KnownApart P Q c → (app handle : ℕ) → KnownApart P Q (with_last_reported app handle c)
  marked_last c k app handle = record {
    tables = all_map_at (AppKnown P) (λ a. record a { last = Some handle }) (λ a all. all) c.apps app k.tables;
    bridged = k.bridged;
    waits = k.waits;
    objects = k.objects;
  }

  pair_known : (c : CoreState) → KnownApart P Q c → (client : Connector) (id : ℕ) (port : Port) → Q (c.next + 1) → KnownApart P Q (pending_pair client id port c)
  pair_known c k client id port known =
      let one : Body = body.End (new_end (Some (c.next + 1)) end_state.Connecting None (Some client) port.bufs port.size) in
      let other : Body = server_end c.next port.bufs port.size in
      let change : Port → Port = λ p. record p { pending = p.pending ++ (c.next + 1) ∷ [] } in
      let first : KnownApart P Q (added one c) = added_known P Q c k one tt in
      let both : KnownApart P Q (added other (added one c)) = added_known P Q (added one c) first other tt in
      changed_one P Q (added other (added one c)) both (on_port change) (on_port_known P Q change (λ p all. all_appended Q p.pending ((c.next + 1) ∷ []) all (known, tt))) id

  published_known : (c : CoreState) → KnownApart P Q c → (port : Port) → Knows Q (map (server_of (c.next + 1) (admitted port c.objects)) (admitted port c.objects)) → KnownApart P Q (publish port c)
  published_known c k port known =
      let first : ℕ = c.next + 1 in
      let clients : List ℕ = admitted port c.objects in
      let B : Object → Type 0 = λ o. BodyApart P Q o.body in
      let old : AllByRecursion B (map (decided port first clients) c.objects) =
      all_mapped B B (decided port first clients)
      (λ o all. on_end_known P Q (decided_end port first clients o.id) (decided_messages P port first clients o.id) o.body all) c.objects k.objects in
      record {
        tables = k.tables;
        bridged = k.bridged;
        waits = k.waits;
        objects = all_appended B (map (decided port first clients) c.objects) _ old (known, servers_named port first clients clients);
      }

  accepted_known : (c : CoreState) → KnownApart P Q c → (client : Option ℕ) → KnownApart P Q (accept_client client c)
  accepted_known c k None = k
  accepted_known c k (Some client) = end_kept c k (accepted_end true) (λ e all. all) client

-- What a change names was known, or it is given.
module _ (P Q : ℕ → Type 0) (c : CoreState) (k : KnownApart P Q c) (made : (object : ℕ) → IsMade is_of_app c object → P object) where
  nameable_known : (app object : ℕ) → Nameable app c object → P object
  nameable_known app object (by_entry handle entry held same) =
      subst P same (is_there (λ (e : TableEntry). P e.object) (entry_at (table_of c app) handle) entry (entry_known P Q c k app handle) held)
  nameable_known app object (by_number number) = made object number

  parts_known : (app : ℕ) (handles : List ℕ) → list_all (is_in_table (table_of c app)) handles ≡ true → Knows P (part_objects (table_of c app) handles)
  parts_known app [] held = tt
  parts_known app (handle ∷ handles) held =
      let R : Option TableEntry → Type 0 = λ o. IfThere (λ (e : TableEntry). P e.object) o → (is_some o && list_all (is_in_table (table_of c app)) handles) ≡ true
      → P (entry_object o) × Knows P (part_objects (table_of c app) handles) in
      let go : (o : Option TableEntry) → R o = λ o. elim o as (λ v. R v) [ None ↦ (λ known is. absurd (cc)) | Some entry ↦ (λ known is. (known, parts_known app handles is)) ] in
      go (entry_at (table_of c app) handle) (entry_known P Q c k app handle) held

  carried_known : (by : Option ℕ) (source : ChannelEnd) (parts : List ℕ) → Carries by c source parts → Knows P parts
  carried_known by source parts (no_parts none) = subst (λ (l : List ℕ). Knows P l) (sym none) tt
  carried_known by source parts (parts_held app handles of_app are connected lasting few held sendable) =
      subst (λ (l : List ℕ). Knows P l) (sym are) (parts_known app handles held)

  messages_known : (id : ℕ) (end : ChannelEnd) → end_of c.objects id ≡ Some end → KnowsMessages P end.messages
  messages_known id end there = is_there (λ (e : ChannelEnd). KnowsMessages P e.messages) (end_of c.objects id) end (end_known P Q c k id) there

  members_known : (id : ℕ) (set : HandleSet) → set_of c.objects id ≡ Some set → KnowsMembers P set.members
  members_known id set there = is_there (λ (s : HandleSet). KnowsMembers P s.members) (set_of c.objects id) set (set_known P Q c k id) there

  pub small_apart : (by : Option ℕ) (change : SmallChange by c) → NewApart P Q by c change → KnownApart P Q (after by c change)
  small_apart by (cookie_changed app of_app handle cookie entry held) new =
      tabled P Q c k (λ table. with_cookie table handle cookie)
      (λ table all. all_map_at (λ (e : TableEntry). P e.object) (λ e. record e { cookie = cookie }) (λ e is. is) table (position_or_len (λ e. e.handle == handle) table) all) app
  small_apart by (entry_removed app of_app handle entry held) new =
      tabled P Q c k (λ table. without table handle) (λ table all. all_filtered (λ (e : TableEntry). P e.object) (λ e. not (e.handle == handle)) table all) app
  small_apart by (entry_installed app of_app object nameable room) new = installs P Q c k app object (nameable_known app object nameable)
  small_apart by (parts_installed app of_app id number count end message there is_open room) new =
      let all : Knows P message.parts =
      is_there (λ (m : Message). Knows P m.parts) (find (is_opened_as number) end.messages) message
      (found_there (λ (m : Message). Knows P m.parts) (is_opened_as number) end.messages (messages_known id end there)) is_open in
      tabled P Q c k (λ table. all_installed table (take count message.parts)) (λ table known. all_in P (take count message.parts) (all_taken P count message.parts all) table known) app
  small_apart by (last_changed app of_app entry first) new = marked_last P Q c k app entry.handle
  small_apart by (memory_made size flags lawful) new = added_known P Q c k (body.Memory (new_memory size flags)) tt
  small_apart by (client_made client path way) new = added_known P Q c k (body.End (new_end None end_state.Waiting (Some path) (Some client) 0 0)) tt
  small_apart by (pair_made client path id port way lets) new = pair_known P Q c k client id port new
  small_apart by (port_made path bufs size flags lawful free) new = published_known P Q c k (new_port path bufs size flags) new
  small_apart by (member_removed id label set there known) new =
      set_kept P Q c k (without_label label) (λ s all. all_filtered (λ (m : Member). P m.object) (λ member. not (has_label label member)) s.members all) id
  small_apart by (member_remasked id label mask cookie set there known) new =
      set_kept P Q c k (remasked label mask cookie)
      (λ s all. all_map_at (λ (m : Member). P m.object) (with_mask mask cookie) (λ m is. is) s.members (position_or_len (has_label label) s.members) all) id
  small_apart by (member_put_last id member set there ready) new =
      put_last P Q c k member
      (is_there (λ (m : Member). P m.object) (find (is_ready_member (events_of c.objects)) set.members) member
      (found_there (λ (m : Member). P m.object) (is_ready_member (events_of c.objects)) set.members (members_known id set there)) ready) id
  small_apart by (memory_written id offset bytes memory there range writable) new = changed_one P Q c k (on_memory (written offset bytes)) (on_memory_known P Q (written offset bytes)) id
  small_apart by (message_sent from source to end bytes parts may carries) new =
      end_kept P Q c k (with_message bytes parts) (λ e all. all_appended (λ (m : Message). Knows P m.parts) e.messages _ all (carried_known by source parts carries, tt)) to
  small_apart by (message_opened id end message there first) new =
      end_kept P Q c k (with_opened (free_id end.messages))
      (λ e all. all_map_at (λ (m : Message). Knows P m.parts) (opened_as (free_id end.messages)) (λ m is. is) e.messages (position_or_len is_filled e.messages) all) id
  small_apart by (message_retired id number end message there is_open) new =
      end_kept P Q c k (without_opened number) (λ e all. all_filtered (λ (m : Message). Knows P m.parts) (λ m. not (is_opened_as number m)) e.messages all) id
  small_apart by (end_marked mark id) new = end_kept P Q c k (marked_by mark) (mark_known P mark) id
  small_apart by (end_accepted app of_app id server rest port there first room) new =
      let all : Knows Q port.pending = is_there (λ (p : Port). Knows Q p.pending) (port_of c.objects id) port (port_known P Q c k id) there in
      let fewer : Knows Q rest = (subst (λ (xs : List ℕ). Knows Q xs) first all).1 in
      let less : CoreState = port_changed (λ p. record p { pending = rest }) id c in
      let one : KnownApart P Q less = changed_one P Q c k (on_port (λ p. record p { pending = rest })) (on_port_known P Q (λ p. record p { pending = rest }) (λ p known. fewer)) id in
      let both : KnownApart P Q (end_changed (accepted_end false) server less) = end_kept P Q less one (accepted_end false) (λ e all. all) server in
      let joined : KnownApart P Q (after_accept id server rest c) = accepted_known P Q (end_changed (accepted_end false) server less) both (peer_of (end_of c.objects server)) in
      installs P Q (after_accept id server rest c) joined app server new

  awaited_known : (app : ℕ) (asked : Call) (on : WaitOn) → Awaits app asked c on → KnowsNames P (waited_names on)
  awaited_known app asked on (for_object handle entry held same) =
      subst (λ (w : WaitOn). KnowsNames P (waited_names w)) (sym same) (nameable_known app entry.object (by_entry handle entry held refl), tt)
  awaited_known app asked on (for_connect end handle number same forever) = subst (λ (w : WaitOn). KnowsNames P (waited_names w)) (sym same) (made end number, tt)
  awaited_known app asked on (for_any same) = subst (λ (w : WaitOn). KnowsNames P (waited_names w)) (sym same) tt

  pub call_apart : (app thread : ℕ) (asked : Call) (said : Answer) (change : ThreadChange app thread asked said c) → NewCalled P app thread asked said c change
      → KnownApart P Q (after_thread app thread asked said c change)
  call_apart app thread asked said (set_made is made room) new =
      let one : Body = body.Set (record { members = [] }) in
      installs P Q (added one c) (added_known P Q c k one tt) app c.next new
  call_apart app thread asked said (member_added held handle mask cookie id set entry is here may) new =
      let known : P entry.object = nameable_known app entry.object (by_entry handle entry here refl) in
      set_kept P Q c k (with_member (new_member handle entry.object mask cookie))
      (λ s all. all_appended (λ (x : Member). P x.object) s.members (new_member handle entry.object mask cookie ∷ []) all (known, tt)) id
  call_apart app thread asked said (wait_begun on awaits goes is) new =
      let w : Wait = new_wait on (deadline_of c.clock (timeout_of asked)) in
      acted P Q c k (waiting_activity w) (waiting_known P w (awaited_known app asked on awaits)) thread
  call_apart app thread asked said (app_started place was there still connects) new = started_apart P Q place c k
  call_apart app thread asked said (thread_over ends) new = acted P Q c k ended_activity (ended_known P) thread
  call_apart app thread asked said (app_over ends) new = over_known P Q app c k

-- The same where one thing is known of every number that the state names.

pub started_known : (P : ℕ → Type 0) (app : ℕ) (c : CoreState) → Known P c → Known P (started app c)
started_known P app c k = started_apart P P app c k

pub idled_known : (P : ℕ → Type 0) (c : CoreState) → Known P c → (deadline : Option ℕ) → Known P (core_idle deadline c)
idled_known P c k deadline = idled_apart P P c k deadline

pub bridging_known : (P : ℕ → Type 0) (c : CoreState) → Known P c → (end : ℕ) → P end → Known P (bridging end c)
bridging_known P c k end known = bridging_apart P P c k end known

pub unbridged_known : (P : ℕ → Type 0) (c : CoreState) → Known P c → (end : ℕ) → Known P (unbridged end c)
unbridged_known P c k end = unbridged_apart P P c k end

module _ (P : ℕ → Type 0) (c : CoreState) (k : Known P c) (given : (such : Body → Bool) (x : ℕ) → IsMade such c x → P x) where
  new_apart : (by : Option ℕ) (change : SmallChange by c) → NewKnown P by c change → NewApart P P by c change
  new_apart by (end_accepted app of_app id server rest port there first room) new =
      (subst (λ (xs : List ℕ). Knows P xs) first (is_there (λ (p : Port). Knows P p.pending) (port_of c.objects id) port (port_known P P c k id) there)).0
  new_apart by _ new = new

  pub small_known : (by : Option ℕ) (change : SmallChange by c) → NewKnown P by c change → Known P (after by c change)
  small_known by change new = small_apart P P c k (given is_of_app) by change (new_apart by change new)

  pub call_known : (app thread : ℕ) (asked : Call) (said : Answer) (change : ThreadChange app thread asked said c) → NewCalled P app thread asked said c change
      → Known P (after_thread app thread asked said c change)
  call_known app thread asked said change new = call_apart P P c k (given is_of_app) app thread asked said change new
