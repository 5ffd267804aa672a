-- The objects stay within their limits.
use Rattle.std.proofs.Common.{Bool, List, None, Option, Some, [], ap, arith, cond, drop, false, find, length, length-append, length-drop, length-take, map, not, refl, subst, suc, sym, take, tests, true, ℕ, ◌&&◌, ◌++◌, ◌+◌, ◌<◌, ◌==◌, ◌∷◌, ◌≡◌, ◌≤◌, zero}
use Rattle.std.specs.Prelude.{nat_le, Ok, slice_get}
use Rattle.kernel_values.specs.Words.{is_path}
use Rattle.kernel_values.specs.declared.flags.PortFlags.{PortFlags}
use Rattle.kernel_values.specs.declared.state.ChannelEnd.{ChannelEnd}
use Rattle.kernel_values.specs.declared.state.EndState.TheVariants as end_state
use Rattle.kernel_values.specs.declared.state.Connector.{Connector}
use Rattle.kernel_values.specs.declared.state.Port.{Port}
use Rattle.kernel_values.specs.declared.state.CoreState.{CoreState}
use Rattle.kernel_values.specs.declared.state.EndState.{EndState}
use Rattle.std.proofs.lemmas.List.Elements.{All-filter, All-from_recursion, All-nil, All-push, recursion_from_All}
use Rattle.kernel_types.specs.Objects.{changed, new_end, on_body, on_end, on_port, on_set, added, end_changed, end_of, port_changed, has_path, map_at, port_in, published, set_if}
use Rattle.kernel_types.specs.Tables.{entry_at, table_of}
use Rattle.kernel_types.specs.Ports.{admits_client, admitted, connecting_end, decided, decided_end, denied_end, is_lawful_port, is_waiting, new_port, new_server, publish_to, server_of, waits_for, server_end}
use Rattle.kernel_types.specs.Connects.{accepted_end, Way, accept_client, app_place, may_serve, peer_of, pending_pair, start_flags, waiting_client, way_by_app, way_by_body, way_by_port, way_by_start_port, way_of}
use Rattle.kernel_types.specs.Events.{events_of, is_filled, is_ready_member}
use Rattle.kernel_types.specs.Applications.{application_ended, started}
use Rattle.kernel_types.specs.Reports.{with_last}
use Rattle.kernel_types.specs.Limits.{IsEndWithin, IsMessageWithin, IsPortWithin, IsBodyWithin}
use Rattle.kernel_laws.proofs.Starts.{same_ended, same_started}
use Rattle.std.specs.List.{filter, find, position_or_len}
use Rattle.kernel_values.specs.declared.state.Message.{Message}
use Rattle.kernel_types.specs.Messages.{entry_object, free_id, is_full_end, is_opened_as, new_message, opened_as, with_message, with_opened, without_opened}
use Rattle.std.proofs.lemmas.List.{length-map, length-replicate}
use Rattle.kernel_values.specs.declared.state.HandleSet.{HandleSet}
use Rattle.kernel_values.specs.declared.state.Member.{Member}
use Rattle.kernel_types.specs.Sets.{has_label, member_limit, new_member, remasked, with_mask, with_member, without_label}
use Rattle.kernel_types.specs.Memories.{new_memory, overwritten, written}
use Rattle.kernel_types.specs.Reach.{is_in}
use Rattle.kernel_types.specs.Sweep.{cut_end, is_live, is_marked, pruned, pruned_port, reached, kept, sweep}
use Rattle.kernel_laws.proofs.Within.{Within, WithinCore, all_map_at, end_changed_within, end_within, keeps_end, keeps_port, keeps_set, memory_changed_within, set_changed_within, within_appended, within_changed, within_filtered, within_mapped, all_find, port_in_within}
use Rattle.kernel_values.specs.declared.call.Call.{Call}
use Rattle.kernel_values.specs.declared.reply.Answer.{Answer}
use Rattle.std.specs.Option.{option_map}
use Rattle.kernel_values.specs.declared.entry.Event.{Event}
use Rattle.kernel_values.specs.declared.state.Application.{Application}
use Rattle.kernel_values.specs.declared.state.Body.{Body}
use Rattle.kernel_values.specs.declared.state.Body.TheVariants as body
use Rattle.kernel_values.specs.declared.state.Object.{Object}
use Rattle.kernel_values.specs.declared.state.State.{State}
use Rattle.kernel_values.specs.declared.state.TableEntry.{TableEntry}
use Rattle.std.proofs.lemmas.List.Sums.{length-filter, count_by-le-length}
use Rattle.kernel_types.specs.Bridge.{ns_connect, ns_drop, ns_push, ns_take, ns_view}
use Rattle.kernel_types.specs.Connects.Way.{to_nothing, to_port, to_start}
use Rattle.kernel_types.specs.CoreStep.{core_idle}
use Rattle.kernel_types.specs.Step.{Stepped, step}
use Rattle.step_laws.specs.SmallChanges.{Carries, Mark, SmallChange, after, marked_by}
use Rattle.step_laws.specs.SmallChanges.Carries.{no_parts, parts_held}
use Rattle.step_laws.specs.SmallChanges.Mark.{mark_blocked, mark_decided, mark_error, mark_reported, mark_unblocked}
use Rattle.step_laws.specs.SmallChanges.SmallChange.{client_made, cookie_changed, end_accepted, end_marked, entry_installed, entry_removed, last_changed, member_put_last, member_remasked, member_removed, memory_made, memory_written, message_opened, message_retired, message_sent, pair_made, parts_installed, port_made}
use Rattle.step_laws.specs.Walks.{SmallRow, ThreadChange, after_thread}
use Rattle.step_laws.specs.Walks.ThreadChange.{app_over, app_started, member_added, set_made}
use Rattle.step_laws.proofs.Invariants.{Invariant, step_keeps, walk_keeps}
use Rattle.step_laws.proofs.Rows.{row_keeps}
use Rattle.step_laws.proofs.Steps.{from_here, made_walks, ns_connect_walks, ns_drop_walks, ns_push_walks, ns_take_walks}

-- Lists and objects.

within_same : (c d : CoreState) → (d.objects ≡ c.objects) × (d.next ≡ c.next) → WithinCore c → WithinCore d
within_same c d same w = subst (λ objects. Within objects) (sym same.0) w

length_kept : {X : Type 0} (p : X → Bool) (xs : List X) → length (filter p xs) ≤ length xs
length_kept p xs = omega (arith, length-filter p xs, count_by-le-length p xs)

length_map_at : {X : Type 0} (f : X → X) (xs : List X) (at : ℕ) → length (map_at f xs at) ≡ length xs
length_map_at f [] at = refl
length_map_at f (x ∷ xs) zero = refl
length_map_at f (x ∷ xs) (suc at) =
    let rest : length (set_if xs at (option_map f (slice_get xs at))) ≡ length xs = length_map_at f xs at in
    let Q : Option _ → Type 0 = λ o. length (set_if xs at o) ≡ length xs → length (set_if (x ∷ xs) (suc at) o) ≡ suc (length xs) in
    let go : (o : Option _) → Q o = λ o. elim o as (λ v. Q v) [ None ↦ (λ same. refl) | Some y ↦ (λ same. ap suc same) ] in
    go (option_map f (slice_get xs at)) rest

new_end_within : (peer : Option ℕ) (state : EndState) (path : Option (List ℕ)) (client : Option Connector) (slots size : ℕ) → size ≤ 4096 → slots ≤ 32
    → (is_waiting state ≡ true → slots ≡ 0) → IsEndWithin (new_end peer state path client slots size)
new_end_within peer state path client slots size size_few slots_few waiting = record { size = size_few; slots = slots_few; waiting = waiting; few = omega arith; messages = All-nil IsMessageWithin }

server_within : (client : ℕ) (port : Port) → IsPortWithin port → IsEndWithin (new_end (Some client) end_state.Connecting None None port.bufs port.size)
server_within client port p = new_end_within (Some client) end_state.Connecting None None port.bufs port.size p.size p.bufs (λ h. absurd (cc))

decided_within : (port : Port) → IsPortWithin port → (first : ℕ) (clients : List ℕ) (id : ℕ) (end : ChannelEnd) → IsEndWithin end → IsEndWithin (decided_end port first clients id end)
decided_within port p first clients id end e =
    let server : ℕ = server_of first clients id in
    let joined : waits_for port.path end ≡ true → IsEndWithin (connecting_end server port.bufs port.size end) =
    λ is. let none : end.slots ≡ 0 = e.waiting (grind (arith, tests)) in
    record { size = p.size; slots = p.bufs; waiting = λ h. absurd (cc); few = omega (arith, none, e.few); messages = e.messages } in
    let denied : IsEndWithin (denied_end end) = record { size = e.size; slots = e.slots; waiting = λ h. absurd (cc); few = e.few; messages = e.messages } in
    let P : Bool → Type 0 = λ b. waits_for port.path end ≡ b
    → IsEndWithin (cond b (cond (admits_client port.flags end.client) (connecting_end server port.bufs port.size end) (denied_end end)) end) in
    let go : (b : Bool) → P b = λ b. elim b as (λ v. P v) [
      | true ↦ (λ is. elim (admits_client port.flags end.client) as (λ v. IsEndWithin (cond v (connecting_end server port.bufs port.size end) (denied_end end))) [ true ↦ joined is | false ↦ denied ])
      | false ↦ (λ is. e)
    ] in
    go (waits_for port.path end) refl

servers_within : (port : Port) → IsPortWithin port → (first : ℕ) (clients some : List ℕ) → Within (map (new_server port first clients) some)
servers_within port p first clients [] = tt
servers_within port p first clients (x ∷ xs) = (server_within x port p, servers_within port p first clients xs)

publish_within : (c : CoreState) → WithinCore c → (port : Port) → IsPortWithin port → (clients : List ℕ) → WithinCore (publish_to clients port c)
publish_within c w port p clients =
    let first : ℕ = c.next + 1 in
    within_appended (map (decided port first clients) c.objects) _
    (within_mapped (decided port first clients) (λ object e. keeps_end (decided_end port first clients object.id) (decided_within port p first clients object.id) object.body e) c.objects w)
    (record { size = p.size; bufs = p.bufs }, servers_within port p first clients clients)

lawful : (path : List ℕ) (bufs size : ℕ) (flags : PortFlags) → not (is_lawful_port path bufs size) ≡ false → IsPortWithin (new_port path bufs size flags)
lawful path bufs size flags is =
    let P : Bool → Bool → Type 0 = λ a b. not (a && (b && nat_le bufs 32) && (nat_le 1 size && nat_le size 4096)) ≡ false → (size ≤ 4096) × (bufs ≤ 32) in
    let go : (a b : Bool) → P a b = λ a b. elim a as (λ v. P v b) [
      | true ↦ elim b as (λ v. P true v) [ true ↦ (λ h. (grind (arith, tests), grind (arith, tests))) | false ↦ (λ h. absurd (cc)) ]
      | false ↦ elim b as (λ v. P false v) [ true ↦ (λ h. absurd (cc)) | false ↦ (λ h. absurd (cc)) ]
    ] in
    let both : (size ≤ 4096) × (bufs ≤ 32) = go (is_path path) (nat_le 1 bufs) is in
    record { size = both.0; bufs = both.1 }

accepted_within : (ready : Bool) (end : ChannelEnd) → IsEndWithin end → IsEndWithin (accepted_end ready end)
accepted_within ready end e = record { size = e.size; slots = e.slots; waiting = λ h. absurd (cc); few = e.few; messages = e.messages }

with_message_within : (bytes parts : List ℕ) → length bytes ≤ 4096 → length parts ≤ 8 → (end : ChannelEnd) → is_full_end end ≡ false → IsEndWithin end → IsEndWithin (with_message bytes parts end)
with_message_within bytes parts bytes_few parts_few end room e =
    let message : Message = new_message end.sent bytes parts in
    let below : length end.messages < end.slots = grind (arith, tests) in
    record {
      size = e.size;
      slots = e.slots;
      waiting = e.waiting;
      few = omega (arith, below, length-append end.messages (message ∷ []));
      messages = All-push IsMessageWithin end.messages message e.messages (record { bytes = bytes_few; parts = parts_few });
    }

with_opened_within : (id : ℕ) (end : ChannelEnd) → IsEndWithin end → IsEndWithin (with_opened id end)
with_opened_within id end e =
    let place : ℕ = position_or_len is_filled end.messages in
    record {
      size = e.size;
      slots = e.slots;
      waiting = e.waiting;
      few = omega (arith, e.few, length_map_at (opened_as id) end.messages place);
      messages = All-from_recursion IsMessageWithin _
          (all_map_at IsMessageWithin (opened_as id) (λ message m. record { bytes = m.bytes; parts = m.parts }) end.messages place (recursion_from_All IsMessageWithin end.messages e.messages));
    }

without_opened_within : (id : ℕ) (end : ChannelEnd) → IsEndWithin end → IsEndWithin (without_opened id end)
without_opened_within id end e =
    let p : Message → Bool = λ message. not (is_opened_as id message) in
    record {
      size = e.size;
      slots = e.slots;
      waiting = e.waiting;
      few = omega (arith, e.few, length_kept p end.messages);
      messages = All-filter p IsMessageWithin end.messages e.messages;
    }

written_length : (offset : ℕ) (bytes old : List ℕ) → offset + length bytes ≤ length old → length (overwritten offset bytes old) ≡ length old
written_length offset bytes old le =
    let rest : List ℕ = drop (offset + length bytes) old in
    omega (arith, length-append (take offset old ++ bytes) rest, length-append (take offset old) bytes, length-take offset old, length-drop (offset + length bytes) old)

fewer : (p : Member → Bool) (members : List Member) (m : Member) → find p members ≡ Some m → length (filter (λ (other : Member). not (other.label == m.label)) members) < length members
fewer p [] m is = absurd (cc)
fewer p (first ∷ members) m is =
    let q : Member → Bool = λ other. not (other.label == m.label) in
    let rest : List Member = filter q members in
    let P : Bool → Type 0 = λ b. cond b (Some first) (find p members) ≡ Some m → length (cond (q first) (first ∷ rest) rest) < suc (length members) in
    let go : (b : Bool) → P b = λ b. elim b as (λ v. P v) [
      | true ↦ (λ same.
          let eq : first ≡ m = cc in
          let label : first.label ≡ m.label = ap (λ (x : Member). x.label) eq in
          let one : q first ≡ false = grind (arith, tests) in
          subst (λ (v : Bool). length (cond v (first ∷ rest) rest) < suc (length members)) (sym one) (omega (arith, length_kept q members)))
      | false ↦ (λ same.
          let less : length rest < length members = fewer p members m same in
          elim (q first) as (λ v. length (cond v (first ∷ rest) rest) < suc (length members)) [ true ↦ omega arith | false ↦ omega arith ])
    ] in
    go (p first) is

cut_within : (marked : List ℕ) (end : ChannelEnd) → IsEndWithin end → IsEndWithin (cut_end marked end)
cut_within marked end e =
    let live : Bool = is_live end.state && not (is_marked marked end.peer) in
    let waits : (b : Bool) → is_waiting (cond b end_state.Disconnected end.state) ≡ true → end.slots ≡ 0 =
    λ b. elim b as (λ v. is_waiting (cond v end_state.Disconnected end.state) ≡ true → end.slots ≡ 0) [ true ↦ (λ h. absurd (cc)) | false ↦ e.waiting ] in
    record { size = e.size; slots = e.slots; waiting = waits live; few = e.few; messages = e.messages }

pub swept_within : (c : CoreState) → WithinCore c → WithinCore (sweep c)
unfolding sweep pruned kept
swept_within c w =
    let less : CoreState = pruned (reached c) c in
    let marked : List ℕ = reached less in
    let prune : Port → Port = pruned_port (reached c) c.objects in
    let cut : WithinCore less = within_mapped (on_body (on_port prune)) (λ object e. keeps_port prune (λ p q. record { size = q.size; bufs = q.bufs }) object.body e) c.objects w in
    let there : Within (filter (λ object. is_in marked object.id) less.objects) = within_filtered (λ object. is_in marked object.id) less.objects cut in
    within_mapped (on_body (on_end (cut_end marked))) (λ object e. keeps_end (cut_end marked) (cut_within marked) object.body e)
    (filter (λ object. is_in marked object.id) less.objects) there

waiting_within : (c : CoreState) → WithinCore c → (client : Connector) (path : List ℕ) → WithinCore (waiting_client client path c)
waiting_within c w client path =
    within_appended c.objects _ w (new_end_within None end_state.Waiting (Some path) (Some client) 0 0 (omega arith) (omega arith) (λ h. refl), tt)

pending_within : (c : CoreState) → WithinCore c → (client : Connector) (id : ℕ) (port : Port) → IsPortWithin port → WithinCore (pending_pair client id port c)
pending_within c w client id port p =
    let one : Body = body.End (new_end (Some (c.next + 1)) end_state.Connecting None (Some client) port.bufs port.size) in
    let other : Body = server_end c.next port.bufs port.size in
    let d : CoreState = added other (added one c) in
    let first : WithinCore (added one c) = within_appended c.objects _ w (new_end_within (Some (c.next + 1)) end_state.Connecting None (Some client) port.bufs port.size p.size p.bufs (λ h. absurd (cc)), tt) in
    let both : WithinCore d = within_appended (added one c).objects _ first (server_within c.next port p, tt) in
    let change : Port → Port = λ x. record x { pending = x.pending ++ (c.next + 1) ∷ [] } in
    within_changed (on_port change) (keeps_port change (λ x q. record { size = q.size; bufs = q.bufs })) d.objects both id

-- a way to a port goes to a port that is there

abbrev WayWithin : Way → Type 0
WayWithin (to_port id port) = IsPortWithin port
WayWithin (to_start place flags) = Unit {0}
WayWithin to_nothing = Unit {0}

way_by_app_within : (path : List ℕ) (place : ℕ) (app : Option Application) → WayWithin (way_by_app path place app)
way_by_app_within path place None = tt
way_by_app_within path place (Some app) =
    elim (start_flags path app) as (λ o. WayWithin (way_by_start_port place app o)) [
      | None ↦ tt
      | Some port ↦ elim (may_serve app) as (λ b. WayWithin (cond b (to_start place port.flags) to_nothing)) [ true ↦ tt | false ↦ tt ]
    ]

way_within : (c : CoreState) → WithinCore c → (path : List ℕ) → WayWithin (way_of c path)
way_within c w path =
    let ported : (id : ℕ) (b : Body) → IsBodyWithin b → (port : Option Port) → port_in b ≡ port → WayWithin (way_by_body id port) =
    λ id b within port. elim port as (λ o. port_in b ≡ o → WayWithin (way_by_body id o)) [ None ↦ (λ is. tt) | Some p ↦ (λ is. port_in_within b within p is) ] in
    let go : (o : Option Object) → published c.objects path ≡ o → WayWithin (way_by_port path c o) =
    λ o. elim o as (λ v. published c.objects path ≡ v → WayWithin (way_by_port path c v)) [
      | None ↦ (λ is. way_by_app_within path (app_place path c) (slice_get c.apps (app_place path c)))
      | Some object ↦ (λ is. ported object.id object.body (all_find (λ (x : Object). IsBodyWithin x.body) (has_path path) c.objects w object is) (port_in object.body) refl)
    ] in
    go (published c.objects path) refl

-- a message that is sent has at most 8 parts
few_parts : (by : Option ℕ) (c : CoreState) (source : ChannelEnd) (parts : List ℕ) → Carries by c source parts → length parts ≤ 8
few_parts by c source parts (no_parts none) = omega (arith, ap (λ (ps : List ℕ). length ps) none)
few_parts by c source parts (parts_held app handles of_app are connected lasting few held sendable) =
    let table : List TableEntry = table_of c app in
    omega (arith, ap (λ (ps : List ℕ). length ps) are, length-map handles (λ handle. entry_object (entry_at table handle)), few)

-- The changes.

mark_within : (mark : Mark) (end : ChannelEnd) → IsEndWithin end → IsEndWithin (marked_by mark end)
mark_within mark_blocked end e = record { size = e.size; slots = e.slots; waiting = e.waiting; few = e.few; messages = e.messages }
mark_within mark_unblocked end e = record { size = e.size; slots = e.slots; waiting = e.waiting; few = e.few; messages = e.messages }
mark_within mark_decided end e = record { size = e.size; slots = e.slots; waiting = e.waiting; few = e.few; messages = e.messages }
mark_within (mark_reported events) end e = record { size = e.size; slots = e.slots; waiting = e.waiting; few = e.few; messages = e.messages }
mark_within mark_error end e = record { size = e.size; slots = e.slots; waiting = e.waiting; few = e.few; messages = e.messages }

on_port_within : (change : Port → Port) → ((port : Port) → IsPortWithin port → IsPortWithin (change port)) → (c : CoreState) → WithinCore c → (id : ℕ) → Within (changed (on_port change) c.objects id)
on_port_within change keeps c w id = within_changed (on_port change) (keeps_port change keeps) c.objects w id

on_end_within : (change : ChannelEnd → ChannelEnd) → ((end : ChannelEnd) → IsEndWithin end → IsEndWithin (change end)) → (c : CoreState) → WithinCore c → (id : ℕ) → Within (changed (on_end change) c.objects id)
on_end_within change keeps c w id = within_changed (on_end change) (keeps_end change keeps) c.objects w id

on_set_within : (change : HandleSet → HandleSet) → ((set : HandleSet) → length set.members ≤ 64 → length (change set).members ≤ 64) → (c : CoreState) → WithinCore c → (id : ℕ) → Within (changed (on_set change) c.objects id)
on_set_within change keeps c w id = within_changed (on_set change) (keeps_set change keeps) c.objects w id

accepted_client_within : (c : CoreState) → WithinCore c → (client : Option ℕ) → WithinCore (accept_client client c)
accepted_client_within c w None = w
accepted_client_within c w (Some client) = on_end_within (accepted_end true) (accepted_within true) c w client

small_within : (by : Option ℕ) (c : CoreState) → WithinCore c → (change : SmallChange by c) → WithinCore (after by c change)
unfolding new_memory
small_within by c w (cookie_changed app of_app handle cookie entry held) = w
small_within by c w (entry_removed app of_app handle entry held) = w
small_within by c w (entry_installed app of_app object nameable room) = w
small_within by c w (parts_installed app of_app id number count end message there is_open room) = w
small_within by c w (last_changed app of_app entry first) = w
small_within by c w (memory_made size flags lawful) =
    let both : (nat_le 1 size && nat_le size 65536) ≡ true = lawful in
    let few : size ≤ 65536 = grind (arith, tests) in
    within_appended c.objects _ w (omega (arith, length-replicate {A = ℕ} size 0), tt)
small_within by c w (client_made client path way) = waiting_within c w client path
small_within by c w (pair_made client path id port way lets) = pending_within c w client id port (subst WayWithin way (way_within c w path))
small_within by c w (port_made path bufs size flags fits free) =
    publish_within c w (new_port path bufs size flags) (lawful path bufs size flags (ap not fits)) (admitted (new_port path bufs size flags) c.objects)
small_within by c w (member_removed id label set there known) =
    on_set_within (without_label label) (λ s few. omega (arith, length_kept (λ (m : Member). not (has_label label m)) s.members)) c w id
small_within by c w (member_remasked id label mask cookie set there known) =
    on_set_within (remasked label mask cookie) (λ s few. omega (arith, length_map_at (with_mask mask cookie) s.members (position_or_len (has_label label) s.members))) c w id
small_within by c w (member_put_last id member set there ready) =
    let rest : List Member = filter (λ (other : Member). not (other.label == member.label)) set.members in
    set_changed_within (with_last member) c.objects w id set there
    (λ few. omega (arith, fewer (is_ready_member (events_of c.objects)) set.members member ready, length-append rest (member ∷ [])))
small_within by c w (memory_written id offset bytes memory there range writable) =
    let within : offset + length bytes ≤ length memory.bytes = grind (arith, tests) in
    memory_changed_within (written offset bytes) c.objects w id memory there (λ few. omega (arith, written_length offset bytes memory.bytes within))
small_within by c w (message_sent from source to end bytes parts may carries) =
    let e : IsEndWithin source = end_within c.objects w from source may.source_there in
    end_changed_within (with_message bytes parts) c.objects w to end may.there (with_message_within bytes parts (omega (arith, may.short, e.size)) (few_parts by c source parts carries) end may.room)
small_within by c w (message_opened id end message there first) = on_end_within (with_opened (free_id end.messages)) (with_opened_within (free_id end.messages)) c w id
small_within by c w (message_retired id number end message there is_open) = on_end_within (without_opened number) (without_opened_within number) c w id
small_within by c w (end_marked mark id) = on_end_within (marked_by mark) (mark_within mark) c w id
small_within by c w (end_accepted app of_app id server rest port there first room) =
    let less : CoreState = port_changed (λ p. record p { pending = rest }) id c in
    let fewer_pending : WithinCore less = on_port_within (λ p. record p { pending = rest }) (λ p q. record { size = q.size; bufs = q.bufs }) c w id in
    accepted_client_within (end_changed (accepted_end false) server less) (on_end_within (accepted_end false) (accepted_within false) less fewer_pending server) (peer_of (end_of c.objects server))

thread_within : (app thread : ℕ) (asked : Call) (said : Answer) (c : CoreState) → WithinCore c → (change : ThreadChange app thread asked said c) → WithinCore (after_thread app thread asked said c change)
thread_within app thread asked said c w (set_made is made room) = within_appended c.objects _ w (omega arith, tt)
thread_within app thread asked said c w (member_added held handle mask cookie id set entry is here may) =
    let room : nat_le member_limit (length set.members) ≡ false = may.room in
    let below : length set.members < 64 = grind (arith, tests) in
    let member : Member = new_member handle entry.object mask cookie in
    set_changed_within (with_member member) c.objects w id set may.there (λ few. omega (arith, below, length-append set.members (member ∷ [])))
thread_within app thread asked said c w (app_started place was there still connects) = within_same c (started place c) (same_started place c) w
thread_within app thread asked said c w (app_over ends) = within_same c (application_ended app c) (same_ended app c) w
thread_within app thread asked said c w _ = w

pub idle_within : (deadline : Option ℕ) (c : CoreState) → WithinCore c → WithinCore (core_idle deadline c)
unfolding core_idle
idle_within None c w = w
idle_within (Some deadline) c w = w

-- objects within their limits, along every history
pub within : Invariant
within = record {
  holds = WithinCore;
  small = λ by c w made change. small_within by c w change;
  call = thread_within;
  resumed = λ thread c w. w;
  served = λ place c w. within_same c (started place c) (same_started place c) w;
  bridged = λ end c w given. w;
  unbridged = λ end c w. w;
  passed = idle_within;
  swept = swept_within;
}

-- what small changes leave, from where the objects are within their limits
pub row_within : (by : Option ℕ) (c d : CoreState) → WithinCore c → SmallRow by c d → WithinCore d
row_within by c d w row = row_keeps (SmallChange by) (after by) WithinCore (small_within by) c d row w

pub step_within : (s : State) (e : Event) (r : Stepped) → WithinCore s.core → step s e ≡ Some r → WithinCore r.state.core
unfolding within
step_within s e r w is = step_keeps within s e r is w

-- what the bridge asks of the core

pub connected_within : (c made : CoreState) (path : List ℕ) → WithinCore c → ns_connect c path ≡ Ok made → WithinCore made
unfolding within
connected_within c made path w is = walk_keeps within c made (made_walks c (ns_connect c path) made (ns_connect_walks c path) is) w

pub ns_push_within : (c : CoreState) → WithinCore c → (end : ℕ) (bytes : List ℕ) → length bytes ≤ (ns_view c end).size → WithinCore (ns_push c end bytes).core
unfolding within
ns_push_within c w end bytes few = walk_keeps within c (ns_push c end bytes).core (ns_push_walks c end bytes few) w

pub ns_take_within : (c : CoreState) → WithinCore c → (id : ℕ) → WithinCore (ns_take c id).core
unfolding within
ns_take_within c w id = walk_keeps within c (ns_take c id).core (ns_take_walks c id) w

pub ns_drop_within : (c : CoreState) → WithinCore c → (broken : Bool) (end : ℕ) → WithinCore (ns_drop broken end c)
unfolding within
ns_drop_within c w broken end = walk_keeps within c (ns_drop broken end c) (ns_drop_walks c c (from_here None c) broken end) w
