-- The calls of threads that change tables and objects alone, and the ends of waits, are rows of small changes.
use Rattle.std.proofs.Common.{◌≡◌, ◌≤◌, ℕ, ◌==◌, Bool, true, false, cond, not, List, [], ◌∷◌, length, take, Option, Some, None, refl, sym, subst, drop, min, arith, tests}
use Rattle.std.specs.Prelude.{if◌then◌else◌, slice_get, nat_lt}
use Rattle.std.specs.List.{list_all, find}
use Rattle.std.specs.Option.{is_some}
use Rattle.kernel_values.specs.declared.call.Call.{Call}
use Rattle.kernel_values.specs.declared.call.Call.TheVariants as call
use Rattle.kernel_values.specs.declared.errno.Errno.{Errno}
use Rattle.kernel_values.specs.declared.flags.Events.{Events}
use Rattle.kernel_values.specs.declared.flags.MemFlags.{MemFlags}
use Rattle.kernel_values.specs.declared.state.ChannelEnd.{ChannelEnd}
use Rattle.kernel_values.specs.declared.state.HandleSet.{HandleSet}
use Rattle.kernel_values.specs.declared.state.Member.{Member}
use Rattle.kernel_values.specs.declared.state.MemoryRef.{MemoryRef}
use Rattle.kernel_values.specs.declared.state.Port.{Port}
use Rattle.kernel_values.specs.declared.state.TableEntry.{TableEntry}
use Rattle.kernel_values.specs.declared.state.WaitOn.{WaitOn}
use Rattle.kernel_values.specs.declared.state.CoreState.{CoreState}
use Rattle.kernel_types.specs.CoreStep.{act}
use Rattle.kernel_types.specs.Objects.{set_changed, memory_of, set_of, end_of, end_changed, published, port_of, port_changed}
use Rattle.kernel_types.specs.Tables.{table_of, entry_at, is_full, install, remove_entry, has_room}
use Rattle.kernel_types.specs.Handles.{set_cookie, set_cookie_entry, close, close_entry, dup, dup_entry}
use Rattle.kernel_types.specs.Sets.{set_del, set_mod, labelled, labelled_entry, without_label, remasked, is_label_in}
use Rattle.kernel_types.specs.Memories.{mem_create, mem_read, mem_read_entry, mem_read_of, mem_write, mem_write_entry, mem_write_of, is_lawful_size, is_range, is_writable}
use Rattle.kernel_types.specs.Events.{events_of, is_ready_member, masked_events, is_filled, is_disconnected}
use Rattle.kernel_types.specs.Reports.{with_last_reported, Reported, report_of, set_or_plain_report, plain_report, member_report, entry_report, cleared, with_last, last_of, in_turn, has_events}
use Rattle.kernel_types.specs.Waits.{wait, end_of_wait, end_by_kind, end_by_report, is_due}
use Rattle.kernel_types.specs.Outcome.{Outcome, refuses, gives, sent_seq, gives_with, end_seq}
use Rattle.kernel_values.specs.declared.state.Message.{Message}
use Rattle.kernel_types.specs.Messages.{part_limit, is_unconnected, is_in_table, has_unsendable_part, send, send_entry, send_from, deliver, peer_end, part_objects, with_message, blocked_end, get, get_entry, get_from, get_message, is_opened_as, read, read_entry, read_from, read_opened, put, put_entry, put_from, put_message, peer_unblocked, is_full_end}
use Rattle.kernel_values.specs.declared.flags.PortFlags.{PortFlags}
use Rattle.kernel_values.specs.declared.state.Wait.{Wait}
use Rattle.kernel_types.specs.Ports.{is_lawful_port, port_create}
use Rattle.kernel_types.specs.Connects.{connect_decision, decided_on, holds_end, accept, accept_entry, accept_port, accept_pending, accept_server, accept_client, peer_of, accepted_end}
use Rattle.kernel_values.specs.declared.entry.EndSeq.{EndSeq}
use Rattle.kernel_values.specs.declared.entry.Seqs.{Seqs}
use Rattle.kernel_values.specs.declared.errno.Errno.TheVariants as errno
use Rattle.kernel_values.specs.declared.state.WaitOn.TheVariants as wait_on
use Rattle.kernel_values.specs.declared.reply.Answer.TheVariants as answer
use Rattle.kernel_values.specs.declared.reply.Reply.TheVariants as reply
use Rattle.step_laws.specs.SmallChanges.{Carries, MayDeliver, Move, SmallChange, after, after_accept, is_of_app, moves}
use Rattle.step_laws.specs.SmallChanges.Carries.{parts_held}
use Rattle.step_laws.specs.SmallChanges.Mark.{mark_blocked, mark_unblocked, mark_decided, mark_reported}
use Rattle.step_laws.specs.SmallChanges.Move.{was_sent, was_opened, was_retired}
use Rattle.step_laws.specs.SmallChanges.Nameable.{by_entry, by_number}
use Rattle.step_laws.specs.SmallChanges.SmallChange.{cookie_changed, entry_removed, entry_installed, parts_installed, last_changed, memory_made, port_made, member_removed, member_remasked, member_put_last, memory_written, message_sent, message_opened, message_retired, end_marked, end_accepted}
use Rattle.step_laws.specs.Walks.{SmallWalk, moves_of}
use Rattle.step_laws.proofs.Outcomes.{Comes, is_answered, lists, may_list}
use Rattle.step_laws.proofs.Outcomes.Said.{says_memory, says_message, says_no_list}
use Rattle.step_laws.proofs.Rows.{one_more, one_told}
use Rattle.step_laws.proofs.There.{new_made, port_made_so}

pub not_false : (b : Bool) → not b ≡ false → b ≡ true
not_false true is = refl
not_false false is = absurd (cc)

abbrev pub only_opened : Option EndSeq → Seqs
only_opened seq = record { sent = None; opened = seq; retired = None }

abbrev pub only_retired : Option EndSeq → Seqs
only_retired seq = record { sent = None; opened = None; retired = seq }

abbrev pub both_seqs : Option EndSeq → Option EndSeq → Seqs
both_seqs one other = record { sent = None; opened = one; retired = other }

pub get_message_seqs : (c : CoreState) (object : ℕ) (end : ChannelEnd) (message : Option Message)
    → (get_message c object end message).seqs ≡ only_opened (get_message c object end message).seqs.opened
get_message_seqs c object end (Some message) = refl
get_message_seqs c object end None =
    elim (is_disconnected end.state) as (λ b. (cond b (refuses errno.ChannelClosed c) (refuses errno.NoMsg c)).seqs ≡ only_opened (cond b (refuses errno.ChannelClosed c) (refuses errno.NoMsg c)).seqs.opened)
    [ true ↦ refl | false ↦ refl ]

put_message_seqs : (c : CoreState) (object : ℕ) (end : ChannelEnd) (id : ℕ) (message : Option Message)
    → (put_message c object end id message).seqs ≡ only_retired (put_message c object end id message).seqs.retired
put_message_seqs c object end id None = refl
put_message_seqs c object end id (Some message) = refl

put_seqs : (c : CoreState) (object id : ℕ) (end : Option ChannelEnd) → (put_from c object id end).seqs ≡ only_retired (put_from c object id end).seqs.retired
put_seqs c object id None = refl
put_seqs c object id (Some end) = put_message_seqs c object end id (find (is_opened_as id) end.messages)

put_message_lists : (c : CoreState) (object : ℕ) (end : ChannelEnd) (id : ℕ) (message : Option Message) → lists (put_message c object end id message).answer ≡ false
put_message_lists c object end id None = refl
put_message_lists c object end id (Some message) = refl

put_lists : (c : CoreState) (object id : ℕ) (end : Option ChannelEnd) → lists (put_from c object id end).answer ≡ false
put_lists c object id None = refl
put_lists c object id (Some end) = put_message_lists c object end id (find (is_opened_as id) end.messages)

put_message_answers : (c : CoreState) (object : ℕ) (end : ChannelEnd) (id : ℕ) (message : Option Message) → is_answered false (put_message c object end id message).answer ≡ true
put_message_answers c object end id None = refl
put_message_answers c object end id (Some message) = refl

put_answers : (c : CoreState) (object id : ℕ) (end : Option ChannelEnd) → is_answered false (put_from c object id end).answer ≡ true
put_answers c object id None = refl
put_answers c object id (Some end) = put_message_answers c object end id (find (is_opened_as id) end.messages)

module _ (by : Option ℕ) (s : CoreState) where
  abbrev pub Now : CoreState → Type 0
  Now c = SmallWalk by s [] c

  abbrev pub Goes : Bool → Outcome → Type 0
  Goes reads outcome = Comes by reads false s outcome

  abbrev pub GoesIf : Option Outcome → Type 0
  GoesIf None = Unit {0}
  GoesIf (Some outcome) = Comes by false true s outcome

  pub more : {ts : List Move} (c : CoreState) → SmallWalk by s ts c → (small : SmallChange by c) → moves by c small ≡ [] → SmallWalk by s ts (after by c small)
  more c k small still = one_more (SmallChange by) (after by) (moves by) s c k small still

  pub tells : {ts : List Move} (c : CoreState) → SmallWalk by s ts c → (small : SmallChange by c) (one : Move) → moves by c small ≡ one ∷ [] → SmallWalk by s (one ∷ ts) (after by c small)
  tells c k small one is = one_told (SmallChange by) (after by) (moves by) s c k small one is

  refused : {reads ends : Bool} (e : Errno) (c : CoreState) → Now c → is_answered ends (answer.Refuses e) ≡ true → Comes by reads ends s (refuses e c)
  refused e c k answers = record { walk = k; says = says_no_list refl; answers = answers }

  goes_if : {reads : Bool} (b : Bool) (one other : Outcome) → (b ≡ true → Goes reads one) → (b ≡ false → Goes reads other) → Goes reads (if b then one else other)
  goes_if true one other p q = p refl
  goes_if false one other p q = q refl

  unless : {reads : Bool} (b : Bool) (e : Errno) (c : CoreState) (y : Outcome) → Now c → is_answered false (answer.Refuses e) ≡ true → (b ≡ false → Goes reads y) → Goes reads (if b then refuses e c else y)
  unless b e c y k answers other = goes_if b (refuses e c) y (λ is. refused e c k answers) other

  -- Messages, of an application or of the bridge.

  pub deliver_goes : (c : CoreState) → Now c → (id : ℕ) (source : ChannelEnd) → end_of c.objects id ≡ Some source → (bytes parts : List ℕ) → length bytes ≤ source.size
      → Carries by c source parts → (peer : Option ℕ) → source.peer ≡ peer → (o : Option ChannelEnd) → peer_end c.objects peer ≡ o
      → Goes false (deliver c id peer o bytes parts)
  deliver_goes c k id source here bytes parts short carries None to None is = refused errno.ChannelClosed c k refl
  deliver_goes c k id source here bytes parts short carries None to (Some end) is = refused errno.ChannelClosed c k refl
  deliver_goes c k id source here bytes parts short carries (Some peer) to None is = refused errno.ChannelClosed c k refl
  deliver_goes c k id source here bytes parts short carries (Some peer) to (Some end) is =
      goes_if (is_full_end end) (refuses errno.NotEnoughBuffer (end_changed blocked_end id c))
      (gives_with (reply.Count (length bytes)) (sent_seq peer end.sent) (end_changed (with_message bytes parts) peer c))
      (λ full. record { walk = more c k (end_marked mark_blocked id) refl; says = says_no_list refl; answers = refl })
      (λ room.
      let may : MayDeliver c id source peer end bytes = record { source_there = here; peer = to; there = is; room = room; short = short } in
      record { walk = tells c k (message_sent id source peer end bytes parts may carries) (was_sent (end_seq peer end.sent)) refl; says = says_no_list refl; answers = refl })

  pub get_message_goes : (c : CoreState) → Now c → (id : ℕ) (end : ChannelEnd) → end_of c.objects id ≡ Some end → (message : Option Message)
      → find is_filled end.messages ≡ message → Goes false (get_message c id end message)
  get_message_goes c k id end is None none =
      goes_if (is_disconnected end.state) (refuses errno.ChannelClosed c) (refuses errno.NoMsg c) (λ gone. refused errno.ChannelClosed c k refl) (λ there. refused errno.NoMsg c k refl)
  get_message_goes c k id end is (Some message) first = record { walk = tells c k (message_opened id end message is first) (was_opened (end_seq id message.seq)) refl; says = says_no_list refl; answers = refl }

  unblocked_now : {ts : List Move} (c : CoreState) → SmallWalk by s ts c → (peer : Option ℕ) → SmallWalk by s ts (peer_unblocked peer c)
  unblocked_now c k None = k
  unblocked_now c k (Some peer) = more c k (end_marked mark_unblocked peer) refl

  -- after a message that was opened or none
  put_message_told : (seq : Option EndSeq) (c : CoreState) → SmallWalk by s (moves_of (only_opened seq)) c → (id : ℕ) (end : ChannelEnd) (number : ℕ) → end_of c.objects id ≡ Some end → (message : Option Message)
      → find (is_opened_as number) end.messages ≡ message
      → SmallWalk by s (moves_of (both_seqs seq (put_message c id end number message).seqs.retired)) (put_message c id end number message).core
  put_message_told seq c k id end number is None none = k
  put_message_told seq c k id end number is (Some message) first =
      unblocked_now _ (tells c k (message_retired id number end message is first) (was_retired (end_seq id message.seq)) refl) end.peer

  pub put_from_told : (seq : Option EndSeq) (c : CoreState) → SmallWalk by s (moves_of (only_opened seq)) c → (id number : ℕ) (o : Option ChannelEnd) → end_of c.objects id ≡ o
      → SmallWalk by s (moves_of (both_seqs seq (put_from c id number o).seqs.retired)) (put_from c id number o).core
  put_from_told seq c k id number None is = k
  put_from_told seq c k id number (Some end) is = put_message_told seq c k id end number is (find (is_opened_as number) end.messages) refl

-- whether a call changes tables and objects alone: it makes no set, adds no member, and neither waits, starts nor ends
abbrev pub is_quiet : Call → Bool
is_quiet (call.Connect path flags) = false
is_quiet call.SetCreate = false
is_quiet (call.SetAdd held handle mask cookie) = false
is_quiet (call.Wait handle timeout) = false
is_quiet (call.WaitAny timeout) = false
is_quiet (call.Exit code) = false
is_quiet call.Finish = false
is_quiet _ = true

abbrev pub ComesIf : (app : ℕ) (s : CoreState) → Call → Option Outcome → Type 0
ComesIf app s asked None = Unit {0}
ComesIf app s asked (Some outcome) = Comes (Some app) (may_list asked) false s outcome

-- For an application.

module _ (app : ℕ) (s : CoreState) where
  -- Tables.

  cookie_to : (c : CoreState) → Now (Some app) s c → (handle cookie : ℕ) (o : Option TableEntry) → entry_at (table_of c app) handle ≡ o → Goes (Some app) s false (set_cookie_entry c app handle cookie o)
  cookie_to c k handle cookie None is = refused (Some app) s errno.BadHandle c k refl
  cookie_to c k handle cookie (Some entry) is = record { walk = more (Some app) s c k (cookie_changed app refl handle cookie entry is) refl; says = says_no_list refl; answers = refl }

  cookie_goes : (c : CoreState) → Now (Some app) s c → (handle cookie : ℕ) → Goes (Some app) s false (set_cookie c app handle cookie)
  unfolding set_cookie
  cookie_goes c k handle cookie = cookie_to c k handle cookie (entry_at (table_of c app) handle) refl

  close_to : (c : CoreState) → Now (Some app) s c → (handle : ℕ) (o : Option TableEntry) → entry_at (table_of c app) handle ≡ o → Goes (Some app) s false (close_entry c app handle o)
  close_to c k handle None is = refused (Some app) s errno.BadHandle c k refl
  close_to c k handle (Some entry) is = record { walk = more (Some app) s c k (entry_removed app refl handle entry is) refl; says = says_no_list refl; answers = refl }

  close_goes : (c : CoreState) → Now (Some app) s c → (handle : ℕ) → Goes (Some app) s false (close c app handle)
  unfolding close
  close_goes c k handle = close_to c k handle (entry_at (table_of c app) handle) refl

  dup_to : (c : CoreState) → Now (Some app) s c → (handle : ℕ) (o : Option TableEntry) → entry_at (table_of c app) handle ≡ o → Goes (Some app) s false (dup_entry c app o)
  dup_to c k handle None is = refused (Some app) s errno.BadHandle c k refl
  dup_to c k handle (Some entry) is =
      unless (Some app) s (is_full (table_of c app)) errno.NoResources c _ k refl (λ room. record { walk = more (Some app) s c k (entry_installed app refl entry.object (by_entry handle entry is refl) room) refl; says = says_no_list refl; answers = refl })

  dup_goes : (c : CoreState) → Now (Some app) s c → (handle : ℕ) → Goes (Some app) s false (dup c app handle)
  unfolding dup
  dup_goes c k handle = dup_to c k handle (entry_at (table_of c app) handle) refl

  -- Sets.

  del_of : (c : CoreState) → Now (Some app) s c → (id label : ℕ) (o : Option HandleSet) → set_of c.objects id ≡ o → Goes (Some app) s false (labelled c id label (without_label label) o)
  del_of c k id label None is = refused (Some app) s errno.InvalidArgs c k refl
  del_of c k id label (Some set) is =
      goes_if (Some app) s (is_label_in set.members label) (gives reply.Done (set_changed (without_label label) id c)) (refuses errno.NotFound c)
      (λ known. record { walk = more (Some app) s c k (member_removed id label set is known) refl; says = says_no_list refl; answers = refl }) (λ other. refused (Some app) s errno.NotFound c k refl)

  del_to : (c : CoreState) → Now (Some app) s c → (label : ℕ) (o : Option TableEntry) → Goes (Some app) s false (labelled_entry c label (without_label label) o)
  del_to c k label None = refused (Some app) s errno.BadHandle c k refl
  del_to c k label (Some entry) = del_of c k entry.object label (set_of c.objects entry.object) refl

  del_goes : (c : CoreState) → Now (Some app) s c → (set label : ℕ) → Goes (Some app) s false (set_del c app set label)
  unfolding set_del
  del_goes c k set label = del_to c k label (entry_at (table_of c app) set)

  mod_of : (c : CoreState) → Now (Some app) s c → (id label : ℕ) (mask : Events) (cookie : ℕ) (o : Option HandleSet) → set_of c.objects id ≡ o → Goes (Some app) s false (labelled c id label (remasked label mask cookie) o)
  mod_of c k id label mask cookie None is = refused (Some app) s errno.InvalidArgs c k refl
  mod_of c k id label mask cookie (Some set) is =
      goes_if (Some app) s (is_label_in set.members label) (gives reply.Done (set_changed (remasked label mask cookie) id c)) (refuses errno.NotFound c)
      (λ known. record { walk = more (Some app) s c k (member_remasked id label mask cookie set is known) refl; says = says_no_list refl; answers = refl }) (λ other. refused (Some app) s errno.NotFound c k refl)

  mod_to : (c : CoreState) → Now (Some app) s c → (label : ℕ) (mask : Events) (cookie : ℕ) (o : Option TableEntry) → Goes (Some app) s false (labelled_entry c label (remasked label mask cookie) o)
  mod_to c k label mask cookie None = refused (Some app) s errno.BadHandle c k refl
  mod_to c k label mask cookie (Some entry) = mod_of c k entry.object label mask cookie (set_of c.objects entry.object) refl

  mod_goes : (c : CoreState) → Now (Some app) s c → (set label : ℕ) (mask : Events) (cookie : ℕ) → Goes (Some app) s false (set_mod c app set label mask cookie)
  unfolding set_mod
  mod_goes c k set label mask cookie = mod_to c k label mask cookie (entry_at (table_of c app) set)

  -- Memory references.

  memref_goes : (c : CoreState) → Now (Some app) s c → (size : ℕ) (flags : MemFlags) → Goes (Some app) s false (mem_create c app size flags)
  unfolding mem_create
  memref_goes c k size flags =
      unless (Some app) s (not (is_lawful_size size)) errno.InvalidArgs c _ k refl (λ lawful.
      unless (Some app) s (is_full (table_of c app)) errno.NoResources c _ k refl (λ room.
      record { walk = more (Some app) s _ (more (Some app) s c k (memory_made size flags (not_false (is_lawful_size size) lawful)) refl) (entry_installed app refl c.next (by_number (new_made is_of_app _ c refl)) room) refl; says = says_no_list refl; answers = refl }))

  mread_of : (c : CoreState) → Now (Some app) s c → (id offset len : ℕ) (o : Option MemoryRef) → memory_of c.objects id ≡ o → Goes (Some app) s true (mem_read_of c o offset len)
  mread_of c k id offset len None is = refused (Some app) s errno.InvalidArgs c k refl
  mread_of c k id offset len (Some memory) is =
      goes_if (Some app) s (is_range memory offset len) (gives (reply.Bytes (take len (drop offset memory.bytes)) []) c) (refuses errno.InvalidArgs c)
      (λ range. record { walk = k; says = says_memory refl c k.row id memory is offset len refl; answers = refl }) (λ other. refused (Some app) s errno.InvalidArgs c k refl)

  mread_to : (c : CoreState) → Now (Some app) s c → (offset len : ℕ) (o : Option TableEntry) → Goes (Some app) s true (mem_read_entry c o offset len)
  mread_to c k offset len None = refused (Some app) s errno.BadHandle c k refl
  mread_to c k offset len (Some entry) = mread_of c k entry.object offset len (memory_of c.objects entry.object) refl

  mread_goes : (c : CoreState) → Now (Some app) s c → (handle offset len : ℕ) → Goes (Some app) s true (mem_read c app handle offset len)
  unfolding mem_read
  mread_goes c k handle offset len = mread_to c k offset len (entry_at (table_of c app) handle)

  mwrite_of : (c : CoreState) → Now (Some app) s c → (id offset : ℕ) (bytes : List ℕ) (o : Option MemoryRef) → memory_of c.objects id ≡ o → Goes (Some app) s false (mem_write_of c id o offset bytes)
  mwrite_of c k id offset bytes None is = refused (Some app) s errno.InvalidArgs c k refl
  mwrite_of c k id offset bytes (Some memory) is =
      unless (Some app) s (not (is_range memory offset (length bytes))) errno.InvalidArgs c _ k refl (λ range.
      unless (Some app) s (not (is_writable memory.flags)) errno.AccessDenied c _ k refl (λ writable.
      record { walk = more (Some app) s c k (memory_written id offset bytes memory is (not_false (is_range memory offset (length bytes)) range) (not_false (is_writable memory.flags) writable)) refl; says = says_no_list refl; answers = refl }))

  mwrite_to : (c : CoreState) → Now (Some app) s c → (offset : ℕ) (bytes : List ℕ) (o : Option TableEntry) → Goes (Some app) s false (mem_write_entry c o offset bytes)
  mwrite_to c k offset bytes None = refused (Some app) s errno.BadHandle c k refl
  mwrite_to c k offset bytes (Some entry) = mwrite_of c k entry.object offset bytes (memory_of c.objects entry.object) refl

  mwrite_goes : (c : CoreState) → Now (Some app) s c → (handle offset : ℕ) (bytes : List ℕ) → Goes (Some app) s false (mem_write c app handle offset bytes)
  unfolding mem_write
  mwrite_goes c k handle offset bytes = mwrite_to c k offset bytes (entry_at (table_of c app) handle)

  -- Messages.

  send_of : (c : CoreState) → Now (Some app) s c → (id : ℕ) (bytes handles : List ℕ) (o : Option ChannelEnd) → end_of c.objects id ≡ o → Goes (Some app) s false (send_from c id (table_of c app) bytes handles o)
  send_of c k id bytes handles None is = refused (Some app) s errno.InvalidArgs c k refl
  send_of c k id bytes handles (Some end) is =
      let table : List TableEntry = table_of c app in
      unless (Some app) s (nat_lt part_limit (length handles)) errno.InvalidArgs c _ k refl (λ few.
      unless (Some app) s (is_unconnected end.state) errno.NotReady c _ k refl (λ connected.
      unless (Some app) s (is_disconnected end.state) errno.ChannelClosed c _ k refl (λ live.
      unless (Some app) s (nat_lt end.size (length bytes)) errno.TooBig c _ k refl (λ short.
      unless (Some app) s (not (list_all (is_in_table table) handles)) errno.BadHandle c _ k refl (λ held.
      unless (Some app) s (has_unsendable_part c table (peer_end c.objects end.peer) handles) errno.NotSupported c _ k refl (λ sendable.
      let few_le : length handles ≤ 8 = grind (arith, tests) in
      let short_le : length bytes ≤ end.size = grind (arith, tests) in
      let carries : Carries (Some app) c end (part_objects table handles) = parts_held app handles refl refl connected live few_le (not_false (list_all (is_in_table table) handles) held) sendable in
      deliver_goes (Some app) s c k id end is bytes (part_objects table handles) short_le carries end.peer refl (peer_end c.objects end.peer) refl))))))

  send_to : (c : CoreState) → Now (Some app) s c → (bytes handles : List ℕ) (o : Option TableEntry) → Goes (Some app) s false (send_entry c (table_of c app) bytes handles o)
  send_to c k bytes handles None = refused (Some app) s errno.BadHandle c k refl
  send_to c k bytes handles (Some entry) = send_of c k entry.object bytes handles (end_of c.objects entry.object) refl

  send_goes : (c : CoreState) → Now (Some app) s c → (chan : ℕ) (bytes handles : List ℕ) → Goes (Some app) s false (send c app chan bytes handles)
  unfolding send
  send_goes c k chan bytes handles = send_to c k bytes handles (entry_at (table_of c app) chan)

  get_from_goes : (c : CoreState) → Now (Some app) s c → (id : ℕ) (o : Option ChannelEnd) → end_of c.objects id ≡ o → Goes (Some app) s false (get_from c id o)
  get_from_goes c k id None is = refused (Some app) s errno.InvalidArgs c k refl
  get_from_goes c k id (Some end) is =
      unless (Some app) s (is_unconnected end.state) errno.NotReady c _ k refl (λ connected. get_message_goes (Some app) s c k id end is (find is_filled end.messages) refl)

  get_to : (c : CoreState) → Now (Some app) s c → (o : Option TableEntry) → Goes (Some app) s false (get_entry c o)
  get_to c k None = refused (Some app) s errno.BadHandle c k refl
  get_to c k (Some entry) = get_from_goes c k entry.object (end_of c.objects entry.object) refl

  get_goes : (c : CoreState) → Now (Some app) s c → (chan : ℕ) → Goes (Some app) s false (get c app chan)
  unfolding get
  get_goes c k chan = get_to c k (entry_at (table_of c app) chan)

  read_of : (c : CoreState) → Now (Some app) s c → (id number offset room parts : ℕ) (end : ChannelEnd) → end_of c.objects id ≡ Some end → (o : Option Message)
      → find (is_opened_as number) end.messages ≡ o → Goes (Some app) s true (read_opened c app o offset room parts)
  read_of c k id number offset room parts end there None is = refused (Some app) s errno.InvalidArgs c k refl
  read_of c k id number offset room parts end there (Some message) is =
      unless (Some app) s (nat_lt (length message.bytes) offset) errno.InvalidArgs c _ k refl (λ within.
      unless (Some app) s (not (has_room (min parts (length message.parts)) (table_of c app))) errno.NoResources c _ k refl (λ fits.
      record { walk = more (Some app) s c k (parts_installed app refl id number parts end message there is (not_false (has_room (min parts (length message.parts)) (table_of c app)) fits)) refl; says = says_message refl c k.row id number end message there is app offset room parts refl; answers = refl }))

  read_from_goes : (c : CoreState) → Now (Some app) s c → (id number offset room parts : ℕ) (o : Option ChannelEnd) → end_of c.objects id ≡ o → Goes (Some app) s true (read_from c app o number offset room parts)
  read_from_goes c k id number offset room parts None is = refused (Some app) s errno.InvalidArgs c k refl
  read_from_goes c k id number offset room parts (Some end) is = read_of c k id number offset room parts end is (find (is_opened_as number) end.messages) refl

  read_to : (c : CoreState) → Now (Some app) s c → (number offset room parts : ℕ) (o : Option TableEntry) → Goes (Some app) s true (read_entry c app o number offset room parts)
  read_to c k number offset room parts None = refused (Some app) s errno.BadHandle c k refl
  read_to c k number offset room parts (Some entry) = read_from_goes c k entry.object number offset room parts (end_of c.objects entry.object) refl

  read_goes : (c : CoreState) → Now (Some app) s c → (chan number offset room parts : ℕ) → Goes (Some app) s true (read c app chan number offset room parts)
  unfolding read
  read_goes c k chan number offset room parts = read_to c k number offset room parts (entry_at (table_of c app) chan)

  put_from_goes : (c : CoreState) → Now (Some app) s c → (id number : ℕ) (o : Option ChannelEnd) → end_of c.objects id ≡ o → Goes (Some app) s false (put_from c id number o)
  put_from_goes c k id number o is = record { walk = subst (λ (q : Seqs). SmallWalk (Some app) s (moves_of q) (put_from c id number o).core) (sym (put_seqs c id number o)) (put_from_told (Some app) s None c k id number o is); says = says_no_list (put_lists c id number o); answers = put_answers c id number o }

  put_to : (c : CoreState) → Now (Some app) s c → (number : ℕ) (o : Option TableEntry) → Goes (Some app) s false (put_entry c number o)
  put_to c k number None = refused (Some app) s errno.BadHandle c k refl
  put_to c k number (Some entry) = put_from_goes c k entry.object number (end_of c.objects entry.object) refl

  put_goes : (c : CoreState) → Now (Some app) s c → (chan number : ℕ) → Goes (Some app) s false (put c app chan number)
  unfolding put
  put_goes c k chan number = put_to c k number (entry_at (table_of c app) chan)

  -- Connections.

  port_goes : (c : CoreState) → Now (Some app) s c → (path : List ℕ) (bufs size : ℕ) (flags : PortFlags) → Goes (Some app) s false (port_create c app path bufs size flags)
  unfolding port_create
  port_goes c k path bufs size flags =
      unless (Some app) s (not (is_lawful_port path bufs size)) errno.InvalidArgs c _ k refl (λ lawful.
      unless (Some app) s (is_some (published c.objects path)) errno.AlreadyExists c _ k refl (λ free.
      unless (Some app) s (is_full (table_of c app)) errno.NoResources c _ k refl (λ room.
      record { walk = more (Some app) s _ (more (Some app) s c k (port_made path bufs size flags (not_false (is_lawful_port path bufs size) lawful) free) refl) (entry_installed app refl c.next (by_number (port_made_so _ c)) room) refl; says = says_no_list refl; answers = refl })))

  accept_pending_goes : (c : CoreState) → Now (Some app) s c → (id : ℕ) (port : Port) → port_of c.objects id ≡ Some port → (pending : List ℕ) → port.pending ≡ pending
      → Goes (Some app) s false (accept_pending c app id pending)
  accept_pending_goes c k id port there [] is = refused (Some app) s errno.NoMsg c k refl
  accept_pending_goes c k id port there (server ∷ rest) is =
      unless (Some app) s (is_full (table_of c app)) errno.NoResources c _ k refl (λ room.
      let client : Option ℕ = peer_of (end_of c.objects server) in
      let joined : Now (Some app) s (install app server (after_accept id server rest c)) = more (Some app) s c k (end_accepted app refl id server rest port there is room) refl in
      let ends : CoreState = end_changed (accepted_end false) server (port_changed (λ p. record p { pending = rest }) id c) in
      let P : Option ℕ → Type 0 = λ o. Now (Some app) s (install app server (accept_client o ends)) → Goes (Some app) s false (accept_server c app id server rest o) in
      let go : (o : Option ℕ) → P o = λ o. elim o as (λ v. P v) [
        | None ↦ (λ done. record { walk = done; says = says_no_list refl; answers = refl })
        | Some other ↦ (λ done. record { walk = done; says = says_no_list refl; answers = refl })
      ] in
      go client joined)

  accept_port_goes : (c : CoreState) → Now (Some app) s c → (id : ℕ) (o : Option Port) → port_of c.objects id ≡ o → Goes (Some app) s false (accept_port c app id o)
  accept_port_goes c k id None is = refused (Some app) s errno.InvalidArgs c k refl
  accept_port_goes c k id (Some port) is = accept_pending_goes c k id port is port.pending refl

  accept_to : (c : CoreState) → Now (Some app) s c → (o : Option TableEntry) → Goes (Some app) s false (accept_entry c app o)
  accept_to c k None = refused (Some app) s errno.BadHandle c k refl
  accept_to c k (Some entry) = accept_port_goes c k entry.object (port_of c.objects entry.object) refl

  accept_goes : (c : CoreState) → Now (Some app) s c → (handle : ℕ) → Goes (Some app) s false (accept c app handle)
  unfolding accept
  accept_goes c k handle = accept_to c k (entry_at (table_of c app) handle)

  -- All of these calls.

  pub quiet_goes : (thread : ℕ) (c : CoreState) → Now (Some app) s c → (asked : Call) → is_quiet asked ≡ true → ComesIf app s asked (act c thread app asked)
  unfolding act
  quiet_goes thread c k (call.PortCreate path bufs size flags) quiet = port_goes c k path bufs size flags
  quiet_goes thread c k (call.Accept port) quiet = accept_goes c k port
  quiet_goes thread c k (call.Send chan bytes parts) quiet = send_goes c k chan bytes parts
  quiet_goes thread c k (call.Get chan) quiet = get_goes c k chan
  quiet_goes thread c k (call.Read chan id offset room parts) quiet = read_goes c k chan id offset room parts
  quiet_goes thread c k (call.Put chan id) quiet = put_goes c k chan id
  quiet_goes thread c k (call.SetCookie handle cookie) quiet = cookie_goes c k handle cookie
  quiet_goes thread c k (call.Close handle) quiet = close_goes c k handle
  quiet_goes thread c k (call.Dup handle) quiet = dup_goes c k handle
  quiet_goes thread c k (call.SetDel set label) quiet = del_goes c k set label
  quiet_goes thread c k (call.SetMod set label mask cookie) quiet = mod_goes c k set label mask cookie
  quiet_goes thread c k (call.MemCreate size flags) quiet = memref_goes c k size flags
  quiet_goes thread c k (call.MemRead handle offset len) quiet = mread_goes c k handle offset len
  quiet_goes thread c k (call.MemWrite handle offset bytes) quiet = mwrite_goes c k handle offset bytes
  quiet_goes thread c k (call.Connect path flags) quiet = absurd (cc)
  quiet_goes thread c k call.SetCreate quiet = absurd (cc)
  quiet_goes thread c k (call.SetAdd held handle mask cookie) quiet = absurd (cc)
  quiet_goes thread c k (call.Wait handle timeout) quiet = absurd (cc)
  quiet_goes thread c k (call.WaitAny timeout) quiet = absurd (cc)
  quiet_goes thread c k (call.Exit code) quiet = absurd (cc)
  quiet_goes thread c k call.Finish quiet = absurd (cc)
  -- clients' calls
  quiet_goes thread c k other quiet = tt

  -- Waits.

  abbrev pub ReportGoes : Option Reported → Type 0
  ReportGoes None = Unit {0}
  ReportGoes (Some reported) = Now (Some app) s reported.core

  plain_goes : (c : CoreState) → Now (Some app) s c → (object handle cookie events : ℕ) → ReportGoes (plain_report c object handle cookie events)
  plain_goes c k object handle cookie events =
      elim (events == 0) as (λ b. ReportGoes (cond b None (Some (record { handle = handle; events = events; cookie = cookie; core = cleared events object c }))))
      [ true ↦ tt | false ↦ more (Some app) s c k (end_marked (mark_reported events) object) refl ]

  member_goes : (c : CoreState) → Now (Some app) s c → (id : ℕ) (set : HandleSet) → set_of c.objects id ≡ Some set → (o : Option Member)
      → find (is_ready_member (events_of c.objects)) set.members ≡ o → ReportGoes (member_report c id o)
  member_goes c k id set there None is = tt
  member_goes c k id set there (Some member) is =
      more (Some app) s (set_changed (with_last member) id c) (more (Some app) s c k (member_put_last id member set there is) refl) (end_marked (mark_reported (masked_events (events_of c.objects) member)) member.object) refl

  set_or_plain_goes : (c : CoreState) → Now (Some app) s c → (id handle cookie : ℕ) (o : Option HandleSet) → set_of c.objects id ≡ o → ReportGoes (set_or_plain_report c id handle cookie o)
  set_or_plain_goes c k id handle cookie None is = plain_goes c k id handle cookie (events_of c.objects id)
  set_or_plain_goes c k id handle cookie (Some set) is = member_goes c k id set is (find (is_ready_member (events_of c.objects)) set.members) refl

  entry_goes : (c : CoreState) → Now (Some app) s c → (o : Option TableEntry) → find (has_events c.objects) (in_turn (last_of (slice_get c.apps app)) (table_of c app)) ≡ o → ReportGoes (entry_report c app o)
  entry_goes c k None is = tt
  entry_goes c k (Some entry) is = more (Some app) s (with_last_reported app entry.handle c) (more (Some app) s c k (last_changed app refl entry is) refl) (end_marked (mark_reported (events_of c.objects entry.object)) entry.object) refl

  pub report_goes : (c : CoreState) → Now (Some app) s c → (on : WaitOn) → ReportGoes (report_of c app on)
  unfolding report_of
  report_goes c k (wait_on.Object object handle cookie) = set_or_plain_goes c k object handle cookie (set_of c.objects object) refl
  report_goes c k (wait_on.Connect end handle) = tt
  report_goes c k wait_on.Any = entry_goes c k (find (has_events c.objects) (in_turn (last_of (slice_get c.apps app)) (table_of c app))) refl

  goes_if_come : (b : Bool) (one other : Option Outcome) → (b ≡ true → GoesIf (Some app) s one) → (b ≡ false → GoesIf (Some app) s other) → GoesIf (Some app) s (if b then one else other)
  goes_if_come true one other p q = p refl
  goes_if_come false one other p q = q refl

  decided_goes : (c : CoreState) → Now (Some app) s c → (id handle : ℕ) (entry : TableEntry) → entry_at (table_of c app) handle ≡ Some entry → (cancelled : Bool) (o : Option ChannelEnd)
      → GoesIf (Some app) s (decided_on c app id handle cancelled o)
  decided_goes c k id handle entry held cancelled None = refused (Some app) s errno.ChannelClosed c k refl
  decided_goes c k id handle entry held cancelled (Some end) =
      let out : Now (Some app) s (remove_entry app handle c) = more (Some app) s c k (entry_removed app refl handle entry held) refl in
      goes_if_come end.accepted _ _ (λ yes. record { walk = more (Some app) s c k (end_marked mark_decided id) refl; says = says_no_list refl; answers = refl }) (λ no.
      goes_if_come (is_disconnected end.state) _ _ (λ gone. record { walk = out; says = says_no_list refl; answers = refl }) (λ there.
      goes_if_come cancelled _ _ (λ yes. record { walk = out; says = says_no_list refl; answers = refl }) (λ no. tt)))

  decision_to : (c : CoreState) → Now (Some app) s c → (end handle : ℕ) (cancelled : Bool) (o : Option TableEntry) → entry_at (table_of c app) handle ≡ o
      → GoesIf (Some app) s (if holds_end end o then decided_on c app end handle cancelled (end_of c.objects end) else Some (refuses errno.ChannelClosed c))
  decision_to c k end handle cancelled None is = refused (Some app) s errno.ChannelClosed c k refl
  decision_to c k end handle cancelled (Some entry) is =
      goes_if_come (entry.object == end) _ _ (λ same. decided_goes c k end handle entry is cancelled (end_of c.objects end)) (λ other. refused (Some app) s errno.ChannelClosed c k refl)

  decision_goes : (c : CoreState) → Now (Some app) s c → (end handle : ℕ) (cancelled : Bool) → GoesIf (Some app) s (connect_decision c app end handle cancelled)
  unfolding connect_decision
  decision_goes c k end handle cancelled = decision_to c k end handle cancelled (entry_at (table_of c app) handle) refl

  by_report_goes : (c : CoreState) → Now (Some app) s c → (wait : Wait) (r : Option Reported) → ReportGoes r → GoesIf (Some app) s (end_by_report c wait r)
  by_report_goes c k wait (Some reported) goes = record { walk = goes; says = says_no_list refl; answers = refl }
  by_report_goes c k wait None goes =
      goes_if_come wait.cancelled _ _ (λ yes. refused (Some app) s errno.Cancelled c k refl) (λ no.
      goes_if_come (is_due c.clock wait.deadline) _ _ (λ yes. refused (Some app) s errno.TimedOut c k refl) (λ no. tt))

  kind_goes : (c : CoreState) → Now (Some app) s c → (wait : Wait) (on : WaitOn) → GoesIf (Some app) s (end_by_kind c app wait on)
  kind_goes c k wait (wait_on.Connect end handle) = decision_goes c k end handle wait.cancelled
  kind_goes c k wait (wait_on.Object object handle cookie) = by_report_goes c k wait _ (report_goes c k (wait_on.Object object handle cookie))
  kind_goes c k wait wait_on.Any = by_report_goes c k wait _ (report_goes c k wait_on.Any)

  pub end_of_wait_goes : (c : CoreState) → Now (Some app) s c → (wait : Wait) → GoesIf (Some app) s (end_of_wait c app wait)
  unfolding end_of_wait
  end_of_wait_goes c k wait = kind_goes c k wait wait.on
