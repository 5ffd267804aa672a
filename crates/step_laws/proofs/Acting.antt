-- Every call of a thread: a row of small changes, and then what it does to threads and applications.
use Rattle.std.proofs.Common.{◌≡◌, ℕ, Bool, true, false, cond, not, List, [], Option, Some, None, refl, ap, ◌∙◌, length}
use Rattle.std.specs.Prelude.{if◌then◌else◌, slice_get, nat_lt, nat_le}
use Rattle.std.specs.List.{list_all, list_any}
use Rattle.std.specs.Option.{is_some}
use Rattle.kernel_values.specs.declared.call.Timeout.{Timeout}
use Rattle.kernel_values.specs.declared.errno.Errno.{Errno}
use Rattle.kernel_values.specs.declared.state.TableEntry.{TableEntry}
use Rattle.kernel_values.specs.declared.state.WaitOn.{WaitOn}
use Rattle.kernel_values.specs.declared.state.CoreState.{CoreState}
use Rattle.kernel_types.specs.Objects.{map_at, memory_of, added, set_changed, set_of}
use Rattle.kernel_types.specs.Tables.{table_of, entry_at, free_handle, is_full, install}
use Rattle.kernel_types.specs.Reports.{Reported, report_of, event_reply}
use Rattle.kernel_types.specs.Waits.{wait, wait_any, wait_entry, wait_or_report, begin_wait, can_have_events, is_zero_timeout, deadline_of}
use Rattle.kernel_types.specs.Applications.{started, application_ended, after_finish, is_elsewhere_or_over, thread_ended, finish, exit}
use Rattle.kernel_types.specs.Outcome.{Outcome, refuses, gives}
use Rattle.kernel_values.specs.Words.{is_path}
use Rattle.kernel_values.specs.declared.flags.ConnectFlags.{ConnectFlags}
use Rattle.kernel_values.specs.declared.state.Application.{Application}
use Rattle.kernel_types.specs.Ports.{admits}
use Rattle.kernel_types.specs.Connects.{Way, is_asynchronous, waits_for_port, connect, connect_by, connected, way_of, pending_pair, waiting_client, started_unless_running, and_started}
use Rattle.kernel_types.specs.Connects.Way.{to_port, to_start, to_nothing}
use Rattle.kernel_types.specs.Threads.{waits_on}
use Rattle.kernel_values.specs.declared.call.Call.{Call}
use Rattle.kernel_types.specs.CoreStep.{act}
use Rattle.kernel_values.specs.declared.errno.Errno.TheVariants as errno
use Rattle.kernel_values.specs.declared.state.WaitOn.TheVariants as wait_on
use Rattle.kernel_values.specs.declared.reply.Reply.TheVariants as reply
use Rattle.kernel_values.specs.declared.state.Connector.TheVariants as connector
use Rattle.kernel_values.specs.declared.call.Call.TheVariants as call
use Rattle.kernel_values.specs.declared.reply.Answer.{Answer}
use Rattle.kernel_values.specs.declared.reply.Answer.TheVariants as answer
use Rattle.kernel_types.specs.Sets.{set_create, set_add, set_add_entries, set_add_to, set_add_member, is_or_contains, is_label_in, chain_through, member_limit, new_member, with_member}
use Rattle.kernel_types.specs.Events.{chain_limit}
use Rattle.kernel_values.specs.declared.flags.Events.{Events}
use Rattle.kernel_values.specs.declared.state.HandleSet.{HandleSet}
use Rattle.kernel_values.specs.declared.state.Body.TheVariants as body
use Rattle.step_laws.specs.SmallChanges.{IsMade, is_of_app, is_to_port}
use Rattle.step_laws.specs.SmallChanges.Nameable.{by_number}
use Rattle.step_laws.specs.SmallChanges.SmallChange.{entry_installed, client_made, pair_made}
use Rattle.step_laws.specs.Walks.{MadeBy, MayJoin, Awaits, Row, SmallWalk, ThreadChange, after_thread, is_connecting, moves_of, timeout_of}
use Rattle.step_laws.specs.Walks.Awaits.{for_any, for_connect, for_object}
use Rattle.step_laws.specs.Walks.Row.{goes_on, stays}
use Rattle.step_laws.specs.Walks.ThreadChange.{app_over, app_started, member_added, set_made, thread_over, wait_begun}
use Rattle.step_laws.proofs.Leaving.{row_leaves}
use Rattle.step_laws.proofs.Outcomes.{Acts, Said, is_answered, is_begun, may_list}
use Rattle.step_laws.proofs.Outcomes.Said.{says_no_list}
use Rattle.step_laws.proofs.There.{app_pair_made, client_made_so}
use Rattle.step_laws.proofs.Calls.{ComesIf, ReportGoes, more, not_false, quiet_goes, report_goes}

-- Calls that wait, start or end something.

abbrev pub DoesIf : (app thread : ℕ) (s : CoreState) → Call → Option Outcome → Type 0
DoesIf app thread s asked None = Unit {0}
DoesIf app thread s asked (Some outcome) = Acts app thread asked s outcome

begun_by : (said : Answer) → is_answered false said ≡ true → is_begun said ≡ true
begun_by answer.Waits answers = refl
begun_by _ answers = answers

module _ (app thread : ℕ) (s : CoreState) (who : (b : CoreState) → b.threads ≡ s.threads → MadeBy (Some app) b) where
  abbrev pub Does : Call → Outcome → Type 0
  Does asked outcome = Acts app thread asked s outcome

  -- tables and objects alone are changed
  at_once : {asked : Call} (outcome : Outcome) → SmallWalk (Some app) s (moves_of outcome.seqs) outcome.core → Said (Some app) (may_list asked) s outcome.answer → is_begun outcome.answer ≡ true → Does asked outcome
  at_once outcome k says answers = record { middle = outcome.core; walk = k; changes = stays outcome.core refl; says = says; answers = answers }

  refused_so : {asked : Call} (e : Errno) (c : CoreState) → SmallWalk (Some app) s [] c → is_answered false (answer.Refuses e) ≡ true → Does asked (refuses e c)
  refused_so e c k answers = at_once (refuses e c) k (says_no_list refl) answers

  does_if : {asked : Call} (b : Bool) (one other : Outcome) → (b ≡ true → Does asked one) → (b ≡ false → Does asked other) → Does asked (if b then one else other)
  does_if true one other p q = p refl
  does_if false one other p q = q refl

  without_if : {asked : Call} (b : Bool) (e : Errno) (c : CoreState) (y : Outcome) → SmallWalk (Some app) s [] c → is_answered false (answer.Refuses e) ≡ true → (b ≡ false → Does asked y) → Does asked (if b then refuses e c else y)
  without_if b e c y k answers other = does_if b (refuses e c) y (λ is. refused_so e c k answers) other

  waits_so : (c : CoreState) → SmallWalk (Some app) s [] c → (on : WaitOn) (asked : Call) → Awaits app asked c on → is_zero_timeout (timeout_of asked) ≡ false → Does asked (waits_on thread on (deadline_of c.clock (timeout_of asked)) c)
  waits_so c k on asked kind some = record { middle = c; walk = k; changes = goes_on _ c (stays c refl) (wait_begun on kind some refl) refl; says = says_no_list refl; answers = refl }

  connected_goes : (made : CoreState) → SmallWalk (Some app) s [] made → (c : CoreState) → IsMade is_of_app made c.next → table_of made app ≡ table_of c app → is_full (table_of c app) ≡ false → (path : List ℕ) (flags : ConnectFlags)
      → Does (call.Connect path flags) (connected c thread app flags made)
  connected_goes made k c given same room path flags =
      let handle : ℕ = free_handle (table_of c app) in
      let there : CoreState = install app c.next made in
      let more_room : is_full (table_of made app) ≡ false = ap is_full same ∙ room in
      let held : SmallWalk (Some app) s [] there = more (Some app) s made k (entry_installed app refl c.next (by_number given) more_room) refl in
      does_if (is_asynchronous flags) (gives (reply.Handle handle) there) (waits_on thread (wait_on.Connect c.next handle) None there)
      (λ now. at_once (gives (reply.Handle handle) there) held (says_no_list refl) refl)
      (λ later. waits_so there held (wait_on.Connect c.next handle) (call.Connect path flags) (for_connect c.next handle (record { given = given.given; there = given.there; made = given.made }) refl refl) refl)

  started_so : (asked : Call) → is_connecting asked ≡ true → (said : Answer) (m c : CoreState) → Row (ThreadChange app thread asked said) (after_thread app thread asked said) m c → (place : ℕ) (o : Option Application) → slice_get c.apps place ≡ o
      → Row (ThreadChange app thread asked said) (after_thread app thread asked said) m (started_unless_running place o c)
  started_so asked connects said m c k place None is = k
  started_so asked connects said m c k place (Some was) is =
      let P : Bool → Type 0 = λ b. was.running ≡ b → Row (ThreadChange app thread asked said) (after_thread app thread asked said) m (cond b c (started place c)) in
      let go : (b : Bool) → P b = λ b. elim b as (λ v. P v) [ true ↦ (λ runs. k) | false ↦ (λ still. goes_on (started place c) c k (app_started place was is still connects) refl) ] in
      go was.running refl

  and_started_goes : (asked : Call) → is_connecting asked ≡ true → (place : ℕ) (o : Outcome) → Does asked o → Does asked (and_started place o)
  and_started_goes asked connects place o goes = record { middle = goes.middle; walk = goes.walk; changes = started_so asked connects o.answer goes.middle o.core goes.changes place (slice_get o.core.apps place) refl; says = goes.says; answers = goes.answers }

  client_goes : (c : CoreState) → SmallWalk (Some app) s [] c → (path : List ℕ) (flags : ConnectFlags) → is_to_port (way_of c path) ≡ false → is_full (table_of c app) ≡ false
      → Does (call.Connect path flags) (connected c thread app flags (waiting_client (connector.App app) path c))
  client_goes c k path flags way room =
      connected_goes (waiting_client (connector.App app) path c) (more (Some app) s c k (client_made (connector.App app) path way) refl) c (client_made_so is_of_app (connector.App app) path c refl) refl room path flags

  way_goes : (way : Way) (c : CoreState) → SmallWalk (Some app) s [] c → (path : List ℕ) → way_of c path ≡ way → (flags : ConnectFlags) → Does (call.Connect path flags) (connect_by way c thread app path flags)
  way_goes (to_port id port) c k path is flags =
      without_if (not (admits port.flags (connector.App app))) errno.AccessDenied c _ k refl (λ lets.
      without_if (is_full (table_of c app)) errno.NoResources c _ k refl (λ room.
      connected_goes (pending_pair (connector.App app) id port c)
      (more (Some app) s c k (pair_made (connector.App app) path id port is (not_false (admits port.flags (connector.App app)) lets)) refl) c (app_pair_made app id port c) refl room path flags))
  way_goes (to_start place start) c k path is flags =
      without_if (not (admits start (connector.App app))) errno.AccessDenied c _ k refl (λ lets.
      without_if (is_full (table_of c app)) errno.NoResources c _ k refl (λ room.
      and_started_goes (call.Connect path flags) refl place (connected c thread app flags (waiting_client (connector.App app) path c)) (client_goes c k path flags (ap is_to_port is) room)))
  way_goes to_nothing c k path is flags =
      without_if (not (waits_for_port flags)) errno.NotFound c _ k refl (λ lets.
      without_if (is_full (table_of c app)) errno.NoResources c _ k refl (λ room. client_goes c k path flags (ap is_to_port is) room))

  pub connect_goes : (c : CoreState) → SmallWalk (Some app) s [] c → (path : List ℕ) (flags : ConnectFlags) → Does (call.Connect path flags) (connect c thread app path flags)
  unfolding connect
  connect_goes c k path flags = without_if (not (is_path path)) errno.InvalidArgs c _ k refl (λ lawful. way_goes (way_of c path) c k path refl flags)

  -- Sets.

  -- one change that the call makes by itself
  by_itself : {asked : Call} (outcome : Outcome) (c : CoreState) → SmallWalk (Some app) s (moves_of outcome.seqs) c → (change : ThreadChange app thread asked outcome.answer c)
      → outcome.core ≡ after_thread app thread asked outcome.answer c change → Said (Some app) (may_list asked) s outcome.answer → is_begun outcome.answer ≡ true → Does asked outcome
  by_itself outcome c k change is says answers = record { middle = c; walk = k; changes = goes_on outcome.core c (stays c refl) change is; says = says; answers = answers }

  set_goes : (c : CoreState) → SmallWalk (Some app) s [] c → Does call.SetCreate (set_create c app)
  unfolding set_create
  set_goes c k =
      let made : Outcome = gives (reply.Handle (free_handle (table_of c app))) (install app c.next (added (body.Set (record { members = [] })) c)) in
      without_if (is_full (table_of c app)) errno.NoResources c made k refl (λ room. by_itself made c k (set_made refl (who c (row_leaves (Some app) s c k.row).threads) room) refl (says_no_list refl) refl)

  module _ (c : CoreState) (k : SmallWalk (Some app) s [] c) (held handle : ℕ) (mask : Events) (cookie : ℕ) where
    add_member : (id : ℕ) (set : HandleSet) (entry : TableEntry) → set_of c.objects id ≡ Some set → entry_at (table_of c app) handle ≡ Some entry
        → Does (call.SetAdd held handle mask cookie) (set_add_member c id set (new_member handle entry.object mask cookie))
    add_member id set entry there here =
        without_if (is_or_contains c.objects entry.object id) errno.InvalidArgs c _ k refl (λ apart.
        without_if (is_some (memory_of c.objects entry.object)) errno.NotSupported c _ k refl (λ no_memory.
        without_if (is_label_in set.members handle) errno.AlreadyExists c _ k refl (λ unlabelled.
        without_if (nat_lt chain_limit (chain_through c.objects id entry.object)) errno.RecurseTooDeep c _ k refl (λ shallow.
        without_if (nat_le member_limit (length set.members)) errno.NoResources c _ k refl (λ room.
        let may : MayJoin c id set entry.object handle = record { there = there; apart = apart; no_memory = no_memory; unlabelled = unlabelled; shallow = shallow; room = room } in
        by_itself (gives reply.Done (set_changed (with_member (new_member handle entry.object mask cookie)) id c)) c k
        (member_added held handle mask cookie id set entry refl here may) refl (says_no_list refl) refl)))))

    add_to : (id : ℕ) (entry : TableEntry) → entry_at (table_of c app) handle ≡ Some entry → (o : Option HandleSet) → set_of c.objects id ≡ o
        → Does (call.SetAdd held handle mask cookie) (set_add_to c id o (new_member handle entry.object mask cookie))
    add_to id entry here None is = refused_so errno.InvalidArgs c k refl
    add_to id entry here (Some set) is = add_member id set entry is here

    add_entries : (set entry : Option TableEntry) → entry_at (table_of c app) handle ≡ entry → Does (call.SetAdd held handle mask cookie) (set_add_entries c handle mask cookie set entry)
    add_entries None None is = refused_so errno.BadHandle c k refl
    add_entries None (Some entry) is = refused_so errno.BadHandle c k refl
    add_entries (Some set) None is = refused_so errno.BadHandle c k refl
    add_entries (Some set) (Some entry) is = add_to set.object entry is (set_of c.objects set.object) refl

    add_goes : Does (call.SetAdd held handle mask cookie) (set_add c app held handle mask cookie)
    unfolding set_add
    add_goes = add_entries (entry_at (table_of c app) held) (entry_at (table_of c app) handle) refl

  -- Waits.

  wait_or_report_goes : (c : CoreState) → SmallWalk (Some app) s [] c → (on : WaitOn) (asked : Call) → Awaits app asked c on → (r : Option Reported) → ReportGoes app s r → Does asked (wait_or_report c thread on (timeout_of asked) r)
  wait_or_report_goes c k on asked kind (Some reported) goes = at_once (gives (event_reply reported) reported.core) goes (says_no_list refl) refl
  wait_or_report_goes c k on asked kind None goes = without_if (is_zero_timeout (timeout_of asked)) errno.TimedOut c _ k refl (λ some. waits_so c k on asked kind some)

  wait_to : (c : CoreState) → SmallWalk (Some app) s [] c → (handle : ℕ) (timeout : Timeout) (o : Option TableEntry) → entry_at (table_of c app) handle ≡ o → Does (call.Wait handle timeout) (wait_entry c thread app timeout o)
  wait_to c k handle timeout None is = refused_so errno.BadHandle c k refl
  wait_to c k handle timeout (Some entry) is =
      let on : WaitOn = wait_on.Object entry.object entry.handle entry.cookie in
      without_if (is_some (memory_of c.objects entry.object)) errno.NotSupported c _ k refl (λ other.
      wait_or_report_goes c k on (call.Wait handle timeout) (for_object handle entry is refl) (report_of c app on) (report_goes app s c k on))

  pub wait_goes : (c : CoreState) → SmallWalk (Some app) s [] c → (handle : ℕ) (timeout : Timeout) → Does (call.Wait handle timeout) (wait c thread app handle timeout)
  unfolding wait
  wait_goes c k handle timeout = wait_to c k handle timeout (entry_at (table_of c app) handle) refl

  pub wait_any_goes : (c : CoreState) → SmallWalk (Some app) s [] c → (timeout : Timeout) → Does (call.WaitAny timeout) (wait_any c thread app timeout)
  unfolding wait_any
  wait_any_goes c k timeout =
      does_if (list_any (can_have_events c.objects) (table_of c app)) (begin_wait c thread app wait_on.Any timeout) (refuses errno.NotFound c)
      (λ some. wait_or_report_goes c k wait_on.Any (call.WaitAny timeout) (for_any refl) (report_of c app wait_on.Any) (report_goes app s c k wait_on.Any)) (λ none. refused_so errno.NotFound c k refl)

  pub exit_goes : (c : CoreState) → SmallWalk (Some app) s [] c → (code : ℕ) → Does (call.Exit code) (exit c app)
  unfolding exit
  exit_goes c k code = record { middle = c; walk = k; changes = goes_on _ c (stays c refl) (app_over refl) refl; says = says_no_list refl; answers = refl }

  pub finish_goes : (c : CoreState) → SmallWalk (Some app) s [] c → Does call.Finish (finish c thread app)
  unfolding finish
  finish_goes c k =
      let R : CoreState → Type 0 = λ x. Row (ThreadChange app thread call.Finish (answer.Gives reply.Done)) (after_thread app thread call.Finish (answer.Gives reply.Done)) c x in
      let d : CoreState = record c { threads = map_at thread_ended c.threads thread } in
      let less : R d = goes_on d c (stays c refl) (thread_over refl) refl in
      let last : R (after_finish app d) =
      elim (list_all (is_elsewhere_or_over app) d.threads) as (λ b. R (cond b (application_ended app d) d)) [ true ↦ goes_on (application_ended app d) d less (app_over refl) refl | false ↦ less ] in
      record { middle = c; walk = k; changes = last; says = says_no_list refl; answers = refl }

  quietly : (asked : Call) (o : Option Outcome) → ComesIf app s asked o → DoesIf app thread s asked o
  quietly asked None comes = tt
  quietly asked (Some outcome) comes = at_once outcome comes.walk comes.says (begun_by outcome.answer comes.answers)

  pub act_goes : (c : CoreState) → SmallWalk (Some app) s [] c → (asked : Call) → DoesIf app thread s asked (act c thread app asked)
  unfolding act
  act_goes c k (call.Connect path flags) = connect_goes c k path flags
  act_goes c k call.SetCreate = set_goes c k
  act_goes c k (call.SetAdd held handle mask cookie) = add_goes c k held handle mask cookie
  act_goes c k (call.Wait handle timeout) = wait_goes c k handle timeout
  act_goes c k (call.WaitAny timeout) = wait_any_goes c k timeout
  act_goes c k (call.Exit code) = exit_goes c k code
  act_goes c k call.Finish = finish_goes c k
  -- the others change tables and objects alone, and clients make no call here
  act_goes c k asked = quietly asked (act c thread app asked) (quiet_goes app s thread c k asked refl)
