-- What a call of a thread comes to, where what is to hold is kept by a quiet change, by the beginning of its wait and by
-- a start of an application.
use Rattle.std.proofs.Common.{◌≡◌, ℕ, Bool, true, false, cond, List, Option, Some, None, refl, ◌∙◌, subst, length, []}
use Rattle.std.specs.Prelude.{slice_get, not, nat_le, nat_lt}
use Rattle.std.specs.List.{list_any}
use Rattle.std.specs.Option.{is_some}
use Rattle.kernel_values.specs.Words.{is_path}
use Rattle.kernel_values.specs.declared.call.Call.{Call}
use Rattle.kernel_values.specs.declared.call.Call.TheVariants as call
use Rattle.kernel_values.specs.declared.call.Timeout.{Timeout}
use Rattle.kernel_values.specs.declared.flags.ConnectFlags.{ConnectFlags}
use Rattle.kernel_values.specs.declared.reply.Answer.{Answer}
use Rattle.kernel_values.specs.declared.reply.Answer.TheVariants as answer
use Rattle.kernel_values.specs.declared.state.Application.{Application}
use Rattle.kernel_values.specs.declared.state.Connector.TheVariants as connector
use Rattle.kernel_values.specs.declared.state.CoreState.{CoreState}
use Rattle.kernel_values.specs.declared.state.TableEntry.{TableEntry}
use Rattle.kernel_values.specs.declared.state.Wait.{Wait}
use Rattle.kernel_values.specs.declared.state.WaitOn.{WaitOn}
use Rattle.kernel_values.specs.declared.state.WaitOn.TheVariants as wait_on
use Rattle.kernel_types.specs.Applications.{started}
use Rattle.kernel_types.specs.Connects.{Way, to_port, to_start, to_nothing, connect, connect_by, connected, started_unless_running, and_started, way_of, waits_for_port, is_asynchronous, pending_pair, waiting_client}
use Rattle.kernel_types.specs.Objects.{memory_of, added, set_of}
use Rattle.kernel_types.specs.Outcome.{Outcome}
use Rattle.kernel_types.specs.Ports.{admits}
use Rattle.kernel_types.specs.Reports.{Reported, report_of}
use Rattle.kernel_types.specs.CoreStep.{act}
use Rattle.kernel_types.specs.Tables.{table_of, entry_at, is_full, install, free_handle}
use Rattle.kernel_types.specs.Threads.{with_activity, waiting_activity, new_wait, waits_on}
use Rattle.kernel_types.specs.Waits.{wait, wait_entry, wait_any, wait_or_report, is_zero_timeout, can_have_events, deadline_of}
use Rattle.kernel_values.specs.declared.flags.Events.{Events}
use Rattle.kernel_values.specs.declared.state.Body.TheVariants as body
use Rattle.kernel_values.specs.declared.state.HandleSet.{HandleSet}
use Rattle.kernel_values.specs.declared.state.Member.{Member}
use Rattle.kernel_types.specs.Events.{chain_limit}
use Rattle.kernel_types.specs.Sets.{chain_through, is_label_in, is_or_contains, member_limit, new_member, set_add, set_add_entries, set_add_member, set_add_to, set_create}
use Rattle.step_laws.specs.Walks.{is_ending}
use Rattle.step_laws.proofs.Calls.{ComesIf, ReportGoes, quiet_goes, report_goes}
use Rattle.step_laws.proofs.Leaving.{Quiet, quiet, quiet_of, row_leaves, starts_stay}
use Rattle.step_laws.proofs.TurnLeaving.{comes_quiet}
use Rattle.step_laws.proofs.Steps.{none_yet}
use Rattle.run_laws.proofs.Finals.{IsFinal, answered_final}

-- what is to hold of an answer and the state that comes with it, after a call of the thread `k` in the state `c`
pub record Upheld (c : CoreState) (k : ℕ) : Type 1 where
  pub holds : Answer → CoreState → Type 0
  pub quiet : (given : Answer) (d : CoreState) → IsFinal given → Quiet c d → holds given d
  pub waits : (d : CoreState) (w : Wait) → Quiet c d → holds answer.Waits (with_activity (waiting_activity w) k d)
  pub begun : (given : Answer) (d : CoreState) (app : ℕ) → holds given d → holds given (started app d)

module _ (c : CoreState) (k : ℕ) (U : Upheld c k) where
  record Upholds (outcome : Outcome) : Type 0 where
    upheld : U.holds outcome.answer outcome.core

  by_quiet : (o : Outcome) → IsFinal o.answer → Quiet c o.core → Upholds o
  by_quiet o final q = record { upheld = U.quiet o.answer o.core final q }

  by_wait : (d : CoreState) (on : WaitOn) (deadline : Option ℕ) → Quiet c d → Upholds (waits_on k on deadline d)
  by_wait d on deadline q = record { upheld = U.waits d (new_wait on deadline) q }

  by_if : (b : Bool) (one other : Outcome) → Upholds one → Upholds other → Upholds (cond b one other)
  by_if true one other p q = p
  by_if false one other p q = q

  -- connect

  installed : (d : CoreState) (app object : ℕ) → Quiet c d → Quiet c (install app object d)
  installed d app object q = record { threads = q.threads; starts = starts_stay _ (λ a. refl) d.apps app ∙ q.starts }

  up_connected : (app : ℕ) (flags : ConnectFlags) (made : CoreState) → Quiet c made → Upholds (connected c k app flags made)
  up_connected app flags made q =
      by_if (is_asynchronous flags) _ _ (by_quiet _ refl (installed made app c.next q)) (by_wait (install app c.next made) (wait_on.Connect c.next (free_handle (table_of c app))) None (installed made app c.next q))

  served : (given : Answer) (place : ℕ) (app : Option Application) (d : CoreState) → U.holds given d → U.holds given (started_unless_running place app d)
  served given place None d u = u
  served given place (Some app) d u = elim app.running as (λ b. U.holds given (cond b d (started place d))) [ true ↦ u | false ↦ U.begun given d place u ]

  up_and_started : (place : ℕ) (o : Outcome) → Upholds o → Upholds (and_started place o)
  up_and_started place o u = record { upheld = served o.answer place (slice_get o.core.apps place) o.core u.upheld }

  up_connect_by : (way : Way) (app : ℕ) (path : List ℕ) (flags : ConnectFlags) → Upholds (connect_by way c k app path flags)
  up_connect_by (to_port id port) app path flags =
      by_if (not (admits port.flags (connector.App app))) _ _ (by_quiet _ refl (quiet c)) (by_if (is_full (table_of c app)) _ _ (by_quiet _ refl (quiet c))
      (up_connected app flags (pending_pair (connector.App app) id port c) (record { threads = refl; starts = refl })))
  up_connect_by (to_start place start) app path flags =
      by_if (not (admits start (connector.App app))) _ _ (by_quiet _ refl (quiet c)) (by_if (is_full (table_of c app)) _ _ (by_quiet _ refl (quiet c))
      (up_and_started place _ (up_connected app flags (waiting_client (connector.App app) path c) (record { threads = refl; starts = refl }))))
  up_connect_by to_nothing app path flags =
      by_if (not (waits_for_port flags)) _ _ (by_quiet _ refl (quiet c)) (by_if (is_full (table_of c app)) _ _ (by_quiet _ refl (quiet c))
      (up_connected app flags (waiting_client (connector.App app) path c) (record { threads = refl; starts = refl })))

  up_connect : (app : ℕ) (path : List ℕ) (flags : ConnectFlags) → Upholds (connect c k app path flags)
  unfolding connect
  up_connect app path flags = by_if (not (is_path path)) _ _ (by_quiet _ refl (quiet c)) (up_connect_by (way_of c path) app path flags)

  -- sets

  up_set : (app : ℕ) → Upholds (set_create c app)
  unfolding set_create
  up_set app =
      by_if (is_full (table_of c app)) _ _ (by_quiet _ refl (quiet c))
      (by_quiet _ refl (installed (added (body.Set (record { members = [] })) c) app c.next (record { threads = refl; starts = refl })))

  up_add_member : (id : ℕ) (set : HandleSet) (m : Member) → Upholds (set_add_member c id set m)
  up_add_member id set m =
      by_if (is_or_contains c.objects m.object id) _ _ (by_quiet _ refl (quiet c)) (by_if (is_some (memory_of c.objects m.object)) _ _ (by_quiet _ refl (quiet c))
      (by_if (is_label_in set.members m.label) _ _ (by_quiet _ refl (quiet c)) (by_if (nat_lt chain_limit (chain_through c.objects id m.object)) _ _ (by_quiet _ refl (quiet c))
      (by_if (nat_le member_limit (length set.members)) _ _ (by_quiet _ refl (quiet c)) (by_quiet _ refl (record { threads = refl; starts = refl }))))))

  up_add_to : (id : ℕ) (m : Member) (set : Option HandleSet) → Upholds (set_add_to c id set m)
  up_add_to id m None = by_quiet _ refl (quiet c)
  up_add_to id m (Some set) = up_add_member id set m

  up_add_entries : (handle : ℕ) (mask : Events) (cookie : ℕ) (set entry : Option TableEntry) → Upholds (set_add_entries c handle mask cookie set entry)
  up_add_entries handle mask cookie None None = by_quiet _ refl (quiet c)
  up_add_entries handle mask cookie None (Some entry) = by_quiet _ refl (quiet c)
  up_add_entries handle mask cookie (Some set) None = by_quiet _ refl (quiet c)
  up_add_entries handle mask cookie (Some set) (Some entry) = up_add_to set.object (new_member handle entry.object mask cookie) (set_of c.objects set.object)

  up_add : (app set handle : ℕ) (mask : Events) (cookie : ℕ) → Upholds (set_add c app set handle mask cookie)
  unfolding set_add
  up_add app set handle mask cookie = up_add_entries handle mask cookie (entry_at (table_of c app) set) (entry_at (table_of c app) handle)

  -- wait and waitany

  up_or_report : (app : ℕ) (on : WaitOn) (timeout : Timeout) (reported : Option Reported) → ReportGoes app c reported → Upholds (wait_or_report c k on timeout reported)
  up_or_report app on timeout (Some reported) goes = by_quiet _ refl (quiet_of c reported.core (row_leaves (Some app) c reported.core goes.row))
  up_or_report app on timeout None goes = by_if (is_zero_timeout timeout) _ _ (by_quiet _ refl (quiet c)) (by_wait c on (deadline_of c.clock timeout) (quiet c))

  up_wait_entry : (app : ℕ) (timeout : Timeout) (entry : Option TableEntry) → Upholds (wait_entry c k app timeout entry)
  up_wait_entry app timeout None = by_quiet _ refl (quiet c)
  up_wait_entry app timeout (Some entry) =
      let on : WaitOn = wait_on.Object entry.object entry.handle entry.cookie in
      by_if (is_some (memory_of c.objects entry.object)) _ _ (by_quiet _ refl (quiet c)) (up_or_report app on timeout (report_of c app on) (report_goes app c c (none_yet (Some app) c) on))

  up_wait : (app handle : ℕ) (timeout : Timeout) → Upholds (wait c k app handle timeout)
  unfolding wait
  up_wait app handle timeout = up_wait_entry app timeout (entry_at (table_of c app) handle)

  up_wait_any : (app : ℕ) (timeout : Timeout) → Upholds (wait_any c k app timeout)
  unfolding wait_any
  up_wait_any app timeout = by_if (list_any (can_have_events c.objects) (table_of c app)) _ _
      (up_or_report app wait_on.Any timeout (report_of c app wait_on.Any) (report_goes app c c (none_yet (Some app) c) wait_on.Any)) (by_quiet _ refl (quiet c))

  -- every call that does not end the thread

  abbrev UpholdsIf : Option Outcome → Type 0
  UpholdsIf None = Unit {0}
  UpholdsIf (Some outcome) = Upholds outcome

  by_comes : (app : ℕ) (asked : Call) (o : Option Outcome) → ComesIf app c asked o → UpholdsIf o
  by_comes app asked None comes = tt
  by_comes app asked (Some outcome) comes = by_quiet outcome (answered_final false outcome.answer comes.answers) (comes_quiet c outcome comes)

  up_act : (app : ℕ) (asked : Call) → is_ending asked ≡ false → UpholdsIf (act c k app asked)
  unfolding act
  up_act app (call.Connect path flags) goes = up_connect app path flags
  up_act app call.SetCreate goes = up_set app
  up_act app (call.SetAdd set handle mask cookie) goes = up_add app set handle mask cookie
  up_act app (call.Wait handle timeout) goes = up_wait app handle timeout
  up_act app (call.WaitAny timeout) goes = up_wait_any app timeout
  up_act app (call.Exit code) goes = absurd (cc)
  up_act app call.Finish goes = absurd (cc)
  -- the others change tables and objects alone, and clients make no call here
  up_act app asked goes = by_comes app asked (act c k app asked) (quiet_goes app c k c (none_yet (Some app) c) asked refl)

  upheld_by : (o : Option Outcome) (outcome : Outcome) → o ≡ Some outcome → UpholdsIf o → U.holds outcome.answer outcome.core
  upheld_by None outcome is u = absurd (cc)
  upheld_by (Some found) outcome is u = subst (λ (x : Outcome). U.holds x.answer x.core) (let e : found ≡ outcome = cc in e) u.upheld

  pub act_upholds : (app : ℕ) (asked : Call) (outcome : Outcome) → is_ending asked ≡ false → act c k app asked ≡ Some outcome → U.holds outcome.answer outcome.core
  act_upholds app asked outcome goes is = upheld_by (act c k app asked) outcome is (up_act app asked goes)
