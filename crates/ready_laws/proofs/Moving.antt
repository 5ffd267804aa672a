-- A wait may end exactly where its thread may move.
use Rattle.std.proofs.Common.{◌≡◌, ◌∙◌, ℕ, ◌==◌, ◌||◌, not, cond, Bool, true, false, List, Option, Some, None, slice_get, refl, sym, ap, subst}
use Rattle.std.specs.List.{list_any}
use Rattle.std.specs.Option.{is_some}
use Rattle.kernel_values.specs.declared.state.CoreState.{CoreState}
use Rattle.kernel_values.specs.declared.state.Thread.{Thread}
use Rattle.kernel_values.specs.declared.state.Activity.{Activity}
use Rattle.kernel_values.specs.declared.state.Activity.TheVariants as activity
use Rattle.kernel_values.specs.declared.state.ChannelEnd.{ChannelEnd}
use Rattle.kernel_values.specs.declared.state.Wait.{Wait}
use Rattle.kernel_values.specs.declared.state.WaitOn.TheVariants as state_on
use Rattle.kernel_values.specs.declared.errno.Errno.TheVariants as errno
use Rattle.kernel_values.specs.declared.reply.Reply.TheVariants as reply
use Rattle.kernel_types.specs.Connects.{connect_decision, decided_on, holds_end, unready}
use Rattle.kernel_types.specs.Events.{events_of, is_disconnected}
use Rattle.kernel_types.specs.Objects.{end_changed, end_of}
use Rattle.kernel_types.specs.Outcome.{Outcome, gives, refuses}
use Rattle.kernel_types.specs.Reports.{Reported, has_events, report_of}
use Rattle.kernel_types.specs.Tables.{entry_at, remove_entry, table_of}
use Rattle.kernel_types.specs.Waits.{activity_may_move, end_by_kind, end_by_report, end_of_wait, is_due, may_move, thread_movable}
use Rattle.set_laws.specs.Chains.{HasShortChains}
use Rattle.object_store.specs.declared.key.ObjKey.{ObjKey}
use Rattle.wait_events.specs.declared.waits.WaitOn.TheVariants as wait_on
use Rattle.wait_events.specs.declared.waits.Waiting.{Waiting}
use Rattle.wait_events.specs.Watches.{has_told}
use Rattle.wait_events.specs.Waits.{AllWaits, may_end, table_told, waiting_at}
use Rattle.wait_events.specs.Waits as told
use Rattle.ready_laws.specs.Telling.{IsTold, Tells, TellsActivity, TellsThread, TellsWaits}
use Rattle.ready_laws.specs.Telling.IsTold.{of_object, of_connect, of_table}

-- a wait with or without a report ends as its marks say

joined : (a b d : Bool) → ((a || b) || d) ≡ (a || (b || d))
joined true b d = refl
joined false b d = refl

either_mark : (a b : Bool) (x y : Outcome) → is_some (cond a (Some x) (cond b (Some y) None)) ≡ (a || b)
either_mark true b x y = refl
either_mark false true x y = refl
either_mark false false x y = refl

ends : (c : CoreState) (wait : Wait) (report : Option Reported) → is_some (end_by_report c wait report) ≡ (is_some report || (wait.cancelled || is_due c.clock wait.deadline))
ends c wait (Some reported) = refl
ends c wait None = either_mark wait.cancelled (is_due c.clock wait.deadline) (refuses errno.Cancelled c) (refuses errno.TimedOut c)

-- a connect is decided, or cancelled

third_mark : (a b cancelled : Bool) (x y z : Outcome) → is_some (cond a (Some x) (cond b (Some y) (cond cancelled (Some z) None))) ≡ (is_some (cond a (Some x) (cond b (Some y) None)) || cancelled)
third_mark true b cancelled x y z = refl
third_mark false true cancelled x y z = refl
third_mark false false true x y z = refl
third_mark false false false x y z = refl

decides : (c : CoreState) (app id handle : ℕ) (cancelled : Bool) (end : Option ChannelEnd) → is_some (decided_on c app id handle cancelled end) ≡ (is_some (decided_on c app id handle false end) || cancelled)
decides c app id handle cancelled None = refl
decides c app id handle cancelled (Some end) = third_mark end.accepted (is_disconnected end.state) cancelled (gives (reply.Handle handle) (end_changed unready id c)) (refuses errno.ChannelClosed (remove_entry app handle c)) (refuses errno.Cancelled (remove_entry app handle c))

connect_ends : (c : CoreState) (app end handle : ℕ) (cancelled : Bool) → is_some (connect_decision c app end handle cancelled) ≡ (is_some (connect_decision c app end handle false) || cancelled)
unfolding connect_decision
connect_ends c app end handle cancelled = by_entry (holds_end end (entry_at (table_of c app) handle))
  where
    by_entry : (b : Bool) → is_some (cond b (decided_on c app end handle cancelled (end_of c.objects end)) (Some (refuses errno.ChannelClosed c))) ≡ (is_some (cond b (decided_on c app end handle false (end_of c.objects end)) (Some (refuses errno.ChannelClosed c))) || cancelled)
    by_entry true = decides c app end handle cancelled (end_of c.objects end)
    by_entry false = refl

module _ (object_reports : (c : CoreState) (app id handle cookie : ℕ) → HasShortChains c.objects → is_some (report_of c app (state_on.Object id handle cookie)) ≡ not (events_of c.objects id == 0))
    (table_reports : (c : CoreState) (app : ℕ) → is_some (report_of c app state_on.Any) ≡ list_any (has_events c.objects) (table_of c app))
    (c : CoreState) (short : HasShortChains c.objects) (waits : AllWaits) where
  -- what a wait has told, and its marks
  marks : (told_any reported : Bool) (waiting : Waiting) (wait : Wait) → waits.clock ≡ c.clock → waiting.wait.deadline ≡ wait.deadline → waiting.cancelled ≡ wait.cancelled → told_any ≡ reported → ((told_any || waiting.cancelled) || is_due waits.clock waiting.wait.deadline) ≡ (reported || (wait.cancelled || is_due c.clock wait.deadline))
  marks told_any reported waiting wait clock deadline cancelled same = rw (same, cancelled, clock, deadline) (joined reported wait.cancelled (is_due c.clock wait.deadline))

  one_moves : (app : ℕ) (waiting : Waiting) (wait : Wait) → waits.clock ≡ c.clock → Tells c waits app waiting wait → may_end waits waiting waiting.wait.on ≡ is_some (end_by_kind c app wait wait.on)
  one_moves app waiting wait clock tells = by_kind tells.on
    where
      by_kind : IsTold c waits app waiting wait → may_end waits waiting waiting.wait.on ≡ is_some (end_by_kind c app wait wait.on)
      by_kind (of_object key handle cookie on_is is events) =
          ap (may_end waits waiting) on_is
          ∙ marks (has_told waiting.events) (is_some (report_of c app (state_on.Object key.serial handle cookie))) waiting wait clock tells.deadline tells.cancelled (ap (λ n. not (n == 0)) events ∙ sym (object_reports c app key.serial handle cookie short))
          ∙ sym (ends c wait (report_of c app (state_on.Object key.serial handle cookie)))
          ∙ ap (λ on. is_some (end_by_kind c app wait on)) (sym is)
      by_kind (of_connect key end handle on_is is decided) =
          ap (may_end waits waiting) on_is
          ∙ ap (λ b. b || waiting.cancelled) decided
          ∙ ap (λ b. is_some (connect_decision c app end handle false) || b) tells.cancelled
          ∙ sym (connect_ends c app end handle wait.cancelled)
          ∙ ap (λ on. is_some (end_by_kind c app wait on)) (sym is)
      by_kind (of_table on_is is events) =
          ap (may_end waits waiting) on_is
          ∙ marks (table_told (slice_get waits.tables app)) (is_some (report_of c app state_on.Any)) waiting wait clock tells.deadline tells.cancelled (events ∙ sym (table_reports c app))
          ∙ sym (ends c wait (report_of c app state_on.Any))
          ∙ ap (λ on. is_some (end_by_kind c app wait on)) (sym is)

  waiting_moves : (app start : ℕ) (waiting : Waiting) (wait : Wait) → waits.clock ≡ c.clock → Tells c waits app waiting wait → may_end waits waiting waiting.wait.on ≡ is_some (end_of_wait c app wait)
  unfolding end_of_wait
  waiting_moves app start waiting wait clock tells = one_moves app waiting wait clock tells

  by_activity : (app : ℕ) (actor : Option Waiting) (does : Activity) → waits.clock ≡ c.clock → TellsActivity c waits app actor does → told.may_move waits actor ≡ activity_may_move c app does
  by_activity app (Some waiting) (activity.Waiting start wait) clock tells = waiting_moves app start waiting wait clock tells
  by_activity app None (activity.Waiting start wait) clock tells = absurd tells
  by_activity app (Some waiting) activity.Off clock tells = absurd (cc)
  by_activity app (Some waiting) (activity.Running start) clock tells = absurd (cc)
  by_activity app (Some waiting) (activity.Ended start) clock tells = absurd (cc)
  by_activity app None activity.Off clock tells = refl
  by_activity app None (activity.Running start) clock tells = refl
  by_activity app None (activity.Ended start) clock tells = refl

  by_thread : (actor : Option Waiting) (thread : Option Thread) → waits.clock ≡ c.clock → TellsThread c waits actor thread → told.may_move waits actor ≡ may_move c thread
  by_thread actor None clock tells = ap (told.may_move waits) tells
  by_thread actor (Some thread) clock tells = by_activity thread.app actor thread.activity clock tells

  pub all_move : TellsWaits c waits → (thread : ℕ) → told.may_move waits (waiting_at waits.actors thread) ≡ thread_movable c thread
  unfolding thread_movable
  all_move tells thread = by_thread (waiting_at waits.actors thread) (slice_get c.threads thread) tells.clock (tells.threads thread)
