-- The end of a wait answers CANCELLED exactly where the wait is cancelled and nothing else would end it before.
use Rattle.std.proofs.Common.{◌≡◌, ℕ, Bool, true, false, cond, not, Option, Some, None, refl, subst}
use Rattle.std.specs.Prelude.{◌&&◌}
use Rattle.std.specs.Option.{is_some}
use Rattle.kernel_values.specs.declared.errno.Errno.TheVariants as errno
use Rattle.kernel_values.specs.declared.state.ChannelEnd.{ChannelEnd}
use Rattle.kernel_values.specs.declared.state.CoreState.{CoreState}
use Rattle.kernel_values.specs.declared.state.Wait.{Wait}
use Rattle.kernel_values.specs.declared.state.WaitOn.{WaitOn}
use Rattle.kernel_values.specs.declared.state.WaitOn.TheVariants as wait_on
use Rattle.kernel_types.specs.Connects.{connect_decision, decided_on, holds_end}
use Rattle.kernel_types.specs.Events.{is_disconnected}
use Rattle.kernel_types.specs.Objects.{end_of}
use Rattle.kernel_types.specs.Outcome.{Outcome, refuses}
use Rattle.kernel_types.specs.Reports.{Reported, report_of}
use Rattle.kernel_types.specs.Tables.{entry_at, remove_entry, table_of}
use Rattle.kernel_types.specs.Waits.{end_by_kind, end_by_report, end_of_wait, is_due}
use Rattle.wait_laws.specs.Cancelling.{is_cancelled, is_told_of}

-- an outcome, where there is one, answers CANCELLED exactly so
abbrev pub CancelsIf : Bool → Bool → Option Outcome → Type 0
CancelsIf told cancelled None = Unit {0}
CancelsIf told cancelled (Some outcome) = is_cancelled outcome.answer ≡ (not told && cancelled)

due_cancels : (c : CoreState) (due : Bool) → CancelsIf false false (cond due (Some (refuses errno.TimedOut c)) None)
due_cancels c true = refl
due_cancels c false = tt

mark_cancels : (c : CoreState) (cancelled due : Bool) → CancelsIf false cancelled (cond cancelled (Some (refuses errno.Cancelled c)) (cond due (Some (refuses errno.TimedOut c)) None))
mark_cancels c true due = refl
mark_cancels c false due = due_cancels c due

report_cancels : (c : CoreState) (wait : Wait) (o : Option Reported) → CancelsIf (is_some o) wait.cancelled (end_by_report c wait o)
report_cancels c wait (Some reported) = refl
report_cancels c wait None = mark_cancels c wait.cancelled (is_due c.clock wait.deadline)

undecided_cancels : (d : CoreState) (cancelled : Bool) → CancelsIf false cancelled (cond cancelled (Some (refuses errno.Cancelled d)) None)
undecided_cancels d true = refl
undecided_cancels d false = tt

-- a test that comes before, whether the wait is cancelled or not
both_if : (b cancelled : Bool) (one other first second : Option Outcome) → CancelsIf (is_some one) cancelled first → CancelsIf (is_some other) cancelled second
    → CancelsIf (is_some (cond b one other)) cancelled (cond b first second)
both_if true cancelled one other first second p q = p
both_if false cancelled one other first second p q = q

decided_cancels : (c : CoreState) (app id handle : ℕ) (cancelled : Bool) (end : Option ChannelEnd)
    → CancelsIf (is_some (decided_on c app id handle false end)) cancelled (decided_on c app id handle cancelled end)
decided_cancels c app id handle cancelled None = refl
decided_cancels c app id handle cancelled (Some end) =
    both_if end.accepted cancelled _ _ _ _ refl (both_if (is_disconnected end.state) cancelled _ _ _ _ refl (undecided_cancels (remove_entry app handle c) cancelled))

decision_cancels : (c : CoreState) (app end handle : ℕ) (cancelled : Bool)
    → CancelsIf (is_some (connect_decision c app end handle false)) cancelled (connect_decision c app end handle cancelled)
unfolding connect_decision
decision_cancels c app end handle cancelled =
    both_if (holds_end end (entry_at (table_of c app) handle)) cancelled _ _ _ _ (decided_cancels c app end handle cancelled (end_of c.objects end)) refl

kind_cancels : (c : CoreState) (app : ℕ) (wait : Wait) (on : WaitOn) → CancelsIf (is_told_of c app on) wait.cancelled (end_by_kind c app wait on)
kind_cancels c app wait (wait_on.Connect end handle) = decision_cancels c app end handle wait.cancelled
kind_cancels c app wait (wait_on.Object object handle cookie) = report_cancels c wait (report_of c app (wait_on.Object object handle cookie))
kind_cancels c app wait wait_on.Any = report_cancels c wait (report_of c app wait_on.Any)

end_cancels_if : (c : CoreState) (app : ℕ) (wait : Wait) → CancelsIf (is_told_of c app wait.on) wait.cancelled (end_of_wait c app wait)
unfolding end_of_wait
end_cancels_if c app wait = kind_cancels c app wait wait.on

pub end_cancels : (c : CoreState) (app : ℕ) (wait : Wait) (outcome : Outcome) → end_of_wait c app wait ≡ Some outcome
    → is_cancelled outcome.answer ≡ (not (is_told_of c app wait.on) && wait.cancelled)
end_cancels c app wait outcome is = subst (λ (o : Option Outcome). CancelsIf (is_told_of c app wait.on) wait.cancelled o) is (end_cancels_if c app wait)
