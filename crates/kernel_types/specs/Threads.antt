-- Threads: which wait, and what they wait for.
use Rattle.std.specs.Prelude.{ℕ, Option, false}
use Rattle.kernel_values.specs.declared.state.Thread.{Thread}
use Rattle.kernel_values.specs.declared.state.Activity.{Activity}
use Rattle.kernel_values.specs.declared.state.Activity.TheVariants as activity
use Rattle.kernel_values.specs.declared.state.Wait.{Wait}
use Rattle.kernel_values.specs.declared.state.WaitOn.{WaitOn}
use Rattle.kernel_values.specs.declared.state.CoreState.{CoreState}
use Rattle.kernel_types.specs.Objects.{map_at}
use Rattle.kernel_types.specs.Outcome.{Outcome, answers_waits}

-- a thread that runs begins to wait
abbrev pub waiting_activity : Wait → Activity → Activity
waiting_activity wait (activity.Running start) = activity.Waiting start wait
waiting_activity wait other = other

-- a thread that waits runs again
abbrev pub running_activity : Activity → Activity
running_activity (activity.Waiting start wait) = activity.Running start
running_activity other = other

abbrev pub activity_changed : (Activity → Activity) → Thread → Thread
activity_changed change thread = record thread { activity = change thread.activity }

abbrev pub with_activity : (Activity → Activity) → ℕ → CoreState → CoreState
with_activity change thread c = record c { threads = map_at (activity_changed change) c.threads thread }

abbrev pub new_wait : WaitOn → Option ℕ → Wait
new_wait on deadline = record { on = on; deadline = deadline; cancelled = false }

-- the call waits, until the deadline where there is one
abbrev pub waits_on : ℕ → WaitOn → Option ℕ → CoreState → Outcome
waits_on thread on deadline c = answers_waits (with_activity (waiting_activity (new_wait on deadline)) thread c)
