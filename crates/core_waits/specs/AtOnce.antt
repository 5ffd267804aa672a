-- What a wait answers in the step in which it begins.
use Rattle.std.specs.Prelude.{ℕ, Option, Some, None, if◌then◌else◌}
use Rattle.kernel_values.specs.declared.call.Timeout.{Timeout}
use Rattle.kernel_values.specs.declared.errno.Errno.TheVariants as errno
use Rattle.kernel_values.specs.declared.state.CoreState.{CoreState}
use Rattle.kernel_values.specs.declared.state.WaitOn.{WaitOn}
use Rattle.kernel_types.specs.Outcome.{Outcome, gives, refuses}
use Rattle.kernel_types.specs.Reports.{Reported, event_reply, report_of}
use Rattle.kernel_types.specs.Waits.{is_zero_timeout}

abbrev pub at_once_by : CoreState → Timeout → Option Reported → Option Outcome
at_once_by c timeout (Some reported) = Some (gives (event_reply reported) reported.core)
at_once_by c timeout None = (if is_zero_timeout timeout then Some (refuses errno.TimedOut c) else None)

-- what is reported, or TIMED_OUT where the call is not to wait
abbrev pub at_once : CoreState → ℕ → WaitOn → Timeout → Option Outcome
at_once c app on timeout = at_once_by c timeout (report_of c app on)
