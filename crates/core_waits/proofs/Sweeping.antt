-- A step is what its call, the end of its wait or the passing of time leaves, and then the sweep.
use Rattle.std.proofs.Common.{◌≡◌, ℕ, Bool, true, false, ◌==◌, Option, Some, None, refl}
use Rattle.std.specs.Prelude.{slice_get, if◌then◌else◌}
use Rattle.std.specs.Option.{option_map}
use Rattle.kernel_values.specs.declared.call.Call.{Call}
use Rattle.kernel_values.specs.declared.state.Activity.{Activity}
use Rattle.kernel_values.specs.declared.state.Activity.TheVariants as activity
use Rattle.kernel_values.specs.declared.state.CoreState.{CoreState}
use Rattle.kernel_values.specs.declared.state.Thread.{Thread}
use Rattle.kernel_types.specs.CoreStep.{act, begin_as, begin_of, core_begin, core_resume, resume_as, resume_of, resumed, swept}
use Rattle.kernel_types.specs.Outcome.{Outcome}
use Rattle.kernel_types.specs.Waits.{end_of_wait}
use Rattle.core_waits.specs.Unswept.{begun, begun_as, begun_by, ended_as, ended_by, runs_again, wait_ended}

swept_where : (b : Bool) (o : Option Outcome) → (if b then option_map swept o else None) ≡ option_map swept (if b then o else None)
swept_where true o = refl
swept_where false o = refl

swept_begun_as : (c : CoreState) (at start : ℕ) (call : Call) (app : ℕ) (a : Activity) → begin_as c at start call app a ≡ option_map swept (begun_as c at start call app a)
swept_begun_as c at start call app (activity.Running running) = swept_where (running == start) (act c at app call)
swept_begun_as c at start call app activity.Off = refl
swept_begun_as c at start call app (activity.Waiting waiting wait) = refl
swept_begun_as c at start call app (activity.Ended ended) = refl

swept_begun_by : (c : CoreState) (at start : ℕ) (call : Call) (t : Option Thread) → begin_of c at start call t ≡ option_map swept (begun_by c at start call t)
swept_begun_by c at start call None = refl
swept_begun_by c at start call (Some thread) = swept_begun_as c at start call thread.app thread.activity

pub swept_begun : (c : CoreState) (thread start : ℕ) (call : Call) → core_begin c thread start call ≡ option_map swept (begun c thread start call)
unfolding core_begin begun
swept_begun c thread start call = swept_begun_by c thread start call (slice_get c.threads thread)

swept_again : (thread : ℕ) (b : Bool) (o : Option Outcome) → (if b then option_map (resumed thread) o else None) ≡ option_map swept (if b then option_map (runs_again thread) o else None)
swept_again thread true None = refl
swept_again thread true (Some outcome) = refl
swept_again thread false o = refl

swept_ended_as : (c : CoreState) (at start app : ℕ) (a : Activity) → resume_as c at start app a ≡ option_map swept (ended_as c at start app a)
swept_ended_as c at start app (activity.Waiting waiting wait) = swept_again at (waiting == start) (end_of_wait c app wait)
swept_ended_as c at start app activity.Off = refl
swept_ended_as c at start app (activity.Running running) = refl
swept_ended_as c at start app (activity.Ended ended) = refl

swept_ended_by : (c : CoreState) (at start : ℕ) (t : Option Thread) → resume_of c at start t ≡ option_map swept (ended_by c at start t)
swept_ended_by c at start None = refl
swept_ended_by c at start (Some thread) = swept_ended_as c at start thread.app thread.activity

pub swept_wait_ended : (c : CoreState) (thread start : ℕ) → core_resume c thread start ≡ option_map swept (wait_ended c thread start)
unfolding core_resume wait_ended
swept_wait_ended c thread start = swept_ended_by c thread start (slice_get c.threads thread)
