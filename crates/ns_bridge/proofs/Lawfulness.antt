-- An event is lawful exactly where it has a step.
use Rattle.std.proofs.Common.{◌≡◌, ◌≤◌, ℕ, ◌+◌, ◌==◌, ◌&&◌, Bool, true, false, cond, length, Option, Some, None, refl, sym, ◌∙◌, ap, arith, tests}
use Rattle.std.specs.Prelude.{nat_lt, slice_get}
use Rattle.std.specs.Option.{is_some, option_map}
use Rattle.kernel_values.specs.declared.call.Call.{Call}
use Rattle.kernel_values.specs.declared.call.Call.TheVariants as call
use Rattle.kernel_values.specs.declared.entry.ActorStatus.{ActorStatus}
use Rattle.kernel_values.specs.declared.entry.Event.{Event}
use Rattle.kernel_values.specs.declared.entry.Event.TheVariants as event
use Rattle.kernel_values.specs.declared.state.Activity.{Activity}
use Rattle.kernel_values.specs.declared.state.Activity.TheVariants as activity
use Rattle.kernel_values.specs.declared.state.CoreState.{CoreState}
use Rattle.kernel_values.specs.declared.state.State.{State}
use Rattle.kernel_values.specs.declared.state.Thread.{Thread}
use Rattle.kernel_values.specs.declared.world.ClientActivity.{ClientActivity}
use Rattle.kernel_values.specs.declared.world.ClientActivity.TheVariants as client_activity
use Rattle.kernel_values.specs.declared.world.ClientState.{ClientState}
use Rattle.kernel_values.specs.declared.world.World.{World}
use Rattle.kernel_types.specs.Clients.{client_may_move, end_of_ns_wait, ns_act}
use Rattle.kernel_types.specs.CoreStep.{act, begin_as, begin_of, core_begin, core_resume, resume_as, resume_of, resumed, status_of, swept}
use Rattle.kernel_types.specs.Device.{device_step}
use Rattle.kernel_types.specs.Drains.{drained}
use Rattle.kernel_types.specs.Facts.{status_at}
use Rattle.kernel_types.specs.Step.{Stepped, begin, beside_core, client_begin, client_call_as, client_call_of, client_may_move_if, client_movable, client_number, client_resume, client_resume_as, client_resume_of, client_status, device_has_work, device_stepped, step, idle, idle_lawful, in_world, is_thread, movable, resume, runs_again, statuses}
use Rattle.kernel_types.specs.Kernel.{CauseHolds, status_for, step_limit}
use Rattle.kernel_types.specs.declared.kernel.StepCause.TheVariants.{NotMovable, Full}
use Rattle.kernel_types.specs.Waits.{activity_may_move, end_of_wait, may_move, thread_movable}
use Rattle.kernel_types.proofs.Actors.{begin_of_thread, resume_of_thread, thread_moves, status_of_client, status_of_thread}
use Rattle.ns_bridge.specs.Lawful.{is_lawful, is_running_as, is_waiting_as, makes, runs_as, waits_as}
use Rattle.kernel_values.specs.Calls.{is_of_client, is_of_thread}
use Rattle.ns_bridge.proofs.ClientSteps.{statuses_long}
use Rattle.ns_bridge.proofs.Readings.{none_past, past}

-- the kinds of calls

thread_made : (c : CoreState) (k app : ℕ) (asked : Call) → is_some (act c k app asked) ≡ is_of_thread asked
unfolding act
thread_made c k app (call.NsConnect path) = refl
thread_made c k app (call.NsSend conn bytes) = refl
thread_made c k app (call.NsRecv conn timeout) = refl
thread_made c k app (call.NsClose conn) = refl
thread_made c k app (call.NsPoke addr bytes) = refl
thread_made c k app (call.NsKick queue head) = refl
thread_made c k app other = refl

client_made : (clock client : ℕ) (asked : Call) (w : World) → is_some (ns_act clock client asked w) ≡ is_of_client asked
unfolding ns_act
client_made clock client (call.NsConnect path) w = refl
client_made clock client (call.NsSend conn bytes) w = refl
client_made clock client (call.NsRecv conn timeout) w = refl
client_made clock client (call.NsClose conn) w = refl
client_made clock client (call.NsPoke addr bytes) w = refl
client_made clock client (call.NsKick queue head) w = refl
client_made clock client call.Finish w = refl
client_made clock client other w = refl

-- tests in a row

module _ {X Y Z : Type 0} (f : Y → Z) (g : X → Y) where
  called_in : (runs : Bool) (o : Option X) → is_some (option_map f (cond runs (option_map g o) None)) ≡ (is_some o && runs)
  called_in false None = refl
  called_in false (Some x) = refl
  called_in true None = refl
  called_in true (Some x) = refl

  moved_in : (waits : Bool) (o : Option X) → is_some (option_map f (cond waits (option_map g o) None)) ≡ (waits && is_some o)
  moved_in false o = refl
  moved_in true None = refl
  moved_in true (Some x) = refl

module _ {Y Z : Type 0} (f : Y → Z) where
  called_by : (runs : Bool) (o : Option Y) → is_some (option_map f (cond runs o None)) ≡ (is_some o && runs)
  called_by false None = refl
  called_by false (Some x) = refl
  called_by true None = refl
  called_by true (Some x) = refl

  never : (made : Bool) → is_some (option_map f None) ≡ (made && false)
  never false = refl
  never true = refl

  stepped_some : (o : Option Y) → is_some (option_map f o) ≡ is_some o
  stepped_some None = refl
  stepped_some (Some x) = refl

-- calls of threads

thread_as : (w : World) (c : CoreState) (k start : ℕ) (asked : Call) (app : ℕ) (a : Activity)
    → is_some (option_map (in_world w) (begin_as c k start asked app a)) ≡ (is_of_thread asked && runs_as start (status_of a))
thread_as w c k start asked app (activity.Running running) =
    called_in (in_world w) swept (running == start) (act c k app asked) ∙ ap (λ b. b && (running == start)) (thread_made c k app asked)
thread_as w c k start asked app activity.Off = never (in_world w) (is_of_thread asked)
thread_as w c k start asked app (activity.Waiting waiting wait) = never (in_world w) (is_of_thread asked)
thread_as w c k start asked app (activity.Ended ended) = never (in_world w) (is_of_thread asked)

thread_begin_of : (s : State) (k start : ℕ) (asked : Call) (o : Option Thread) → slice_get s.core.threads k ≡ o → is_thread s k ≡ true
    → is_some (option_map (in_world s.world) (begin_of s.core k start asked o)) ≡ (is_of_thread asked && is_running_as start (status_at s k))
thread_begin_of s k start asked None there of =
    let over : length s.core.threads ≤ k = none_past s.core.threads k there in
    let no : nat_lt k (length s.core.threads) ≡ false = grind (arith, tests) in
    absurd (cc)
thread_begin_of s k start asked (Some thread) there of =
    thread_as s.world s.core k start asked thread.app thread.activity
    ∙ ap (λ (o : Option ActorStatus). is_of_thread asked && is_running_as start o) (sym (status_of_thread s k thread there))

thread_begins : (s : State) (k start : ℕ) (asked : Call) → is_thread s k ≡ true
    → is_some (begin s k start asked) ≡ (is_of_thread asked && is_running_as start (status_at s k))
unfolding core_begin
thread_begins s k start asked of =
    ap (λ (o : Option Stepped). is_some o) (begin_of_thread s k start asked of)
    ∙ thread_begin_of s k start asked (slice_get s.core.threads k) refl of

-- calls of clients

client_as : (s : State) (client start : ℕ) (asked : Call) (a : ClientActivity)
    → is_some (option_map (beside_core s.core) (client_call_as s client start asked a)) ≡ (is_of_client asked && runs_as start (client_status a))
client_as s client start asked (client_activity.Running running) =
    called_by (beside_core s.core) (running == start) (ns_act s.core.clock client asked s.world)
    ∙ ap (λ b. b && (running == start)) (client_made s.core.clock client asked s.world)
client_as s client start asked (client_activity.Waiting waiting wait) = never (beside_core s.core) (is_of_client asked)
client_as s client start asked (client_activity.Ended ended) = never (beside_core s.core) (is_of_client asked)

no_client : (s : State) (client : ℕ) → slice_get s.world.clients client ≡ None → status_at s (length s.core.threads + client) ≡ None
no_client s client none = past (statuses s) (length s.core.threads + client) (omega (arith, statuses_long s, none_past s.world.clients client none))

client_begin_of : (s : State) (client start : ℕ) (asked : Call) (o : Option ClientState) → slice_get s.world.clients client ≡ o
    → is_some (option_map (beside_core s.core) (client_call_of s client start asked o))
    ≡ (is_of_client asked && is_running_as start (status_at s (length s.core.threads + client)))
client_begin_of s client start asked None there =
    never (beside_core s.core) (is_of_client asked)
    ∙ ap (λ (o : Option ActorStatus). is_of_client asked && is_running_as start o) (sym (no_client s client there))
client_begin_of s client start asked (Some state) there =
    client_as s client start asked state.activity
    ∙ ap (λ (o : Option ActorStatus). is_of_client asked && is_running_as start o) (sym (status_of_client s client state there))

begin_of_client : (s : State) (k start : ℕ) (asked : Call) → is_thread s k ≡ false
    → begin s k start asked ≡ option_map (beside_core s.core) (client_begin s (client_number s k) start asked)
begin_of_client s k start asked is = rw is refl

number_is : (s : State) (k : ℕ) → is_thread s k ≡ false → length s.core.threads + client_number s k ≡ k
number_is s k is = grind (arith, tests)

client_begins : (s : State) (k start : ℕ) (asked : Call) → is_thread s k ≡ false
    → is_some (begin s k start asked) ≡ (is_of_client asked && is_running_as start (status_at s k))
unfolding client_begin
client_begins s k start asked of =
    let client : ℕ = client_number s k in
    ap (λ (o : Option Stepped). is_some o) (begin_of_client s k start asked of)
    ∙ (client_begin_of s client start asked (slice_get s.world.clients client) refl
    ∙ ap (λ (n : ℕ). is_of_client asked && is_running_as start (status_at s n)) (number_is s k of))

begins : (s : State) (k start : ℕ) (asked : Call) (of : Bool) → is_thread s k ≡ of
    → is_some (begin s k start asked) ≡ (makes of asked && is_running_as start (status_at s k))
begins s k start asked true of = thread_begins s k start asked of
begins s k start asked false of = client_begins s k start asked of

-- ends of waits

thread_resume_as : (w : World) (c : CoreState) (k start app : ℕ) (a : Activity)
    → is_some (option_map (in_world w) (resume_as c k start app a)) ≡ (waits_as start (status_of a) && activity_may_move c app a)
thread_resume_as w c k start app (activity.Waiting waiting wait) = moved_in (in_world w) (resumed k) (waiting == start) (end_of_wait c app wait)
thread_resume_as w c k start app activity.Off = refl
thread_resume_as w c k start app (activity.Running running) = refl
thread_resume_as w c k start app (activity.Ended ended) = refl

thread_resume_of : (s : State) (k start : ℕ) (o : Option Thread) → slice_get s.core.threads k ≡ o → is_thread s k ≡ true
    → is_some (option_map (in_world s.world) (resume_of s.core k start o)) ≡ (is_waiting_as start (status_at s k) && may_move s.core o)
thread_resume_of s k start None there of =
    let over : length s.core.threads ≤ k = none_past s.core.threads k there in
    let no : nat_lt k (length s.core.threads) ≡ false = grind (arith, tests) in
    absurd (cc)
thread_resume_of s k start (Some thread) there of =
    thread_resume_as s.world s.core k start thread.app thread.activity
    ∙ ap (λ (o : Option ActorStatus). is_waiting_as start o && activity_may_move s.core thread.app thread.activity) (sym (status_of_thread s k thread there))

thread_resumes : (s : State) (k start : ℕ) → is_thread s k ≡ true → is_some (resume s k start) ≡ (is_waiting_as start (status_at s k) && movable s k)
unfolding core_resume thread_movable
thread_resumes s k start of =
    ap (λ (o : Option Stepped). is_some o) (resume_of_thread s k start of)
    ∙ (thread_resume_of s k start (slice_get s.core.threads k) refl of ∙ ap (λ b. is_waiting_as start (status_at s k) && b) (sym (thread_moves s k of)))

client_resume_by : (s : State) (client start : ℕ) (a : ClientActivity)
    → is_some (option_map (beside_core s.core) (client_resume_as s client start a)) ≡ (waits_as start (client_status a) && client_may_move s.core.clock s.world a)
client_resume_by s client start (client_activity.Waiting waiting wait) =
    moved_in (beside_core s.core) (runs_again client) (waiting == start) (end_of_ns_wait s.core.clock wait (drained s.world))
client_resume_by s client start (client_activity.Running running) = refl
client_resume_by s client start (client_activity.Ended ended) = refl

client_resumes_of : (s : State) (client start : ℕ) (o : Option ClientState) → slice_get s.world.clients client ≡ o
    → is_some (option_map (beside_core s.core) (client_resume_of s client start o)) ≡ (is_waiting_as start (status_at s (length s.core.threads + client)) && client_may_move_if s o)
client_resumes_of s client start None there =
    ap (λ (o : Option ActorStatus). is_waiting_as start o && false) (sym (no_client s client there))
client_resumes_of s client start (Some state) there =
    client_resume_by s client start state.activity
    ∙ ap (λ (o : Option ActorStatus). is_waiting_as start o && client_may_move s.core.clock s.world state.activity) (sym (status_of_client s client state there))

resume_of_client : (s : State) (k start : ℕ) → is_thread s k ≡ false → resume s k start ≡ option_map (beside_core s.core) (client_resume s (client_number s k) start)
resume_of_client s k start is = rw is refl

moves_of_client : (s : State) (k : ℕ) → is_thread s k ≡ false → movable s k ≡ client_movable s (client_number s k)
unfolding movable
moves_of_client s k is = rw is refl

client_resumes : (s : State) (k start : ℕ) → is_thread s k ≡ false → is_some (resume s k start) ≡ (is_waiting_as start (status_at s k) && movable s k)
unfolding client_resume client_movable
client_resumes s k start of =
    let client : ℕ = client_number s k in
    ap (λ (o : Option Stepped). is_some o) (resume_of_client s k start of)
    ∙ (client_resumes_of s client start (slice_get s.world.clients client) refl
    ∙ (ap (λ (n : ℕ). is_waiting_as start (status_at s n) && client_may_move_if s (slice_get s.world.clients client)) (number_is s k of)
    ∙ ap (λ b. is_waiting_as start (status_at s k) && b) (sym (moves_of_client s k of))))

resumes : (s : State) (k start : ℕ) (of : Bool) → is_thread s k ≡ of → is_some (resume s k start) ≡ (is_waiting_as start (status_at s k) && movable s k)
resumes s k start true of = thread_resumes s k start of
resumes s k start false of = client_resumes s k start of

-- all events

idles : (s : State) (b : Bool) → b ≡ is_some (cond b (Some (idle s)) None)
idles s true = refl
idles s false = refl

pub lawful_is : (s : State) (e : Event) → is_lawful s e ≡ is_some (step s e)
unfolding is_lawful step device_has_work
lawful_is s (event.Begin actor start asked) = sym (begins s actor.0 start asked (is_thread s actor.0) refl)
lawful_is s (event.Resume actor start) = sym (resumes s actor.0 start (is_thread s actor.0) refl)
lawful_is s event.Device = sym (stepped_some device_stepped (device_step s))
lawful_is s event.Idle = idles s (idle_lawful s)

-- why the step of an event is refused where no more can be made

none_of : (o : Option Stepped) → is_some o ≡ false → o ≡ None
none_of None is = refl
none_of (Some stepped) is = absurd (cc)

pub lawful_full : (s : State) (e : Event) (made : ℕ) → is_lawful s e ≡ true → made ≡ step_limit → CauseHolds e s made Full
lawful_full s e made lawful last = ((λ none. let bad : false ≡ true = sym (ap is_some none) ∙ (sym (lawful_is s e) ∙ lawful) in absurd (cc)), last)

pub unlawful_not_movable : (s : State) (e : Event) (made : ℕ) → is_lawful s e ≡ false → CauseHolds e s made (NotMovable (status_for s e))
unlawful_not_movable s e made lawful = (none_of (step s e) (sym (lawful_is s e) ∙ lawful), refl)
