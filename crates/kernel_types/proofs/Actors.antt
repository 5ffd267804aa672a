-- Which part of the state an actor's number means: the threads come first, then the clients.
use Rattle.std.proofs.Common.{◌≡◌, ℕ, zero, suc, ◌+◌, ◌-◌, ◌<◌, ◌==◌, Bool, true, false, cond, List, [], ◌∷◌, ◌++◌, length, map, Option, Some, None, refl, ap, sym, ◌∙◌, subst, arith, length-append}
use Rattle.std.specs.Prelude.{slice_get, nat_lt}
use Rattle.std.specs.Option.{option_map}
use Rattle.std.proofs.lemmas.List.{get_or-append-add, length-map}
use Rattle.std.proofs.lemmas.Option.{get_or_from_slice_get, slice_get-get_or, slice_get-map, slice_get_within}
use Rattle.std.proofs.lemmas.Bool.Decides.{nat_tests}
use Rattle.kernel_values.specs.declared.call.Call.{Call}
use Rattle.kernel_values.specs.declared.entry.ActorStatus.{ActorStatus}
use Rattle.kernel_values.specs.declared.entry.ActorStatus.TheVariants as status
use Rattle.kernel_values.specs.declared.state.Activity.{Activity}
use Rattle.kernel_values.specs.declared.state.Activity.TheVariants as activity
use Rattle.kernel_values.specs.declared.state.CoreState.{CoreState}
use Rattle.kernel_values.specs.declared.state.State.{State}
use Rattle.kernel_values.specs.declared.state.Thread.{Thread}
use Rattle.kernel_values.specs.declared.world.ClientActivity.{ClientActivity}
use Rattle.kernel_values.specs.declared.world.ClientActivity.TheVariants as client_activity
use Rattle.kernel_values.specs.declared.world.ClientState.{ClientState}
use Rattle.kernel_types.specs.Clients.{Acted, ns_act, end_of_ns_wait}
use Rattle.kernel_types.specs.CoreStep.{act, swept, begin_as, begin_of, core_begin, resumed, resume_as, resume_of, core_resume, status_of}
use Rattle.kernel_types.specs.Drains.{drained}
use Rattle.kernel_types.specs.Facts.{status_at}
use Rattle.kernel_types.specs.Outcome.{Outcome}
use Rattle.kernel_types.specs.Step.{Stepped, begin, resume, in_world, beside_core, is_thread, client_number, client_begin, client_call_as, client_call_of, client_resume, client_resume_as, client_resume_of, runs_again, client_movable, client_status, movable, statuses}
use Rattle.kernel_types.specs.Waits.{end_of_wait, thread_movable}

pub below_is_thread : (s : State) (k : ℕ) → k < length s.core.threads → is_thread s k ≡ true
below_is_thread s k below = grind (arith, nat_tests)

pub thread_is_thread : (s : State) (k : ℕ) (thread : Thread) → slice_get s.core.threads k ≡ Some thread → is_thread s k ≡ true
thread_is_thread s k thread is = below_is_thread s k (slice_get_within s.core.threads k thread is)

-- what a thread does is the core's

pub begin_of_thread : (s : State) (k start : ℕ) (call : Call) → is_thread s k ≡ true → begin s k start call ≡ option_map (in_world s.world) (core_begin s.core k start call)
begin_of_thread s k start call is = rw is refl

pub resume_of_thread : (s : State) (k start : ℕ) → is_thread s k ≡ true → resume s k start ≡ option_map (in_world s.world) (core_resume s.core k start)
resume_of_thread s k start is = rw is refl

pub thread_moves : (s : State) (k : ℕ) → is_thread s k ≡ true → movable s k ≡ thread_movable s.core k
unfolding movable
thread_moves s k is = rw is refl

-- the client `k` is the actor behind the threads by that many

client_is_no_thread : (n k : ℕ) → nat_lt (n + k) n ≡ false
client_is_no_thread n k = grind (arith, nat_tests)

behind : (n k : ℕ) → n + k - n ≡ k
behind n k = omega arith

pub client_moves : (s : State) (k : ℕ) → movable s (length s.core.threads + k) ≡ client_movable s k
unfolding movable
client_moves s k = rw (client_is_no_thread (length s.core.threads) k, behind (length s.core.threads) k) refl

-- statuses

get_front : {Z : Type 0} (xs more : List Z) (k : ℕ) (z : Z) → slice_get xs k ≡ Some z → slice_get (xs ++ more) k ≡ Some z
get_front [] more k z is = absurd (cc)
get_front (x ∷ xs) more zero z is = is
get_front (x ∷ xs) more (suc k) z is = get_front xs more k z is

get_behind : {Z : Type 0} (xs ys : List Z) (k : ℕ) (z : Z) → slice_get ys k ≡ Some z → slice_get (xs ++ ys) (length xs + k) ≡ Some z
get_behind xs ys k z is =
    let whole : length xs + k < length (xs ++ ys) = omega (arith, slice_get_within ys k z is, length-append xs ys) in
    slice_get-get_or (xs ++ ys) (length xs + k) z whole ∙ ap (λ x. Some x) (get_or-append-add xs ys k z ∙ get_or_from_slice_get ys k z z is)

pub status_of_thread : (s : State) (k : ℕ) (thread : Thread) → slice_get s.core.threads k ≡ Some thread → status_at s k ≡ Some (status_of thread.activity)
unfolding statuses
status_of_thread s k thread is =
    let f : Thread → ActorStatus = λ t. status_of t.activity in
    get_front (map f s.core.threads) _ k (f thread) (slice_get-map f s.core.threads k ∙ ap (λ o. option_map f o) is)

pub status_of_client : (s : State) (k : ℕ) (client : ClientState) → slice_get s.world.clients k ≡ Some client
    → status_at s (length s.core.threads + k) ≡ Some (client_status client.activity)
unfolding statuses
status_of_client s k client is =
    let f : Thread → ActorStatus = λ t. status_of t.activity in
    let g : ClientState → ActorStatus = λ c. client_status c.activity in
    ap (λ n. slice_get (map f s.core.threads ++ map g s.world.clients) (n + k)) (sym (length-map s.core.threads f))
    ∙ get_behind (map f s.core.threads) (map g s.world.clients) k (g client) (slice_get-map g s.world.clients k ∙ ap (λ o. option_map g o) is)

-- an event of an actor is lawful only by the actor's status

mapped : {X Y : Type 0} (f : X → Y) (o : Option X) (y : Y) → option_map f o ≡ Some y → (x : X) × (o ≡ Some x)
mapped f None y h = absurd (cc)
mapped f (Some x) y h = (x, refl)

same_number : (a b : ℕ) (t : Bool) → (a == b) ≡ t → t ≡ true → a ≡ b
same_number a b t is holds = grind (arith, nat_tests)

by_start : {X : Type 0} (one other : ℕ) (o : Option X) (x : X) (t : Bool) → (one == other) ≡ t → cond t o None ≡ Some x → one ≡ other
by_start one other o x true is h = same_number one other true is refl
by_start one other o x false is h = absurd (cc)

thread_runs : (c : CoreState) (k start : ℕ) (asked : Call) (app : ℕ) (a : Activity) (x : Outcome) → begin_as c k start asked app a ≡ Some x → a ≡ activity.Running start
thread_runs c k start asked app (activity.Running running) x h =
    ap (λ n. activity.Running n) (by_start running start (option_map swept (act c k app asked)) x (running == start) refl h)
thread_runs c k start asked app activity.Off x h = absurd (cc)
thread_runs c k start asked app (activity.Waiting waiting wait) x h = absurd (cc)
thread_runs c k start asked app (activity.Ended ended) x h = absurd (cc)

thread_begins : (s : State) (k start : ℕ) (asked : Call) (o : Option Thread) (x : Outcome) → slice_get s.core.threads k ≡ o → begin_of s.core k start asked o ≡ Some x
    → status_at s k ≡ Some (status.Running start)
thread_begins s k start asked None x o_is h = absurd (cc)
thread_begins s k start asked (Some thread) x o_is h =
    status_of_thread s k thread o_is ∙ ap (λ (a : Activity). Some (status_of a)) (thread_runs s.core k start asked thread.app thread.activity x h)

client_runs : (s : State) (client start : ℕ) (asked : Call) (a : ClientActivity) (x : Acted) → client_call_as s client start asked a ≡ Some x → a ≡ client_activity.Running start
client_runs s client start asked (client_activity.Running running) x h =
    ap (λ n. client_activity.Running n) (by_start running start (ns_act s.core.clock client asked s.world) x (running == start) refl h)
client_runs s client start asked (client_activity.Waiting waiting wait) x h = absurd (cc)
client_runs s client start asked (client_activity.Ended ended) x h = absurd (cc)

client_begins : (s : State) (client start : ℕ) (asked : Call) (o : Option ClientState) (x : Acted) → slice_get s.world.clients client ≡ o → client_call_of s client start asked o ≡ Some x
    → status_at s (length s.core.threads + client) ≡ Some (status.Running start)
client_begins s client start asked None x o_is h = absurd (cc)
client_begins s client start asked (Some state) x o_is h =
    status_of_client s client state o_is ∙ ap (λ (a : ClientActivity). Some (client_status a)) (client_runs s client start asked state.activity x h)

-- the number of an actor that is no thread
number_is : (n k : ℕ) → nat_lt k n ≡ false → n + (k - n) ≡ k
number_is n k is = grind (arith, nat_tests)

begins_by : (s : State) (k start : ℕ) (asked : Call) (r : Stepped) (thread : Bool) → is_thread s k ≡ thread
    → cond thread (option_map (in_world s.world) (core_begin s.core k start asked)) (option_map (beside_core s.core) (client_begin s (client_number s k) start asked)) ≡ Some r
    → status_at s k ≡ Some (status.Running start)
unfolding core_begin client_begin
begins_by s k start asked r true thread h =
    let done : (x : Outcome) × (core_begin s.core k start asked ≡ Some x) = mapped _ (core_begin s.core k start asked) r h in
    thread_begins s k start asked (slice_get s.core.threads k) done.0 refl done.1
begins_by s k start asked r false client h =
    let done : (x : Acted) × (client_begin s (client_number s k) start asked ≡ Some x) = mapped _ (client_begin s (client_number s k) start asked) r h in
    subst (λ n. status_at s n ≡ Some (status.Running start)) (number_is (length s.core.threads) k client)
    (client_begins s (client_number s k) start asked (slice_get s.world.clients (client_number s k)) done.0 refl done.1)

pub begin_is_of_running : (s : State) (k start : ℕ) (asked : Call) (r : Stepped) → begin s k start asked ≡ Some r → status_at s k ≡ Some (status.Running start)
begin_is_of_running s k start asked r h = begins_by s k start asked r (is_thread s k) refl h

thread_waits : (c : CoreState) (k start app : ℕ) (a : Activity) (x : Outcome) → resume_as c k start app a ≡ Some x → status_of a ≡ status.Waiting start
thread_waits c k start app (activity.Waiting waiting wait) x h =
    ap (λ n. status.Waiting n) (by_start waiting start (option_map (resumed k) (end_of_wait c app wait)) x (waiting == start) refl h)
thread_waits c k start app activity.Off x h = absurd (cc)
thread_waits c k start app (activity.Running running) x h = absurd (cc)
thread_waits c k start app (activity.Ended ended) x h = absurd (cc)

thread_resumes : (s : State) (k start : ℕ) (o : Option Thread) (x : Outcome) → slice_get s.core.threads k ≡ o → resume_of s.core k start o ≡ Some x
    → status_at s k ≡ Some (status.Waiting start)
thread_resumes s k start None x o_is h = absurd (cc)
thread_resumes s k start (Some thread) x o_is h =
    status_of_thread s k thread o_is ∙ ap (λ t. Some t) (thread_waits s.core k start thread.app thread.activity x h)

client_waits : (s : State) (client start : ℕ) (a : ClientActivity) (x : Acted) → client_resume_as s client start a ≡ Some x → client_status a ≡ status.Waiting start
client_waits s client start (client_activity.Waiting waiting wait) x h =
    ap (λ n. status.Waiting n) (by_start waiting start (option_map (runs_again client) (end_of_ns_wait s.core.clock wait (drained s.world))) x (waiting == start) refl h)
client_waits s client start (client_activity.Running running) x h = absurd (cc)
client_waits s client start (client_activity.Ended ended) x h = absurd (cc)

client_resumes : (s : State) (client start : ℕ) (o : Option ClientState) (x : Acted) → slice_get s.world.clients client ≡ o → client_resume_of s client start o ≡ Some x
    → status_at s (length s.core.threads + client) ≡ Some (status.Waiting start)
client_resumes s client start None x o_is h = absurd (cc)
client_resumes s client start (Some state) x o_is h =
    status_of_client s client state o_is ∙ ap (λ t. Some t) (client_waits s client start state.activity x h)

resumes_by : (s : State) (k start : ℕ) (r : Stepped) (thread : Bool) → is_thread s k ≡ thread
    → cond thread (option_map (in_world s.world) (core_resume s.core k start)) (option_map (beside_core s.core) (client_resume s (client_number s k) start)) ≡ Some r
    → status_at s k ≡ Some (status.Waiting start)
unfolding core_resume client_resume
resumes_by s k start r true thread h =
    let done : (x : Outcome) × (core_resume s.core k start ≡ Some x) = mapped _ (core_resume s.core k start) r h in
    thread_resumes s k start (slice_get s.core.threads k) done.0 refl done.1
resumes_by s k start r false client h =
    let done : (x : Acted) × (client_resume s (client_number s k) start ≡ Some x) = mapped _ (client_resume s (client_number s k) start) r h in
    subst (λ n. status_at s n ≡ Some (status.Waiting start)) (number_is (length s.core.threads) k client)
    (client_resumes s (client_number s k) start (slice_get s.world.clients (client_number s k)) done.0 refl done.1)

pub resume_is_of_waiting : (s : State) (k start : ℕ) (r : Stepped) → resume s k start ≡ Some r → status_at s k ≡ Some (status.Waiting start)
resume_is_of_waiting s k start r h = resumes_by s k start r (is_thread s k) refl h
