-- Where nothing may move, the least deadline is later than the clock, and near.
use Rattle.std.proofs.Common.{◌≡◌, ◌≤◌, ℕ, ◌&&◌, ◌||◌, Bool, true, false, cond, not, List, [], ◌∷◌, Option, Some, None, refl, sym, subst, arith, tests}
use Rattle.std.specs.List.{list_any}
use Rattle.std.specs.Option.{is_some}
use Rattle.kernel_values.specs.declared.state.Activity.{Activity}
use Rattle.kernel_values.specs.declared.state.Activity.TheVariants as activity
use Rattle.kernel_values.specs.declared.state.CoreState.{CoreState}
use Rattle.kernel_values.specs.declared.state.State.{State}
use Rattle.kernel_values.specs.declared.state.Thread.{Thread}
use Rattle.kernel_values.specs.declared.state.Wait.{Wait}
use Rattle.kernel_values.specs.declared.state.WaitOn.{WaitOn}
use Rattle.kernel_values.specs.declared.state.WaitOn.TheVariants as wait_on
use Rattle.kernel_values.specs.declared.world.ClientActivity.{ClientActivity}
use Rattle.kernel_values.specs.declared.world.ClientActivity.TheVariants as client_activity
use Rattle.kernel_values.specs.declared.world.ClientState.{ClientState}
use Rattle.kernel_values.specs.declared.world.ClientWait.{ClientWait}
use Rattle.kernel_values.specs.declared.world.World.{World}
use Rattle.kernel_types.specs.Bridging.{Idled, IsLater}
use Rattle.kernel_types.specs.Clients.{Acted, answer_of_wait, client_may_move, end_by_answer, end_of_ns_wait}
use Rattle.kernel_types.specs.CoreStep.{cancelled_activity, core_idle, deadline_in, least_deadline, least_deadline_of, sooner}
use Rattle.kernel_types.specs.Drains.{drained}
use Rattle.kernel_types.specs.Reports.{Reported, report_of}
use Rattle.kernel_types.specs.Step.{any_may_move, client_deadline, has_begun_and_goes_on, device_has_work, idle_lawful, is_running, least_client_deadline, statuses}
use Rattle.kernel_types.specs.Sweep.{sweep}
use Rattle.kernel_types.specs.Threads.{activity_changed}
use Rattle.kernel_types.specs.Waits.{activity_may_move, end_by_kind, end_by_report, end_of_wait, is_due, thread_may_move}
use Rattle.ns_bridge.specs.Parts.{Normal, idled}
use Rattle.ns_bridge.specs.Timely.{AreClientsInTime, AreInTime, IsClientInTime, IsInTime, IsNear, IsNearOn, IsOnTime}
use Rattle.step_laws.proofs.Leaving.{Calm, calm_of, sweep_leaves}
use Rattle.ns_bridge.proofs.Timing.{all_changed}
use Rattle.ns_bridge.proofs.ClientTiming.{cancelled_clients, later_clients, later_near}

due_later : (clock : ℕ) (deadline : Option ℕ) → is_due clock deadline ≡ false → IsNear clock deadline → IsLater clock deadline
due_later clock None due near = tt
due_later clock (Some deadline) due near = (grind (arith, tests), omega (arith, near))

sooner_later : (clock : ℕ) (one other : Option ℕ) → IsLater clock one → IsLater clock other → IsLater clock (sooner one other)
sooner_later clock None other p q = q
sooner_later clock (Some one) None p q = p
sooner_later clock (Some one) (Some other) p q = (omega (arith, p.0, q.0), omega (arith, p.1, q.1))

no_test : (p q : Bool) → (p || q) ≡ false → (p ≡ false) × (q ≡ false)
no_test true q h = absurd (let bad : true ≡ false = h in cc)
no_test false q h = (refl, h)

-- a wait that ends cancelled or late, and does not end
due_by : {X : Type 0} (x y : X) (cancelled due : Bool) → is_some (cond cancelled (Some x) (cond due (Some y) None)) ≡ false → due ≡ false
due_by x y true due h = absurd (let bad : true ≡ false = h in cc)
due_by x y false true h = absurd (let bad : true ≡ false = h in cc)
due_by x y false false h = refl

-- threads

report_later : (c : CoreState) (wait : Wait) (r : Option Reported) → is_some (end_by_report c wait r) ≡ false → IsNear c.clock wait.deadline → IsLater c.clock wait.deadline
report_later c wait (Some reported) h near = absurd (let bad : true ≡ false = h in cc)
report_later c wait None h near =
    due_later c.clock wait.deadline (due_by _ _ wait.cancelled (is_due c.clock wait.deadline) h) near

kind_later : (c : CoreState) (app : ℕ) (wait : Wait) (on : WaitOn) → is_some (end_by_kind c app wait on) ≡ false → IsNearOn c.clock on wait.deadline → IsLater c.clock wait.deadline
kind_later c app wait (wait_on.Connect end handle) h near = subst (λ (o : Option ℕ). IsLater c.clock o) (sym near) tt
kind_later c app wait (wait_on.Object object handle cookie) h near = report_later c wait (report_of c app (wait_on.Object object handle cookie)) h near
kind_later c app wait wait_on.Any h near = report_later c wait (report_of c app wait_on.Any) h near

activity_later : (c : CoreState) (app : ℕ) (a : Activity) → activity_may_move c app a ≡ false → IsInTime c.clock a → IsLater c.clock (deadline_in a)
unfolding end_of_wait
activity_later c app activity.Off h k = tt
activity_later c app (activity.Running start) h k = tt
activity_later c app (activity.Waiting start wait) h k = kind_later c app wait wait.on h k
activity_later c app (activity.Ended start) h k = tt

threads_later : (c : CoreState) (threads : List Thread) → list_any (thread_may_move c) threads ≡ false → AreInTime c.clock threads → IsLater c.clock (least_deadline_of threads)
threads_later c [] h k = tt
threads_later c (thread ∷ threads) h k =
    let none : (thread_may_move c thread ≡ false) × (list_any (thread_may_move c) threads ≡ false) = no_test (thread_may_move c thread) (list_any (thread_may_move c) threads) h in
    sooner_later c.clock (deadline_in thread.activity) (least_deadline_of threads) (activity_later c thread.app thread.activity none.0 k.0) (threads_later c threads none.1 k.1)

-- clients

answer_later : (clock : ℕ) (wait : ClientWait) (a : Option Acted) (w : World) → is_some (end_by_answer clock wait a w) ≡ false → IsNear clock wait.deadline → IsLater clock wait.deadline
answer_later clock wait (Some acted) w h near = absurd (let bad : true ≡ false = h in cc)
answer_later clock wait None w h near = due_later clock wait.deadline (due_by _ _ wait.cancelled (is_due clock wait.deadline) h) near

client_later : (clock : ℕ) (w : World) (a : ClientActivity) → client_may_move clock w a ≡ false → IsClientInTime clock a → IsLater clock (client_deadline a)
unfolding end_of_ns_wait
client_later clock w (client_activity.Running start) h k = tt
client_later clock w (client_activity.Waiting start wait) h k = answer_later clock wait (answer_of_wait wait.on (drained w)) (drained w) h k
client_later clock w (client_activity.Ended start) h k = tt

clients_later : (clock : ℕ) (w : World) (clients : List ClientState) → list_any (λ (client : ClientState). client_may_move clock w client.activity) clients ≡ false
    → AreClientsInTime clock clients → IsLater clock (least_client_deadline clients)
clients_later clock w [] h k = tt
clients_later clock w (client ∷ clients) h k =
    let rest : Bool = list_any (λ (c : ClientState). client_may_move clock w c.activity) clients in
    let none : (client_may_move clock w client.activity ≡ false) × (rest ≡ false) = no_test (client_may_move clock w client.activity) rest h in
    sooner_later clock (client_deadline client.activity) (least_client_deadline clients) (client_later clock w client.activity none.0 k.0) (clients_later clock w clients none.1 k.1)

-- all

third : (a b c d : Bool) → (a && b && not c && d) ≡ true → c ≡ false
third a b false d h = refl
third true true true d h = absurd (let bad : false ≡ true = h in cc)
third true false true d h = absurd (let bad : false ≡ true = h in cc)
third false b true d h = absurd (let bad : false ≡ true = h in cc)

none_moves : (s : State) → idle_lawful s ≡ true → any_may_move s ≡ false
unfolding idle_lawful
none_moves s lawful = third (list_any has_begun_and_goes_on (statuses s)) (not (list_any is_running (statuses s))) (any_may_move s) (not (device_has_work s)) lawful

pub idle_is_later : (s : State) (deadline : Option ℕ) → idle_lawful s ≡ true → AreInTime s.core.clock s.core.threads → AreClientsInTime s.core.clock s.world.clients
    → deadline ≡ sooner (least_deadline s.core) (least_client_deadline s.world.clients) → IsLater s.core.clock deadline
unfolding least_deadline
idle_is_later s deadline lawful t k is =
    let mine : Bool = list_any (thread_may_move s.core) s.core.threads in
    let theirs : Bool = list_any (λ (client : ClientState). client_may_move s.core.clock s.world client.activity) s.world.clients in
    let none : (mine ≡ false) × (theirs ≡ false) = no_test mine theirs (none_moves s lawful) in
    subst (λ (o : Option ℕ). IsLater s.core.clock o) (sym is)
    (sooner_later s.core.clock (least_deadline_of s.core.threads) (least_client_deadline s.world.clients) (threads_later s.core s.core.threads none.0 t) (clients_later s.core.clock s.world s.world.clients none.1 k))

-- time passes

on_later : (clock later : ℕ) → clock ≤ later → (on : WaitOn) (deadline : Option ℕ) → IsNearOn clock on deadline → IsNearOn later on deadline
on_later clock later h (wait_on.Connect end handle) deadline near = near
on_later clock later h (wait_on.Object object handle cookie) deadline near = later_near clock later h deadline near
on_later clock later h wait_on.Any deadline near = later_near clock later h deadline near

later_activity : (clock later : ℕ) → clock ≤ later → (a : Activity) → IsInTime clock a → IsInTime later a
later_activity clock later h activity.Off k = tt
later_activity clock later h (activity.Running start) k = tt
later_activity clock later h (activity.Waiting start wait) k = on_later clock later h wait.on wait.deadline k
later_activity clock later h (activity.Ended start) k = tt

later_threads : (clock later : ℕ) → clock ≤ later → (threads : List Thread) → AreInTime clock threads → AreInTime later threads
later_threads clock later h [] k = tt
later_threads clock later h (thread ∷ threads) k = (later_activity clock later h thread.activity k.0, later_threads clock later h threads k.1)

cancelled_in_time : (clock : ℕ) (a : Activity) → IsInTime clock a → IsInTime clock (cancelled_activity a)
cancelled_in_time clock activity.Off k = tt
cancelled_in_time clock (activity.Running start) k = tt
cancelled_in_time clock (activity.Waiting start wait) k = k
cancelled_in_time clock (activity.Ended start) k = tt

idled_in_time : (deadline : Option ℕ) (c : CoreState) → IsLater c.clock deadline → AreInTime c.clock c.threads → AreInTime (core_idle deadline c).clock (core_idle deadline c).threads
unfolding core_idle
idled_in_time None c later t =
    all_changed (λ (thread : Thread). IsInTime c.clock thread.activity) (activity_changed cancelled_activity) (λ thread k. cancelled_in_time c.clock thread.activity k) c.threads t
idled_in_time (Some deadline) c later t = later_threads c.clock deadline later.0 c.threads t

idled_clients : (deadline : Option ℕ) (c : CoreState) (n : Normal) → IsLater c.clock deadline → AreClientsInTime c.clock n.clients → AreClientsInTime (core_idle deadline c).clock (idled deadline n).clients
unfolding core_idle
idled_clients None c n later k = cancelled_clients c.clock n.clients k
idled_clients (Some deadline) c n later k = later_clients c.clock deadline later.0 n.clients k

swept_on_time : (c d : CoreState) → Calm c d → (clients : List ClientState) → AreInTime c.clock c.threads → AreClientsInTime c.clock clients → IsOnTime d clients
swept_on_time c d q clients t k = record {
  threads = subst (λ (ts : List Thread). AreInTime d.clock ts) (sym q.threads) (subst (λ (n : ℕ). AreInTime n c.threads) (sym q.clock) t);
  clients = subst (λ (n : ℕ). AreClientsInTime n clients) (sym q.clock) k;
}

pub idle_on_time : (deadline : Option ℕ) (s t : State) (n : Normal) (made remade : ℕ) → Idled deadline s t made remade → IsLater s.core.clock deadline → IsOnTime s.core n.clients
    → IsOnTime t.core (idled deadline n).clients
idle_on_time deadline s t n made remade idled_is later time =
    let there : CoreState = core_idle deadline s.core in
    subst (λ (x : State). IsOnTime x.core (idled deadline n).clients) (sym idled_is.state_is)
    (swept_on_time there (sweep there) (calm_of there (sweep there) (sweep_leaves there)) (idled deadline n).clients (idled_in_time deadline s.core later time.threads) (idled_clients deadline s.core n later time.clients))
