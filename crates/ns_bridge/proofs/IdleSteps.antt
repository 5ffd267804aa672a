-- Time passes in the whole kernel.
use Rattle.std.proofs.Common.{◌≡◌, ◌<◌, ℕ, ◌+◌, ◌&&◌, ◌||◌, Bool, true, false, cond, not, List, [], ◌∷◌, ◌++◌, length, map, Option, Some, None, refl, sym, ◌∙◌, ap, arith}
use Rattle.std.specs.List.{list_all, list_any}
use Rattle.std.specs.Option.{option_map}
use Rattle.std.proofs.lemmas.List.{length-map}
use Rattle.kernel_values.specs.declared.entry.ActorStatus.{ActorStatus}
use Rattle.kernel_values.specs.declared.entry.Event.TheVariants as event
use Rattle.kernel_values.specs.declared.state.Activity.{Activity}
use Rattle.kernel_values.specs.declared.state.Activity.TheVariants as activity
use Rattle.kernel_values.specs.declared.state.CoreState.{CoreState}
use Rattle.kernel_values.specs.declared.state.State.{State}
use Rattle.kernel_values.specs.declared.state.Thread.{Thread}
use Rattle.kernel_values.specs.declared.world.ClientState.{ClientState}
use Rattle.kernel_values.specs.declared.world.Device.{Device}
use Rattle.kernel_types.specs.Bridging.{Idled}
use Rattle.kernel_types.specs.Clients.{client_may_move}
use Rattle.kernel_types.specs.CoreStep.{core_idle, idle_answer, least_deadline, sooner, status_of}
use Rattle.kernel_types.specs.Facts.{is_at_end}
use Rattle.kernel_types.specs.History.{entry_of, state_or}
use Rattle.kernel_types.specs.Kernel.{Did, Refused, step_limit}
use Rattle.kernel_types.specs.Limits.{FitsIn, no_room}
use Rattle.kernel_types.specs.Outcome.{no_seqs}
use Rattle.kernel_types.specs.Step.{any_may_move, client_status, device_has_work, step, has_begun_and_goes_on, idle, idle_lawful, idle_until, is_running, least_client_deadline, next_deadline, statuses, world_idle}
use Rattle.kernel_types.specs.Sweep.{kept, pruned, sweep}
use Rattle.kernel_types.specs.Waits.{activity_may_move, thread_may_move}
use Rattle.kernel_types.specs.Device.{device_step}
use Rattle.kernel_types.specs.declared.kernel.StepCause.TheVariants.{NotMovable}
use Rattle.ns_bridge.specs.Acts.{activity_moves, state_moves}
use Rattle.ns_bridge.specs.Parts.{Normal, idled, state_of, world_of}
use Rattle.ns_bridge.specs.Wholes.{IsWhole, goes_on, may_end, may_idle, runs}
use Rattle.ns_bridge.proofs.Lifting.{activity_moves_is}

world_after : (deadline : Option ℕ) (d : Device) (n : Normal) → world_idle deadline (world_of d n) ≡ world_of d (idled deadline n)
unfolding world_idle
world_after None d n = refl
world_after (Some deadline) d n = refl

pub idle_did : (s t : State) (d : Device) (n : Normal) (deadline : Option ℕ) (core_made core_remade made : ℕ) → idle_lawful (state_of s.core d n) ≡ true → made < step_limit
    → deadline ≡ sooner (least_deadline s.core) (least_client_deadline n.clients) → Idled deadline s t core_made core_remade
    → Did event.Idle (state_of s.core d n) (state_of t.core d (idled deadline n)) made (made + 1) (record { event = event.Idle; answer = idle_answer deadline; seqs = no_seqs })
unfolding step next_deadline
idle_did s t d n deadline core_made core_remade made lawful below deadline_is idled_is =
    let w : State = state_of s.core d n in
    let is : step w event.Idle ≡ Some (idle_until deadline w) =
    ap (λ b. cond b (Some (idle w)) None) lawful ∙ ap (λ x. Some (idle_until x w)) (sym deadline_is) in
    record {
      event_is = refl;
      entry_is = ap (option_map (entry_of event.Idle)) is;
      state_is = (ap (λ (x : State). record { core = x.core; world = world_of d (idled deadline n) }) idled_is.state_is
          ∙ ap (λ x. record { core = sweep (core_idle deadline s.core); world = x }) (sym (world_after deadline d n)))
          ∙ sym (ap (state_or w) is);
      made_is = refl;
      below = below;
    }

pub idle_refused : (s : State) (made : ℕ) → idle_lawful s ≡ false → Refused event.Idle s s made made (record { event = event.Idle; cause = NotMovable None })
unfolding step
idle_refused s made lawful = record { event_is = refl; state_is = refl; made_is = refl; cause = (ap (λ b. cond b (Some (idle s)) None) lawful, refl) }

pub idle_fits : (deadline : Option ℕ) → FitsIn no_room (idle_answer deadline)
idle_fits None = record { bytes = omega arith; handles = omega arith }
idle_fits (Some deadline) = record { bytes = omega arith; handles = omega arith }

idle_threads : (deadline : Option ℕ) (c : CoreState) → length (sweep (core_idle deadline c)).threads ≡ length c.threads
unfolding sweep kept pruned core_idle
idle_threads None c = length-map c.threads _
idle_threads (Some deadline) c = refl

pub idle_whole : (s t : State) (deadline : Option ℕ) (core_made core_remade threads made : ℕ) → Idled deadline s t core_made core_remade → IsWhole s.core core_made threads made
    → IsWhole t.core core_remade threads (made + 1)
idle_whole s t deadline core_made core_remade threads made idled_is whole = record {
  fewer = omega (arith, idled_is.made_is, whole.fewer);
  count = ap (λ (x : State). length x.core.threads) idled_is.state_is ∙ (idle_threads deadline s.core ∙ whole.count);
}

-- Whether time may pass, by what the core says of its threads and by the clients.

abbrev begun : List Thread → Bool
begun threads = list_any has_begun_and_goes_on (map (λ (thread : Thread). status_of thread.activity) threads)

abbrev running : List Thread → Bool
running threads = list_any is_running (map (λ (thread : Thread). status_of thread.activity) threads)

any_append : (p : ActorStatus → Bool) (xs ys : List ActorStatus) → list_any p (xs ++ ys) ≡ (list_any p xs || list_any p ys)
any_append p [] ys = refl
any_append p (x ∷ xs) ys =
    let rest : list_any p (xs ++ ys) ≡ (list_any p xs || list_any p ys) = any_append p xs ys in
    elim (p x) as (λ b. (b || list_any p (xs ++ ys)) ≡ ((b || list_any p xs) || list_any p ys)) [ true ↦ refl | false ↦ rest ]

begun_clients : (clients : List ClientState) → list_any has_begun_and_goes_on (map (λ (client : ClientState). client_status client.activity) clients) ≡ list_any goes_on clients
unfolding goes_on
begun_clients [] = refl
begun_clients (client ∷ clients) = ap (λ b. has_begun_and_goes_on (client_status client.activity) || b) (begun_clients clients)

running_clients : (clients : List ClientState) → list_any is_running (map (λ (client : ClientState). client_status client.activity) clients) ≡ list_any runs clients
unfolding runs
running_clients [] = refl
running_clients (client ∷ clients) = ap (λ b. is_running (client_status client.activity) || b) (running_clients clients)

moving_clients : (s : State) (clients : List ClientState) → list_any (λ (client : ClientState). client_may_move s.core.clock s.world client.activity) clients
    ≡ list_any (state_moves s.core.clock s.world.memory s.world.driver) clients
unfolding state_moves
moving_clients s [] = refl
moving_clients s (client ∷ clients) =
    ap (λ b. b || list_any (λ (c : ClientState). client_may_move s.core.clock s.world c.activity) clients) (activity_moves_is s.core.clock s.world client.activity)
    ∙ ap (λ b. activity_moves s.core.clock s.world.memory s.world.driver client.activity || b) (moving_clients s clients)

all_not : (p : ActorStatus → Bool) (xs : List ActorStatus) → list_all (λ x. not (p x)) xs ≡ not (list_any p xs)
all_not p [] = refl
all_not p (x ∷ xs) = elim (p x) as (λ b. (not b && list_all (λ x. not (p x)) xs) ≡ not (b || list_any p xs)) [ true ↦ refl | false ↦ all_not p xs ]

-- a thread that runs or may move has begun and goes on

none_runs : (threads : List Thread) → begun threads ≡ false → running threads ≡ false
none_runs [] none = refl
none_runs (thread ∷ threads) none =
    let rest : begun threads ≡ false → running threads ≡ false = none_runs threads in
    let P : Activity → Type 0 = λ a. (has_begun_and_goes_on (status_of a) || begun threads) ≡ false → (is_running (status_of a) || running threads) ≡ false in
    let go : (a : Activity) → P a = λ a. elim a as (λ v. P v) [
      | activity.Off ↦ rest
      | activity.Running start ↦ (λ no. no)
      | activity.Waiting start wait ↦ (λ no. let bad : true ≡ false = no in absurd (cc))
      | activity.Ended start ↦ rest
    ] in
    go thread.activity none

none_moves : (c : CoreState) (threads : List Thread) → begun threads ≡ false → list_any (thread_may_move c) threads ≡ false
none_moves c [] none = refl
none_moves c (thread ∷ threads) none =
    let rest : begun threads ≡ false → list_any (thread_may_move c) threads ≡ false = none_moves c threads in
    let P : Activity → Type 0 = λ a. (has_begun_and_goes_on (status_of a) || begun threads) ≡ false → (activity_may_move c thread.app a || list_any (thread_may_move c) threads) ≡ false in
    let go : (a : Activity) → P a = λ a. elim a as (λ v. P v) [
      | activity.Off ↦ rest
      | activity.Running start ↦ (λ no. let bad : true ≡ false = no in absurd (cc))
      | activity.Waiting start wait ↦ (λ no. let bad : true ≡ false = no in absurd (cc))
      | activity.Ended start ↦ rest
    ] in
    go thread.activity none

-- what a core alone says

and_true : (b : Bool) → (b && true) ≡ b
and_true true = refl
and_true false = refl

or_false : (b : Bool) → (b || false) ≡ b
or_false true = refl
or_false false = refl

pub core_device : (s : State) → s.world.clients ≡ [] → device_has_work s ≡ false
unfolding device_has_work device_step
core_device s none = rw none refl

any_status : (p : ActorStatus → Bool) (s : State) → s.world.clients ≡ [] → list_any p (statuses s) ≡ list_any p (map (λ (thread : Thread). status_of thread.activity) s.core.threads)
unfolding statuses
any_status p s none =
    let xs : List ActorStatus = map (λ (thread : Thread). status_of thread.activity) s.core.threads in
    ap (λ (cs : List ClientState). list_any p (xs ++ map (λ (client : ClientState). client_status client.activity) cs)) none ∙ (any_append p xs [] ∙ or_false (list_any p xs))

core_end : (s : State) → s.world.clients ≡ [] → is_at_end s ≡ not (begun s.core.threads)
unfolding is_at_end
core_end s none =
    ap (λ b. list_all (λ status. not (has_begun_and_goes_on status)) (statuses s) && not b) (core_device s none)
    ∙ (ap (λ b. b && true) (all_not has_begun_and_goes_on (statuses s) ∙ ap not (any_status has_begun_and_goes_on s none)) ∙ and_true (not (begun s.core.threads)))

core_idle_is : (s : State) → s.world.clients ≡ [] → idle_lawful s ≡ (begun s.core.threads && not (running s.core.threads) && not (list_any (thread_may_move s.core) s.core.threads))
unfolding idle_lawful
core_idle_is s none =
    let moving : Bool = list_any (thread_may_move s.core) s.core.threads in
    let moves : any_may_move s ≡ moving =
    ap (λ (cs : List ClientState). moving || list_any (λ (client : ClientState). client_may_move s.core.clock s.world client.activity) cs) none ∙ or_false moving in
    ap (λ b. b && not (list_any is_running (statuses s)) && not (any_may_move s) && not (device_has_work s)) (any_status has_begun_and_goes_on s none)
    ∙ ap (λ b. begun s.core.threads && not b && not (any_may_move s) && not (device_has_work s)) (any_status is_running s none)
    ∙ ap (λ b. begun s.core.threads && not (running s.core.threads) && not b && not (device_has_work s)) moves
    ∙ ap (λ b. begun s.core.threads && not (running s.core.threads) && not moving && not b) (core_device s none)
    ∙ and_true (begun s.core.threads && not (running s.core.threads) && not moving)

-- the whole

idle_cases : (B R M G Q N W : Bool) → (B ≡ false → R ≡ false) → (B ≡ false → M ≡ false)
    → may_idle (not B) (B && not R && not M) G Q N W ≡ ((B || G) && not (R || Q) && not (M || N) && not W)
idle_cases false true M G Q N W r m = let bad : true ≡ false = r refl in absurd (cc)
idle_cases false false true G Q N W r m = let bad : true ≡ false = m refl in absurd (cc)
idle_cases false false false G Q N W r m = refl
idle_cases true true M G Q N W r m = refl
idle_cases true false false G Q N W r m = refl
idle_cases true false true G true N W r m = refl
idle_cases true false true G false N W r m = refl

pub idle_is : (s : State) (d : Device) (n : Normal) → s.world.clients ≡ []
    → may_idle (is_at_end s) (idle_lawful s) (list_any goes_on n.clients) (list_any runs n.clients) (list_any (state_moves s.core.clock n.memory n.driver) n.clients) (device_has_work (state_of s.core d n))
    ≡ idle_lawful (state_of s.core d n)
unfolding idle_lawful statuses
idle_is s d n none =
    let w : State = state_of s.core d n in
    let G : Bool = list_any goes_on n.clients in
    let Q : Bool = list_any runs n.clients in
    let N : Bool = list_any (state_moves s.core.clock n.memory n.driver) n.clients in
    let W : Bool = device_has_work w in
    let B : Bool = begun s.core.threads in
    let R : Bool = running s.core.threads in
    let M : Bool = list_any (thread_may_move s.core) s.core.threads in
    let xs : List ActorStatus = map (λ (thread : Thread). status_of thread.activity) s.core.threads in
    let ys : List ActorStatus = map (λ (client : ClientState). client_status client.activity) n.clients in
    let one : list_any has_begun_and_goes_on (xs ++ ys) ≡ (B || G) = any_append has_begun_and_goes_on xs ys ∙ ap (λ b. B || b) (begun_clients n.clients) in
    let two : list_any is_running (xs ++ ys) ≡ (R || Q) = any_append is_running xs ys ∙ ap (λ b. R || b) (running_clients n.clients) in
    let three : any_may_move w ≡ (M || N) = ap (λ b. M || b) (moving_clients w n.clients) in
    ap (λ b. may_idle b (idle_lawful s) G Q N W) (core_end s none)
    ∙ ap (λ b. may_idle (not B) b G Q N W) (core_idle_is s none)
    ∙ idle_cases B R M G Q N W (none_runs s.core.threads) (none_moves s.core s.core.threads)
    ∙ ap (λ b. b && not (R || Q) && not (M || N) && not W) (sym one)
    ∙ ap (λ b. list_any has_begun_and_goes_on (xs ++ ys) && not b && not (M || N) && not W) (sym two)
    ∙ ap (λ b. list_any has_begun_and_goes_on (xs ++ ys) && not (list_any is_running (xs ++ ys)) && not b && not W) (sym three)

end_cases : (B G W : Bool) → may_end (not B) G W ≡ (not (B || G) && not W)
end_cases true G W = refl
end_cases false G W = refl

pub end_is : (s : State) (d : Device) (n : Normal) → s.world.clients ≡ []
    → may_end (is_at_end s) (list_any goes_on n.clients) (device_has_work (state_of s.core d n)) ≡ is_at_end (state_of s.core d n)
unfolding is_at_end statuses
end_is s d n none =
    let w : State = state_of s.core d n in
    let G : Bool = list_any goes_on n.clients in
    let W : Bool = device_has_work w in
    let B : Bool = begun s.core.threads in
    let xs : List ActorStatus = map (λ (thread : Thread). status_of thread.activity) s.core.threads in
    let ys : List ActorStatus = map (λ (client : ClientState). client_status client.activity) n.clients in
    let one : list_any has_begun_and_goes_on (xs ++ ys) ≡ (B || G) = any_append has_begun_and_goes_on xs ys ∙ ap (λ b. B || b) (begun_clients n.clients) in
    ap (λ b. may_end b G W) (core_end s none)
    ∙ end_cases B G W
    ∙ ap (λ b. not b && not W) (sym one)
    ∙ ap (λ b. b && not W) (sym (all_not has_begun_and_goes_on (xs ++ ys)))
