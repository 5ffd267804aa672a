-- What the words of the whole state say where there are no clients.
use Rattle.std.proofs.Common.{◌≡◌, ◌<◌, ◌∙◌, ap, sym, arith, ℕ, Bool, true, false, ◌&&◌, ◌||◌, cond, not, List, [], ◌∷◌, map, length, Option, Some, None, refl, append-nil}
use Rattle.std.proofs.lemmas.Bool.{ltb-false}
use Rattle.std.proofs.lemmas.List.{length-map}
use Rattle.std.proofs.lemmas.Option.{slice_get_cases, slice_get_past}
use Rattle.std.specs.Prelude.{nat_lt, nat_le, slice_get}
use Rattle.std.specs.List.{list_any, list_all}
use Rattle.std.specs.Option.{option_map}
use Rattle.kernel_values.specs.declared.entry.Event.{Event}
use Rattle.kernel_values.specs.declared.entry.Event.TheVariants as event
use Rattle.kernel_values.specs.declared.state.Activity.{Activity}
use Rattle.kernel_values.specs.declared.state.Activity.TheVariants as activity
use Rattle.kernel_values.specs.declared.state.CoreState.{CoreState}
use Rattle.kernel_values.specs.declared.state.Thread.{Thread}
use Rattle.kernel_values.specs.declared.call.Call.{Call}
use Rattle.kernel_values.specs.declared.world.World.{World}
use Rattle.kernel_types.specs.CoreStep.{begin_of, cancelled_activity, status_of, core_begin, core_idle, core_resume, idle_answer, least_deadline, resume_of, sooner}
use Rattle.kernel_types.specs.Device.{device_step}
use Rattle.kernel_types.specs.Facts.{is_client, is_at_end}
use Rattle.kernel_types.specs.Waits.{may_move, thread_may_move, thread_movable}
use Rattle.kernel_types.specs.Outcome.{Outcome, no_seqs}
use Rattle.kernel_types.specs.Step.{Stepped, begin, beside_core, client_begin, client_number, client_resume, client_movable, device_has_work, device_stepped, step, has_begun_and_goes_on, idle, idle_lawful, idle_until, in_world, movable, next_deadline, resume, statuses, world_idle}
use Rattle.kernel_types.specs.Sweep.{kept, pruned, sweep}
use Rattle.kernel_types.specs.Threads.{activity_changed}
use Rattle.core_kernels.specs.CoreSteps.{core_statuses, core_idle_lawful, core_step}
use Rattle.core_changes.specs.Outcomes.{outcome_if}
use Rattle.core_kernels.specs.Steps.{clientless, idle_outcome, stepped_if, whole}
use Rattle.core_changes.specs.declared.outcomes.CallOutcome.{CallOutcome}

pub alone_statuses : (core : CoreState) (queue : ℕ) → statuses (whole core queue) ≡ core_statuses core
unfolding statuses core_statuses clientless
alone_statuses core queue = append-nil _

pub alone_device : (core : CoreState) (queue : ℕ) → device_has_work (whole core queue) ≡ false
unfolding device_has_work device_step clientless
alone_device core queue = refl

no_device : (core : CoreState) (queue : ℕ) → device_step (whole core queue) ≡ None
unfolding device_step clientless
no_device core queue = refl

last_false : (b : Bool) → (b && not false) ≡ b
last_false true = refl
last_false false = refl

or_false : (b : Bool) → (b || false) ≡ b
or_false true = refl
or_false false = refl

both_ways : (b : Bool) → (b && not b) ≡ false
both_ways true = refl
both_ways false = refl

pub alone_idle : (core : CoreState) (queue : ℕ) → idle_lawful (whole core queue) ≡ core_idle_lawful core
unfolding idle_lawful core_idle_lawful clientless
alone_idle core queue = rw (alone_statuses core queue, alone_device core queue, or_false (list_any (thread_may_move core) core.threads)) (last_false _)

pub alone_length : (core : CoreState) (queue : ℕ) → length (statuses (whole core queue)) ≡ length (core_statuses core)
alone_length core queue = ap length (alone_statuses core queue)

-- every actor has a status
pub none_beyond : (core : CoreState) (queue actor : ℕ) → slice_get (core_statuses core) actor ≡ None → actor < length (statuses (whole core queue)) → ⊥
none_beyond core queue actor none below =
    let there : actor < length (core_statuses core) = omega (arith, below, alone_length core queue) in
    grind (arith, none, there, slice_get_cases (core_statuses core) actor)

pub alone_end : (core : CoreState) (queue : ℕ) → is_at_end (whole core queue) ≡ list_all (λ status. not (has_begun_and_goes_on status)) (core_statuses core)
unfolding is_at_end
alone_end core queue = rw (alone_statuses core queue, alone_device core queue) (last_false _)

same_length : (core : CoreState) (queue : ℕ) → length (statuses (whole core queue)) ≡ length core.threads
unfolding core_statuses
same_length core queue = rw (alone_statuses core queue) (length-map core.threads _)

pub alone_client : (core : CoreState) (queue actor : ℕ) → is_client (whole core queue) actor ≡ false
alone_client core queue actor = rw (same_length core queue) (both_ways (nat_le (length core.threads) actor))

pub alone_movable : (core : CoreState) (queue actor : ℕ) → movable (whole core queue) actor ≡ thread_movable core actor
unfolding movable thread_movable client_movable clientless
alone_movable core queue actor = elim (nat_lt actor (length core.threads)) as (λ b. nat_lt actor (length core.threads) ≡ b → (cond b (may_move core (slice_get core.threads actor)) false) ≡ may_move core (slice_get core.threads actor)) [
  | true ↦ λ is. refl
  | false ↦ λ is. ap (may_move core) (sym (slice_get_past core.threads actor (ltb-false actor (length core.threads) is)))
] refl

-- A step

no_call : (core : CoreState) (queue actor start : ℕ) (call : Call) → client_begin (whole core queue) actor start call ≡ None
unfolding client_begin clientless
no_call core queue actor start call = refl

no_resume : (core : CoreState) (queue actor start : ℕ) → client_resume (whole core queue) actor start ≡ None
unfolding client_resume clientless
no_resume core queue actor start = refl

no_thread_begins : (core : CoreState) (actor start : ℕ) (call : Call) → nat_lt actor (length core.threads) ≡ false → core_begin core actor start call ≡ None
unfolding core_begin
no_thread_begins core actor start call is = ap (begin_of core actor start call) (slice_get_past core.threads actor (ltb-false actor (length core.threads) is))

no_thread_resumes : (core : CoreState) (actor start : ℕ) → nat_lt actor (length core.threads) ≡ false → core_resume core actor start ≡ None
unfolding core_resume
no_thread_resumes core actor start is = ap (resume_of core actor start) (slice_get_past core.threads actor (ltb-false actor (length core.threads) is))

module _ (core : CoreState) (queue actor start : ℕ) where
  abbrev alone : Option Outcome → Option Stepped
  alone outcome = option_map (in_world (clientless queue)) outcome

  alone_begin : (call : Call) → begin (whole core queue) actor start call ≡ alone (core_begin core actor start call)
  alone_begin call = elim (nat_lt actor (length core.threads)) as (λ b. nat_lt actor (length core.threads) ≡ b
      → cond b (alone (core_begin core actor start call)) (option_map (beside_core core) (client_begin (whole core queue) (client_number (whole core queue) actor) start call)) ≡ alone (core_begin core actor start call)) [
        | true ↦ λ is. refl
        | false ↦ λ is. rw (no_call core queue (client_number (whole core queue) actor) start call, no_thread_begins core actor start call is) refl
      ] refl

  alone_resume : resume (whole core queue) actor start ≡ alone (core_resume core actor start)
  alone_resume = elim (nat_lt actor (length core.threads)) as (λ b. nat_lt actor (length core.threads) ≡ b
      → cond b (alone (core_resume core actor start)) (option_map (beside_core core) (client_resume (whole core queue) (client_number (whole core queue) actor) start)) ≡ alone (core_resume core actor start)) [
        | true ↦ λ is. refl
        | false ↦ λ is. rw (no_resume core queue (client_number (whole core queue) actor) start, no_thread_resumes core actor start is) refl
      ] refl

idles_alone : (core : CoreState) (queue : ℕ) → idle (whole core queue) ≡ in_world (clientless queue) (idle_outcome core)
unfolding next_deadline world_idle clientless
idles_alone core queue = elim (least_deadline core) as (λ (o : Option ℕ). idle_until (sooner o None) (whole core queue)
    ≡ in_world (clientless queue) (record { answer = idle_answer o; seqs = no_seqs; core = sweep (core_idle o core) })) [ None ↦ refl | Some deadline ↦ refl ]

step_alone : (core : CoreState) (queue : ℕ) (e : Event) → step (whole core queue) e ≡ option_map (in_world (clientless queue)) (core_step core e)
unfolding step core_step
step_alone core queue (event.Begin actor start call) = alone_begin core queue actor.0 start call
step_alone core queue (event.Resume actor start) = alone_resume core queue actor.0 start
step_alone core queue event.Device = ap (option_map device_stepped) (no_device core queue)
step_alone core queue event.Idle = rw (alone_idle core queue, idles_alone core queue) (elim (core_idle_lawful core) as
    (λ b. (cond b (Some (in_world (clientless queue) (idle_outcome core))) None) ≡ option_map (in_world (clientless queue)) (cond b (Some (idle_outcome core)) None)) [ true ↦ refl | false ↦ refl ])

told_alone : (told : Option CallOutcome) (core : CoreState) (world : World) → stepped_if told core world ≡ option_map (in_world world) (outcome_if told core)
told_alone None core world = refl
told_alone (Some told) core world = refl

-- what was told of a step of the core is what is told of the step of the whole state
pub alone_step : (told : Option CallOutcome) (core next : CoreState) (queue : ℕ) (e : Event) → outcome_if told next ≡ core_step core e
    → stepped_if told next (clientless queue) ≡ step (whole core queue) e
alone_step told core next queue e is = told_alone told next (clientless queue) ∙ ap (option_map (in_world (clientless queue))) is ∙ sym (step_alone core queue e)

-- where the threads stay, so do the statuses
pub same_statuses : (c d : CoreState) → d.threads ≡ c.threads → core_statuses d ≡ core_statuses c
unfolding core_statuses
same_statuses c d same = ap (map (λ thread. status_of thread.activity)) same

pub swept_threads : (c : CoreState) → (sweep c).threads ≡ c.threads
unfolding sweep pruned kept
swept_threads c = refl

cancelled_status : (a : Activity) → status_of (cancelled_activity a) ≡ status_of a
cancelled_status activity.Off = refl
cancelled_status (activity.Running start) = refl
cancelled_status (activity.Waiting start wait) = refl
cancelled_status (activity.Ended start) = refl

cancelled_statuses : (threads : List Thread) → map (λ thread. status_of thread.activity) (map (activity_changed cancelled_activity) threads) ≡ map (λ thread. status_of thread.activity) threads
cancelled_statuses [] = refl
cancelled_statuses (thread ∷ threads) = cc (cancelled_status thread.activity, cancelled_statuses threads)

-- time that passes changes no status
pub idled_statuses : (clock : Option ℕ) (c : CoreState) → core_statuses (sweep (core_idle clock c)) ≡ core_statuses c
unfolding core_statuses core_idle
idled_statuses None c =
    same_statuses (core_idle None c) (sweep (core_idle None c)) (swept_threads (core_idle None c)) ∙ cancelled_statuses c.threads
idled_statuses (Some clock) c = same_statuses (core_idle (Some clock) c) (sweep (core_idle (Some clock) c)) (swept_threads (core_idle (Some clock) c))
