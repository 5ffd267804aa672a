-- What a turn makes of a kernel with its actors' scripts.
use Rattle.std.proofs.Common.{◌≡◌, ℕ, zero, suc, ◌<◌, ◌≤◌, Bool, true, false, cond, List, [], ◌∷◌, ◌++◌, length, Option, Some, None, Result, Ok, Err, refl, ap, sym, ◌∙◌, subst, arith, get_or, append-nil, inr}
use Rattle.std.proofs.lemmas.Bool.Decides.{nat_tests}
use Rattle.std.specs.Prelude.{slice_get, slice_set, nat_lt, IfOk, OnErr}
use Rattle.std.specs.Option.{option_map}
use Rattle.std.proofs.lemmas.Option.{slice_get_past, slice_get_within, slice_get-get_or}
use Rattle.kernel_values.specs.declared.call.Call.{Call}
use Rattle.kernel_values.specs.declared.items.NoMemory.{NoMemory}
use Rattle.kernel_values.specs.declared.entry.Entry.{Entry}
use Rattle.kernel_values.specs.declared.entry.Event.{Event}
use Rattle.kernel_values.specs.declared.entry.Event.TheVariants as event
use Rattle.kernel_values.specs.declared.entry.ActorStatus.{ActorStatus}
use Rattle.kernel_values.specs.declared.entry.ActorStatus.TheVariants as status
use Rattle.kernel_values.specs.declared.scene.Turn.{Turn}
use Rattle.kernel_values.specs.declared.scene.Turn.TheVariants as turn
use Rattle.kernel_values.specs.declared.reply.Answer.{Answer}
use Rattle.kernel_values.specs.declared.script.Command.{Command}
use Rattle.kernel_values.specs.declared.state.State.{State}
use Rattle.kernel_values.specs.SceneLaw.{scripts_of}
use Rattle.kernel_types.specs.Scripts.{next_call}
use Rattle.kernel_types.specs.Whole.{FollowsScripts, final_answer}
use Rattle.kernel_types.specs.History.{Legal, state_after}
use Rattle.kernel_types.specs.Facts.{status_at}
use Rattle.kernel_types.specs.Kernel.{step_limit}
use Rattle.kernel_types.specs.Step.{Stepped, step, statuses}
use Rattle.kernel_types.specs.Turns.{Run, grown, run_event, run_turn, event_of, begin_if, history_limit}
use Rattle.kernel_log.specs.Logs.{Log, state_of, made_by, Wrote}
use Rattle.script_actor.specs.Actors.{acting}
use Rattle.runners.specs.declared.place.Place.{Place}
use Rattle.runners.specs.declared.steps.Taken.{Taken}
use Rattle.runners.specs.declared.steps.Taken.TheVariants as taken
use Rattle.run_laws.proofs.Going.{turn_takes}
use Rattle.run_laws.specs.Progress.{MayTake}
use Rattle.runners.specs.Places.{AllRan, PlaceFits, IsOfScene, Kept, Sound, after_answer, after_final, anew}
use Rattle.runners.specs.Runs.{CanTake, ScriptedRun, told_of, state_told, run_told, run_logged, TookTurn}
use Rattle.runners.specs.Steps.{IsSameLog, MadeBy}
use Rattle.runners.proofs.Counts.{count_room}
use Rattle.runners.proofs.Fitting.{IsNotBy, fits_begin, fits_resume, fits_anew}
use Rattle.runners.proofs.Meeting.{IsInStep, runs_at, waits_at}
use Rattle.runners.proofs.Stepping.{IsDue, took_event, event_by, begin_means, resume_means, all_ran_set, begin_not_by, resume_not_by, get_set_same, length_set, kept_one, sound_own, sound_same}

-- what stands in the type

pub follows_told : (told : ScriptedRun) (scripts : List (List Command)) (places : List Place) (log : Log) → told ≡ told_of scripts log → Sound scripts places log
    → FollowsScripts told.origin.scripts told.history
follows_told told scripts places log is sound =
    subst (λ (t : ScriptedRun). FollowsScripts t.origin.scripts t.history) (sym is)
    (λ actor start script script_is. (let kept : (x : Place) × (slice_get places actor ≡ Some x) × PlaceFits actor script log.journal.entries x = sound.kept actor script script_is in kept.2.in_script start))

pub may_step : (told : ScriptedRun) (scripts : List (List Command)) (places : List Place) (log : Log) → told ≡ told_of scripts log → Sound scripts places log
    → length told.history < history_limit → made_by log < step_limit
unfolding history_limit step_limit
may_step told scripts places log is sound room =
    let same : length told.history ≡ length log.journal.entries = ap (λ (t : ScriptedRun). length t.history) is in
    omega (arith, same, room, sound.fresh)

pub room_is : (told : ScriptedRun) (scripts : List (List Command)) (log : Log) → told ≡ told_of scripts log → length told.history < history_limit → length log.journal.entries < history_limit
room_is told scripts log is room = subst (λ (t : ScriptedRun). length t.history < history_limit) is room

-- what the laws of runs say of it

pub goes_on : (told : ScriptedRun) (scripts : List (List Command)) (places : List Place) (log : Log) (t : Turn) → told ≡ told_of scripts log → Sound scripts places log
    → MayTake (state_told told) t → CanTake told t
goes_on told scripts places log t is sound may =
    let of : IsOfScene scripts log = sound.of_scene in
    let can : (next : Run) × (run_turn step (scripts_of of.scene) (run_logged log) t ≡ Some next) =
    turn_takes of.scene of.turns (run_logged log) t of.lawful of.run_is (subst (λ (u : ScriptedRun). MayTake (state_told u) t) is may) in
    subst (λ (u : ScriptedRun). CanTake u t) (sym is) (can.0, subst (λ (cs : List (List Command)). run_turn step cs (run_logged log) t ≡ Some can.0) (sym of.scripts_are) can.1)

-- turns

pub took_turn : (t : Turn) (told : ScriptedRun) (scripts : List (List Command)) (log longer : Log) (e : Event) (at : ℕ) → told ≡ told_of scripts log
    → event_of scripts (run_logged log) t ≡ Some e → Wrote e log longer at → run_turn step told.origin.scripts (run_told told) t ≡ Some (run_logged longer)
took_turn t told scripts log longer e at is means wrote =
    ap (λ (u : ScriptedRun). run_turn step u.origin.scripts (run_told u) t) is ∙ (ap (λ (o : Option Event). run_event step (run_logged log) o) means ∙ took_event log longer e at wrote)

pub unlawful_turn : (t : Turn) (told : ScriptedRun) (scripts : List (List Command)) (log : Log) (e : Event) → told ≡ told_of scripts log
    → event_of scripts (run_logged log) t ≡ Some e → step (state_of log) e ≡ None → run_turn step told.origin.scripts (run_told told) t ≡ None
unlawful_turn t told scripts log e is means never =
    ap (λ (u : ScriptedRun). run_turn step u.origin.scripts (run_told u) t) is ∙ (ap (λ (o : Option Event). run_event step (run_logged log) o) means ∙ ap (λ (r : Option Stepped). option_map (grown (run_logged log) e) r) never)

pub nothing_turn : (t : Turn) (told : ScriptedRun) (scripts : List (List Command)) (log : Log) → told ≡ told_of scripts log
    → event_of scripts (run_logged log) t ≡ None → run_turn step told.origin.scripts (run_told told) t ≡ None
nothing_turn t told scripts log is means =
    ap (λ (u : ScriptedRun). run_turn step u.origin.scripts (run_told u) t) is ∙ ap (λ (o : Option Event). run_event step (run_logged log) o) means

pub device_means : (scripts : List (List Command)) (run : Run) → event_of scripts run turn.Device ≡ Some event.Device
unfolding event_of
device_means scripts run = refl

pub idle_means : (scripts : List (List Command)) (run : Run) → event_of scripts run turn.Idle ≡ Some event.Idle
unfolding event_of
idle_means scripts run = refl

-- an actor that is none, was not started or ended takes no turn

pub nobody_means : (scripts : List (List Command)) (places : List Place) (log : Log) (number : ℕ) → Sound scripts places log → length places ≤ number
    → event_of scripts (run_logged log) (turn.Actor number) ≡ None
unfolding event_of
nobody_means scripts places log number sound past =
    let nobody : status_at (state_of log) number ≡ None = slice_get_past (statuses (state_of log)) number (omega (arith, past, sound.many, sound.actors)) in
    rw nobody refl

pub off_means : (scripts : List (List Command)) (log : Log) (number : ℕ) → status_at (state_of log) number ≡ Some status.Off
    → event_of scripts (run_logged log) (turn.Actor number) ≡ None
unfolding event_of
off_means scripts log number is = rw is refl

pub ended_means : (scripts : List (List Command)) (log : Log) (number start : ℕ) → status_at (state_of log) number ≡ Some (status.Ended start)
    → event_of scripts (run_logged log) (turn.Actor number) ≡ None
unfolding event_of
ended_means scripts log number start is = rw is refl

-- a place that stays

set_stays : {A : Type 0} (xs : List A) (k : ℕ) (x : A) → slice_get xs k ≡ Some x → slice_set xs k x ≡ xs
set_stays [] k x h = absurd (cc)
set_stays (first ∷ xs) zero x h = let same : first ≡ x = cc in ap (λ y. y ∷ xs) (sym same)
set_stays (first ∷ xs) (suc k) x h = ap (λ ys. first ∷ ys) (set_stays xs k x h)

sound_stays : (scripts : List (List Command)) (places : List Place) (log same : Log) (number : ℕ) (place stays : Place) → Sound scripts places log → IsSameLog log same
    → slice_get places number ≡ Some place → stays ≡ place → Sound scripts (slice_set places number stays) same
sound_stays scripts places log same number place stays sound is there place_is =
    subst (λ (ps : List Place). Sound scripts ps same) (sym (ap (λ (p : Place). slice_set places number p) place_is ∙ set_stays places number place there))
    (sound_same scripts places log same sound is)

-- an actor that goes on or waits is in the start that it was in

same_start_final : (place : Place) (given : Option Answer) → (after_final place given).actor.start ≡ place.actor.start
same_start_final place None = refl
same_start_final place (Some given) = refl

pub same_start : (place : Place) (given : Answer) → (after_answer place given).actor.start ≡ place.actor.start
same_start place given = same_start_final place (final_answer given)

-- the step of an actor, whatever came of it

pub sound_step : (result : Result Taken NoMemory) (scripts : List (List Command)) (places : List Place) (log after : Log) (e : Event) (number : ℕ) (place moved : Place) → Sound scripts places log → IsDue scripts log e
    → length log.journal.entries < history_limit → slice_get places number ≡ Some place
    → ((script : List Command) (entry : Entry) → slice_get scripts number ≡ Some script → entry.event ≡ e → PlaceFits number script (log.journal.entries ++ entry ∷ []) (after_answer place entry.answer))
    → ((other : ℕ) → (number ≡ other → ⊥) → IsNotBy other e)
    → IfOk result (λ came. MadeBy e log after place moved came) → OnErr result (IsSameLog log after) → OnErr result (moved ≡ place)
    → Sound scripts (slice_set places number moved) after
sound_step (Ok taken.Stepped) scripts places log after e number place moved sound due room there own apart made same stays =
    sound_own scripts places log after e made.0 number place moved sound due made.1 room there (ap (λ (p : Place). p.actor.start) made.2 ∙ same_start place made.1.entry.answer)
    (λ script script_is. subst (λ (p : Place). PlaceFits number script (log.journal.entries ++ made.1.entry ∷ []) p) (sym made.2) (own script made.1.entry script_is (event_by log after e made.0 made.1))) apart
sound_step (Ok taken.Unlawful) scripts places log after e number place moved sound due room there own apart made same stays =
    sound_stays scripts places log after number place moved sound made.1 there made.2
sound_step (Err refused) scripts places log after e number place moved sound due room there own apart made same stays =
    sound_stays scripts places log after number place moved sound same there stays

pub taken_step : (result : Result Taken NoMemory) (t : Turn) (told : ScriptedRun) (scripts : List (List Command)) (log after : Log) (e : Event) (place moved : Place) → told ≡ told_of scripts log
    → event_of scripts (run_logged log) t ≡ Some e → IfOk result (λ came. MadeBy e log after place moved came)
    → IfOk result (λ came. TookTurn t told (told_of scripts after) came)
taken_step (Ok taken.Stepped) t told scripts log after e place moved is means made = took_turn t told scripts log after e made.0 is means made.1
taken_step (Ok taken.Unlawful) t told scripts log after e place moved is means made =
    (unlawful_turn t told scripts log e is means made.0, made.1.1 ∙ sym (ap (λ (u : ScriptedRun). u.history) is))
taken_step (Err refused) t told scripts log after e place moved is means made = made

-- the place of an actor that has a script

pub place_there : (scripts : List (List Command)) (places : List Place) (log : Log) (number : ℕ) (script : List Command) (place : Place) → Sound scripts places log
    → slice_get scripts number ≡ Some script → place ≡ get_or places number place → slice_get places number ≡ Some place
place_there scripts places log number script place sound script_is place_is =
    let below : number < length places = omega (arith, slice_get_within scripts number script script_is, sound.many) in
    slice_get-get_or places number place below ∙ ap (λ (p : Place). Some p) (sym place_is)

-- a new start

pub sound_anew : (scripts : List (List Command)) (places : List Place) (log : Log) (number start : ℕ) (script : List Command) (place fresh : Place) → Sound scripts places log
    → slice_get scripts number ≡ Some script → slice_get places number ≡ Some place → place.actor.start < start → fresh ≡ record { actor = acting script start; waits = false }
    → status_at (state_of log) number ≡ Some (status.Running start) → Sound scripts (slice_set places number fresh) log
sound_anew scripts places log number start script place fresh sound script_is there later is runs = record {
  kept = kept_one scripts places log.journal.entries number place fresh sound.kept there
      (λ other_script other_is. (let same : other_script ≡ script = cc (other_is, script_is) in
      subst (λ (s : List Command). PlaceFits number s log.journal.entries fresh) (sym same)
      (subst (λ (p : Place). PlaceFits number script log.journal.entries p) (sym is)
      (let kept : (x : Place) × (slice_get places number ≡ Some x) × PlaceFits number script log.journal.entries x = sound.kept number script script_is in
      let one : kept.0 ≡ place = cc (kept.1, there) in
      fits_anew number start script log.journal.entries kept.0 kept.2 (subst (λ (p : Place). p.actor.start < start) (sym one) later)))));
  ran = all_ran_set places log.origin.state log.journal.entries number place fresh sound.ran there
      (inr (log.journal.entries, [], sym (append-nil log.journal.entries), runs ∙ ap (λ (p : Place). Some (status.Running p.actor.start)) (sym is)));
  of_scene = sound.of_scene;
  many = length_set places number fresh ∙ sound.many;
  actors = sound.actors;
  few = sound.few;
  fresh = sound.fresh;
  short = sound.short;
}

-- the place of an actor that runs, which begins its script anew where it was started again

sound_at_by : (scripts : List (List Command)) (places : List Place) (log : Log) (number start : ℕ) (script : List Command) (place : Place) (b : Bool) → nat_lt place.actor.start start ≡ b
    → Sound scripts places log → slice_get scripts number ≡ Some script → slice_get places number ≡ Some place → status_at (state_of log) number ≡ Some (status.Running start)
    → Sound scripts (slice_set places number (cond b (record { actor = acting script start; waits = false }) place)) log
sound_at_by scripts places log number start script place true later sound script_is there runs =
    sound_anew scripts places log number start script place (record { actor = acting script start; waits = false }) sound script_is there (grind (arith, nat_tests)) refl runs
sound_at_by scripts places log number start script place false later sound script_is there runs =
    sound_stays scripts places log log number place place sound (refl, refl) there refl

pub sound_at : (scripts : List (List Command)) (places : List Place) (log : Log) (number start : ℕ) (script : List Command) (place : Place) → Sound scripts places log
    → slice_get scripts number ≡ Some script → slice_get places number ≡ Some place → status_at (state_of log) number ≡ Some (status.Running start)
    → Sound scripts (slice_set places number (anew script start place)) log
sound_at scripts places log number start script place sound script_is there runs =
    sound_at_by scripts places log number start script place (nat_lt place.actor.start start) refl sound script_is there runs

start_at_by : (start : ℕ) (script : List Command) (place : Place) (b : Bool) → nat_lt place.actor.start start ≡ b
    → start ≤ (cond b (record { actor = acting script start; waits = false }) place).actor.start
start_at_by start script place true later = omega arith
start_at_by start script place false same = grind (arith, nat_tests)

pub start_at : (start : ℕ) (script : List Command) (place : Place) → start ≤ (anew script start place).actor.start
start_at start script place = start_at_by start script place (nat_lt place.actor.start start) refl

-- of the actor at a place

fits_there : (scripts : List (List Command)) (places : List Place) (log : Log) (number : ℕ) (script : List Command) (place : Place) → Sound scripts places log
    → slice_get scripts number ≡ Some script → slice_get places number ≡ Some place → PlaceFits number script log.journal.entries place
fits_there scripts places log number script place sound script_is there =
    let kept : (x : Place) × (slice_get places number ≡ Some x) × PlaceFits number script log.journal.entries x = sound.kept number script script_is in
    let one : kept.0 ≡ place = cc (kept.1, there) in
    subst (λ (p : Place). PlaceFits number script log.journal.entries p) one kept.2

pub call_fits : (scripts : List (List Command)) (places : List Place) (log : Log) (number start : ℕ) (place : Place) (what : Call) → Sound scripts places log → slice_get places number ≡ Some place
    → place.waits ≡ false → place.actor.start ≡ start → next_call place.actor.script place.actor.stand ≡ Some what
    → (script : List Command) (entry : Entry) → slice_get scripts number ≡ Some script → entry.event ≡ event.Begin (record { 0 = number }) start what
    → PlaceFits number script (log.journal.entries ++ entry ∷ []) (after_answer place entry.answer)
call_fits scripts places log number start place what sound there runs start_is next script entry script_is is =
    fits_begin number start script log.journal.entries entry place what (fits_there scripts places log number script place sound script_is there) runs start_is next is

pub resume_fits : (scripts : List (List Command)) (places : List Place) (log : Log) (number start : ℕ) (place : Place) → Sound scripts places log → slice_get places number ≡ Some place
    → place.waits ≡ true → place.actor.start ≡ start
    → (script : List Command) (entry : Entry) → slice_get scripts number ≡ Some script → entry.event ≡ event.Resume (record { 0 = number }) start
    → PlaceFits number script (log.journal.entries ++ entry ∷ []) (after_answer place entry.answer)
resume_fits scripts places log number start place sound there waits start_is script entry script_is is =
    fits_resume number start script log.journal.entries entry place (fits_there scripts places log number script place sound script_is there) waits start_is is

pub call_means : (scripts : List (List Command)) (places : List Place) (log : Log) (number start : ℕ) (script : List Command) (place : Place) (what : Option Call) → Sound scripts places log
    → slice_get scripts number ≡ Some script → slice_get places number ≡ Some place → place.actor.start ≡ start
    → status_at (state_of log) number ≡ Some (status.Running start) → next_call place.actor.script place.actor.stand ≡ what
    → event_of scripts (run_logged log) (turn.Actor number) ≡ begin_if number start what
call_means scripts places log number start script place what sound script_is there start_is runs next =
    begin_means scripts log number start script place what script_is (fits_there scripts places log number script place sound script_is there) start_is runs next

has_script : (scripts : List (List Command)) (places : List Place) (log : Log) (number : ℕ) (what : ActorStatus) → Sound scripts places log → status_at (state_of log) number ≡ Some what
    → (script : List Command) × (slice_get scripts number ≡ Some script)
has_script scripts places log number what sound status_is =
    let below : number < length scripts = omega (arith, slice_get_within (statuses (state_of log)) number what status_is, sound.actors) in
    (get_or scripts number [], slice_get-get_or scripts number [] below)

-- the count of an actor

pub status_here : (told : ScriptedRun) (scripts : List (List Command)) (log : Log) (number : ℕ) (what : ActorStatus) → told ≡ told_of scripts log
    → status_at (state_told told) number ≡ Some what → status_at (state_of log) number ≡ Some what
status_here told scripts log number what is status_is = subst (λ (t : ScriptedRun). status_at (state_told t) number ≡ Some what) is status_is

pub within : (scripts : List (List Command)) (places : List Place) (counts : List ℕ) (log : Log) (number : ℕ) (what : ActorStatus) → Kept scripts places counts log
    → status_at (state_of log) number ≡ Some what → number < length counts
within scripts places counts log number what kept status_is =
    omega (arith, slice_get_within (statuses (state_of log)) number what status_is, kept.sound.actors, kept.counted.many)

pub counts_room : (told : ScriptedRun) (scripts : List (List Command)) (places : List Place) (counts : List ℕ) (log : Log) (number : ℕ) (what : ActorStatus) → told ≡ told_of scripts log
    → Kept scripts places counts log → status_at (state_told told) number ≡ Some what → length told.history < history_limit → get_or counts number 0 < step_limit
counts_room told scripts places counts log number what is kept status_is room =
    let there : number < length scripts =
    omega (arith, within scripts places counts log number what kept (status_here told scripts log number what is status_is), kept.counted.many) in
    count_room scripts counts log number kept.counted there (room_is told scripts log is room)

-- What the history says of the place: it is of the start in which the actor is, and waits where the actor waits.

pub runs_in_step : (scripts : List (List Command)) (places : List Place) (log : Log) (number start : ℕ) (place : Place) → Sound scripts places log
    → Legal log.origin.state log.journal.entries → slice_get places number ≡ Some place → status_at (state_of log) number ≡ Some (status.Running start) → start ≤ place.actor.start
    → IsInStep place start (status.Running start)
runs_in_step scripts places log number start place sound legal there runs low =
    let script : (c : List Command) × (slice_get scripts number ≡ Some c) = has_script scripts places log number (status.Running start) sound runs in
    subst (λ (s : State). Legal s log.journal.entries → AllRan places s log.journal.entries → status_at (state_after s log.journal.entries) number ≡ Some (status.Running start)
    → IsInStep place start (status.Running start)) (sym sound.of_scene.state_is)
    (λ l ran r. runs_at sound.of_scene.scene scripts places log.journal.entries number script.0 place l sound.kept ran script.1 there start r low) legal sound.ran runs

pub waits_in_step : (scripts : List (List Command)) (places : List Place) (log : Log) (number start : ℕ) (place : Place) → Sound scripts places log
    → Legal log.origin.state log.journal.entries → slice_get places number ≡ Some place → status_at (state_of log) number ≡ Some (status.Waiting start)
    → IsInStep place start (status.Waiting start)
waits_in_step scripts places log number start place sound legal there waits =
    let script : (c : List Command) × (slice_get scripts number ≡ Some c) = has_script scripts places log number (status.Waiting start) sound waits in
    subst (λ (s : State). Legal s log.journal.entries → AllRan places s log.journal.entries → status_at (state_after s log.journal.entries) number ≡ Some (status.Waiting start)
    → IsInStep place start (status.Waiting start)) (sym sound.of_scene.state_is)
    (λ l ran w. waits_at sound.of_scene.scene scripts places log.journal.entries number script.0 place l sound.kept ran script.1 there start w) legal sound.ran waits

-- the turn of an actor that runs, and of one that waits

pub record Stands (told : ScriptedRun) (scripts : List (List Command)) (places : List Place) (log : Log) (number start : ℕ) (place : Place) (what : ActorStatus) : Type 0 where
  is : told ≡ told_of scripts log
  pub sound : Sound scripts places log
  pub status_is : status_at (state_of log) number ≡ Some what
  there : slice_get places number ≡ Some place
  in_step : IsInStep place start what

-- the place of an actor of the scene
at_place : (scripts : List (List Command)) (places : List Place) (log : Log) (number : ℕ) (place : Place) (what : ActorStatus) → Sound scripts places log
    → status_at (state_of log) number ≡ Some what → place ≡ get_or places number place → slice_get places number ≡ Some place
at_place scripts places log number place what sound status_is place_is =
    let below : number < length places = omega (arith, slice_get_within (statuses (state_of log)) number what status_is, sound.many, sound.actors) in
    slice_get-get_or places number place below ∙ ap (λ (p : Place). Some p) (sym place_is)

pub stands_waiting : (told : ScriptedRun) (scripts : List (List Command)) (places : List Place) (log : Log) (number start : ℕ) (place : Place) → told ≡ told_of scripts log
    → Sound scripts places log → Legal log.origin.state log.journal.entries → status_at (state_told told) number ≡ Some (status.Waiting start) → place ≡ get_or places number place
    → Stands told scripts places log number start place (status.Waiting start)
stands_waiting told scripts places log number start place is sound legal status_is place_is =
    let waits : status_at (state_of log) number ≡ Some (status.Waiting start) = subst (λ (t : ScriptedRun). status_at (state_told t) number ≡ Some (status.Waiting start)) is status_is in
    let there : slice_get places number ≡ Some place = at_place scripts places log number place (status.Waiting start) sound waits place_is in
    record { is = is; sound = sound; status_is = waits; there = there; in_step = waits_in_step scripts places log number start place sound legal there waits }

-- with the place of an actor that runs, by its start
pub stands_running : (told : ScriptedRun) (scripts : List (List Command)) (places : List Place) (log : Log) (number start : ℕ) (script : List Command) (place now : Place) → told ≡ told_of scripts log
    → Sound scripts places log → Legal log.origin.state log.journal.entries → status_at (state_told told) number ≡ Some (status.Running start)
    → slice_get scripts number ≡ Some script → place ≡ get_or places number place → now ≡ anew script start place
    → Stands told scripts (slice_set places number now) log number start now (status.Running start)
stands_running told scripts places log number start script place now is sound legal status_is script_is place_is now_is =
    let runs : status_at (state_of log) number ≡ Some (status.Running start) = subst (λ (t : ScriptedRun). status_at (state_told t) number ≡ Some (status.Running start)) is status_is in
    let there : slice_get places number ≡ Some place = at_place scripts places log number place (status.Running start) sound runs place_is in
    let sound_now : Sound scripts (slice_set places number now) log =
    subst (λ (p : Place). Sound scripts (slice_set places number p) log) (sym now_is) (sound_at scripts places log number start script place sound script_is there runs) in
    let there_now : slice_get (slice_set places number now) number ≡ Some now = get_set_same places number place now there in
    record {
      is = is;
      sound = sound_now;
      status_is = runs;
      there = there_now;
      in_step = runs_in_step scripts (slice_set places number now) log number start now sound_now legal there_now runs
          (subst (λ (p : Place). start ≤ p.actor.start) (sym now_is) (start_at start script place));
    }

calls : (told : ScriptedRun) (scripts : List (List Command)) (places : List Place) (log : Log) (number start : ℕ) (place : Place) (what : Option Call)
    → Stands told scripts places log number start place (status.Running start) → next_call place.actor.script place.actor.stand ≡ what
    → event_of scripts (run_logged log) (turn.Actor number) ≡ begin_if number start what
calls told scripts places log number start place what s next =
    let script : (c : List Command) × (slice_get scripts number ≡ Some c) = has_script scripts places log number (status.Running start) s.sound s.status_is in
    call_means scripts places log number start script.0 place what s.sound script.1 s.there s.in_step.start_is s.status_is next

pub over_call : (told : ScriptedRun) (scripts : List (List Command)) (places : List Place) (log : Log) (number start : ℕ) (place : Place)
    → Stands told scripts places log number start place (status.Running start) → next_call place.actor.script place.actor.stand ≡ None
    → run_turn step told.origin.scripts (run_told told) (turn.Actor number) ≡ None
over_call told scripts places log number start place s next = nothing_turn (turn.Actor number) told scripts log s.is (calls told scripts places log number start place None s next)

pub sound_call : (result : Result Taken NoMemory) (told : ScriptedRun) (scripts : List (List Command)) (places : List Place) (log after : Log) (number start : ℕ) (place moved : Place) (what : Call)
    → Stands told scripts places log number start place (status.Running start) → length told.history < history_limit
    → next_call place.actor.script place.actor.stand ≡ Some what → IfOk result (λ came. MadeBy (event.Begin (record { 0 = number }) start what) log after place moved came)
    → OnErr result (IsSameLog log after) → OnErr result (moved ≡ place) → Sound scripts (slice_set places number moved) after
sound_call result told scripts places log after number start place moved what s room next made same stays =
    sound_step result scripts places log after (event.Begin (record { 0 = number }) start what) number place moved s.sound
    (turn.Actor number, calls told scripts places log number start place (Some what) s next) (room_is told scripts log s.is room) s.there
    (call_fits scripts places log number start place what s.sound s.there s.in_step.waits_is s.in_step.start_is next) (begin_not_by number start what) made same stays

pub taken_call : (result : Result Taken NoMemory) (told : ScriptedRun) (scripts : List (List Command)) (places : List Place) (log after : Log) (number start : ℕ) (place moved : Place) (what : Call)
    → Stands told scripts places log number start place (status.Running start) → next_call place.actor.script place.actor.stand ≡ Some what
    → IfOk result (λ came. MadeBy (event.Begin (record { 0 = number }) start what) log after place moved came)
    → IfOk result (λ came. TookTurn (turn.Actor number) told (told_of scripts after) came)
taken_call result told scripts places log after number start place moved what s next made =
    taken_step result (turn.Actor number) told scripts log after (event.Begin (record { 0 = number }) start what) place moved s.is
    (calls told scripts places log number start place (Some what) s next) made

pub sound_resume : (result : Result Taken NoMemory) (told : ScriptedRun) (scripts : List (List Command)) (places : List Place) (log after : Log) (number start : ℕ) (place moved : Place)
    → Stands told scripts places log number start place (status.Waiting start) → length told.history < history_limit
    → IfOk result (λ came. MadeBy (event.Resume (record { 0 = number }) start) log after place moved came)
    → OnErr result (IsSameLog log after) → OnErr result (moved ≡ place) → Sound scripts (slice_set places number moved) after
sound_resume result told scripts places log after number start place moved s room made same stays =
    sound_step result scripts places log after (event.Resume (record { 0 = number }) start) number place moved s.sound
    (turn.Actor number, resume_means scripts log number start s.status_is) (room_is told scripts log s.is room) s.there
    (resume_fits scripts places log number start place s.sound s.there s.in_step.waits_is s.in_step.start_is) (resume_not_by number start) made same stays

pub taken_resume : (result : Result Taken NoMemory) (told : ScriptedRun) (scripts : List (List Command)) (places : List Place) (log after : Log) (number start : ℕ) (place moved : Place)
    → Stands told scripts places log number start place (status.Waiting start)
    → IfOk result (λ came. MadeBy (event.Resume (record { 0 = number }) start) log after place moved came)
    → IfOk result (λ came. TookTurn (turn.Actor number) told (told_of scripts after) came)
taken_resume result told scripts places log after number start place moved s made =
    taken_step result (turn.Actor number) told scripts log after (event.Resume (record { 0 = number }) start) place moved s.is (resume_means scripts log number start s.status_is) made
