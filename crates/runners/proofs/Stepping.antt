-- What one more entry makes of a run, and of the places.
use Rattle.std.proofs.Common.{◌≡◌, ℕ, zero, suc, ◌+◌, ◌<◌, ◌≤◌, false, List, [], ◌∷◌, ◌++◌, length, Option, Some, None, refl, ap, sym, ◌∙◌, subst, arith, append_assoc, length-append, inl, inr}
use Rattle.std.specs.Prelude.{slice_get, slice_set, ◌==◌}
use Rattle.std.specs.Option.{option_map}
use Rattle.std.proofs.lemmas.Bool.{cases_eq}
use Rattle.std.proofs.lemmas.Bool.Decides.{nat_tests}
use Rattle.kernel_values.specs.declared.call.Call.{Call}
use Rattle.kernel_values.specs.declared.entry.Entry.{Entry}
use Rattle.kernel_values.specs.declared.entry.Event.{Event}
use Rattle.kernel_values.specs.declared.entry.Event.TheVariants as event
use Rattle.kernel_values.specs.declared.entry.ActorStatus.TheVariants as status
use Rattle.kernel_values.specs.declared.reply.Answer.{Answer}
use Rattle.kernel_values.specs.declared.scene.Turn.{Turn}
use Rattle.kernel_values.specs.declared.scene.Turn.TheVariants as turn
use Rattle.kernel_values.specs.declared.script.Command.{Command}
use Rattle.kernel_values.specs.declared.state.State.{State}
use Rattle.kernel_types.specs.Scripts.{Stand, next_call, stand_on, script_begin}
use Rattle.kernel_types.specs.Whole.{is_by, answers_in}
use Rattle.kernel_types.specs.History.{next_state, state_after, state_or, step_entry, entry_of}
use Rattle.kernel_types.specs.Facts.{status_at}
use Rattle.kernel_types.specs.Step.{Stepped, step, statuses}
use Rattle.kernel_types.specs.Turns.{Run, grown, ran, run_event, run_turn, event_of, begin_if, history_limit}
use Rattle.kernel_log.specs.Logs.{Log, state_of, Wrote}
use Rattle.runners.specs.declared.place.Place.{Place}
use Rattle.runners.specs.Places.{AllRan, PlaceFits, HasRun, IsOfScene, PlacesFit, Sound}
use Rattle.runners.specs.Runs.{run_logged}
use Rattle.runners.specs.Steps.{IsSameLog}
use Rattle.runners.proofs.Fitting.{IsNotBy, fits_other}
use Rattle.run_laws.proofs.Counting.{actors_stay}
use Rattle.run_laws.proofs.SerialTurns.{run_more}

state_more : (s : State) (entries : List Entry) (entry : Entry) → state_after s (entries ++ entry ∷ []) ≡ next_state (state_after s entries) entry.event
state_more s [] entry = refl
state_more s (first ∷ entries) entry = state_more (next_state s first.event) entries entry

-- the entry of a step is of its event, and the state after it is the step's

entry_is : (s : State) (e : Event) (entry : Entry) (r : Option Stepped) → step s e ≡ r → step_entry s e ≡ Some entry
    → (stepped : Stepped) × (step s e ≡ Some stepped) × (entry ≡ entry_of e stepped)
entry_is s e entry None is h = absurd (cc (rw is at h))
entry_is s e entry (Some stepped) is h = (stepped, is, (let found : entry ≡ entry_of e stepped = cc (rw is at h) in found))

pub wrote_is : (s : State) (e : Event) (entry : Entry) → step_entry s e ≡ Some entry → (stepped : Stepped) × (step s e ≡ Some stepped) × (entry ≡ entry_of e stepped)
wrote_is s e entry h = entry_is s e entry (step s e) refl h

next_is : (s : State) (e : Event) (stepped : Stepped) → step s e ≡ Some stepped → next_state s e ≡ stepped.state
next_is s e stepped is = ap (λ (r : Option Stepped). state_or s r) is

-- the state that a longer log has come to
pub longer_state : (log longer : Log) (e : Event) (at : ℕ) (wrote : Wrote e log longer at) (stepped : Stepped) → step (state_of log) e ≡ Some stepped
    → wrote.entry ≡ entry_of e stepped → state_of longer ≡ stepped.state
longer_state log longer e at wrote stepped is entry_is =
    ap (λ (s : State). state_after s longer.journal.entries) (ap (λ o. o.state) wrote.origin_is)
    ∙ (ap (λ (es : List Entry). state_after log.origin.state es) wrote.entries_are
    ∙ (state_more log.origin.state log.journal.entries wrote.entry
    ∙ (ap (λ (f : Event). next_state (state_of log) f) (ap (λ (x : Entry). x.event) entry_is) ∙ next_is (state_of log) e stepped is)))

-- the run of a log is one turn longer
pub took_event : (log longer : Log) (e : Event) (at : ℕ) → Wrote e log longer at → run_event step (run_logged log) (Some e) ≡ Some (run_logged longer)
took_event log longer e at wrote =
    let found : (stepped : Stepped) × (step (state_of log) e ≡ Some stepped) × (wrote.entry ≡ entry_of e stepped) = wrote_is (state_of log) e wrote.entry wrote.entry_is in
    let state : state_of longer ≡ found.0.state = longer_state log longer e at wrote found.0 found.1 found.2 in
    let entries : longer.journal.entries ≡ log.journal.entries ++ (entry_of e found.0) ∷ [] =
    wrote.entries_are ∙ ap (λ (x : Entry). log.journal.entries ++ x ∷ []) found.2 in
    ap (λ (r : Option Stepped). option_map (grown (run_logged log) e) r) found.1
    ∙ ap (λ (run : Run). Some run) (sym (ap (λ (s : State). record { state = s; entries = longer.journal.entries }) state ∙ ap (λ (es : List Entry). record { state = found.0.state; entries = es }) entries))

pub event_by : (log longer : Log) (e : Event) (at : ℕ) (wrote : Wrote e log longer at) → wrote.entry.event ≡ e
event_by log longer e at wrote =
    let found : (stepped : Stepped) × (step (state_of log) e ≡ Some stepped) × (wrote.entry ≡ entry_of e stepped) = wrote_is (state_of log) e wrote.entry wrote.entry_is in
    ap (λ (x : Entry). x.event) found.2

-- which event a turn of an actor means

pub begin_means : (scripts : List (List Command)) (log : Log) (number start : ℕ) (script : List Command) (place : Place) (call : Option Call)
    → slice_get scripts number ≡ Some script → PlaceFits number script log.journal.entries place → place.actor.start ≡ start
    → status_at (state_of log) number ≡ Some (status.Running start) → next_call place.actor.script place.actor.stand ≡ call
    → event_of scripts (run_logged log) (turn.Actor number) ≡ begin_if number start call
unfolding event_of
begin_means scripts log number start script place call script_is f start_is runs next_is =
    let stands : next_call script (stand_on script script_begin (answers_in number start log.journal.entries)) ≡ call =
    (ap (λ (n : ℕ). next_call script (stand_on script script_begin (answers_in number n log.journal.entries))) (sym start_is)
    ∙ (ap (λ (stand : Stand). next_call script stand) (sym f.stand_is) ∙ ap (λ (commands : List Command). next_call commands place.actor.stand) (sym f.script_is))) ∙ next_is in
    rw (runs, script_is, stands) refl

pub resume_means : (scripts : List (List Command)) (log : Log) (number start : ℕ) → status_at (state_of log) number ≡ Some (status.Waiting start)
    → event_of scripts (run_logged log) (turn.Actor number) ≡ Some (event.Resume (record { 0 = number }) start)
unfolding event_of
resume_means scripts log number start waits = rw waits refl

-- whose an event is not

other_number : (number other start from : ℕ) → (number ≡ other → ⊥) → is_by other start number from ≡ false
other_number number other start from apart =
    let never : (number == other) ≡ false = grind (arith, nat_tests) in
    rw never refl

pub begin_not_by : (number start : ℕ) (call : Call) (other : ℕ) → (number ≡ other → ⊥) → IsNotBy other (event.Begin (record { 0 = number }) start call)
begin_not_by number start call other apart s = let never : is_by other s number start ≡ false = other_number number other s start apart in (rw never refl, never)

pub resume_not_by : (number start other : ℕ) → (number ≡ other → ⊥) → IsNotBy other (event.Resume (record { 0 = number }) start)
resume_not_by number start other apart s = (refl, other_number number other s start apart)

pub device_not_by : (other : ℕ) → IsNotBy other event.Device
device_not_by other s = (refl, refl)

pub idle_not_by : (other : ℕ) → IsNotBy other event.Idle
idle_not_by other s = (refl, refl)

-- a list with one item changed

pub get_set_same : {A : Type 0} (xs : List A) (k : ℕ) (x y : A) → slice_get xs k ≡ Some x → slice_get (slice_set xs k y) k ≡ Some y
get_set_same [] k x y h = absurd (cc)
get_set_same (first ∷ xs) zero x y h = refl
get_set_same (first ∷ xs) (suc k) x y h = get_set_same xs k x y h

pub get_set_other : {A : Type 0} (xs : List A) (k j : ℕ) (y : A) → (k ≡ j → ⊥) → slice_get (slice_set xs k y) j ≡ slice_get xs j
get_set_other [] k j y apart = refl
get_set_other (first ∷ xs) zero zero y apart = absurd (apart refl)
get_set_other (first ∷ xs) zero (suc j) y apart = refl
get_set_other (first ∷ xs) (suc k) zero y apart = refl
get_set_other (first ∷ xs) (suc k) (suc j) y apart = get_set_other xs k j y (λ same. apart (omega (arith, same)))

pub length_set : {A : Type 0} (xs : List A) (k : ℕ) (y : A) → length (slice_set xs k y) ≡ length xs
length_set [] k y = refl
length_set (first ∷ xs) zero y = refl
length_set (first ∷ xs) (suc k) y = ap (λ n. suc n) (length_set xs k y)

pub set_set : {A : Type 0} (xs : List A) (k : ℕ) (x y : A) → slice_set (slice_set xs k x) k y ≡ slice_set xs k y
set_set [] k x y = refl
set_set (first ∷ xs) zero x y = refl
set_set (first ∷ xs) (suc k) x y = ap (λ ys. first ∷ ys) (set_set xs k x y)

-- by which starts actors ran

ran_longer : (s : State) (entries : List Entry) (entry : Entry) (number start : ℕ) → HasRun s entries number start → HasRun s (entries ++ entry ∷ []) number start
ran_longer s entries entry number start has = elim has [
  | inl first ↦ inl first
  | inr p ↦ inr (p.0, p.1 ++ entry ∷ [], ap (λ es. es ++ entry ∷ []) p.2 ∙ append_assoc p.0 p.1 (entry ∷ []), p.3)
]

pub ran_more : (places : List Place) (s : State) (entries : List Entry) (entry : Entry) → AllRan places s entries → AllRan places s (entries ++ entry ∷ [])
ran_more places s entries entry rans number place there = ran_longer s entries entry number place.actor.start (rans number place there)

all_ran_longer : (places : List Place) (log longer : Log) (e : Event) (at : ℕ) → Wrote e log longer at → AllRan places log.origin.state log.journal.entries
    → AllRan places longer.origin.state longer.journal.entries
all_ran_longer places log longer e at wrote rans number place there =
    subst (λ (s : State). HasRun s longer.journal.entries number place.actor.start) (sym (ap (λ o. o.state) wrote.origin_is))
    (subst (λ (es : List Entry). HasRun log.origin.state es number place.actor.start) (sym wrote.entries_are)
    (ran_longer log.origin.state log.journal.entries wrote.entry number place.actor.start (rans number place there)))

-- with one place changed, in which the actor stands by a start by which it ran
pub all_ran_set : (places : List Place) (s : State) (entries : List Entry) (number : ℕ) (place moved : Place) → AllRan places s entries → slice_get places number ≡ Some place
    → HasRun s entries number moved.actor.start → AllRan (slice_set places number moved) s entries
all_ran_set places s entries number place moved rans there own other x x_is = elim (cases_eq number other) [
  | inl same ↦ (let here : slice_get (slice_set places number moved) number ≡ Some x = ap (λ n. slice_get (slice_set places number moved) n) same ∙ x_is in
      let is : moved ≡ x = (let set : slice_get (slice_set places number moved) number ≡ Some moved = get_set_same places number place moved there in cc) in
      subst (λ (p : Place). HasRun s entries other p.actor.start) is (subst (λ n. HasRun s entries n moved.actor.start) same own))
  | inr differs ↦ rans other x (sym (get_set_other places number other moved differs) ∙ x_is)
]

-- the places after a step

-- the event of a turn
abbrev pub IsDue : List (List Command) → Log → Event → Type 0
IsDue scripts log e = (t : Turn) × (event_of scripts (run_logged log) t ≡ Some e)

of_longer : (scripts : List (List Command)) (log longer : Log) (e : Event) (at : ℕ) → IsOfScene scripts log → IsDue scripts log e → Wrote e log longer at → IsOfScene scripts longer
of_longer scripts log longer e at of due wrote =
    let took : run_turn step scripts (run_logged log) due.0 ≡ Some (run_logged longer) =
    ap (λ (o : Option Event). run_event step (run_logged log) o) due.1 ∙ took_event log longer e at wrote in
    record {
      scene = of.scene;
      lawful = of.lawful;
      scripts_are = of.scripts_are;
      state_is = ap (λ o. o.state) wrote.origin_is ∙ of.state_is;
      turns = of.turns ++ due.0 ∷ [];
      run_is = run_more of.scene of.turns (run_logged log) (run_logged longer) due.0 of.run_is
          (subst (λ (cs : List (List Command)). run_turn step cs (run_logged log) due.0 ≡ Some (run_logged longer)) of.scripts_are took);
    }

of_same : (scripts : List (List Command)) (log same : Log) → IsOfScene scripts log → IsSameLog log same → IsOfScene scripts same
of_same scripts log same of is =
    let run : run_logged log ≡ run_logged same =
    ap (λ (es : List Entry). record { state = state_after log.origin.state es; entries = es }) (sym is.1)
    ∙ ap (λ (s : State). record { state = state_after s same.journal.entries; entries = same.journal.entries }) (sym (ap (λ o. o.state) is.0)) in
    record {
      scene = of.scene;
      lawful = of.lawful;
      scripts_are = of.scripts_are;
      state_is = ap (λ o. o.state) is.0 ∙ of.state_is;
      turns = of.turns;
      run_is = of.run_is ∙ ap (λ (r : Run). ran r) run;
    }

rest_of_sound : (scripts : List (List Command)) (places moved : List Place) (log longer : Log) (e : Event) (at : ℕ) → Sound scripts places log → IsDue scripts log e → Wrote e log longer at
    → length log.journal.entries < history_limit → length moved ≡ length places → PlacesFit scripts moved longer.journal.entries
    → AllRan moved log.origin.state log.journal.entries → Sound scripts moved longer
rest_of_sound scripts places moved log longer e at sound due wrote room many kept rans =
    let found : (stepped : Stepped) × (step (state_of log) e ≡ Some stepped) × (wrote.entry ≡ entry_of e stepped) = wrote_is (state_of log) e wrote.entry wrote.entry_is in
    let state : state_of longer ≡ found.0.state = longer_state log longer e at wrote found.0 found.1 found.2 in
    let longer_by : length longer.journal.entries ≡ length log.journal.entries + 1 = ap length wrote.entries_are ∙ length-append log.journal.entries (wrote.entry ∷ []) in
    record {
      kept = kept;
      ran = all_ran_longer moved log longer e at wrote rans;
      of_scene = of_longer scripts log longer e at sound.of_scene due wrote;
      many = many ∙ sound.many;
      actors = ap (λ (s : State). length (statuses s)) state ∙ ((ap (λ (s : State). length (statuses s)) (sym (next_is (state_of log) e found.0 found.1)) ∙ actors_stay (state_of log) e) ∙ sound.actors);
      few = sound.few;
      fresh = ap (λ o. o.made) wrote.origin_is ∙ sound.fresh;
      short = omega (arith, longer_by, room);
    }

-- the place of the actor that made the step, put back
pub kept_own : (scripts : List (List Command)) (places : List Place) (entries : List Entry) (entry : Entry) (number : ℕ) (place moved : Place) → PlacesFit scripts places entries
    → slice_get places number ≡ Some place
    → ((script : List Command) → slice_get scripts number ≡ Some script → PlaceFits number script (entries ++ entry ∷ []) moved)
    → ((other : ℕ) → (number ≡ other → ⊥) → IsNotBy other entry.event) → PlacesFit scripts (slice_set places number moved) (entries ++ entry ∷ [])
kept_own scripts places entries entry number place moved kept there own apart other script script_is = elim (cases_eq number other) [
  | inl same ↦ (
    moved,
    subst (λ (n : ℕ). slice_get (slice_set places number moved) n ≡ Some moved) same (get_set_same places number place moved there),
    subst (λ (n : ℕ). PlaceFits n script (entries ++ entry ∷ []) moved) same (own script (subst (λ (n : ℕ). slice_get scripts n ≡ Some script) (sym same) script_is)),
  )
  | inr differs ↦ (let old : (x : Place) × (slice_get places other ≡ Some x) × PlaceFits other script entries x = kept other script script_is in
      (old.0, get_set_other places number other moved differs ∙ old.1, fits_other other script entries entry old.0 (apart other differs) old.2))
]

-- one place put back
pub kept_one : (scripts : List (List Command)) (places : List Place) (entries : List Entry) (number : ℕ) (place moved : Place) → PlacesFit scripts places entries
    → slice_get places number ≡ Some place → ((script : List Command) → slice_get scripts number ≡ Some script → PlaceFits number script entries moved)
    → PlacesFit scripts (slice_set places number moved) entries
kept_one scripts places entries number place moved kept there own other script script_is = elim (cases_eq number other) [
  | inl same ↦ (
    moved,
    subst (λ (n : ℕ). slice_get (slice_set places number moved) n ≡ Some moved) same (get_set_same places number place moved there),
    subst (λ (n : ℕ). PlaceFits n script entries moved) same (own script (subst (λ (n : ℕ). slice_get scripts n ≡ Some script) (sym same) script_is)),
  )
  | inr differs ↦ (let old : (x : Place) × (slice_get places other ≡ Some x) × PlaceFits other script entries x = kept other script script_is in
      (old.0, get_set_other places number other moved differs ∙ old.1, old.2))
]

-- after a step of an actor
pub sound_own : (scripts : List (List Command)) (places : List Place) (log longer : Log) (e : Event) (at number : ℕ) (place moved : Place) → Sound scripts places log → IsDue scripts log e → (wrote : Wrote e log longer at)
    → length log.journal.entries < history_limit → slice_get places number ≡ Some place → moved.actor.start ≡ place.actor.start
    → ((script : List Command) → slice_get scripts number ≡ Some script → PlaceFits number script (log.journal.entries ++ wrote.entry ∷ []) moved)
    → ((other : ℕ) → (number ≡ other → ⊥) → IsNotBy other e) → Sound scripts (slice_set places number moved) longer
sound_own scripts places log longer e at number place moved sound due wrote room there same_start own apart =
    let is : wrote.entry.event ≡ e = event_by log longer e at wrote in
    let kept : PlacesFit scripts (slice_set places number moved) (log.journal.entries ++ wrote.entry ∷ []) =
    kept_own scripts places log.journal.entries wrote.entry number place moved sound.kept there own
    (λ other differs. subst (λ (f : Event). IsNotBy other f) (sym is) (apart other differs)) in
    rest_of_sound scripts places (slice_set places number moved) log longer e at sound due wrote room (length_set places number moved)
    (subst (λ (es : List Entry). PlacesFit scripts (slice_set places number moved) es) (sym wrote.entries_are) kept)
    (all_ran_set places log.origin.state log.journal.entries number place moved sound.ran there
    (subst (λ n. HasRun log.origin.state log.journal.entries number n) (sym same_start) (sound.ran number place there)))

-- after a step of none
pub sound_free : (scripts : List (List Command)) (places : List Place) (log longer : Log) (e : Event) (at : ℕ) → Sound scripts places log → IsDue scripts log e → Wrote e log longer at
    → length log.journal.entries < history_limit → ((other : ℕ) → IsNotBy other e) → Sound scripts places longer
sound_free scripts places log longer e at sound due wrote room apart =
    let is : wrote.entry.event ≡ e = event_by log longer e at wrote in
    let kept : PlacesFit scripts places (log.journal.entries ++ wrote.entry ∷ []) = λ other script script_is.
    (let old : (x : Place) × (slice_get places other ≡ Some x) × PlaceFits other script log.journal.entries x = sound.kept other script script_is in
    (old.0, old.1, fits_other other script log.journal.entries wrote.entry old.0 (subst (λ (f : Event). IsNotBy other f) (sym is) (apart other)) old.2)) in
    rest_of_sound scripts places places log longer e at sound due wrote room refl (subst (λ (es : List Entry). PlacesFit scripts places es) (sym wrote.entries_are) kept) sound.ran

-- where nothing was written
pub sound_same : (scripts : List (List Command)) (places : List Place) (log same : Log) → Sound scripts places log → IsSameLog log same → Sound scripts places same
sound_same scripts places log same sound is =
    let state : state_of same ≡ state_of log = ap (λ (s : State). state_after s same.journal.entries) (ap (λ o. o.state) is.0) ∙ ap (λ (es : List Entry). state_after log.origin.state es) is.1 in
    record {
      kept = subst (λ (es : List Entry). PlacesFit scripts places es) (sym is.1) sound.kept;
      ran = subst (λ (s : State). AllRan places s same.journal.entries) (sym (ap (λ o. o.state) is.0)) (subst (λ (es : List Entry). AllRan places log.origin.state es) (sym is.1) sound.ran);
      of_scene = of_same scripts log same sound.of_scene is;
      many = sound.many;
      actors = ap (λ (s : State). length (statuses s)) state ∙ sound.actors;
      few = sound.few;
      fresh = ap (λ o. o.made) is.0 ∙ sound.fresh;
      short = subst (λ (es : List Entry). length es ≤ history_limit) (sym is.1) sound.short;
    }

-- the answer at the place of the last entry is that entry's

pub get_last : (entries : List Entry) (entry : Entry) → slice_get (entries ++ entry ∷ []) (length entries) ≡ Some entry
get_last [] entry = refl
get_last (first ∷ entries) entry = get_last entries entry

pub answer_there : (log longer : Log) (e : Event) (at : ℕ) (wrote : Wrote e log longer at) (answer : Answer)
    → Some answer ≡ option_map (λ entry. entry.answer) (slice_get longer.journal.entries at) → answer ≡ wrote.entry.answer
answer_there log longer e at wrote answer told =
    let there : slice_get longer.journal.entries at ≡ Some wrote.entry =
    (ap (λ (es : List Entry). slice_get es at) wrote.entries_are ∙ ap (λ (k : ℕ). slice_get (log.journal.entries ++ wrote.entry ∷ []) k) wrote.place_is)
    ∙ get_last log.journal.entries wrote.entry in
    let both : Some answer ≡ Some wrote.entry.answer = told ∙ ap (λ (o : Option Entry). option_map (λ entry. entry.answer) o) there in
    cc both
