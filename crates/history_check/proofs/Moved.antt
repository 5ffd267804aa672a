-- What the actors' steps make of their places.
use Rattle.std.proofs.Common.{◌≡◌, ◌<◌, ◌≤◌, ℕ, false, List, [], ◌∷◌, ◌++◌, length, Option, Some, None, Result, Ok, Err, refl, sym, ap, ◌∙◌, subst, arith, get_or, append-nil, inl, inr}
use Rattle.std.specs.Prelude.{slice_get, slice_set, IfOk}
use Rattle.std.specs.Vec.{with_item}
use Rattle.std.proofs.lemmas.Bool.{cases_lt}
use Rattle.std.proofs.lemmas.Option.{slice_get-get_or, slice_get_within}
use Rattle.kernel_values.specs.declared.call.Call.{Call}
use Rattle.kernel_values.specs.declared.entry.ActorStatus.TheVariants as status
use Rattle.kernel_values.specs.declared.entry.Entry.{Entry}
use Rattle.kernel_values.specs.declared.entry.Event.{Event}
use Rattle.kernel_values.specs.declared.entry.Event.TheVariants as event
use Rattle.kernel_values.specs.declared.scene.Turn.{Turn}
use Rattle.kernel_values.specs.declared.scene.Turn.TheVariants as turn
use Rattle.kernel_values.specs.declared.script.Command.{Command}
use Rattle.kernel_values.specs.declared.state.State.{State}
use Rattle.kernel_types.specs.Facts.{status_at}
use Rattle.kernel_types.specs.History.{entry_of, next_state, state_after, step_entry}
use Rattle.kernel_types.specs.Kernel.{Did}
use Rattle.kernel_types.specs.Opening.{opening}
use Rattle.kernel_types.specs.Scripts.{next_call}
use Rattle.kernel_types.specs.Step.{step}
use Rattle.std.specs.Option.{option_map as map_option}
use Rattle.script_actor.specs.Actors.{acting}
use Rattle.runners.specs.declared.place.Place.{Place}
use Rattle.runners.specs.Places.{AllRan, HasRun, PlaceFits, PlacesFit, after_answer}
use Rattle.runners.proofs.Fitting.{IsNotBy, fits_anew}
use Rattle.runners.proofs.Meeting.{IsInStep, runs_at, waits_at}
use Rattle.runners.proofs.Stepping.{all_ran_set, get_set_same, kept_one, length_set, ran_more, device_not_by, idle_not_by}
use Rattle.runners.proofs.Turning.{same_start}
use Rattle.history_check.specs.declared.actors.Actors.{Actors}
use Rattle.history_check.specs.Matching.{CanCome, Came, IsCaughtUp, IsEventOf, Matches, NoneCan, Renewed}
use Rattle.history_check.specs.Steps.{Stepped, SteppedBy}
use Rattle.history_check.proofs.Coming.{call_kept, call_only, call_refused, device_event, end_kept, end_only, end_refused, free_kept, free_only, find_script, free_refused, idle_event, no_call, place_of}

pub there_is : (places : List Place) (number : ℕ) (place : Place) → number < length places → place ≡ get_or places number place → slice_get places number ≡ Some place
there_is places number place below is = slice_get-get_or places number place below ∙ ap (λ p. Some p) (sym is)

-- an event that has no step has no entry
no_entry : (s : State) (e : Event) → step s e ≡ None → step_entry s e ≡ None
no_entry s e none = ap (λ o. map_option (entry_of e) o) none

event_of : (e : Event) (s t : State) (made remade : ℕ) (entry : Entry) → Did e s t made remade entry → step_entry s entry.event ≡ Some entry
event_of e s t made remade entry did = ap (λ f. step_entry s f) did.event_is ∙ did.entry_is

-- A new start.

-- the other places stay
ran_renewed : (places : List Place) (first : State) (entries : List Entry) (number start : ℕ) (place fresh : Place) → slice_get places number ≡ Some place
    → fresh.actor.start ≡ start → status_at (state_after first entries) number ≡ Some (status.Running start) → AllRan places first entries
    → AllRan (slice_set places number fresh) first entries
ran_renewed places first entries number start place fresh there start_is runs ran =
    all_ran_set places first entries number place fresh ran there
    (inr (entries, [], sym (append-nil entries), runs ∙ ap (λ n. Some (status.Running n)) (sym start_is)))

caught_up_anew : (places : List Place) (number start : ℕ) (place fresh other : Place) → slice_get places number ≡ Some place → fresh.actor.start ≡ start
    → slice_get (slice_set places number fresh) number ≡ Some other → start ≤ other.actor.start
caught_up_anew places number start place fresh other there start_is other_is =
    let set : slice_get (slice_set places number fresh) number ≡ Some fresh = get_set_same places number place fresh there in
    let same : fresh ≡ other = cc in
    omega (arith, start_is, ap (λ (p : Place). p.actor.start) same)

pub renewed : (old : Actors) (number start : ℕ) (script : List Command) (place fresh : Place) → length old.places.items ≡ length old.scripts → slice_get old.scripts number ≡ Some script
    → place ≡ get_or old.places.items number place → place.actor.start < start → fresh ≡ record { actor = acting script start; waits = false }
    → Renewed number start old (record { names = old.names; scripts = old.scripts; places = with_item old.places number fresh })
renewed old number start script place fresh many script_is place_is later is =
    let there : slice_get old.places.items number ≡ Some place = there_is old.places.items number place (omega (arith, many, slice_get_within old.scripts number script script_is)) place_is in
    record {
      same = record { names = refl; scripts = refl; many = length_set old.places.items number fresh };
      kept = λ entries kept. kept_one old.scripts old.places.items entries number place fresh kept there
          (λ own own_is. (let same : own ≡ script = (let both : Some own ≡ Some script = sym own_is ∙ script_is in cc) in
          subst (λ s. PlaceFits number s entries fresh) (sym same) (subst (λ p. PlaceFits number script entries p) (sym is)
          (fits_anew number start script entries place (place_of old.scripts old.places.items entries number script place kept script_is there) later))));
      ran = λ first entries runs ran. ran_renewed old.places.items first entries number start place fresh there (ap (λ (p : Place). p.actor.start) is) runs ran;
      caught_up = λ other other_is. caught_up_anew old.places.items number start place fresh other there (ap (λ (p : Place). p.actor.start) is) other_is;
    }

pub renewed_none : (old : Actors) (number start : ℕ) → IsCaughtUp old number start → Renewed number start old old
renewed_none old number start caught_up = record {
  same = record { names = refl; scripts = refl; many = refl };
  kept = λ entries kept. kept;
  ran = λ first entries runs ran. ran;
  caught_up = caught_up;
}

-- the place that was looked at
pub caught_up_there : (old : Actors) (number start : ℕ) (place : Place) → length old.places.items ≡ length old.scripts → number < length old.scripts
    → place ≡ get_or old.places.items number place → (place.actor.start < start → ⊥) → IsCaughtUp old number start
caught_up_there old number start place many within place_is late other other_is =
    let there : slice_get old.places.items number ≡ Some place = there_is old.places.items number place (omega (arith, many, within)) place_is in
    let same : place ≡ other = cc in
    elim (cases_lt other.actor.start start) [
      | inl before ↦ absurd (late (subst (λ (p : Place). p.actor.start < start) (sym same) before))
      | inr past ↦ past
    ]

-- the actors after a renewal stand where the old ones do
pub renewed_fits : (old mid : Actors) (s : State) (number start : ℕ) → Renewed number start old mid → status_at s number ≡ Some (status.Running start) → Matches old s → Matches mid s
renewed_fits old mid s number start again runs fit = record {
  stands = record {
    scene = fit.stands.scene;
    entries = fit.stands.entries;
    legal = fit.stands.legal;
    state_is = fit.stands.state_is;
    kept = subst (λ cs. PlacesFit cs mid.places.items fit.stands.entries) (sym again.same.scripts) (again.kept fit.stands.entries fit.stands.kept);
    ran = again.ran (opening fit.stands.scene) fit.stands.entries (ap (λ t. status_at t number) (sym fit.stands.state_is) ∙ runs) fit.stands.ran;
  };
  names = ap length again.same.names ∙ fit.names;
  scripts = ap length again.same.scripts ∙ fit.scripts;
  places = again.same.many ∙ fit.places;
  few = omega (arith, ap length again.same.names, fit.few);
}

pub after_renewal : (turn : Turn) (old mid new : Actors) (s t : State) (made remade : ℕ) (r : Option Entry) (number start : ℕ) → status_at s number ≡ Some (status.Running start)
    → Renewed number start old mid → Came turn mid new s t made remade r → Came turn old new s t made remade r
after_renewal turn old mid new s t made remade None number start runs again none = λ entries kept other can.
    none entries (subst (λ cs. PlacesFit cs mid.places.items entries) (sym again.same.scripts) (again.kept entries kept)) other (subst (λ cs. CanCome cs s entries turn other) (sym again.same.scripts) can)
after_renewal turn old mid new s t made remade (Some entry) number start runs again took = record {
  same = record {
    names = took.same.names ∙ again.same.names;
    scripts = took.same.scripts ∙ again.same.scripts;
    many = took.same.many ∙ again.same.many;
  };
  step_is = took.step_is;
  state_is = took.state_is;
  made_is = took.made_is;
  kept = λ entries kept. subst (λ cs. PlacesFit cs new.places.items (entries ++ entry ∷ [])) again.same.scripts
      (took.kept entries (subst (λ cs. PlacesFit cs mid.places.items entries) (sym again.same.scripts) (again.kept entries kept)));
  ran = λ first entries is ran. took.ran first entries is (again.ran first entries (ap (λ u. status_at u number) (sym is) ∙ runs) ran);
  only = λ entries kept other can. took.only entries (subst (λ cs. PlacesFit cs mid.places.items entries) (sym again.same.scripts) (again.kept entries kept)) other
      (subst (λ cs. CanCome cs s entries turn other) (sym again.same.scripts) can);
}

pub renewal_ok : {E : Type 0} (turn : Turn) (old mid new : Actors) (s t : State) (made remade : ℕ) (r : Result (Option Entry) E) (number start : ℕ)
    → status_at s number ≡ Some (status.Running start) → Renewed number start old mid → IfOk r (Came turn mid new s t made remade)
    → IfOk r (Came turn old new s t made remade)
renewal_ok turn old mid new s t made remade (Ok came) number start runs again p = after_renewal turn old mid new s t made remade came number start runs again p
renewal_ok turn old mid new s t made remade (Err e) number start runs again p = tt

-- An actor's step.

module _ (old : Actors) (s : State) (number start : ℕ) (place : Place) (fit : Matches old s) (within : number < length old.names) (place_is : place ≡ get_or old.places.items number place) where
  below : number < length old.scripts
  below = omega (arith, fit.names, fit.scripts, within)

  there : slice_get old.places.items number ≡ Some place
  there = there_is old.places.items number place (omega (arith, fit.names, fit.places, within)) place_is

  -- the place keeps step with the actor's status

  own : (script : List Command) × (slice_get old.scripts number ≡ Some script)
  own = find_script old.scripts number below

  in_step_running : status_at s number ≡ Some (status.Running start) → IsCaughtUp old number start → IsInStep place start (status.Running start)
  in_step_running status_is caught_up =
      runs_at fit.stands.scene old.scripts old.places.items fit.stands.entries number own.0 place fit.stands.legal fit.stands.kept fit.stands.ran own.1 there start
      (ap (λ t. status_at t number) (sym fit.stands.state_is) ∙ status_is) (caught_up place there)

  in_step_waiting : status_at s number ≡ Some (status.Waiting start) → IsInStep place start (status.Waiting start)
  in_step_waiting status_is =
      waits_at fit.stands.scene old.scripts old.places.items fit.stands.entries number own.0 place fit.stands.legal fit.stands.kept fit.stands.ran own.1 there start
      (ap (λ t. status_at t number) (sym fit.stands.state_is) ∙ status_is)

  -- its start stays
  ran_moved : (entry : Entry) (after : Place) → after ≡ after_answer place entry.answer → (first : State) (entries : List Entry) → AllRan old.places.items first entries
      → AllRan (slice_set old.places.items number after) first (entries ++ entry ∷ [])
  ran_moved entry after after_is first entries ran =
      ran_more (slice_set old.places.items number after) first entries entry
      (all_ran_set old.places.items first entries number place after ran there
      (subst (λ n. HasRun first entries number n) (sym (ap (λ (p : Place). p.actor.start) after_is ∙ same_start place entry.answer)) (ran number place there)))

  abbrev moved : Place → Actors
  moved p = record { names = old.names; scripts = old.scripts; places = with_item old.places number p }

  pub begin_none : status_at s number ≡ Some (status.Running start) → IsCaughtUp old number start → next_call place.actor.script place.actor.stand ≡ None → NoneCan (turn.Actor number) old s
  begin_none status_is caught_up none =
      let step : IsInStep place start (status.Running start) = in_step_running status_is caught_up in
      no_call old.scripts old.places.items s number start place below there step.waits_is step.start_is status_is none

  pub begin_came : status_at s number ≡ Some (status.Running start) → IsCaughtUp old number start → (asked : Call) → next_call place.actor.script place.actor.stand ≡ Some asked
      → (t : State) (made remade : ℕ) (after : Place) (r : Option Entry) → SteppedBy (event.Begin (record { 0 = number }) start asked) s t made remade place after r
      → Came (turn.Actor number) old (moved after) s t made remade r
  begin_came status_is caught_up asked next t made remade after None none =
      let step : IsInStep place start (status.Running start) = in_step_running status_is caught_up in
      call_refused old.scripts old.places.items s number start place below there step.waits_is step.start_is status_is asked next (no_entry s _ none)
  begin_came status_is caught_up asked next t made remade after (Some entry) (did, after_is) =
      let step : IsInStep place start (status.Running start) = in_step_running status_is caught_up in record {
        same = record { names = refl; scripts = refl; many = length_set old.places.items number after };
        step_is = event_of _ s t made remade entry did;
        state_is = did.state_is ∙ ap (λ f. next_state s f) (sym did.event_is);
        made_is = did.made_is;
        kept = λ entries kept. subst (λ p. PlacesFit old.scripts (slice_set old.places.items number p) (entries ++ entry ∷ [])) (sym after_is)
            (call_kept old.scripts old.places.items s number start place below there step.waits_is step.start_is status_is asked next entry did.event_is entries kept);
        ran = λ first entries is ran. ran_moved entry after after_is first entries ran;
        only = call_only old.scripts old.places.items s number start place below there step.waits_is step.start_is status_is asked next entry did.event_is (event_of _ s t made remade entry did);
      }

  pub resume_came : status_at s number ≡ Some (status.Waiting start)
      → (t : State) (made remade : ℕ) (after : Place) (r : Option Entry) → SteppedBy (event.Resume (record { 0 = number }) start) s t made remade place after r
      → Came (turn.Actor number) old (moved after) s t made remade r
  resume_came status_is t made remade after None none =
      let step : IsInStep place start (status.Waiting start) = in_step_waiting status_is in
      end_refused old.scripts old.places.items s number start place below there step.waits_is step.start_is status_is (no_entry s _ none)
  resume_came status_is t made remade after (Some entry) (did, after_is) =
      let step : IsInStep place start (status.Waiting start) = in_step_waiting status_is in record {
        same = record { names = refl; scripts = refl; many = length_set old.places.items number after };
        step_is = event_of _ s t made remade entry did;
        state_is = did.state_is ∙ ap (λ f. next_state s f) (sym did.event_is);
        made_is = did.made_is;
        kept = λ entries kept. subst (λ p. PlacesFit old.scripts (slice_set old.places.items number p) (entries ++ entry ∷ [])) (sym after_is)
            (end_kept old.scripts old.places.items s number start place below there step.waits_is step.start_is status_is entry did.event_is entries kept);
        ran = λ first entries is ran. ran_moved entry after after_is first entries ran;
        only = end_only old.scripts old.places.items s number start place below there step.waits_is step.start_is status_is entry did.event_is (event_of _ s t made remade entry did);
      }

  pub begin_ok : {E : Type 0} → status_at s number ≡ Some (status.Running start) → IsCaughtUp old number start → (asked : Call) → next_call place.actor.script place.actor.stand ≡ Some asked
      → (t : State) (made remade : ℕ) (after : Place) (r : Result (Option Entry) E) → IfOk r (SteppedBy (event.Begin (record { 0 = number }) start asked) s t made remade place after)
      → IfOk r (Came (turn.Actor number) old (moved after) s t made remade)
  begin_ok status_is caught_up asked next t made remade after (Ok came) p = begin_came status_is caught_up asked next t made remade after came p
  begin_ok status_is caught_up asked next t made remade after (Err e) p = tt

  pub resume_ok : {E : Type 0} → status_at s number ≡ Some (status.Waiting start)
      → (t : State) (made remade : ℕ) (after : Place) (r : Result (Option Entry) E) → IfOk r (SteppedBy (event.Resume (record { 0 = number }) start) s t made remade place after)
      → IfOk r (Came (turn.Actor number) old (moved after) s t made remade)
  resume_ok status_is t made remade after (Ok came) p = resume_came status_is t made remade after came p
  resume_ok status_is t made remade after (Err e) p = tt

-- A step of the device, or of idle.

free_came : (taken : Turn) (e : Event) (old : Actors) (s t : State) (made remade : ℕ) (r : Option Entry) → ((f : Event) → IsEventOf taken f → f ≡ e) → ((number : ℕ) → IsNotBy number e)
    → Stepped e s t made remade r → Came taken old old s t made remade r
free_came taken e old s t made remade None one apart none = λ entries kept other can. free_refused old.scripts s entries taken e one (no_entry s e none) other can
free_came taken e old s t made remade (Some entry) one apart did = record {
  same = record { names = refl; scripts = refl; many = refl };
  step_is = event_of e s t made remade entry did;
  state_is = did.state_is ∙ ap (λ f. next_state s f) (sym did.event_is);
  made_is = did.made_is;
  ran = λ first entries is ran. ran_more old.places.items first entries entry ran;
  kept = λ entries kept. free_kept old.scripts old.places.items entries entry (λ number. subst (λ f. IsNotBy number f) (sym did.event_is) (apart number)) kept;
  only = λ entries kept other can. free_only old.scripts s entries taken e entry one did.event_is (event_of e s t made remade entry did) other can;
}

pub device_came : (old : Actors) (s t : State) (made remade : ℕ) (r : Option Entry) → Stepped event.Device s t made remade r → Came turn.Device old old s t made remade r
device_came old s t made remade r did = free_came turn.Device event.Device old s t made remade r device_event device_not_by did

pub idle_came : (old : Actors) (s t : State) (made remade : ℕ) (r : Option Entry) → Stepped event.Idle s t made remade r → Came turn.Idle old old s t made remade r
idle_came old s t made remade r did = free_came turn.Idle event.Idle old s t made remade r idle_event idle_not_by did

device_ok : {E : Type 0} (old : Actors) (s t : State) (made remade : ℕ) (r : Result (Option Entry) E) → IfOk r (Stepped event.Device s t made remade) → IfOk r (Came turn.Device old old s t made remade)
device_ok old s t made remade (Ok came) p = device_came old s t made remade came p
device_ok old s t made remade (Err e) p = tt

idle_ok : {E : Type 0} (old : Actors) (s t : State) (made remade : ℕ) (r : Result (Option Entry) E) → IfOk r (Stepped event.Idle s t made remade) → IfOk r (Came turn.Idle old old s t made remade)
idle_ok old s t made remade (Ok came) p = idle_came old s t made remade came p
idle_ok old s t made remade (Err e) p = tt

-- by the turn that is taken

pub device_as : {E : Type 0} (taken : Turn) → taken ≡ turn.Device → (old : Actors) (s t : State) (made remade : ℕ) (r : Result (Option Entry) E) → IfOk r (Stepped event.Device s t made remade) → IfOk r (Came taken old old s t made remade)
device_as taken is old s t made remade r p = subst (λ u. IfOk r (Came u old old s t made remade)) (sym is) (device_ok old s t made remade r p)

pub idle_as : {E : Type 0} (taken : Turn) → taken ≡ turn.Idle → (old : Actors) (s t : State) (made remade : ℕ) (r : Result (Option Entry) E) → IfOk r (Stepped event.Idle s t made remade) → IfOk r (Came taken old old s t made remade)
idle_as taken is old s t made remade r p = subst (λ u. IfOk r (Came u old old s t made remade)) (sym is) (idle_ok old s t made remade r p)
