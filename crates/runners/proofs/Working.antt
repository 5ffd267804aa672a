-- What a worker's turn makes of its pass.
use Rattle.std.proofs.Common.{◌≡◌, ◌≤◌, ℕ, zero, suc, true, false, List, [], ◌∷◌, ◌++◌, length, Some, refl, ap, sym, ◌∙◌, subst, append_assoc, append-nil, arith}
use Rattle.std.specs.Prelude.{slice_get}
use Rattle.std.proofs.lemmas.List.Elements.{All-nil, All-cons, All-append, All-weaker}
use mathlib.Core.List.{IsPrefix}
use Rattle.kernel_values.specs.Origin.{Origin}
use Rattle.kernel_values.specs.declared.entry.Entry.{Entry}
use Rattle.kernel_values.specs.declared.state.State.{State}
use Rattle.kernel_types.specs.Facts.{is_at_end}
use Rattle.kernel_types.specs.History.{Legal, state_after}
use Rattle.kernel_types.specs.Turns.{history_limit}
use Rattle.kernel_types.specs.Whole.{FollowsScripts, IsWhole}
use Rattle.kernel_log.specs.Logs.{Log, state_of}
use Rattle.turnstile.specs.declared.view.View.{View}
use Rattle.turnstile.specs.Views.{entered, waited, left, added}
use Rattle.turnstile.proofs.Begins.{begins_on}
use Rattle.runners.specs.declared.rounds.Round.{Round}
use Rattle.runners.specs.declared.rounds.Round.TheVariants as round
use Rattle.runners.specs.Runs.{ScriptedRun, state_told, IsRun, IsRunToEnd, IsRunToLimit}
use Rattle.runners.specs.Places.{answers_to}
use Rattle.runners.specs.Workers.{AddsOwn, AsksBy, Served, IsOwnAt, GrewByOwn, WentOn, EndsBy, is_step}

-- entries of a longer history

get_longer : (xs rest : List Entry) (k : ℕ) (e : Entry) → slice_get xs k ≡ Some e → slice_get (xs ++ rest) k ≡ Some e
get_longer [] rest k e is = absurd (cc)
get_longer (x ∷ xs) rest zero e is = is
get_longer (x ∷ xs) rest (suc k) e is = get_longer xs rest k e is

get_last : (xs : List Entry) (e : Entry) → slice_get (xs ++ e ∷ []) (length xs) ≡ Some e
get_last [] e = refl
get_last (x ∷ xs) e = get_last xs e

own_longer : (actor : ℕ) (seen longer : List Entry) (place : ℕ) → IsPrefix seen longer → IsOwnAt actor seen place → IsOwnAt actor longer place
own_longer actor seen longer place begins own =
    (own.0, subst (λ (es : List Entry). slice_get es place ≡ Some own.0) begins.1 (get_longer seen begins.0 place own.0 own.1), own.2)

-- what one history has, a view that saw it has

record Saw (w : View) (told : ScriptedRun) : Type 0 where
  seen : w.seen ≡ told.history
  origin : w.origin ≡ told.origin

-- what a run that is shared keeps
pub record IsSoFar (told : ScriptedRun) : Type 0 where
  pub legal : Legal told.origin.state told.history
  pub follows : FollowsScripts told.origin.scripts told.history
  pub short : length told.history ≤ history_limit

went : (actor : ℕ) (v w : View) (told : ScriptedRun) → Saw w told → IsSoFar told → w.number ≡ v.number → IsPrefix v.seen told.history → GrewByOwn actor v w → WentOn actor v w
went actor v w told saw keeps number begins grew = record {
  number_is = number;
  seen = subst (λ (es : List Entry). IsPrefix v.seen es) (sym saw.seen) begins;
  legal = subst (λ (es : List Entry). Legal w.origin.state es) (sym saw.seen) (subst (λ (o : Origin). Legal o.state told.history) (sym saw.origin) keeps.legal);
  follows = subst (λ (es : List Entry). FollowsScripts w.origin.scripts es) (sym saw.seen) (subst (λ (o : Origin). FollowsScripts o.scripts told.history) (sym saw.origin) keeps.follows);
  short = subst (λ (es : List Entry). length es ≤ history_limit) (sym saw.seen) keeps.short;
  grew = grew;
}

-- the value was given back as it was

saw_same : (v u w : View) (tries last : ℕ) (told next : ScriptedRun) → u ≡ entered (waited v tries last) told.history → w ≡ left u → v.origin ≡ told.origin
    → next.history ≡ told.history → next.origin ≡ told.origin → Saw w next
saw_same v u w tries last told next in_is out_is from stays origin = record {
  seen = ap (λ (x : View). x.seen) out_is ∙ (ap (λ (x : View). x.seen) in_is ∙ sym stays);
  origin = ap (λ (x : View). x.origin) out_is ∙ (ap (λ (x : View). x.origin) in_is ∙ (from ∙ sym origin));
}

pub went_same : (actor : ℕ) (v u w : View) (tries last : ℕ) (told next : ScriptedRun) → u ≡ entered (waited v tries last) told.history → w ≡ left u → v.origin ≡ told.origin
    → IsPrefix v.seen told.history → next.history ≡ told.history → next.origin ≡ told.origin → IsSoFar next → WentOn actor v w
went_same actor v u w tries last told next in_is out_is from begins stays origin keeps =
    went actor v w next (saw_same v u w tries last told next in_is out_is from stays origin) keeps
    (ap (λ (x : View). x.number) out_is ∙ ap (λ (x : View). x.number) in_is)
    (subst (λ (es : List Entry). IsPrefix v.seen es) (sym stays) begins)
    (record {
      places = [];
      mine_is = ap (λ (x : View). x.mine) out_is ∙ (ap (λ (x : View). x.mine) in_is ∙ sym (append-nil v.mine));
      own = All-nil (IsOwnAt actor w.seen);
    })

at_end : (w : View) (told : ScriptedRun) → Saw w told → is_at_end (state_after w.origin.state w.seen) ≡ is_at_end (state_told told)
at_end w told saw =
    ap (λ (es : List Entry). is_at_end (state_after w.origin.state es)) saw.seen ∙ ap (λ (o : Origin). is_at_end (state_after o.state told.history)) saw.origin

ends_by : (actor : ℕ) (r : Round) (w : View) (told next : ScriptedRun) → Saw w told → FollowsScripts w.origin.scripts w.seen → Served actor told next r → EndsBy w r
ends_by actor round.Whole w told next saw follows served = record { follows = follows; ended = at_end w told saw ∙ served.1 }
ends_by actor round.TooLong w told next saw follows served =
    (ap (λ (es : List Entry). length es) saw.seen ∙ served.1, λ (whole : IsWhole w.origin.state w.origin.scripts w.seen). absurd (cc (whole.ended, at_end w told saw, served.2)))
ends_by actor round.Stepped w told next saw follows served = tt
ends_by actor (round.Asks start answered) w told next saw follows served = tt
ends_by actor round.Sleeps w told next saw follows served = tt
ends_by actor round.NoMemory w told next saw follows served = tt

pub ends_same : (actor : ℕ) (r : Round) (v u w : View) (tries last : ℕ) (told next : ScriptedRun) → u ≡ entered (waited v tries last) told.history → w ≡ left u → v.origin ≡ told.origin
    → next.history ≡ told.history → next.origin ≡ told.origin → FollowsScripts w.origin.scripts w.seen → Served actor told next r → EndsBy w r
ends_same actor r v u w tries last told next in_is out_is from stays origin follows served =
    ends_by actor r w told next (saw_same v u w tries last told told in_is out_is from refl refl) follows served

-- the value was given back with one entry more, which is the actor's own

pub went_more : (actor : ℕ) (v u w : View) (tries last : ℕ) (told next : ScriptedRun) → u ≡ entered (waited v tries last) told.history → w ≡ left (added u next.history) → v.origin ≡ told.origin
    → IsPrefix v.seen told.history → AddsOwn actor told.history next.history → next.origin ≡ told.origin → IsSoFar next → WentOn actor v w
went_more actor v u w tries last told next in_is out_is from begins adds origin keeps =
    let seen : w.seen ≡ next.history = ap (λ (x : View). x.seen) out_is in
    let place : length u.seen ≡ length told.history = ap (λ (x : View). length x.seen) in_is in
    let there : IsOwnAt actor w.seen (length told.history) = (
      adds.entry,
      ap (λ (es : List Entry). slice_get es (length told.history)) (seen ∙ adds.longer_is) ∙ get_last told.history adds.entry,
      adds.own,
    ) in
    went actor v w next
    (record { seen = seen; origin = ap (λ (x : View). x.origin) out_is ∙ (ap (λ (x : View). x.origin) in_is ∙ (from ∙ sym origin)) }) keeps
    (ap (λ (x : View). x.number) out_is ∙ ap (λ (x : View). x.number) in_is)
    (begins_on v.seen told.history next.history begins (adds.entry ∷ [], sym adds.longer_is))
    (record {
      places = length told.history ∷ [];
      mine_is = ap (λ (x : View). x.mine) out_is ∙ (ap (λ (n : ℕ). u.mine ++ n ∷ []) place ∙ ap (λ (x : View). x.mine ++ length told.history ∷ []) in_is);
      own = All-cons (IsOwnAt actor w.seen) (length told.history) [] there (All-nil (IsOwnAt actor w.seen));
    })

-- whether a step was made

pub step_adds_own : (actor : ℕ) (r : Round) (told next : ScriptedRun) → is_step r ≡ true → Served actor told next r → AddsOwn actor told.history next.history
step_adds_own actor round.Stepped told next is served = served
step_adds_own actor round.Whole told next is served = absurd (cc)
step_adds_own actor round.TooLong told next is served = absurd (cc)
step_adds_own actor (round.Asks start answered) told next is served = absurd (cc)
step_adds_own actor round.Sleeps told next is served = absurd (cc)
step_adds_own actor round.NoMemory told next is served = absurd (cc)

pub no_step_stays : (actor : ℕ) (r : Round) (told next : ScriptedRun) → is_step r ≡ false → Served actor told next r → next.history ≡ told.history
no_step_stays actor round.Stepped told next is served = absurd (cc)
no_step_stays actor round.Whole told next is served = served.0
no_step_stays actor round.TooLong told next is served = served.0
no_step_stays actor (round.Asks start answered) told next is served = served.0
no_step_stays actor round.Sleeps told next is served = served.0
no_step_stays actor round.NoMemory told next is served = served

pub step_ends_nothing : (r : Round) (w : View) → is_step r ≡ true → EndsBy w r
step_ends_nothing round.Stepped w is = tt
step_ends_nothing round.Whole w is = absurd (cc)
step_ends_nothing round.TooLong w is = absurd (cc)
step_ends_nothing (round.Asks start answered) w is = tt
step_ends_nothing round.Sleeps w is = tt
step_ends_nothing round.NoMemory w is = tt

pub step_asks_nothing : (actor : ℕ) (r : Round) (w : View) → is_step r ≡ true → AsksBy actor w r
step_asks_nothing actor round.Stepped w is = tt
step_asks_nothing actor round.Whole w is = tt
step_asks_nothing actor round.TooLong w is = tt
step_asks_nothing actor (round.Asks start answered) w is = absurd (cc)
step_asks_nothing actor round.Sleeps w is = tt
step_asks_nothing actor round.NoMemory w is = tt

-- the number that is told is that of what the holder has seen

asks_by : (actor : ℕ) (r : Round) (w : View) (told next : ScriptedRun) → w.seen ≡ told.history → Served actor told next r → AsksBy actor w r
asks_by actor (round.Asks start answered) w told next seen served = served.2 ∙ ap (λ (es : List Entry). answers_to actor es) (sym seen)
asks_by actor round.Stepped w told next seen served = tt
asks_by actor round.Whole w told next seen served = tt
asks_by actor round.TooLong w told next seen served = tt
asks_by actor round.Sleeps w told next seen served = tt
asks_by actor round.NoMemory w told next seen served = tt

pub asks_same : (actor : ℕ) (r : Round) (v u w : View) (tries last : ℕ) (told next : ScriptedRun) → u ≡ entered (waited v tries last) told.history → w ≡ left u
    → Served actor told next r → AsksBy actor w r
asks_same actor r v u w tries last told next in_is out_is served =
    asks_by actor r w told next (ap (λ (x : View). x.seen) out_is ∙ ap (λ (x : View). x.seen) in_is) served

-- one turn after another

went_further : (actor : ℕ) (u v w : View) → WentOn actor u v → WentOn actor v w → WentOn actor u w
went_further actor u v w one more = record {
  number_is = more.number_is ∙ one.number_is;
  seen = begins_on u.seen v.seen w.seen one.seen more.seen;
  legal = more.legal;
  follows = more.follows;
  short = more.short;
  grew = record {
    places = one.grew.places ++ more.grew.places;
    mine_is = more.grew.mine_is ∙ (ap (λ (places : List ℕ). places ++ more.grew.places) one.grew.mine_is ∙ append_assoc u.mine one.grew.places more.grew.places);
    own = All-append (IsOwnAt actor w.seen) one.grew.places more.grew.places
        (All-weaker (IsOwnAt actor v.seen) (IsOwnAt actor w.seen) (λ place own. own_longer actor v.seen w.seen place more.seen own) one.grew.places one.grew.own) more.grew.own;
  };
}

pub went_on : (actor other : ℕ) (u v w : View) → other ≡ actor → WentOn actor u v → WentOn other v w → WentOn actor u w
went_on actor other u v w same one more = went_further actor u v w one (subst (λ (n : ℕ). WentOn n v w) same more)

-- what the workers have left

run_is : (told : ScriptedRun) (log : Log) → log.origin.state ≡ told.origin.state → log.journal.entries ≡ told.history → IsSoFar told → IsRun told.origin log
run_is told log state entries keeps = record {
  state_is = state;
  legal = subst (λ (es : List Entry). Legal told.origin.state es) (sym entries) keeps.legal;
  follows = subst (λ (es : List Entry). FollowsScripts told.origin.scripts es) (sym entries) keeps.follows;
}

state_is : (told : ScriptedRun) (log : Log) → log.origin.state ≡ told.origin.state → log.journal.entries ≡ told.history → is_at_end (state_of log) ≡ is_at_end (state_told told)
state_is told log state entries =
    ap (λ (es : List Entry). is_at_end (state_after log.origin.state es)) entries ∙ ap (λ (s : State). is_at_end (state_after s told.history)) state

pub ran_to_end : (told : ScriptedRun) (log : Log) → log.origin.state ≡ told.origin.state → log.journal.entries ≡ told.history → IsSoFar told → is_at_end (state_told told) ≡ true
    → IsRunToEnd told.origin log
ran_to_end told log state entries keeps over =
    let run : IsRun told.origin log = run_is told log state entries keeps in
    record {
      run = run;
      whole = record { follows = run.follows; ended = ap (λ (es : List Entry). is_at_end (state_after told.origin.state es)) entries ∙ over };
    }

pub ran_to_limit : (told : ScriptedRun) (log : Log) → log.origin.state ≡ told.origin.state → log.journal.entries ≡ told.history → IsSoFar told → is_at_end (state_told told) ≡ false
    → history_limit ≤ length told.history → IsRunToLimit told.origin log
ran_to_limit told log state entries keeps goes_on full = record {
  run = run_is told log state entries keeps;
  full = omega (arith, ap (λ (es : List Entry). length es) entries, full, keeps.short);
  unfinished = state_is told log state entries ∙ goes_on;
}
