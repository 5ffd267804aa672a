-- Which entry can come of an actor's turn: the one that the actor's place tells, and no other.
use Rattle.std.proofs.Common.{◌≡◌, ◌<◌, ℕ, zero, suc, ◌+◌, Bool, true, false, List, [], ◌∷◌, ◌++◌, length, Option, Some, None, refl, sym, ap, ◌∙◌, subst, arith}
use Rattle.std.specs.Prelude.{slice_get, slice_set, ◌==◌}
use Rattle.std.specs.List.{filter_map}
use Rattle.std.proofs.lemmas.Bool.Decides.{nat_tests}
use Rattle.std.proofs.lemmas.List.Elements.{filter_map-append}
use mathlib.Core.List.{IsPrefix}
use Rattle.kernel_values.specs.declared.call.Call.{Call}
use Rattle.kernel_values.specs.declared.entry.ActorStatus.{ActorStatus}
use Rattle.kernel_values.specs.declared.entry.ActorStatus.TheVariants as status
use Rattle.kernel_values.specs.declared.entry.Entry.{Entry}
use Rattle.kernel_values.specs.declared.entry.Event.{Event}
use Rattle.kernel_values.specs.declared.entry.Event.TheVariants as event
use Rattle.kernel_values.specs.declared.reply.Answer.{Answer}
use Rattle.kernel_values.specs.declared.scene.Turn.{Turn}
use Rattle.kernel_values.specs.declared.scene.Turn.TheVariants as turn
use Rattle.kernel_values.specs.declared.script.Command.{Command}
use Rattle.kernel_values.specs.declared.state.State.{State}
use Rattle.kernel_types.specs.Facts.{status_at}
use Rattle.kernel_types.specs.History.{step_entry}
use Rattle.kernel_types.specs.Scripts.{Stand, next_call, answered, stand_on, script_begin, one_if, led_by, calls_from, calls_of}
use Rattle.kernel_types.specs.Step.{Stepped, step}
use Rattle.kernel_types.specs.Whole.{calls_in, answers_in, call_by, answer_by, is_by}
use Rattle.kernel_types.proofs.Actors.{begin_is_of_running, resume_is_of_waiting}
use Rattle.report_text.proofs.Lawful.{stepped}
use Rattle.runners.specs.declared.place.Place.{Place}
use Rattle.runners.specs.Places.{PlaceFits, PlacesFit, after_answer, pending}
use Rattle.runners.proofs.Fitting.{fits_begin, fits_resume, fits_other, IsNotBy}
use Rattle.runners.proofs.Stepping.{kept_own, begin_not_by, resume_not_by}
use Rattle.history_check.specs.Matching.{CanCome, IsEventOf}

-- The status of the actor of a lawful event.

pub begin_runs : (s : State) (actor start : ℕ) (asked : Call) (entry : Entry) → step_entry s (event.Begin (record { 0 = actor }) start asked) ≡ Some entry
    → status_at s actor ≡ Some (status.Running start)
unfolding step
begin_runs s actor start asked entry h = let found : (r : Stepped) × (step s (event.Begin (record { 0 = actor }) start asked) ≡ Some r) = stepped s (event.Begin (record { 0 = actor }) start asked) entry h in
    begin_is_of_running s actor start asked found.0 found.1

pub resume_waits : (s : State) (actor start : ℕ) (entry : Entry) → step_entry s (event.Resume (record { 0 = actor }) start) ≡ Some entry
    → status_at s actor ≡ Some (status.Waiting start)
unfolding step
resume_waits s actor start entry h = let found : (r : Stepped) × (step s (event.Resume (record { 0 = actor }) start) ≡ Some r) = stepped s (event.Resume (record { 0 = actor }) start) entry h in
    resume_is_of_waiting s actor start found.0 found.1

-- The call behind those that were answered is the script's next one.

first_is : (next : Option Call) (tail rest : List Call) (asked : Call) → IsPrefix (asked ∷ rest) (led_by next tail) → next ≡ Some asked
first_is None tail rest asked p = absurd (cc (p.1))
first_is (Some first) tail rest asked p = let same : first ≡ asked = cc (p.1) in ap (λ c. Some c) same

one_is : (next : Option Call) (rest : List Call) (asked : Call) → IsPrefix (asked ∷ rest) (one_if next) → next ≡ Some asked
one_is None rest asked p = absurd (cc (p.1))
one_is (Some first) rest asked p = let same : first ≡ asked = cc (p.1) in ap (λ c. Some c) same

rest_is : (next : Option Call) (tail calls : List Call) (one : Call) → IsPrefix (one ∷ calls) (led_by next tail) → IsPrefix calls tail
rest_is None tail calls one p = absurd (cc (p.1))
rest_is (Some first) tail calls one p = (p.0, cc (p.1))

next_from : (script : List Command) (stand : Stand) (answers more : List Answer) (calls rest : List Call) (asked : Call)
    → IsPrefix (calls ++ asked ∷ rest) (calls_from script stand (answers ++ more)) → length calls ≡ length answers → next_call script (stand_on script stand answers) ≡ Some asked
next_from script stand [] [] [] rest asked p same = one_is (next_call script stand) rest asked p
next_from script stand [] (given ∷ more) [] rest asked p same = first_is (next_call script stand) (calls_from script (answered script stand given) more) rest asked p
next_from script stand [] more (one ∷ calls) rest asked p same = absurd (omega arith)
next_from script stand (given ∷ answers) more [] rest asked p same = absurd (omega arith)
next_from script stand (given ∷ answers) more (one ∷ calls) rest asked p same =
    next_from script (answered script stand given) answers more calls rest asked (rest_is (next_call script stand) _ (calls ++ asked ∷ rest) one p) (omega arith)

next_of : (script : List Command) (answers more : List Answer) (calls rest : List Call) (asked : Call)
    → IsPrefix (calls ++ asked ∷ rest) (calls_of script (answers ++ more)) → length calls ≡ length answers → next_call script (stand_on script script_begin answers) ≡ Some asked
unfolding calls_of
next_of script answers more calls rest asked p same = next_from script script_begin answers more calls rest asked p same

self_is : (n : ℕ) → (n == n) ≡ true
self_is n = grind (arith, nat_tests)

own_by : (actor start : ℕ) → is_by actor start actor start ≡ true
own_by actor start = rw (self_is actor, self_is start) refl

calls_split : (number start : ℕ) (entries later : List Entry) (other : Entry) (asked : Call) → other.event ≡ event.Begin (record { 0 = number }) start asked
    → calls_in number start (entries ++ other ∷ later) ≡ calls_in number start entries ++ asked ∷ calls_in number start later
unfolding calls_in
calls_split number start entries later other asked is =
    filter_map-append (λ e. call_by number start e.event) entries (other ∷ later) ∙ ap (λ cs. filter_map (λ e. call_by number start e.event) entries ++ cs) (rw (is, own_by number start) refl)

answers_split : (number start : ℕ) (entries later : List Entry) → answers_in number start (entries ++ later) ≡ answers_in number start entries ++ answers_in number start later
unfolding answers_in
answers_split number start entries later = filter_map-append (answer_by number start) entries later

-- a call of an actor that has all answers
module _ (scripts : List (List Command)) (s : State) (entries : List Entry) (number start : ℕ) (script : List Command) (place : Place)
    (script_is : slice_get scripts number ≡ Some script) (f : PlaceFits number script entries place) (runs : place.waits ≡ false) (start_is : place.actor.start ≡ start) where
  even : length (calls_in number start entries) ≡ length (answers_in number start entries)
  even = subst (λ n. length (calls_in number n entries) ≡ length (answers_in number n entries)) start_is
      (omega (arith, f.count ∙ ap (λ (b : Bool). length (answers_in number place.actor.start entries) + pending b) runs))

  called : (other : Entry) (asked : Call) → CanCome scripts s entries (turn.Actor number) other → other.event ≡ event.Begin (record { 0 = number }) start asked
      → next_call place.actor.script place.actor.stand ≡ Some asked
  called other asked can is =
      let fits = (can.follows number start script script_is).0 in
      let at : next_call script (stand_on script script_begin (answers_in number start entries)) ≡ Some asked =
      next_of script (answers_in number start entries) (answers_in number start (other ∷ can.later)) (calls_in number start entries) (calls_in number start can.later) asked
      (subst (λ cs. IsPrefix cs (calls_of script (answers_in number start entries ++ answers_in number start (other ∷ can.later)))) (calls_split number start entries can.later other asked is)
      (subst (λ given. IsPrefix (calls_in number start (entries ++ other ∷ can.later)) (calls_of script given)) (answers_split number start entries (other ∷ can.later)) fits)) even in
      ap (λ (commands : List Command). next_call commands place.actor.stand) f.script_is ∙ ap (λ (stand : Stand). next_call script stand) f.stand_is
      ∙ ap (λ n. next_call script (stand_on script script_begin (answers_in number n entries))) start_is ∙ at

-- Which event an entry of this actor has, by the actor's status.

abbrev Begun : ℕ → ℕ → Event → Type 0
Begun number start e = (asked : Call) × (e ≡ event.Begin (record { 0 = number }) start asked)

status_same : (one other : ActorStatus) (o : Option ActorStatus) → o ≡ Some one → o ≡ Some other → one ≡ other
status_same one other o p q = let both : Some one ≡ Some other = sym p ∙ q in cc

start_running : (one other : ℕ) → status.Running one ≡ status.Running other → one ≡ other
start_running one other same = cc

start_waiting : (one other : ℕ) → status.Waiting one ≡ status.Waiting other → one ≡ other
start_waiting one other same = cc

begun : (s : State) (number start : ℕ) (e : Event) (entry : Entry) → status_at s number ≡ Some (status.Running start) → IsEventOf (turn.Actor number) e → step_entry s e ≡ Some entry → Begun number start e
begun s number start (event.Begin actor from asked) entry runs of is =
    let own : step_entry s (event.Begin (record { 0 = number }) from asked) ≡ Some entry = subst (λ n. step_entry s (event.Begin (record { 0 = n }) from asked) ≡ Some entry) of is in
    let same : from ≡ start = start_running from start (status_same (status.Running from) (status.Running start) (status_at s number) (begin_runs s number from asked entry own) runs) in
    (asked, λ i. event.Begin (record { 0 = of i }) (same i) asked)
begun s number start (event.Resume actor from) entry runs of is =
    let own : step_entry s (event.Resume (record { 0 = number }) from) ≡ Some entry = subst (λ n. step_entry s (event.Resume (record { 0 = n }) from) ≡ Some entry) of is in
    let same : status.Waiting from ≡ status.Running start = status_same (status.Waiting from) (status.Running start) (status_at s number) (resume_waits s number from entry own) runs in absurd (cc)
begun s number start event.Device entry runs of is = absurd of
begun s number start event.Idle entry runs of is = absurd of

resumed : (s : State) (number start : ℕ) (e : Event) (entry : Entry) → status_at s number ≡ Some (status.Waiting start) → IsEventOf (turn.Actor number) e → step_entry s e ≡ Some entry
    → e ≡ event.Resume (record { 0 = number }) start
resumed s number start (event.Begin actor from asked) entry waits of is =
    let own : step_entry s (event.Begin (record { 0 = number }) from asked) ≡ Some entry = subst (λ n. step_entry s (event.Begin (record { 0 = n }) from asked) ≡ Some entry) of is in
    let same : status.Running from ≡ status.Waiting start = status_same (status.Running from) (status.Waiting start) (status_at s number) (begin_runs s number from asked entry own) waits in absurd (cc)
resumed s number start (event.Resume actor from) entry waits of is =
    let own : step_entry s (event.Resume (record { 0 = number }) from) ≡ Some entry = subst (λ n. step_entry s (event.Resume (record { 0 = n }) from) ≡ Some entry) of is in
    let same : from ≡ start = start_waiting from start (status_same (status.Waiting from) (status.Waiting start) (status_at s number) (resume_waits s number from entry own) waits) in
    λ i. event.Resume (record { 0 = of i }) (same i)
resumed s number start event.Device entry waits of is = absurd of
resumed s number start event.Idle entry waits of is = absurd of

-- an actor that neither runs nor waits has no event
abbrev IsActive : ActorStatus → Type 0
IsActive (status.Running start) = Unit {0}
IsActive (status.Waiting start) = Unit {0}
IsActive other = ⊥

pub no_event : (scripts : List (List Command)) (s : State) (entries : List Entry) (number : ℕ) (does : ActorStatus) → (IsActive does → ⊥) → status_at s number ≡ Some does → (other : Entry)
    → CanCome scripts s entries (turn.Actor number) other → ⊥
no_event scripts s entries number does still is other can = by other.event can.of can.step_is
  where
    by : (e : Event) → IsEventOf (turn.Actor number) e → step_entry s e ≡ Some other → ⊥
    by (event.Begin actor from asked) of step_is =
        let own : step_entry s (event.Begin (record { 0 = number }) from asked) ≡ Some other = subst (λ n. step_entry s (event.Begin (record { 0 = n }) from asked) ≡ Some other) of step_is in
        still (subst IsActive (status_same (status.Running from) does (status_at s number) (begin_runs s number from asked other own) is) tt)
    by (event.Resume actor from) of step_is =
        let own : step_entry s (event.Resume (record { 0 = number }) from) ≡ Some other = subst (λ n. step_entry s (event.Resume (record { 0 = n }) from) ≡ Some other) of step_is in
        still (subst IsActive (status_same (status.Waiting from) does (status_at s number) (resume_waits s number from other own) is) tt)
    by event.Device of step_is = of
    by event.Idle of step_is = of

-- two entries of one event are the same
entry_same : (s : State) (e : Event) (one other : Entry) → one.event ≡ e → other.event ≡ e → step_entry s one.event ≡ Some one → step_entry s other.event ≡ Some other → other ≡ one
entry_same s e one other one_is other_is p q =
    let both : Some one ≡ Some other = sym p ∙ (ap (λ x. step_entry s x) (one_is ∙ sym other_is) ∙ q) in cc

abbrev pub find_script : (scripts : List (List Command)) (number : ℕ) → number < length scripts → (script : List Command) × (slice_get scripts number ≡ Some script)
find_script [] number below = absurd (omega arith)
find_script (script ∷ scripts) zero below = (script, refl)
find_script (script ∷ scripts) (suc number) below = find_script scripts number (omega arith)

pub place_of : (scripts : List (List Command)) (places : List Place) (entries : List Entry) (number : ℕ) (script : List Command) (place : Place) → PlacesFit scripts places entries
    → slice_get scripts number ≡ Some script → slice_get places number ≡ Some place → PlaceFits number script entries place
place_of scripts places entries number script place kept script_is there =
    let found = kept number script script_is in
    let same : found.0 ≡ place = (let both : Some found.0 ≡ Some place = sym found.1 ∙ there in cc) in
    subst (λ p. PlaceFits number script entries p) same found.2

-- What comes of an actor that runs, and of one that waits.
module _ (scripts : List (List Command)) (places : List Place) (s : State) (number start : ℕ) (place : Place) (below : number < length scripts) (there : slice_get places number ≡ Some place) where
  abbrev script : List Command
  script = (find_script scripts number below).0

  here : (entries : List Entry) → PlacesFit scripts places entries → PlaceFits number script entries place
  here entries kept = place_of scripts places entries number script place kept (find_script scripts number below).1 there

  module _ (runs : place.waits ≡ false) (start_is : place.actor.start ≡ start) (status_is : status_at s number ≡ Some (status.Running start)) where
    pub no_call : next_call place.actor.script place.actor.stand ≡ None → (entries : List Entry) → PlacesFit scripts places entries → (other : Entry) → CanCome scripts s entries (turn.Actor number) other → ⊥
    no_call none entries kept other can =
        let e = begun s number start other.event other status_is can.of can.step_is in
        let next : next_call place.actor.script place.actor.stand ≡ Some e.0 = called scripts s entries number start script place (find_script scripts number below).1 (here entries kept) runs start_is other e.0 can e.1 in
        absurd (let both : None ≡ Some e.0 = sym none ∙ next in cc)

    module _ (asked : Call) (next : next_call place.actor.script place.actor.stand ≡ Some asked) where
      event_is : (entries : List Entry) → PlacesFit scripts places entries → (other : Entry) → CanCome scripts s entries (turn.Actor number) other → other.event ≡ event.Begin (record { 0 = number }) start asked
      event_is entries kept other can =
          let e = begun s number start other.event other status_is can.of can.step_is in
          let found : next_call place.actor.script place.actor.stand ≡ Some e.0 = called scripts s entries number start script place (find_script scripts number below).1 (here entries kept) runs start_is other e.0 can e.1 in
          let same : e.0 ≡ asked = (let both : Some e.0 ≡ Some asked = sym found ∙ next in cc) in
          e.1 ∙ ap (λ c. event.Begin (record { 0 = number }) start c) same

      pub call_refused : step_entry s (event.Begin (record { 0 = number }) start asked) ≡ None → (entries : List Entry) → PlacesFit scripts places entries → (other : Entry)
          → CanCome scripts s entries (turn.Actor number) other → ⊥
      call_refused none entries kept other can =
          absurd (let both : None ≡ Some other = sym none ∙ (ap (λ e. step_entry s e) (sym (event_is entries kept other can)) ∙ can.step_is) in cc)

      pub call_only : (entry : Entry) → entry.event ≡ event.Begin (record { 0 = number }) start asked → step_entry s entry.event ≡ Some entry → (entries : List Entry) → PlacesFit scripts places entries → (other : Entry)
          → CanCome scripts s entries (turn.Actor number) other → other ≡ entry
      call_only entry is step_is entries kept other can = entry_same s (event.Begin (record { 0 = number }) start asked) entry other is (event_is entries kept other can) step_is can.step_is

      pub call_kept : (entry : Entry) → entry.event ≡ event.Begin (record { 0 = number }) start asked → (entries : List Entry) → PlacesFit scripts places entries
          → PlacesFit scripts (slice_set places number (after_answer place entry.answer)) (entries ++ entry ∷ [])
      call_kept entry is entries kept = kept_own scripts places entries entry number place (after_answer place entry.answer) kept there
          (λ own own_is. fits_begin number start own entries entry place asked (place_of scripts places entries number own place kept own_is there) runs start_is next is)
          (λ other apart. subst (λ e. IsNotBy other e) (sym is) (begin_not_by number start asked other apart))

  module _ (waits : place.waits ≡ true) (start_is : place.actor.start ≡ start) (status_is : status_at s number ≡ Some (status.Waiting start)) where
    pub end_refused : step_entry s (event.Resume (record { 0 = number }) start) ≡ None → (entries : List Entry) → PlacesFit scripts places entries → (other : Entry)
        → CanCome scripts s entries (turn.Actor number) other → ⊥
    end_refused none entries kept other can =
        absurd (let both : None ≡ Some other = sym none ∙ (ap (λ e. step_entry s e) (sym (resumed s number start other.event other status_is can.of can.step_is)) ∙ can.step_is) in cc)

    pub end_only : (entry : Entry) → entry.event ≡ event.Resume (record { 0 = number }) start → step_entry s entry.event ≡ Some entry → (entries : List Entry) → PlacesFit scripts places entries → (other : Entry)
        → CanCome scripts s entries (turn.Actor number) other → other ≡ entry
    end_only entry is step_is entries kept other can =
        entry_same s (event.Resume (record { 0 = number }) start) entry other is (resumed s number start other.event other status_is can.of can.step_is) step_is can.step_is

    pub end_kept : (entry : Entry) → entry.event ≡ event.Resume (record { 0 = number }) start → (entries : List Entry) → PlacesFit scripts places entries
        → PlacesFit scripts (slice_set places number (after_answer place entry.answer)) (entries ++ entry ∷ [])
    end_kept entry is entries kept = kept_own scripts places entries entry number place (after_answer place entry.answer) kept there
        (λ own own_is. fits_resume number start own entries entry place (place_of scripts places entries number own place kept own_is there) waits start_is is)
        (λ other apart. subst (λ e. IsNotBy other e) (sym is) (resume_not_by number start other apart))

-- The device and idle.

pub free_kept : (scripts : List (List Command)) (places : List Place) (entries : List Entry) (entry : Entry) → ((number : ℕ) → IsNotBy number entry.event) → PlacesFit scripts places entries
    → PlacesFit scripts places (entries ++ entry ∷ [])
free_kept scripts places entries entry apart kept number script script_is =
    let old = kept number script script_is in (old.0, old.1, fits_other number script entries entry old.0 (apart number) old.2)

pub device_event : (e : Event) → IsEventOf turn.Device e → e ≡ event.Device
device_event (event.Begin actor start asked) of = absurd of
device_event (event.Resume actor start) of = absurd of
device_event event.Device of = refl
device_event event.Idle of = absurd of

pub idle_event : (e : Event) → IsEventOf turn.Idle e → e ≡ event.Idle
idle_event (event.Begin actor start asked) of = absurd of
idle_event (event.Resume actor start) of = absurd of
idle_event event.Device of = absurd of
idle_event event.Idle of = refl

pub free_only : (scripts : List (List Command)) (s : State) (entries : List Entry) (taken : Turn) (e : Event) (entry : Entry) → ((f : Event) → IsEventOf taken f → f ≡ e) → entry.event ≡ e → step_entry s entry.event ≡ Some entry
    → (other : Entry) → CanCome scripts s entries taken other → other ≡ entry
free_only scripts s entries taken e entry one is step_is other can = entry_same s e entry other is (one other.event can.of) step_is can.step_is

pub free_refused : (scripts : List (List Command)) (s : State) (entries : List Entry) (taken : Turn) (e : Event) → ((f : Event) → IsEventOf taken f → f ≡ e) → step_entry s e ≡ None
    → (other : Entry) → CanCome scripts s entries taken other → ⊥
free_refused scripts s entries taken e one none other can =
    absurd (let both : None ≡ Some other = sym none ∙ (ap (λ f. step_entry s f) (sym (one other.event can.of)) ∙ can.step_is) in cc)
