-- What a worker does with a run that it shares.
use Rattle.std.specs.Prelude.{◌≡◌, ◌≤◌, ◌<◌, ℕ, Bool, true, false, List, [], ◌∷◌, ◌++◌, length, Some, slice_get, All, ⊤}
use mathlib.Core.List.{IsPrefix}
use Rattle.kernel_values.specs.declared.entry.Entry.{Entry}
use Rattle.kernel_values.specs.declared.entry.Event.{Event}
use Rattle.kernel_values.specs.declared.entry.Event.TheVariants as event
use Rattle.kernel_values.specs.declared.scene.Turn.{Turn}
use Rattle.kernel_values.specs.declared.scene.Turn.TheVariants as turn
use Rattle.kernel_values.specs.declared.state.State.{State}
use Rattle.kernel_values.specs.declared.entry.ActorStatus.TheVariants as status
use Rattle.kernel_types.specs.Facts.{is_at_end, status_at}
use Rattle.kernel_types.specs.History.{Legal}
use Rattle.kernel_types.specs.Step.{device_has_work, idle_lawful}
use Rattle.kernel_types.specs.Turns.{history_limit, takes_turn}
use Rattle.kernel_types.specs.Whole.{FollowsScripts, IsWhole}
use Rattle.turnstile.specs.declared.lock.Turnstile.{Turnstile}
use Rattle.turnstile.specs.declared.pass.Pass.{Pass}
use Rattle.turnstile.specs.declared.view.View.{View}
use Rattle.turnstile.specs.Names.{first_of, IsPassOf}
use Rattle.turnstile.specs.Passes.{view}
use Rattle.runners.specs.declared.by_turns.Worker.{Worker}
use Rattle.runners.specs.declared.rounds.Round.{Round}
use Rattle.runners.specs.declared.rounds.Round.TheVariants as round
use Rattle.runners.specs.declared.workers.Attended.{Attended}
use Rattle.runners.specs.declared.workers.Attended.TheVariants as attended
use Rattle.runners.specs.declared.workers.Worked.{Worked}
use Rattle.runners.specs.declared.workers.Worked.TheVariants as worked
use Rattle.runners.specs.Places.{answers_to}
use Rattle.runners.specs.Runs.{ScriptedRun, state_told}

-- the pass is one of the turnstile's, with its number, and does not hold the value
abbrev pub Rests : Turnstile ScriptedRun → Pass → Type 0
Rests turnstile pass = IsPassOf (λ told. told.origin) turnstile pass × ((view pass).has_turn ≡ false)

-- the actor is one of those whose run the turnstile was made with
abbrev pub IsActor : Turnstile ScriptedRun → ℕ → Type 0
IsActor turnstile actor = actor < length (first_of turnstile).origin.scripts

-- the worker has such a pass, and such an actor
abbrev pub Serves : Turnstile ScriptedRun → Worker → Type 0
Serves turnstile worker = Rests turnstile worker.pass × IsActor turnstile worker.progress.actor.0

-- the event is a call of the actor, the end of its wait, or of no actor
abbrev pub IsOwn : ℕ → Event → Type 0
IsOwn actor (event.Begin other start call) = other.0 ≡ actor
IsOwn actor (event.Resume other start) = other.0 ≡ actor
IsOwn actor event.Device = ⊤
IsOwn actor event.Idle = ⊤

-- the turns that the actor's worker takes
abbrev pub IsTurnOf : ℕ → Turn → Type 0
IsTurnOf actor (turn.Actor other) = other ≡ actor
IsTurnOf actor turn.Device = ⊤
IsTurnOf actor turn.Idle = ⊤

-- none of the turns that the actor's worker takes can be taken
abbrev pub HasNoTurn : ℕ → State → Type 0
HasNoTurn actor s = (takes_turn s actor ≡ false) × (device_has_work s ≡ false) × (idle_lawful s ≡ false)

-- the history has one entry more, which is the actor's own
pub record AddsOwn (actor : ℕ) (history longer : List Entry) : Type 0 where
  pub entry : Entry
  pub own : IsOwn actor entry.event
  pub longer_is : longer ≡ history ++ entry ∷ []

-- what one turn of the actor's worker makes of the run
abbrev pub Served : ℕ → ScriptedRun → ScriptedRun → Round → Type 0
Served actor told next round.Stepped = AddsOwn actor told.history next.history
Served actor told next (round.Asks start answered) =
    (next.history ≡ told.history) × (status_at (state_told told) actor ≡ Some (status.Running start)) × (answered ≡ answers_to actor told.history)
Served actor told next round.Whole = (next.history ≡ told.history) × (is_at_end (state_told told) ≡ true)
Served actor told next round.TooLong = (next.history ≡ told.history) × (length told.history ≡ history_limit) × (is_at_end (state_told told) ≡ false)
Served actor told next round.Sleeps = (next.history ≡ told.history) × HasNoTurn actor (state_told told)
Served actor told next other = next.history ≡ told.history

abbrev pub is_step : Round → Bool
is_step round.Stepped = true
is_step other = false

-- the place is that of an entry of the actor's own
abbrev pub IsOwnAt : ℕ → List Entry → ℕ → Type 0
IsOwnAt actor seen place = (entry : Entry) × (slice_get seen place ≡ Some entry) × IsOwn actor entry.event

-- the places of a pass have grown by those of own entries alone
pub record GrewByOwn (actor : ℕ) (v w : View) : Type 0 where
  pub places : List ℕ
  pub mine_is : w.mine ≡ v.mine ++ places
  pub own : All (IsOwnAt actor w.seen) places

-- The pass has its number, and has seen more, if anything: what it has seen is legal, follows the scripts, and is no longer than
-- a run may be. What its holder added is the actor's own.
pub record WentOn (actor : ℕ) (v w : View) : Type 0 where
  pub number_is : w.number ≡ v.number
  pub seen : IsPrefix v.seen w.seen
  pub legal : Legal w.origin.state w.seen
  pub follows : FollowsScripts w.origin.scripts w.seen
  pub short : length w.seen ≤ history_limit
  pub grew : GrewByOwn actor v w

-- what the holder of the pass has seen is a whole run, or as long as a run may be and not whole
abbrev pub Ends : View → Worked → Type 0
Ends v worked.Whole = IsWhole v.origin.state v.origin.scripts v.seen
Ends v worked.TooLong = (length v.seen ≡ history_limit) × (IsWhole v.origin.state v.origin.scripts v.seen → ⊥)

abbrev pub EndsBy : View → Round → Type 0
EndsBy v round.Whole = Ends v worked.Whole
EndsBy v round.TooLong = Ends v worked.TooLong
EndsBy v other = ⊤

-- the number of the actor's answered calls in what the holder of the pass has seen is told
abbrev pub AsksBy : ℕ → View → Round → Type 0
AsksBy actor v (round.Asks start answered) = answered ≡ answers_to actor v.seen
AsksBy actor v other = ⊤

abbrev pub EndsWhere : View → Attended → Type 0
EndsWhere v (attended.Ended worked) = Ends v worked
EndsWhere v other = ⊤
