-- Which entry can come next, where each actor stands at its script.
use Rattle.std.specs.Prelude.{◌≡◌, ◌<◌, ◌≤◌, ◌+◌, ℕ, List, [], ◌∷◌, ◌++◌, length, map, Option, Some, None, slice_get, ⊤}
use Rattle.kernel_values.specs.SceneLaw.{SceneValue, scripts_of}
use Rattle.kernel_values.specs.declared.entry.ActorStatus.TheVariants as status
use Rattle.kernel_values.specs.declared.entry.Event.{Event}
use Rattle.kernel_values.specs.declared.entry.Event.TheVariants as event
use Rattle.kernel_values.specs.declared.entry.Entry.{Entry}
use Rattle.kernel_values.specs.declared.scene.Turn.{Turn}
use Rattle.kernel_values.specs.declared.scene.Turn.TheVariants as turn
use Rattle.kernel_values.specs.declared.script.Command.{Command}
use Rattle.kernel_values.specs.declared.state.State.{State}
use Rattle.kernel_types.specs.Facts.{status_at}
use Rattle.kernel_types.specs.History.{Legal, step_entry, next_state, state_after}
use Rattle.kernel_types.specs.Opening.{opening}
use Rattle.kernel_types.specs.Step.{statuses}
use Rattle.kernel_types.specs.Whole.{FollowsScripts}
use Rattle.report_text.specs.Names.{actor_names}
use Rattle.runners.specs.declared.place.Place.{Place}
use Rattle.runners.specs.Places.{AllRan, PlacesFit, first_place, most_actors}
use Rattle.history_check.specs.declared.actors.Actors.{Actors}

pub record AreAtTheBeginning (scene : SceneValue) (actors : Actors) : Type 0 where
  pub names_are : actors.names ≡ actor_names scene
  pub scripts_are : actors.scripts ≡ scripts_of scene
  pub places_are : actors.places.items ≡ map first_place (scripts_of scene)

-- the state is that of a legal history of a scene, after which each actor stands so at its script
pub record StandsAfter (actors : Actors) (s : State) : Type 0 where
  pub scene : SceneValue
  pub entries : List Entry
  pub legal : Legal (opening scene) entries
  pub state_is : s ≡ state_after (opening scene) entries
  pub kept : PlacesFit actors.scripts actors.places.items entries
  pub ran : AllRan actors.places.items (opening scene) entries

-- each actor of the kernel has a name, a script and a place, and stands there
pub record Matches (actors : Actors) (s : State) : Type 0 where
  pub stands : StandsAfter actors s
  pub names : length actors.names ≡ length (statuses s)
  pub scripts : length actors.scripts ≡ length (statuses s)
  pub places : length actors.places.items ≡ length (statuses s)
  pub few : length actors.names ≤ most_actors

abbrev pub IsWithin : Actors → Turn → Type 0
IsWithin actors (turn.Actor actor) = actor < length actors.names
IsWithin actors other = ⊤

-- the event is one of this turn
abbrev pub IsEventOf : Turn → Event → Type 0
IsEventOf (turn.Actor actor) (event.Begin own start call) = own.0 ≡ actor
IsEventOf (turn.Actor actor) (event.Resume own start) = own.0 ≡ actor
IsEventOf turn.Device event.Device = ⊤
IsEventOf turn.Idle event.Idle = ⊤
IsEventOf turn event = ⊥

-- The entry is the one of a lawful event of this turn; and behind the entries so far it follows the scripts, whatever comes later.
pub record CanCome (scripts : List (List Command)) (s : State) (entries : List Entry) (turn : Turn) (entry : Entry) : Type 0 where
  pub of : IsEventOf turn entry.event
  pub step_is : step_entry s entry.event ≡ Some entry
  pub later : List Entry
  pub follows : FollowsScripts scripts (entries ++ entry ∷ later)

-- only the places changed
pub record SameActors (old new : Actors) : Type 0 where
  pub names : new.names ≡ old.names
  pub scripts : new.scripts ≡ old.scripts
  pub many : length new.places.items ≡ length old.places.items

-- the actor stands by no earlier start than this one
abbrev pub IsCaughtUp : Actors → ℕ → ℕ → Type 0
IsCaughtUp actors actor start = (place : Place) → slice_get actors.places.items actor ≡ Some place → start ≤ place.actor.start

-- the places after a history of an actor that runs by this start
pub record Renewed (actor start : ℕ) (old new : Actors) : Type 0 where
  pub same : SameActors old new
  pub kept : (entries : List Entry) → PlacesFit old.scripts old.places.items entries → PlacesFit old.scripts new.places.items entries
  pub ran : (first : State) (entries : List Entry) → status_at (state_after first entries) actor ≡ Some (status.Running start) → AllRan old.places.items first entries
      → AllRan new.places.items first entries
  pub caught_up : IsCaughtUp new actor start

-- the entry was made, no other can come of this turn, and the places are those after it
pub record Took (turn : Turn) (old new : Actors) (s t : State) (made remade : ℕ) (entry : Entry) : Type 0 where
  pub same : SameActors old new
  pub step_is : step_entry s entry.event ≡ Some entry
  pub state_is : t ≡ next_state s entry.event
  pub made_is : remade ≡ made + 1
  pub kept : (entries : List Entry) → PlacesFit old.scripts old.places.items entries → PlacesFit old.scripts new.places.items (entries ++ entry ∷ [])
  pub ran : (first : State) (entries : List Entry) → s ≡ state_after first entries → AllRan old.places.items first entries → AllRan new.places.items first (entries ++ entry ∷ [])
  pub only : (entries : List Entry) → PlacesFit old.scripts old.places.items entries → (other : Entry) → CanCome old.scripts s entries turn other → other ≡ entry

abbrev pub NoneCan : Turn → Actors → State → Type 0
NoneCan turn old s = (entries : List Entry) → PlacesFit old.scripts old.places.items entries → (other : Entry) → CanCome old.scripts s entries turn other → ⊥

abbrev pub Came : Turn → Actors → Actors → State → State → ℕ → ℕ → Option Entry → Type 0
Came turn old new s t made remade (Some entry) = Took turn old new s t made remade entry
Came turn old new s t made remade None = NoneCan turn old s
