-- All waits, the places of all tables, and the clock.
use Rattle.std.specs.Prelude.{ℕ, Bool, true, false, ◌||◌, ◌+◌, drop, List, [], ◌∷◌, map, slice_get, slice_set, Option, Some, None, if◌then◌else◌}
use Rattle.std.specs.List.{list_any, position_or_len}
use Rattle.std.specs.Option.{option_map, option_or}
use Rattle.kernel_values.specs.declared.flags.Events.{Events}
use Rattle.kernel_types.specs.CoreStep.{sooner}
use Rattle.kernel_types.specs.Waits.{is_due}
use Rattle.handle_set.specs.declared.settle.OpenSet.{OpenSet}
use Rattle.wait_events.specs.declared.watch.Watch.{Watch}
use Rattle.wait_events.specs.declared.waits.WaitFor.{WaitFor}
use Rattle.wait_events.specs.declared.waits.WaitOn.{WaitOn}
use Rattle.wait_events.specs.declared.waits.WaitOn.TheVariants as wait_on
use Rattle.wait_events.specs.declared.waits.Waiting.{Waiting}
use Rattle.wait_events.specs.Watches.{has_told, is_told, retold, retold_events}

-- `actors` has the wait of each actor, if it waits, and `tables` the places of each application's table
pub record AllWaits : Type 0 where
  pub clock : ℕ
  pub actors : List (Option Waiting)
  pub tables : List (List Watch)

abbrev pub no_watch : Watch
no_watch = record { object = None; events = record { 0 = 0 } }

-- a wait that begins: nothing is reported or decided yet
abbrev pub begun : WaitFor → Waiting
begun wait = record { wait = wait; events = record { 0 = 0 }; decided = false; cancelled = false }

abbrev pub wait_of : Waiting → WaitFor
wait_of waiting = waiting.wait

-- the wait of an actor, where it waits
abbrev pub joined : {X : Type 0} → Option (Option X) → Option X
joined None = None
joined (Some x) = x

abbrev pub waiting_at : List (Option Waiting) → ℕ → Option Waiting
waiting_at actors actor = joined (slice_get actors actor)

-- the events told of the object that a wait is on
abbrev pub retold_on : List OpenSet → ℕ → Events → WaitOn → Events → Events
retold_on sets object events (wait_on.Object watched) before = retold_events sets object events watched.serial before
retold_on sets object events _ before = before

abbrev pub retold_wait : List OpenSet → ℕ → Events → Waiting → Waiting
retold_wait sets object events waiting = record waiting { events = retold_on sets object events waiting.wait.on waiting.events }

-- all waits and tables after the events of an object changed
abbrev pub all_retold : List OpenSet → ℕ → Events → AllWaits → AllWaits
all_retold sets object events waits = record waits {
  actors = map (option_map (retold_wait sets object events)) waits.actors;
  tables = map (map (retold sets object events)) waits.tables;
}

abbrev pub set_if : {X : Type 0} → List X → ℕ → Option X → List X
set_if xs at None = xs
set_if xs at (Some x) = slice_set xs at x

abbrev pub map_at : {X : Type 0} → (X → X) → ℕ → List X → List X
map_at change at xs = set_if xs at (option_map change (slice_get xs at))

-- what stands at one place of a table
abbrev pub placed : ℕ → ℕ → Watch → AllWaits → AllWaits
placed app at watch waits = record waits { tables = map_at (λ table. slice_set table at watch) app waits.tables }

abbrev pub with_decided : Bool → Waiting → Waiting
with_decided now waiting = record waiting { decided = now }

abbrev pub with_cancelled : Waiting → Waiting
with_cancelled waiting = record waiting { cancelled = true }

-- the clock moves, or every wait is cancelled
abbrev pub idled : Option ℕ → AllWaits → AllWaits
idled (Some clock) waits = record waits { clock = clock }
idled None waits = record waits { actors = map (option_map with_cancelled) waits.actors }

abbrev pub table_told : Option (List Watch) → Bool
table_told None = false
table_told (Some table) = list_any is_told table

-- the first place from a given one on whose object has an event
abbrev pub told_from : ℕ → List Watch → Option ℕ
told_from from table = (if list_any is_told (drop from table) then Some (from + position_or_len is_told (drop from table)) else None)

-- what `waitany` reports: the first such place after the number last reported, else the first of all
abbrev pub next_place : Option ℕ → ℕ
next_place None = 0
next_place (Some last) = last + 1

abbrev pub first_told : Option ℕ → List Watch → Option ℕ
first_told last table = option_or (told_from (next_place last) table) (told_from 0 table)

abbrev pub told_in_turn : Option ℕ → Option (List Watch) → Option ℕ
told_in_turn last None = None
told_in_turn last (Some table) = first_told last table

-- whether a wait has something to report or is decided, is cancelled, or is due; a connect has no deadline
abbrev pub may_end : AllWaits → Waiting → WaitOn → Bool
may_end waits waiting (wait_on.Object object) = has_told waiting.events || waiting.cancelled || is_due waits.clock waiting.wait.deadline
may_end waits waiting (wait_on.Connect end) = waiting.decided || waiting.cancelled
may_end waits waiting (wait_on.Any app) = table_told (slice_get waits.tables app.0) || waiting.cancelled || is_due waits.clock waiting.wait.deadline

abbrev pub may_move : AllWaits → Option Waiting → Bool
may_move waits None = false
may_move waits (Some waiting) = may_end waits waiting waiting.wait.on

abbrev pub is_cancelled : Option Waiting → Bool
is_cancelled None = false
is_cancelled (Some waiting) = waiting.cancelled

-- the least of all deadlines
abbrev pub deadline_in : Option Waiting → Option ℕ
deadline_in None = None
deadline_in (Some waiting) = waiting.wait.deadline

abbrev pub least_deadline : List (Option Waiting) → Option ℕ
least_deadline [] = None
least_deadline (actor ∷ actors) = sooner (deadline_in actor) (least_deadline actors)
