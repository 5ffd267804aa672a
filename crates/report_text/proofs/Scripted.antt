-- Where a history of a lawful scene is whole, a line can spell each of its calls.
use Rattle.std.proofs.Common.{◌≡◌, ◌<◌, ℕ, zero, suc, Bool, true, false, cond, List, [], ◌∷◌, ◌++◌, length, map, Option, Some, None, refl, sym, ap, ◌∙◌, subst, arith}
use Rattle.std.proofs.lemmas.Bool.Decides.{nat_tests}
use Rattle.std.specs.Prelude.{slice_get, ◌==◌}
use Rattle.std.specs.List.{AllByRecursion, list_all, flat_map, fold, cons_option}
use mathlib.Core.List.{IsPrefix}
use Rattle.kernel_values.specs.Calls.{can_be_spelled, is_thread_call, is_client_call, with_number}
use Rattle.kernel_values.specs.SceneLaw.{SceneValue, IsLawfulScene, scripts_of, is_lawful_app, is_lawful_client, is_lawful_thread_command, is_lawful_client_command}
use Rattle.kernel_values.specs.declared.call.Call.{Call}
use Rattle.kernel_values.specs.declared.call.Call.TheVariants as call
use Rattle.kernel_values.specs.declared.entry.Entry.{Entry}
use Rattle.kernel_values.specs.declared.entry.Event.{Event}
use Rattle.kernel_values.specs.declared.entry.Event.TheVariants as event
use Rattle.kernel_values.specs.declared.reply.Answer.{Answer}
use Rattle.kernel_values.specs.declared.scene.App.{App}
use Rattle.kernel_values.specs.declared.scene.Client.{Client}
use Rattle.kernel_values.specs.declared.script.Command.{Command}
use Rattle.kernel_values.specs.declared.script.RegRead.{RegRead}
use Rattle.kernel_types.specs.Scripts.{Stand, read_register, value_in, call_of, call_at, next_call, answered, one_if, led_by, calls_from, calls_of, script_begin}
use Rattle.kernel_types.specs.Whole.{calls_in, call_by, is_by, IsWholeHistory}
use Rattle.report_text.proofs.WordsRead.{first_of, second_of}
use Rattle.report_text.proofs.NamesApart.{all_at, all_append}

-- Registers change nothing of how a call is spelled.

spelled_stays : (place value : ℕ) (asked : Call) → can_be_spelled (with_number place value asked) ≡ can_be_spelled asked
spelled_stays place value call.Finish = refl
spelled_stays place value _ = refl

fold_stays : (registers : List ℕ) (reads : List RegRead) (asked : Call) → can_be_spelled (fold (read_register registers) asked reads) ≡ can_be_spelled asked
fold_stays registers [] asked = refl
fold_stays registers (read ∷ reads) asked = fold_stays registers reads (read_register registers asked read) ∙ spelled_stays read.place (value_in registers read.reg) asked

spelled_of : (registers : List ℕ) (command : Command) → can_be_spelled (call_of registers command) ≡ can_be_spelled command.call
unfolding call_of
spelled_of registers command = fold_stays registers command.reads command.call

-- The calls of a script.

abbrev pub IsSpelled : Call → Type 0
IsSpelled asked = can_be_spelled asked ≡ true

abbrev Spells : List Command → Type 0
Spells script = AllByRecursion (λ (command : Command). IsSpelled command.call) script

one_spelled : (stand : Stand) (len : ℕ) (o : Option Command) → ((command : Command) → o ≡ Some command → IsSpelled command.call)
    → AllByRecursion IsSpelled (one_if (call_at stand len o))
one_spelled stand len (Some command) spells = (spelled_of stand.registers command ∙ spells command refl, tt)
one_spelled stand len None spells = by (stand.position == len)
  where
    by : (b : Bool) → AllByRecursion IsSpelled (one_if (cond b (Some call.Finish) None))
    by true = (refl, tt)
    by false = tt

next_spelled : (script : List Command) (stand : Stand) → Spells script → AllByRecursion IsSpelled (one_if (next_call script stand))
unfolding next_call
next_spelled script stand spells =
    one_spelled stand (length script) (slice_get script stand.position) (λ command is. all_at (λ (c : Command). IsSpelled c.call) script stand.position command spells is)

led_spelled : (next : Option Call) (calls : List Call) → AllByRecursion IsSpelled (one_if next) → AllByRecursion IsSpelled calls → AllByRecursion IsSpelled (led_by next calls)
led_spelled None calls one all = tt
led_spelled (Some first) calls one all = (one.0, all)

from_spelled : (script : List Command) (stand : Stand) (answers : List Answer) → Spells script → AllByRecursion IsSpelled (calls_from script stand answers)
from_spelled script stand [] spells = next_spelled script stand spells
from_spelled script stand (answer ∷ answers) spells =
    led_spelled (next_call script stand) (calls_from script (answered script stand answer) answers) (next_spelled script stand spells) (from_spelled script (answered script stand answer) answers spells)

front_spelled : (calls more : List Call) → AllByRecursion IsSpelled (calls ++ more) → AllByRecursion IsSpelled calls
front_spelled [] more all = tt
front_spelled (first ∷ calls) more all = (all.0, front_spelled calls more all.1)

calls_spelled : (script : List Command) (calls : List Call) (answers : List Answer) → Spells script → IsPrefix calls (calls_of script answers) → AllByRecursion IsSpelled calls
unfolding calls_of
calls_spelled script calls answers spells p =
    front_spelled calls p.0 (subst (λ all. AllByRecursion IsSpelled all) (sym p.1) (from_spelled script script_begin answers spells))

-- The scripts of a lawful scene.

thread_spells : (script : List Command) → list_all is_lawful_thread_command script ≡ true → Spells script
thread_spells [] h = tt
thread_spells (command ∷ script) h = (second_of (is_thread_call command.call) (can_be_spelled command.call) (first_of _ _ h), thread_spells script (second_of _ _ h))

client_spells : (script : List Command) → list_all is_lawful_client_command script ≡ true → Spells script
client_spells [] h = tt
client_spells (command ∷ script) h = (second_of (is_client_call command.call) (can_be_spelled command.call) (first_of _ _ h), client_spells script (second_of _ _ h))

threads_spell : (scripts : List (List Command)) → list_all (list_all is_lawful_thread_command) scripts ≡ true → AllByRecursion Spells scripts
threads_spell [] h = tt
threads_spell (script ∷ scripts) h = (thread_spells script (first_of _ _ h), threads_spell scripts (second_of _ _ h))

apps_spell : (apps : List App) → list_all is_lawful_app apps ≡ true → AllByRecursion Spells (flat_map (λ (app : App). app.threads) apps)
apps_spell [] h = tt
apps_spell (app ∷ apps) h =
    all_append Spells app.threads (flat_map (λ (a : App). a.threads) apps) (threads_spell app.threads (second_of _ _ (first_of _ _ (first_of _ _ (first_of _ _ h))))) (apps_spell apps (second_of _ _ h))

clients_spell : (clients : List Client) → list_all is_lawful_client clients ≡ true → AllByRecursion Spells (map (λ (client : Client). client.script) clients)
clients_spell [] h = tt
clients_spell (client ∷ clients) h = (client_spells client.script (second_of _ _ (first_of _ _ h)), clients_spell clients (second_of _ _ h))

scripts_spell : (scene : SceneValue) → IsLawfulScene scene → AllByRecursion Spells (scripts_of scene)
scripts_spell scene lawful =
    all_append Spells (flat_map (λ (app : App). app.threads) scene.apps) (map (λ (client : Client). client.script) scene.clients) (apps_spell scene.apps lawful.apps) (clients_spell scene.clients lawful.clients)

-- The calls of a history.

-- an event that begins a call of one of so many actors begins one that a line can spell
abbrev pub IsSpelledEvent : ℕ → Event → Type 0
IsSpelledEvent count (event.Begin actor start asked) = actor.0 < count → IsSpelled asked
IsSpelledEvent count _ = Unit {0}

abbrev pub AreSpelled : ℕ → List Entry → Type 0
AreSpelled count entries = AllByRecursion (λ (entry : Entry). IsSpelledEvent count entry.event) entries

abbrev AllCalls : ℕ → List Entry → Type 0
AllCalls count entries = (actor start : ℕ) → actor < count → AllByRecursion IsSpelled (calls_in actor start entries)

self_is : (n : ℕ) → (n == n) ≡ true
self_is n = grind (arith, nat_tests)

own_by : (actor start : ℕ) → is_by actor start actor start ≡ true
own_by actor start = rw (self_is actor, self_is start) refl

more_calls : (o : Option Call) (rest : List Call) → AllByRecursion IsSpelled (cons_option o rest) → AllByRecursion IsSpelled rest
more_calls None rest all = all
more_calls (Some first) rest all = all.1

first_call : (o : Option Call) (asked : Call) (rest : List Call) → o ≡ Some asked → AllByRecursion IsSpelled (cons_option o rest) → IsSpelled asked
first_call None asked rest is all = absurd (cc)
first_call (Some first) asked rest is all = subst IsSpelled (let same : first ≡ asked = cc in same) all.0

later_calls : (count : ℕ) (entry : Entry) (entries : List Entry) → AllCalls count (entry ∷ entries) → AllCalls count entries
unfolding calls_in
later_calls count entry entries all actor start below = more_calls (call_by actor start entry.event) (calls_in actor start entries) (all actor start below)

event_spelled : (count : ℕ) (e : Event) (entry : Entry) (entries : List Entry) → entry.event ≡ e → AllCalls count (entry ∷ entries) → IsSpelledEvent count e
unfolding calls_in
event_spelled count (event.Begin actor start asked) entry entries e_is all = λ below. first_call (call_by actor.0 start entry.event) asked (calls_in actor.0 start entries)
    (ap (λ (x : Event). call_by actor.0 start x) e_is ∙ ap (λ (b : Bool). cond b (Some asked) None) (own_by actor.0 start)) (all actor.0 start below)
event_spelled count (event.Resume actor start) entry entries e_is all = tt
event_spelled count event.Device entry entries e_is all = tt
event_spelled count event.Idle entry entries e_is all = tt

all_spelled : (count : ℕ) (entries : List Entry) → AllCalls count entries → AreSpelled count entries
all_spelled count [] all = tt
all_spelled count (entry ∷ entries) all = (event_spelled count entry.event entry entries refl all, all_spelled count entries (later_calls count entry entries all))

script_at : {X : Type 0} (xs : List X) (k : ℕ) → k < length xs → (x : X) × (slice_get xs k ≡ Some x)
script_at [] k below = absurd (omega arith)
script_at (x ∷ xs) zero below = (x, refl)
script_at (x ∷ xs) (suc k) below = script_at xs k (omega arith)

pub whole_spelled : (scene : SceneValue) (entries : List Entry) → IsLawfulScene scene → IsWholeHistory scene entries → AreSpelled (length (scripts_of scene)) entries
whole_spelled scene entries lawful whole = all_spelled (length (scripts_of scene)) entries
    (λ actor start below.
    let script : (x : List Command) × (slice_get (scripts_of scene) actor ≡ Some x) = script_at (scripts_of scene) actor below in
    let fits = whole.follows actor start script.0 script.1 in
    calls_spelled script.0 (calls_in actor start entries) _ (all_at Spells (scripts_of scene) actor script.0 (scripts_spell scene lawful) script.1) fits.0)
