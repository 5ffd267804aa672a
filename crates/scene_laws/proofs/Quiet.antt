-- Lines before the turns: after each of them, where it is no fault, there is no turn yet, or what there was.
use Rattle.std.proofs.Common.{◌≡◌, ℕ, ◌≤◌, Bool, cond, List, [], ◌∷◌, ◌++◌, length, Result, Ok, Err, refl, arith}
use Rattle.std.specs.Prelude.{IfOk, nat_lt}
use Rattle.kernel_values.specs.Words.{is_name}
use Rattle.kernel_values.specs.declared.scene.Manifest.{Manifest}
use Rattle.kernel_values.specs.declared.script.Command.{Command}
use Rattle.script_lines.specs.declared.fault.SceneKind.{SceneKind}
use Rattle.script_lines.specs.declared.fault.SceneKind.TheVariants.{OutOfPlace, BadWords, NameTaken, TooMany}
use Rattle.scene_lines.specs.declared.reading.OpenApp.{OpenApp}
use Rattle.scene_lines.specs.declared.reading.OpenClient.{OpenClient}
use Rattle.scene_lines.specs.declared.reading.Repeat.{Repeat}
use Rattle.scene_lines.specs.declared.reading.Place.{Place}
use Rattle.scene_lines.specs.declared.reading.Place.TheVariants as place
use Rattle.scene_lines.specs.declared.reading.Registered.{Registered}
use Rattle.scene_lines.specs.declared.reading.Used.{Used}
use Rattle.scene_lines.specs.declared.reading.Reading.{Reading}
use Rattle.script_lines.specs.declared.words.CallWord.{CallWord}
use Rattle.script_lines.specs.declared.words.ClientWord.{ClientWord}
use Rattle.script_lines.specs.declared.words.LineWord.{LineWord}
use Rattle.script_lines.specs.declared.words.LineWord.TheVariants as line
use Rattle.script_lines.specs.declared.words.PartWord.{PartWord}
use Rattle.script_lines.specs.declared.words.PartWord.TheVariants as part
use Rattle.script_lines.specs.declared.words.ScriptWord.{ScriptWord}
use Rattle.script_lines.specs.declared.words.ScriptWord.TheVariants as script
use Rattle.script_lines.specs.Gives.{◌>>=◌}
use Rattle.script_lines.specs.Texts.{after_two_words}
use Rattle.script_lines.specs.Calls.{command_line}
use Rattle.script_lines.specs.ClientCalls.{client_command_line}
use Rattle.scene_lines.specs.Reading.{after_command, with_command, app_line, extended, repeat_line, call_act, with_client_command, client_line, client_repeat_line, client_call_act, no_more, next_thread, thread_act, times_in, begun, repeat_act, repeated, after_repeat, closed, client_closed, end_act, is_in_repeat, apps_with, clients_with, manifest_act, is_named, with_ports, most_apps, new_app, with_app, described_app, named_app, app_act, most_clients, new_client, with_client, client_name, named_client, client_act, queues_act, turns_act, part_act, script_act, word_act}
use Rattle.scene_reader.specs.Whole.{turns_in}
use Rattle.scene_laws.proofs.Results.{after, after_that, either}

abbrev pub IsQuiet : Place → Type 0
IsQuiet place = length (turns_in place) ≡ 0

abbrev UsedQuiet : Used × Place → Type 0
UsedQuiet next = IsQuiet next.1

abbrev RegisteredQuiet : Registered × Place → Type 0
RegisteredQuiet next = IsQuiet next.1

-- ---- commands

command_quiet : (used : Used) (app : OpenApp) (command : Command) → IfOk (with_command used app command) UsedQuiet
unfolding with_command
command_quiet used app command = after UsedQuiet (after_command used command) (λ more. Ok (more, place.App (record app { script = app.script ++ command ∷ [] }))) (λ more. refl)

app_line_quiet : (used : Used) (app : OpenApp) (word : CallWord) (words : List (List ℕ)) → IfOk (app_line used app word words) UsedQuiet
unfolding app_line
app_line_quiet used app word words =
    let next = λ (read : List (List ℕ) × Command). with_command used (record app { names = read.0 }) read.1 in
    either UsedQuiet app.has_thread (command_line app.names word words >>= next) (Err OutOfPlace)
    (after UsedQuiet (command_line app.names word words) next (λ read. command_quiet used (record app { names = read.0 }) read.1)) tt

-- a line within a repeat, which may be past what a scene may hold
in_repeat_quiet : (is_past : Bool) (unnamed named : Result (List (List ℕ) × Command) SceneKind) (past more : List (List ℕ) × Command → Place)
    → ((read : List (List ℕ) × Command) → IsQuiet (past read)) → ((read : List (List ℕ) × Command) → IsQuiet (more read))
    → IfOk (cond is_past (unnamed >>= (λ read. Ok (past read))) (named >>= (λ read. Ok (more read)))) IsQuiet
in_repeat_quiet is_past unnamed named past more left kept =
    either IsQuiet is_past (unnamed >>= (λ read. Ok (past read))) (named >>= (λ read. Ok (more read)))
    (after IsQuiet unnamed (λ read. Ok (past read)) left) (after IsQuiet named (λ read. Ok (more read)) kept)

repeat_line_quiet : (app : OpenApp) (repeat : Repeat) (word : CallWord) (words : List (List ℕ)) → IfOk (repeat_line app repeat word words) IsQuiet
unfolding repeat_line
repeat_line_quiet app repeat word words =
    in_repeat_quiet repeat.is_past (command_line [] word words) (command_line app.names word words)
    (λ read. place.Repeat app repeat) (λ read. place.Repeat (record app { names = read.0 }) (extended repeat read.1)) (λ read. refl) (λ read. refl)

call_quiet : (used : Used) (last : Place) (word : CallWord) (words : List (List ℕ)) → IfOk (call_act used last word words) UsedQuiet
unfolding call_act
call_quiet used (place.App app) word words = app_line_quiet used app word words
call_quiet used (place.Repeat app repeat) word words = after_that IsQuiet UsedQuiet (repeat_line app repeat word words) (λ next. Ok (used, next)) (repeat_line_quiet app repeat word words) (λ next quiet. quiet)
call_quiet used _ word words = tt

-- ---- clients' commands

client_command_quiet : (used : Used) (client : OpenClient) (command : Command) → IfOk (with_client_command used client command) UsedQuiet
unfolding with_client_command
client_command_quiet used client command = after UsedQuiet (after_command used command) (λ more. Ok (more, place.Client (record client { script = client.script ++ command ∷ [] }))) (λ more. refl)

client_line_quiet : (used : Used) (client : OpenClient) (word : ClientWord) (words : List (List ℕ)) → IfOk (client_line used client word words) UsedQuiet
unfolding client_line
client_line_quiet used client word words =
    let next = λ (read : List (List ℕ) × Command). with_client_command used (record client { names = read.0 }) read.1 in
    after UsedQuiet (client_command_line client.names word words) next (λ read. client_command_quiet used (record client { names = read.0 }) read.1)

client_repeat_line_quiet : (client : OpenClient) (repeat : Repeat) (word : ClientWord) (words : List (List ℕ)) → IfOk (client_repeat_line client repeat word words) IsQuiet
unfolding client_repeat_line
client_repeat_line_quiet client repeat word words =
    in_repeat_quiet repeat.is_past (client_command_line [] word words) (client_command_line client.names word words)
    (λ read. place.ClientRepeat client repeat) (λ read. place.ClientRepeat (record client { names = read.0 }) (extended repeat read.1)) (λ read. refl) (λ read. refl)

client_call_quiet : (used : Used) (last : Place) (word : ClientWord) (words : List (List ℕ)) → IfOk (client_call_act used last word words) UsedQuiet
unfolding client_call_act
client_call_quiet used (place.Client client) word words = client_line_quiet used client word words
client_call_quiet used (place.ClientRepeat client repeat) word words = after_that IsQuiet UsedQuiet (client_repeat_line client repeat word words) (λ next. Ok (used, next)) (client_repeat_line_quiet client repeat word words) (λ next quiet. quiet)
client_call_quiet used _ word words = tt

-- ---- threads and repeats

thread_quiet : (last : Place) (words : List (List ℕ)) → IfOk (thread_act last words) IsQuiet
unfolding thread_act
thread_quiet (place.App app) words =
    let opened : OpenApp → Result Place SceneKind = λ next. Ok (place.App next) in
    either IsQuiet (no_more words) (next_thread app >>= opened) (Err BadWords) (after IsQuiet (next_thread app) opened (λ next. refl)) tt
thread_quiet _ words = tt

repeat_quiet : (at : ℕ) (last : Place) (words : List (List ℕ)) → IfOk (repeat_act at last words) IsQuiet
unfolding repeat_act
repeat_quiet at (place.App app) words =
    let opened : ℕ → Result Place SceneKind = λ times. Ok (place.Repeat app (begun at times)) in
    either IsQuiet app.has_thread (times_in words >>= opened) (Err OutOfPlace) (after IsQuiet (times_in words) opened (λ times. refl)) tt
repeat_quiet at (place.Client client) words = after IsQuiet (times_in words) (λ times. Ok (place.ClientRepeat client (begun at times))) (λ times. refl)
repeat_quiet at _ words = tt

closed_quiet : (used : Used) (app : OpenApp) (repeat : Repeat) → IfOk (closed used app repeat) UsedQuiet
unfolding closed
closed_quiet used app repeat = after UsedQuiet (after_repeat used repeat) (λ more. Ok (more, place.App (record app { script = app.script ++ repeated repeat.times repeat.body }))) (λ more. refl)

client_closed_quiet : (used : Used) (client : OpenClient) (repeat : Repeat) → IfOk (client_closed used client repeat) UsedQuiet
unfolding client_closed
client_closed_quiet used client repeat = after UsedQuiet (after_repeat used repeat) (λ more. Ok (more, place.Client (record client { script = client.script ++ repeated repeat.times repeat.body }))) (λ more. refl)

end_quiet : (used : Used) (last : Place) (words : List (List ℕ)) → IfOk (end_act used last words) UsedQuiet
unfolding end_act
end_quiet used (place.Repeat app repeat) words = either UsedQuiet (no_more words) (closed used app repeat) (Err BadWords) (closed_quiet used app repeat) tt
end_quiet used (place.ClientRepeat client repeat) words = either UsedQuiet (no_more words) (client_closed used client repeat) (Err BadWords) (client_closed_quiet used client repeat) tt
end_quiet used _ words = tt

-- ---- applications

added_quiet : (before : Registered) (last : Place) (name : List ℕ) (manifest : Manifest) → IfOk (with_app before last name manifest) RegisteredQuiet
unfolding with_app
added_quiet before last name manifest =
    let made : List (List ℕ) → Result (Registered × Place) SceneKind = λ ports. Ok (record { apps = apps_with before.apps last; clients = clients_with before.clients last; noted = record before.noted { names = before.noted.names ++ name ∷ []; ports = ports } }, new_app name manifest) in
    let next : List (List ℕ) → Result (Registered × Place) SceneKind = λ ports. cond (nat_lt (length before.noted.names) most_apps) (made ports) (Err TooMany) in
    either RegisteredQuiet (is_named before.noted name) (Err NameTaken) (with_ports before.noted.ports manifest.ports >>= next) tt
    (after RegisteredQuiet (with_ports before.noted.ports manifest.ports) next (λ ports. either RegisteredQuiet (nat_lt (length before.noted.names) most_apps) (made ports) (Err TooMany) refl tt))

described_quiet : (before : Registered) (last : Place) (text name : List ℕ) → IfOk (described_app before last text name) RegisteredQuiet
unfolding described_app
described_quiet before last text name = after RegisteredQuiet (manifest_act (length before.noted.names) (after_two_words text)) (with_app before last name) (added_quiet before last name)

named_quiet : (before : Registered) (last : Place) (text : List ℕ) (words : List (List ℕ)) → IfOk (named_app before last text words) RegisteredQuiet
unfolding named_app
named_quiet before last text [] = tt
named_quiet before last text (name ∷ words) = either RegisteredQuiet (is_name name) (described_app before last text name) (Err BadWords) (described_quiet before last text name) tt

app_quiet : (before : Registered) (last : Place) (text : List ℕ) (words : List (List ℕ)) → IfOk (app_act before last text words) RegisteredQuiet
unfolding app_act
app_quiet before last text words = either RegisteredQuiet (is_in_repeat last) (Err OutOfPlace) (named_app before last text words) tt (named_quiet before last text words)

-- ---- clients

added_client_quiet : (before : Registered) (last : Place) (name : List ℕ) → IfOk (with_client before last name) RegisteredQuiet
unfolding with_client
added_client_quiet before last name =
    let made : Result (Registered × Place) SceneKind = Ok (record { apps = apps_with before.apps last; clients = clients_with before.clients last; noted = record before.noted { client_names = before.noted.client_names ++ name ∷ [] } }, new_client name) in
    let next : Result (Registered × Place) SceneKind = cond (nat_lt (length before.noted.client_names) most_clients) made (Err TooMany) in
    either RegisteredQuiet (is_named before.noted name) (Err NameTaken) next tt (either RegisteredQuiet (nat_lt (length before.noted.client_names) most_clients) made (Err TooMany) refl tt)

named_client_quiet : (before : Registered) (last : Place) (words : List (List ℕ)) → IfOk (named_client before last words) RegisteredQuiet
unfolding named_client
named_client_quiet before last words = after RegisteredQuiet (client_name words) (λ name. with_client before last name) (λ name. added_client_quiet before last name)

client_quiet : (before : Registered) (last : Place) (words : List (List ℕ)) → IfOk (client_act before last words) RegisteredQuiet
unfolding client_act
client_quiet before last words = either RegisteredQuiet (is_in_repeat last) (Err OutOfPlace) (named_client before last words) tt (named_client_quiet before last words)

-- ---- turns

turns_quiet : (before : Registered) (last : Place) (words : List (List ℕ)) → IfOk (turns_act before last words) RegisteredQuiet
unfolding turns_act
turns_quiet before last words =
    let made : Result (Registered × Place) SceneKind = Ok (record { apps = apps_with before.apps last; clients = clients_with before.clients last; noted = before.noted }, place.Turns []) in
    either RegisteredQuiet (is_in_repeat last) (Err OutOfPlace) (cond (no_more words) made (Err BadWords)) tt (either RegisteredQuiet (no_more words) made (Err BadWords) refl tt)

-- ---- lines

abbrev pub HasAtMost : ℕ → Reading → Type 0
HasAtMost most reading = length (turns_in reading.place) ≤ most

script_quiet : (used : Used) (last : Place) (at : ℕ) (word : ScriptWord) (words : List (List ℕ)) → IfOk (script_act used last at word words) UsedQuiet
unfolding script_act
script_quiet used last at script.Thread words = after_that IsQuiet UsedQuiet (thread_act last words) (λ next. Ok (used, next)) (thread_quiet last words) (λ next quiet. quiet)
script_quiet used last at script.Repeat words = after_that IsQuiet UsedQuiet (repeat_act at last words) (λ next. Ok (used, next)) (repeat_quiet at last words) (λ next quiet. quiet)
script_quiet used last at script.End words = end_quiet used last words
script_quiet used last at (script.Call word) words = call_quiet used last word words
script_quiet used last at (script.ClientCall word) words = client_call_quiet used last word words

few_of_quiet : (most : ℕ) (rule : Result (Registered × Place) SceneKind) → IfOk rule RegisteredQuiet → IfOk rule (λ next. length (turns_in next.1) ≤ most)
few_of_quiet most (Ok next) quiet = omega (arith, quiet)
few_of_quiet most (Err kind) quiet = tt

part_few : (most : ℕ) (before : Registered) (last : Place) (text : List ℕ) (word : PartWord) (words : List (List ℕ)) → length (turns_in last) ≤ most → IfOk (part_act before last text word words) (λ next. length (turns_in next.1) ≤ most)
unfolding part_act
part_few most before last text part.Queues words few = after (λ (next : Registered × Place). length (turns_in next.1) ≤ most) (queues_act before last words) (λ next. Ok (next, last)) (λ next. few)
part_few most before last text part.App words few = few_of_quiet most (app_act before last text words) (app_quiet before last text words)
part_few most before last text part.Client words few = few_of_quiet most (client_act before last words) (client_quiet before last words)
part_few most before last text part.Turns words few = few_of_quiet most (turns_act before last words) (turns_quiet before last words)

pub word_few : (most : ℕ) (r : Reading) (at : ℕ) (text : List ℕ) (word : LineWord) (words : List (List ℕ)) → HasAtMost most r → IfOk (word_act r at text word words) (HasAtMost most)
unfolding word_act
word_few most r at text line.Scene words few = tt
word_few most r at text (line.Part word) words few = after_that (λ (next : Registered × Place). length (turns_in next.1) ≤ most) (HasAtMost most) (part_act r.before r.place text word words) (λ next. Ok (record { place = next.1; before = next.0; used = r.used }))
    (part_few most r.before r.place text word words few) (λ next more. more)
word_few most r at text (line.Script word) words few = after_that UsedQuiet (HasAtMost most) (script_act r.used r.place at word words) (λ next. Ok (record { place = next.1; before = r.before; used = next.0 })) (script_quiet r.used r.place at word words) (λ next quiet. omega (arith, quiet))
