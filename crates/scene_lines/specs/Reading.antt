-- What each line does to what was read before it.
use Rattle.std.specs.Prelude.{ℕ, ◌+◌, ◌*◌, Bool, true, false, List, [], ◌∷◌, ◌++◌, ◌&&◌, ◌||◌, length, zero, suc, nat_lt, nat_le, bytes_eq, codes, Option, Some, None, Result, Ok, Err, not, if◌then◌else◌}
use Rattle.std.specs.List.{list_all, list_any}
use Rattle.kernel_values.specs.Commands.{has_lawful_registers}
use Rattle.kernel_values.specs.Calls.{payload_of}
use Rattle.std.specs.Option.{is_none, unwrap_or}
use Rattle.kernel_values.specs.Words.{is_name}
use Rattle.kernel_values.specs.SceneLaw.{is_queue_size}
use Rattle.kernel_values.specs.declared.scene.App.{App}
use Rattle.kernel_values.specs.declared.scene.Client.{Client}
use Rattle.kernel_values.specs.declared.scene.Manifest.{Manifest}
use Rattle.kernel_values.specs.declared.scene.StartPort.{StartPort}
use Rattle.kernel_values.specs.declared.scene.Turn.{Turn}
use Rattle.kernel_values.specs.declared.scene.Turn.TheVariants as turn
use Rattle.kernel_values.specs.declared.script.Command.{Command}
use Rattle.app_manifest.specs.Spelled.{manifest_text}
use Rattle.script_lines.specs.declared.fault.SceneKind.{SceneKind}
use Rattle.script_lines.specs.declared.fault.SceneKind.TheVariants.{BadByte, NoHeader, UnknownWord, OutOfPlace, BadWords, BadManifest, NameTaken, TooMany}
use Rattle.scene_lines.specs.declared.reading.Noted.{Noted}
use Rattle.scene_lines.specs.declared.reading.OpenApp.{OpenApp}
use Rattle.scene_lines.specs.declared.reading.OpenClient.{OpenClient}
use Rattle.scene_lines.specs.declared.reading.Repeat.{Repeat}
use Rattle.scene_lines.specs.declared.reading.Place.{Place}
use Rattle.scene_lines.specs.declared.reading.Place.TheVariants as place
use Rattle.scene_lines.specs.declared.reading.Registered.{Registered}
use Rattle.scene_lines.specs.declared.reading.Used.{Used}
use Rattle.scene_lines.specs.declared.reading.Reading.{Reading}
use Rattle.script_lines.specs.declared.words.CallWord.{CallWord}
use Rattle.script_lines.specs.declared.words.ClientWord.{ClientWord}
use Rattle.script_lines.specs.declared.words.LineWord.{LineWord}
use Rattle.script_lines.specs.declared.words.LineWord.TheVariants as line
use Rattle.script_lines.specs.declared.words.PartWord.{PartWord}
use Rattle.script_lines.specs.declared.words.PartWord.TheVariants as part
use Rattle.script_lines.specs.declared.words.ScriptWord.{ScriptWord}
use Rattle.script_lines.specs.declared.words.ScriptWord.TheVariants as script
use Rattle.script_lines.specs.Gives.{◌>>=◌}
use Rattle.script_lines.specs.Texts.{is_text_byte, words_of, is_skipped, after_two_words}
use Rattle.script_lines.specs.Numbers.{number, number_within}
use Rattle.script_lines.specs.LineWords.{line_word}
use Rattle.script_lines.specs.Calls.{command_line}
use Rattle.script_lines.specs.ClientCalls.{client_command_line}

-- ---- limits

-- a scene has at most so many commands, and so many bytes of payload
abbrev pub most_commands : ℕ
most_commands = 16384

abbrev pub most_payload : ℕ
most_payload = 16777216

abbrev pub is_within : Used → Bool
is_within used = nat_le used.commands most_commands && nat_le used.payload most_payload

-- with so many commands more, and their payload
abbrev pub with_used : Used → ℕ → ℕ → Used
with_used used commands payload = record { commands = used.commands + commands; payload = used.payload + payload }

-- ---- commands

-- what is used with one command more, within the limits
unfoldable pub after_command : Used → Command → Result Used SceneKind
after_command used command = if has_lawful_registers command && is_within (with_used used 1 (payload_of command.call))
    then Ok (with_used used 1 (payload_of command.call))
    else Err TooMany

-- one command more in the last application's script
unfoldable pub with_command : Used → OpenApp → Command → Result (Used × Place) SceneKind
with_command used app command = do
  more ← after_command used command
  Ok (more, place.App (record app { script = app.script ++ command ∷ [] }))

unfoldable pub app_line : Used → OpenApp → CallWord → List (List ℕ) → Result (Used × Place) SceneKind
app_line used app word words = if app.has_thread then (do
  read ← command_line app.names word words
  with_command used (record app { names = read.0 }) read.1)
    else Err OutOfPlace

-- one command more in a repeat; one that alone would pass a limit is told at its `end`
unfoldable pub extended : Repeat → Command → Repeat
extended repeat command = if has_lawful_registers command && is_within (with_used (record { commands = length repeat.body; payload = repeat.payload }) 1 (payload_of command.call))
    then record repeat { body = repeat.body ++ command ∷ []; payload = repeat.payload + payload_of command.call }
    else record repeat { is_past = true }

-- of a repeat that passes a limit anyway, a line's words are looked at and nothing is kept
unfoldable pub repeat_line : OpenApp → Repeat → CallWord → List (List ℕ) → Result Place SceneKind
repeat_line app repeat word words = if repeat.is_past then (do
  read ← command_line [] word words
  Ok (place.Repeat app repeat))
    else do
      read ← command_line app.names word words
      Ok (place.Repeat (record app { names = read.0 }) (extended repeat read.1))

unfoldable pub call_act : Used → Place → CallWord → List (List ℕ) → Result (Used × Place) SceneKind
call_act used (place.App app) word words = app_line used app word words
call_act used (place.Repeat app repeat) word words = do
  next ← repeat_line app repeat word words
  Ok (used, next)
call_act used other word words = Err OutOfPlace

-- ---- clients' commands

-- one command more in the last client's script
unfoldable pub with_client_command : Used → OpenClient → Command → Result (Used × Place) SceneKind
with_client_command used client command = do
  more ← after_command used command
  Ok (more, place.Client (record client { script = client.script ++ command ∷ [] }))

unfoldable pub client_line : Used → OpenClient → ClientWord → List (List ℕ) → Result (Used × Place) SceneKind
client_line used client word words = do
  read ← client_command_line client.names word words
  with_client_command used (record client { names = read.0 }) read.1

unfoldable pub client_repeat_line : OpenClient → Repeat → ClientWord → List (List ℕ) → Result Place SceneKind
client_repeat_line client repeat word words = if repeat.is_past then (do
  read ← client_command_line [] word words
  Ok (place.ClientRepeat client repeat))
    else do
      read ← client_command_line client.names word words
      Ok (place.ClientRepeat (record client { names = read.0 }) (extended repeat read.1))

unfoldable pub client_call_act : Used → Place → ClientWord → List (List ℕ) → Result (Used × Place) SceneKind
client_call_act used (place.Client client) word words = client_line used client word words
client_call_act used (place.ClientRepeat client repeat) word words = do
  next ← client_repeat_line client repeat word words
  Ok (used, next)
client_call_act used other word words = Err OutOfPlace

-- ---- threads and repeats

abbrev pub no_more : List (List ℕ) → Bool
no_more [] = true
no_more (word ∷ words) = false

-- an application has a thread with an empty script from the first; its first `thread` begins that one
unfoldable pub next_thread : OpenApp → Result OpenApp SceneKind
next_thread app = if app.has_thread
    then (if nat_lt (length app.threads) 3 then Ok (record app { threads = app.threads ++ app.script ∷ []; script = []; names = [] }) else Err TooMany)
    else Ok (record app { has_thread = true })

unfoldable pub thread_act : Place → List (List ℕ) → Result Place SceneKind
thread_act (place.App app) words = if no_more words then (do
  next ← next_thread app
  Ok (place.App next))
    else Err BadWords
thread_act other words = Err OutOfPlace

unfoldable pub times_in : List (List ℕ) → Result ℕ SceneKind
times_in (word ∷ []) = number_within 1 most_commands word
times_in words = Err BadWords

abbrev pub begun : ℕ → ℕ → Repeat
begun at times = record { line = at; times = times; body = []; payload = 0; is_past = false }

unfoldable pub repeat_act : ℕ → Place → List (List ℕ) → Result Place SceneKind
repeat_act at (place.App app) words = if app.has_thread then (do
  times ← times_in words
  Ok (place.Repeat app (begun at times)))
    else Err OutOfPlace
repeat_act at (place.Client client) words = do
  times ← times_in words
  Ok (place.ClientRepeat client (begun at times))
repeat_act at other words = Err OutOfPlace

-- the commands, so many times
unfoldable pub repeated : ℕ → List Command → List Command
repeated zero body = []
repeated (suc times) body = body ++ repeated times body

-- what is used with the commands of a repeat, within the limits
unfoldable pub after_repeat : Used → Repeat → Result Used SceneKind
after_repeat used repeat = if not repeat.is_past && is_within (with_used used (repeat.times * length repeat.body) (repeat.times * repeat.payload))
    then Ok (with_used used (repeat.times * length repeat.body) (repeat.times * repeat.payload))
    else Err TooMany

unfoldable pub closed : Used → OpenApp → Repeat → Result (Used × Place) SceneKind
closed used app repeat = do
  more ← after_repeat used repeat
  Ok (more, place.App (record app { script = app.script ++ repeated repeat.times repeat.body }))

unfoldable pub client_closed : Used → OpenClient → Repeat → Result (Used × Place) SceneKind
client_closed used client repeat = do
  more ← after_repeat used repeat
  Ok (more, place.Client (record client { script = client.script ++ repeated repeat.times repeat.body }))

unfoldable pub end_act : Used → Place → List (List ℕ) → Result (Used × Place) SceneKind
end_act used (place.Repeat app repeat) words = if no_more words then closed used app repeat else Err BadWords
end_act used (place.ClientRepeat client repeat) words = if no_more words then client_closed used client repeat else Err BadWords
end_act used other words = Err OutOfPlace

-- ---- the last application or client

abbrev pub is_in_repeat : Place → Bool
is_in_repeat (place.Repeat app repeat) = true
is_in_repeat (place.ClientRepeat client repeat) = true
is_in_repeat other = false

-- the application as it stands in the scene
abbrev pub app_of : OpenApp → App
app_of app = record { name = app.name; manifest = app.manifest; threads = app.threads ++ app.script ∷ [] }

abbrev pub last_app : Place → Option OpenApp
last_app (place.App app) = Some app
last_app (place.Repeat app repeat) = Some app
last_app other = None

abbrev pub with_last : List App → Option OpenApp → List App
with_last apps (Some app) = apps ++ app_of app ∷ []
with_last apps None = apps

-- all applications, where the last one has no later line
abbrev pub apps_with : List App → Place → List App
apps_with apps place = with_last apps (last_app place)

-- the client as it stands in the scene
abbrev pub client_of : OpenClient → Client
client_of client = record { name = client.name; script = client.script }

abbrev pub last_client : Place → Option OpenClient
last_client (place.Client client) = Some client
last_client (place.ClientRepeat client repeat) = Some client
last_client other = None

abbrev pub with_last_client : List Client → Option OpenClient → List Client
with_last_client clients (Some client) = clients ++ client_of client ∷ []
with_last_client clients None = clients

-- all clients, where the last one has no later line
abbrev pub clients_with : List Client → Place → List Client
clients_with clients place = with_last_client clients (last_client place)

-- ---- applications

-- without a manifest, the number-th application has its number and 1 as UUID, and no more
abbrev pub plain_manifest : ℕ → Manifest
plain_manifest number = record { uuid = number + 1; restart = false; deferred = false; ports = [] }

abbrev pub spelled_manifest : Option Manifest → Result Manifest SceneKind
spelled_manifest (Some manifest) = Ok manifest
spelled_manifest None = Err BadManifest

unfoldable pub manifest_act : ℕ → List ℕ → Result Manifest SceneKind
manifest_act number [] = Ok (plain_manifest number)
manifest_act number (byte ∷ bytes) = spelled_manifest (manifest_text (byte ∷ bytes))

abbrev pub is_taken : List (List ℕ) → List ℕ → Bool
is_taken names name = list_any (λ other. bytes_eq other name) names

-- applications and clients share their names
abbrev pub is_named : Noted → List ℕ → Bool
is_named noted name = is_taken noted.names name || is_taken noted.client_names name

-- the paths so far with those of these start ports; none where a path comes twice
unfoldable pub with_ports : List (List ℕ) → List StartPort → Result (List (List ℕ)) SceneKind
with_ports paths [] = Ok paths
with_ports paths (port ∷ ports) = if is_taken paths port.path then Err NameTaken else with_ports (paths ++ port.path ∷ []) ports

abbrev pub most_apps : ℕ
most_apps = 32

abbrev pub new_app : List ℕ → Manifest → Place
new_app name manifest = place.App (record { name = name; manifest = manifest; threads = []; script = []; names = []; has_thread = false })

-- the application with this name and manifest comes last
unfoldable pub with_app : Registered → Place → List ℕ → Manifest → Result (Registered × Place) SceneKind
with_app before last name manifest = if is_named before.noted name then Err NameTaken else do
  ports ← with_ports before.noted.ports manifest.ports
  if nat_lt (length before.noted.names) most_apps
      then Ok (record { apps = apps_with before.apps last; clients = clients_with before.clients last; noted = record before.noted { names = before.noted.names ++ name ∷ []; ports = ports } }, new_app name manifest)
      else Err TooMany

-- an application with this name, and the rest of the line as its manifest
unfoldable pub described_app : Registered → Place → List ℕ → List ℕ → Result (Registered × Place) SceneKind
described_app before last line name = do
  manifest ← manifest_act (length before.noted.names) (after_two_words line)
  with_app before last name manifest

unfoldable pub named_app : Registered → Place → List ℕ → List (List ℕ) → Result (Registered × Place) SceneKind
named_app before last line [] = Err BadWords
named_app before last line (name ∷ words) = if is_name name then described_app before last line name else Err BadWords

unfoldable pub app_act : Registered → Place → List ℕ → List (List ℕ) → Result (Registered × Place) SceneKind
app_act before last line words = if is_in_repeat last then Err OutOfPlace else named_app before last line words

-- ---- clients

abbrev pub most_clients : ℕ
most_clients = 8

abbrev pub new_client : List ℕ → Place
new_client name = place.Client (record { name = name; script = []; names = [] })

-- the client with this name comes last
unfoldable pub with_client : Registered → Place → List ℕ → Result (Registered × Place) SceneKind
with_client before last name = if is_named before.noted name then Err NameTaken
    else if nat_lt (length before.noted.client_names) most_clients
    then Ok (record { apps = apps_with before.apps last; clients = clients_with before.clients last; noted = record before.noted { client_names = before.noted.client_names ++ name ∷ [] } }, new_client name)
    else Err TooMany

unfoldable pub client_name : List (List ℕ) → Result (List ℕ) SceneKind
client_name (name ∷ []) = if is_name name then Ok name else Err BadWords
client_name words = Err BadWords

unfoldable pub named_client : Registered → Place → List (List ℕ) → Result (Registered × Place) SceneKind
named_client before last words = do
  name ← client_name words
  with_client before last name

unfoldable pub client_act : Registered → Place → List (List ℕ) → Result (Registered × Place) SceneKind
client_act before last words = if is_in_repeat last then Err OutOfPlace else named_client before last words

-- ---- the size of the queues

-- it may be told once, before the first client
abbrev pub may_be_sized : Registered → Place → Bool
may_be_sized before last = not (is_in_repeat last) && no_more before.noted.client_names && is_none before.noted.queue

-- without a line that tells it, the size is 16
abbrev pub queue_of : Noted → ℕ
queue_of noted = unwrap_or noted.queue 16

unfoldable pub queue_word : List ℕ → Result ℕ SceneKind
queue_word word = do
  size ← number word
  if is_queue_size size then Ok size else Err BadWords

unfoldable pub queue_in : List (List ℕ) → Result ℕ SceneKind
queue_in (word ∷ []) = queue_word word
queue_in words = Err BadWords

unfoldable pub queues_act : Registered → Place → List (List ℕ) → Result Registered SceneKind
queues_act before last words = if may_be_sized before last then (do
  size ← queue_in words
  Ok (record before { noted = record before.noted { queue = Some size } }))
    else Err OutOfPlace

-- ---- turns

unfoldable pub turn_word : List ℕ → Result Turn SceneKind
turn_word word = if bytes_eq word (codes "D") then Ok turn.Device
    else if bytes_eq word (codes "I") then Ok turn.Idle
    else do
      actor ← number word
      Ok (turn.Actor actor)

-- the turns of these words behind those so far
unfoldable pub with_turns : List Turn → List (List ℕ) → Result (List Turn) SceneKind
with_turns turns [] = Ok turns
with_turns turns (word ∷ words) = do
  turn ← turn_word word
  with_turns (turns ++ turn ∷ []) words

unfoldable pub turns_act : Registered → Place → List (List ℕ) → Result (Registered × Place) SceneKind
turns_act before last words = if is_in_repeat last then Err OutOfPlace
    else if no_more words then Ok (record { apps = apps_with before.apps last; clients = clients_with before.clients last; noted = before.noted }, place.Turns [])
    else Err BadWords

-- ---- lines

-- a line that a scene is made of
unfoldable pub part_act : Registered → Place → List ℕ → PartWord → List (List ℕ) → Result (Registered × Place) SceneKind
part_act before last text part.Queues words = do
  next ← queues_act before last words
  Ok (next, last)
part_act before last text part.App words = app_act before last text words
part_act before last text part.Client words = client_act before last words
part_act before last text part.Turns words = turns_act before last words

-- a line that scripts are made of
unfoldable pub script_act : Used → Place → ℕ → ScriptWord → List (List ℕ) → Result (Used × Place) SceneKind
script_act used place at script.Thread words = do
  next ← thread_act place words
  Ok (used, next)
script_act used place at script.Repeat words = do
  next ← repeat_act at place words
  Ok (used, next)
script_act used place at script.End words = end_act used place words
script_act used place at (script.Call word) words = call_act used place word words
script_act used place at (script.ClientCall word) words = client_call_act used place word words

-- a line whose first word begins a line
unfoldable pub word_act : Reading → ℕ → List ℕ → LineWord → List (List ℕ) → Result Reading SceneKind
word_act r at text line.Scene words = Err OutOfPlace
word_act r at text (line.Part word) words = do
  next ← part_act r.before r.place text word words
  Ok (record { place = next.1; before = next.0; used = r.used })
word_act r at text (line.Script word) words = do
  next ← script_act r.used r.place at word words
  Ok (record { place = next.1; before = r.before; used = next.0 })

abbrev pub known : Option LineWord → Result LineWord SceneKind
known (Some word) = Ok word
known None = Err UnknownWord

-- a line between the header and the turns
unfoldable pub first_word : Reading → ℕ → List ℕ → List (List ℕ) → Result Reading SceneKind
first_word r at text [] = Ok r
first_word r at text (first ∷ words) = do
  word ← known (line_word first)
  word_act r at text word words

-- `scene 1`
abbrev pub is_header : List (List ℕ) → Bool
is_header (first ∷ second ∷ []) = bytes_eq first (codes "scene") && bytes_eq second (codes "1")
is_header words = false

-- the words of a line that is not skipped
unfoldable pub words_act : Reading → Place → ℕ → List ℕ → List (List ℕ) → Result Reading SceneKind
words_act r place.Start at text words = if is_header words then Ok (record r { place = place.Outside }) else Err NoHeader
words_act r (place.Turns turns) at text words = do
  next ← with_turns turns words
  Ok (record r { place = place.Turns next })
words_act r other at text words = first_word r at text words

unfoldable pub line_act : Reading → ℕ → List ℕ → Result Reading SceneKind
line_act r at text = if is_skipped (words_of text) then Ok r
    else if list_all is_text_byte text then words_act r r.place at text (words_of text)
    else Err BadByte
