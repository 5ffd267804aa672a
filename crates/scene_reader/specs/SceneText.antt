-- The scene that a text spells, or its first fault: a function of the text's lines, as docs/SCENES.md tells it.
-- A list of lines is the nearest first: `above` are the lines above one, back to the header.
use Rattle.std.specs.Prelude.{ℕ, ◌+◌, ◌&&◌, ◌||◌, Bool, true, false, zero, suc, List, [], ◌∷◌, ◌++◌, length, map, sum_by, nat_le, Option, Some, None, Result, Ok, Err, not, if◌then◌else◌}
use Rattle.std.specs.List.{flat_map, list_all, list_any}
use Rattle.std.specs.Option.{is_none, unwrap_or}
use Rattle.std.specs.Result.{is_ok, result_unwrap_or}
use Rattle.kernel_values.specs.Commands.{has_lawful_registers}
use Rattle.kernel_values.specs.Words.{is_name}
use Rattle.kernel_values.specs.SceneLaw.{SceneValue, payload_of_script}
use Rattle.kernel_values.specs.declared.scene.App.{App}
use Rattle.kernel_values.specs.declared.scene.Client.{Client}
use Rattle.kernel_values.specs.declared.scene.Manifest.{Manifest}
use Rattle.kernel_values.specs.declared.scene.Turn.{Turn}
use Rattle.kernel_values.specs.declared.script.Command.{Command}
use Rattle.script_lines.specs.declared.fault.SceneKind.{SceneKind}
use Rattle.script_lines.specs.declared.fault.SceneKind.TheVariants.{BadByte, NoHeader, UnknownWord, OutOfPlace, BadWords, BadManifest, NameTaken, TooMany, OpenRepeat}
use Rattle.script_lines.specs.declared.fault.SceneFault.{SceneFault}
use Rattle.script_lines.specs.declared.words.LineWord.{LineWord}
use Rattle.script_lines.specs.declared.words.LineWord.TheVariants as of
use Rattle.script_lines.specs.declared.words.PartWord.TheVariants as part
use Rattle.script_lines.specs.declared.words.ScriptWord.TheVariants as script
use Rattle.script_lines.specs.Texts.{is_text_byte, lines_of, words_of, is_skipped, after_two_words}
use Rattle.script_lines.specs.LineWords.{line_word}
use Rattle.script_lines.specs.Calls.{command_line}
use Rattle.script_lines.specs.ClientCalls.{client_command_line}
use Rattle.scene_lines.specs.Reading.{is_header, no_more, times_in, queue_in, client_name, manifest_act, plain_manifest, is_taken, with_ports, with_turns, most_apps, most_clients, most_commands, most_payload}

-- ---- lines

-- a line that is not skipped: what its first word begins, and the words behind that
pub record Line : Type 0 where
  pub number : ℕ
  pub text : List ℕ
  pub word : Option LineWord
  pub arguments : List (List ℕ)

abbrev pub cut : ℕ → List ℕ → List (List ℕ) → Line
cut number text [] = record { number = number; text = text; word = None; arguments = [] }
cut number text (first ∷ words) = record { number = number; text = text; word = line_word first; arguments = words }

-- lines of blanks and comments are dropped, and keep their numbers
unfoldable pub numbered : ℕ → List (List ℕ) → List Line
numbered number [] = []
numbered number (text ∷ texts) = if is_skipped (words_of text) then numbered (number + 1) texts else cut number text (words_of text) ∷ numbered (number + 1) texts

-- ---- what stands above a line

abbrev pub is_repeat : Option LineWord → Bool
is_repeat (Some (of.Script script.Repeat)) = true
is_repeat other = false

abbrev pub is_end : Option LineWord → Bool
is_end (Some (of.Script script.End)) = true
is_end other = false

abbrev pub is_turns : Option LineWord → Bool
is_turns (Some (of.Part part.Turns)) = true
is_turns other = false

-- a repeat is open below a `repeat`, up to the next `end`
unfoldable pub in_repeat : List Line → Bool
in_repeat [] = false
in_repeat (line ∷ above) = if is_repeat line.word then true else if is_end line.word then false else in_repeat above

unfoldable pub after_turns : List Line → Bool
after_turns above = list_any (λ line. is_turns line.word) above

-- the nearest `app`, `thread` or `client`
pub data OpenPart : Type 0 where
  in_none : OpenPart
  in_app : OpenPart
  in_thread : OpenPart
  in_client : OpenPart

abbrev pub standing_with : Option LineWord → OpenPart → OpenPart
standing_with (Some (of.Part part.App)) before = in_app
standing_with (Some (of.Part part.Client)) before = in_client
standing_with (Some (of.Script script.Thread)) before = in_thread
standing_with other before = before

unfoldable pub standing : List Line → OpenPart
standing [] = in_none
standing (line ∷ above) = standing_with line.word (standing above)

-- ---- repeats

unfoldable pub copies : ℕ → List Line → List Line
copies zero body = []
copies (suc times) body = body ++ copies times body

abbrev pub times_of : Line → ℕ
times_of line = result_unwrap_or (times_in line.arguments) 0

-- the lines of each repeat that is closed so many times, in place of it; `body` are lines above an `end`, up to its `repeat`
unfoldable pub expanded_from : Option (List Line) → List Line → List Line
expanded_from held [] = []
expanded_from None (line ∷ above) = if is_end line.word then expanded_from (Some []) above else line ∷ expanded_from None above
expanded_from (Some body) (line ∷ above) = if is_repeat line.word then copies (times_of line) body ++ expanded_from None above else expanded_from (Some (body ++ line ∷ [])) above

abbrev pub expanded : List Line → List Line
expanded above = expanded_from None above

-- ---- what lines give

-- applications with the threads that lines began, and the names of the last script's registers, in the order in which its lines first name them
pub record Given : Type 0 where
  pub apps : List App
  pub clients : List Client
  pub queue : Option ℕ
  pub turns : List Turn
  pub names : List (List ℕ)

abbrev pub nothing : Given
nothing = record { apps = []; clients = []; queue = None; turns = []; names = [] }

unfoldable pub on_last : {A : Type 0} → (A → A) → List A → List A
on_last f [] = []
on_last f (x ∷ []) = f x ∷ []
on_last f (x ∷ next ∷ rest) = x ∷ on_last f (next ∷ rest)

abbrev pub name_in : List (List ℕ) → List ℕ
name_in [] = []
name_in (name ∷ words) = name

-- the rest of an `app` line, or the manifest of the application with this number
abbrev pub manifest_in : Given → Line → Result Manifest SceneKind
manifest_in given line = manifest_act (length given.apps) (after_two_words line.text)

abbrev pub with_app : Given → Line → Given
with_app given line = record given { apps = given.apps ++ record { name = name_in line.arguments; manifest = result_unwrap_or (manifest_in given line) (plain_manifest 0); threads = [] } ∷ []; names = [] }

abbrev pub with_thread : Given → Given
with_thread given = record given { apps = on_last (λ app. record app { threads = app.threads ++ [] ∷ [] }) given.apps; names = [] }

abbrev pub with_client : Given → List ℕ → Given
with_client given name = record given { clients = given.clients ++ record { name = name; script = [] } ∷ []; names = [] }

abbrev pub with_command : Given → Result (List (List ℕ) × Command) SceneKind → Given
with_command given (Ok read) = record given { apps = on_last (λ app. record app { threads = on_last (λ commands. commands ++ read.1 ∷ []) app.threads }) given.apps; names = read.0 }
with_command given (Err kind) = given

abbrev pub with_client_command : Given → Result (List (List ℕ) × Command) SceneKind → Given
with_client_command given (Ok read) = record given { clients = on_last (λ client. record client { script = client.script ++ read.1 ∷ [] }) given.clients; names = read.0 }
with_client_command given (Err kind) = given

abbrev pub with_queue : Given → Result ℕ SceneKind → Given
with_queue given (Ok size) = record given { queue = Some size }
with_queue given (Err kind) = given

abbrev pub with_line : Option LineWord → Line → Given → Given
with_line (Some (of.Part part.Queues)) line given = with_queue given (queue_in line.arguments)
with_line (Some (of.Part part.App)) line given = with_app given line
with_line (Some (of.Part part.Client)) line given = with_client given (name_in line.arguments)
with_line (Some (of.Script script.Thread)) line given = with_thread given
with_line (Some (of.Script (script.Call word))) line given = with_command given (command_line given.names word line.arguments)
with_line (Some (of.Script (script.ClientCall word))) line given = with_client_command given (client_command_line given.names word line.arguments)
with_line other line given = given

abbrev pub with_turn_line : Line → Given → Given
with_turn_line line given = record given { turns = result_unwrap_or (with_turns given.turns (words_of line.text)) given.turns }

unfoldable pub given_by : List Line → Given
given_by [] = nothing
given_by (line ∷ above) = if after_turns above then with_turn_line line (given_by above) else with_line line.word line (given_by above)

-- what the lines above give, with repeats expanded
unfoldable pub given : List Line → Given
given above = given_by (expanded above)

-- an application without a `thread` line has one thread, whose script is empty
abbrev pub some_threads : List (List Command) → List (List Command)
some_threads [] = [] ∷ []
some_threads (script ∷ scripts) = script ∷ scripts

abbrev pub with_some_thread : App → App
with_some_thread app = record app { threads = some_threads app.threads }

abbrev pub scene_given : Given → SceneValue
scene_given given = record { apps = map with_some_thread given.apps; clients = given.clients; queue = unwrap_or given.queue 16; turns = given.turns }

-- ---- faults

abbrev pub is_empty : {A : Type 0} → List A → Bool
is_empty [] = true
is_empty (x ∷ xs) = false

abbrev pub is_of_app : OpenPart → Bool
is_of_app in_app = true
is_of_app in_thread = true
is_of_app other = false

abbrev pub is_of_script : OpenPart → Bool
is_of_script in_thread = true
is_of_script in_client = true
is_of_script other = false

abbrev pub is_of_thread : OpenPart → Bool
is_of_thread in_thread = true
is_of_thread other = false

abbrev pub is_of_client : OpenPart → Bool
is_of_client in_client = true
is_of_client other = false

-- whether such a line may stand below these
abbrev pub may_stand : List Line → Option LineWord → Bool
may_stand above (Some (of.Part part.Queues)) = not (in_repeat above) && is_empty (given above).clients && is_none (given above).queue
may_stand above (Some (of.Part word)) = not (in_repeat above)
may_stand above (Some (of.Script script.Thread)) = not (in_repeat above) && is_of_app (standing above)
may_stand above (Some (of.Script script.Repeat)) = not (in_repeat above) && is_of_script (standing above)
may_stand above (Some (of.Script script.End)) = in_repeat above
may_stand above (Some (of.Script (script.Call word))) = is_of_thread (standing above)
may_stand above (Some (of.Script (script.ClientCall word))) = is_of_client (standing above)
may_stand above other = false

-- none missing, none too many, and each of its form
abbrev pub are_words : Option LineWord → List (List ℕ) → Bool
are_words (Some (of.Part part.Queues)) words = is_ok (queue_in words)
are_words (Some (of.Part part.App)) words = is_name (name_in words)
are_words (Some (of.Part part.Client)) words = is_ok (client_name words)
are_words (Some (of.Script script.Repeat)) words = is_ok (times_in words)
are_words (Some (of.Script (script.Call word))) words = is_ok (command_line [] word words)
are_words (Some (of.Script (script.ClientCall word))) words = is_ok (client_command_line [] word words)
are_words other words = no_more words

abbrev pub is_manifest : Given → Option LineWord → Line → Bool
is_manifest given (Some (of.Part part.App)) line = is_ok (manifest_in given line)
is_manifest given other line = true

-- applications and clients share their names
abbrev pub is_name_taken : Given → List ℕ → Bool
is_name_taken given name = is_taken (map (λ app. app.name) given.apps) name || is_taken (map (λ client. client.name) given.clients) name

abbrev pub paths_in : List App → List (List ℕ)
paths_in apps = flat_map (λ app. map (λ port. port.path) app.manifest.ports) apps

abbrev pub are_ports_taken : Given → Line → Bool
are_ports_taken given line = not (is_ok (with_ports (paths_in given.apps) (result_unwrap_or (manifest_in given line) (plain_manifest 0)).ports))

abbrev pub takes_names : Given → Option LineWord → Line → Bool
takes_names given (Some (of.Part part.App)) line = is_name_taken given (name_in line.arguments) || are_ports_taken given line
takes_names given (Some (of.Part part.Client)) line = is_name_taken given (name_in line.arguments)
takes_names given other line = false

-- every script, the threads' first
abbrev pub scripts_in : Given → List (List Command)
scripts_in given = flat_map (λ app. app.threads) given.apps ++ map (λ client. client.script) given.clients

abbrev pub has_few_threads : App → Bool
has_few_threads app = nat_le (length app.threads) 4

unfoldable pub has_few_parts : Given → Bool
has_few_parts given = nat_le (length given.apps) most_apps && (list_all has_few_threads given.apps && nat_le (length given.clients) most_clients)

unfoldable pub are_few_commands : List (List Command) → Bool
are_few_commands scripts = list_all (list_all has_lawful_registers) scripts && (nat_le (sum_by length scripts) most_commands && nat_le (sum_by payload_of_script scripts) most_payload)

abbrev pub fits : Given → Bool
fits given = has_few_parts given && are_few_commands (scripts_in given)

-- the lines of a repeat count at its `end`
unfoldable pub passes_limit : List Line → Bool
passes_limit above = not (in_repeat above) && not (fits (given above))

unfoldable pub closes : Line → Bool
closes line = list_all is_text_byte line.text && is_end line.word && no_more line.arguments

-- a repeat that none of the lines below ends
abbrev pub stays_open : Line → List Line → Bool
stays_open line below = is_repeat line.word && not (list_any closes below)

-- the first fault of a line between the header and the turns
unfoldable pub word_fault : List Line → Line → List Line → Option SceneKind
word_fault above line below = if is_none line.word then Some UnknownWord
    else if not (may_stand above line.word) then Some OutOfPlace
    else if not (are_words line.word line.arguments) then Some BadWords
    else if not (is_manifest (given above) line.word line) then Some BadManifest
    else if takes_names (given above) line.word line then Some NameTaken
    else if passes_limit (line ∷ above) then Some TooMany
    else if stays_open line below then Some OpenRepeat
    else None

unfoldable pub header_fault : Line → Option SceneKind
header_fault line = if not (is_header (words_of line.text)) then Some NoHeader else None

unfoldable pub turn_fault : Line → Option SceneKind
turn_fault line = if not (is_ok (with_turns [] (words_of line.text))) then Some BadWords else None

-- the first fault of a line, between those above it and those below
unfoldable pub fault_of : List Line → Line → List Line → Option SceneKind
fault_of above line below = if not (list_all is_text_byte line.text) then Some BadByte
    else if is_empty above then header_fault line
    else if after_turns above then turn_fault line
    else word_fault above line below

-- ---- the whole text

unfoldable pub whole : List Line → Result SceneValue SceneFault
whole above = if is_empty above then Err (record { kind = NoHeader; line = 0 }) else Ok (scene_given (given above))

-- the scene of all lines, or the fault of the first line that has one
unfoldable pub told : List Line → List Line → Result SceneValue SceneFault
told above [] = whole above
told above (line ∷ below) = elim (fault_of above line below) as (λ _. Result SceneValue SceneFault) [
  | Some kind ↦ Err (record { kind = kind; line = line.number })
  | None ↦ told (line ∷ above) below
]

unfoldable pub scene_of : List ℕ → Result SceneValue SceneFault
scene_of bytes = told [] (numbered 1 (lines_of bytes))
