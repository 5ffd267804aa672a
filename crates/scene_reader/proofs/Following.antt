-- What the reader holds between two lines, told by the lines above.
use Rattle.std.proofs.Common.{◌≡◌, ℕ, suc, Bool, true, false, ◌&&◌, ◌⊎◌, inl, inr, List, [], ◌∷◌, ◌++◌, length, map, Some, Ok, refl, sym, ap, ◌∙◌}
use Rattle.std.specs.List.{list_all}
use Rattle.std.proofs.lemmas.Bool.{false≢true}
use Rattle.std.proofs.lemmas.List.{map_push}
use Rattle.kernel_values.specs.Commands.{has_lawful_registers}
use Rattle.kernel_values.specs.SceneLaw.{payload_of_script}
use Rattle.kernel_values.specs.declared.scene.App.{App}
use Rattle.kernel_values.specs.declared.scene.Manifest.{Manifest}
use Rattle.kernel_values.specs.declared.scene.Turn.{Turn}
use Rattle.kernel_values.specs.declared.script.Command.{Command}
use Rattle.script_lines.specs.declared.words.LineWord.TheVariants as of
use Rattle.script_lines.specs.declared.words.ScriptWord.TheVariants as script
use Rattle.scene_lines.specs.declared.reading.Place.TheVariants as place
use Rattle.scene_lines.specs.declared.reading.Registered.{Registered}
use Rattle.scene_lines.specs.declared.reading.Used.{Used}
use Rattle.scene_lines.specs.declared.reading.Reading.{Reading}
use Rattle.scene_lines.specs.Reading.{times_in, is_in_repeat, apps_with, clients_with, is_within}
use Rattle.scene_reader.specs.SceneText.{Line, in_none, in_app, in_thread, in_client, is_end, in_repeat, after_turns, standing, expanded_from, expanded, Given, with_line, given_by, given, some_threads, with_some_thread, is_empty, paths_in, scripts_in, has_few_parts, are_few_commands}
use Rattle.scene_reader.proofs.Expanding.{Body, turns_under, repeat_under}
use Rattle.scene_reader.proofs.Limits.{Uses}

-- what the whole scene has so far
pub record Agrees (found : Given) (before : Registered) (used : Used) : Type 0 where
  pub named : map (λ app. app.name) found.apps ≡ before.noted.names
  pub clients_named : map (λ client. client.name) found.clients ≡ before.noted.client_names
  pub published : paths_in found.apps ≡ before.noted.ports
  pub queue : found.queue ≡ before.noted.queue
  pub turns : found.turns ≡ []
  pub uses : Uses (scripts_in found) used
  pub few_parts : has_few_parts found ≡ true
  pub few_commands : are_few_commands (scripts_in found) ≡ true

-- outside of repeats and before the turns
pub record Between (above : List Line) (before : Registered) (used : Used) : Type 0 where
  pub some : is_empty above ≡ false
  pub no_repeat : in_repeat above ≡ false
  pub no_turns : after_turns above ≡ false
  pub none_expanded : after_turns (expanded above) ≡ false
  pub agrees : Agrees (given above) before used

pub record InNone (above : List Line) (before : Registered) (used : Used) : Type 0 where
  pub between : Between above before used
  pub stands : standing above ≡ in_none
  pub apps : map with_some_thread (given above).apps ≡ before.apps
  pub clients : (given above).clients ≡ before.clients

pub record InApp (above : List Line) (before : Registered) (used : Used) (name : List ℕ) (manifest : Manifest) : Type 0 where
  pub between : Between above before used
  pub stands : standing above ≡ in_app
  pub earlier : List App
  pub apps : (given above).apps ≡ earlier ++ record { name = name; manifest = manifest; threads = [] } ∷ []
  pub settled : map with_some_thread earlier ≡ before.apps
  pub clients : (given above).clients ≡ before.clients

pub record InThread (above : List Line) (before : Registered) (used : Used) (name : List ℕ) (manifest : Manifest) (threads : List (List Command)) (script : List Command) (names : List (List ℕ)) : Type 0 where
  pub between : Between above before used
  pub stands : standing above ≡ in_thread
  pub earlier : List App
  pub apps : (given above).apps ≡ earlier ++ record { name = name; manifest = manifest; threads = threads ++ script ∷ [] } ∷ []
  pub settled : map with_some_thread earlier ≡ before.apps
  pub clients : (given above).clients ≡ before.clients
  pub registers : (given above).names ≡ names

pub record InClient (above : List Line) (before : Registered) (used : Used) (name : List ℕ) (script : List Command) (names : List (List ℕ)) : Type 0 where
  pub between : Between above before used
  pub stands : standing above ≡ in_client
  pub apps : map with_some_thread (given above).apps ≡ before.apps
  pub clients : (given above).clients ≡ before.clients ++ record { name = name; script = script } ∷ []
  pub registers : (given above).names ≡ names

-- commands that pass no limit, where there is nothing else
unfoldable pub fit_alone : List Command → Bool
fit_alone commands = list_all has_lawful_registers commands && is_within (record { commands = length commands; payload = payload_of_script commands })

-- the lines of an open repeat, below those above its `repeat`
pub record Opened (of_thread : Bool) (above outer : List Line) (times at : ℕ) (names : List (List ℕ)) (commands : List Command) (named : List (List ℕ)) : Type 0 where
  pub body : List Line
  pub opening : Line
  pub is : above ≡ body ++ opening ∷ outer
  pub opens : opening.word ≡ Some (of.Script script.Repeat)
  pub told : times_in opening.arguments ≡ Ok (suc times)
  pub numbered : opening.number ≡ at
  pub lines : Body of_thread names body commands named

-- after the last line
pub record InTurns (above : List Line) (before : Registered) (turns : List Turn) : Type 0 where
  pub some : is_empty above ≡ false
  pub turned : after_turns above ≡ true
  pub turned_expanded : after_turns (expanded above) ≡ true
  pub apps : map with_some_thread (given above).apps ≡ before.apps
  pub clients : (given above).clients ≡ before.clients
  pub queue : (given above).queue ≡ before.noted.queue
  pub turns_are : (given above).turns ≡ turns

pub data Follows (above : List Line) : Reading → Type 0 where
  outside : (before : Registered) (used : Used) → InNone above before used → Follows above (record { place = place.Outside; before = before; used = used })
  of_app : (before : Registered) (used : Used) (name : List ℕ) (manifest : Manifest) → InApp above before used name manifest
      → Follows above (record { place = place.App (record { name = name; manifest = manifest; threads = []; script = []; names = []; has_thread = false }); before = before; used = used })
  of_thread : (before : Registered) (used : Used) (name : List ℕ) (manifest : Manifest) (threads : List (List Command)) (script : List Command) (names : List (List ℕ)) → InThread above before used name manifest threads script names
      → Follows above (record { place = place.App (record { name = name; manifest = manifest; threads = threads; script = script; names = names; has_thread = true }); before = before; used = used })
  of_client : (before : Registered) (used : Used) (name : List ℕ) (script : List Command) (names : List (List ℕ)) → InClient above before used name script names
      → Follows above (record { place = place.Client (record { name = name; script = script; names = names }); before = before; used = used })
  in_lines : (before : Registered) (used : Used) (name : List ℕ) (manifest : Manifest) (threads : List (List Command)) (script : List Command) (names : List (List ℕ)) (outer : List Line) (times at : ℕ) (commands : List Command) (named : List (List ℕ)) (payload : ℕ)
      → InThread outer before used name manifest threads script names → Opened true above outer times at names commands named → list_all has_lawful_registers commands ≡ true → payload_of_script commands ≡ payload
      → Follows above (record { place = place.Repeat (record { name = name; manifest = manifest; threads = threads; script = script; names = named; has_thread = true }) (record { line = at; times = suc times; body = commands; payload = payload; is_past = false }); before = before; used = used })
  in_lines_past : (before : Registered) (used : Used) (name : List ℕ) (manifest : Manifest) (threads : List (List Command)) (script : List Command) (names : List (List ℕ)) (outer : List Line) (times at : ℕ) (commands : List Command) (named known : List (List ℕ)) (kept : List Command) (payload : ℕ)
      → InThread outer before used name manifest threads script names → Opened true above outer times at names commands named → fit_alone commands ≡ false
      → Follows above (record { place = place.Repeat (record { name = name; manifest = manifest; threads = threads; script = script; names = known; has_thread = true }) (record { line = at; times = suc times; body = kept; payload = payload; is_past = true }); before = before; used = used })
  in_client_lines : (before : Registered) (used : Used) (name : List ℕ) (script : List Command) (names : List (List ℕ)) (outer : List Line) (times at : ℕ) (commands : List Command) (named : List (List ℕ)) (payload : ℕ)
      → InClient outer before used name script names → Opened false above outer times at names commands named → list_all has_lawful_registers commands ≡ true → payload_of_script commands ≡ payload
      → Follows above (record { place = place.ClientRepeat (record { name = name; script = script; names = named }) (record { line = at; times = suc times; body = commands; payload = payload; is_past = false }); before = before; used = used })
  in_client_lines_past : (before : Registered) (used : Used) (name : List ℕ) (script : List Command) (names : List (List ℕ)) (outer : List Line) (times at : ℕ) (commands : List Command) (named known : List (List ℕ)) (kept : List Command) (payload : ℕ)
      → InClient outer before used name script names → Opened false above outer times at names commands named → fit_alone commands ≡ false
      → Follows above (record { place = place.ClientRepeat (record { name = name; script = script; names = known }) (record { line = at; times = suc times; body = kept; payload = payload; is_past = true }); before = before; used = used })
  turning : (before : Registered) (used : Used) (turns : List Turn) → InTurns above before turns → Follows above (record { place = place.Turns turns; before = before; used = used })

-- ---- what all of them have in common

-- a line that is no `end`
pub given_with : (above : List Line) (line : Line) → is_end line.word ≡ false → after_turns (expanded above) ≡ false → given (line ∷ above) ≡ with_line line.word line (given above)
unfolding given expanded_from given_by
given_with above line no_end quiet = rw (no_end, quiet) refl

pub expanded_with : (above : List Line) (line : Line) → is_end line.word ≡ false → expanded (line ∷ above) ≡ line ∷ expanded above
unfolding expanded_from
expanded_with above line no_end = rw no_end refl

-- the last application or client as it stands in the scene
pub record Settles (above : List Line) (r : Reading) : Type 0 where
  pub between : Between above r.before r.used
  pub apps : apps_with r.before.apps r.place ≡ map with_some_thread (given above).apps
  pub clients : clients_with r.before.clients r.place ≡ (given above).clients
  pub out : is_in_repeat r.place ≡ false

-- in a repeat
pub record Repeats (above : List Line) (r : Reading) : Type 0 where
  pub place : is_in_repeat r.place ≡ true
  pub open_yet : in_repeat above ≡ true
  pub some : is_empty above ≡ false
  pub no_turns : after_turns above ≡ false

opens_repeat : (line : Line) (outer : List Line) → line.word ≡ Some (of.Script script.Repeat) → in_repeat (line ∷ outer) ≡ true
unfolding in_repeat
opens_repeat line outer e = rw e refl

opens_quiet : (line : Line) (outer : List Line) → line.word ≡ Some (of.Script script.Repeat) → after_turns outer ≡ false → after_turns (line ∷ outer) ≡ false
unfolding after_turns
opens_quiet line outer e quiet = rw e quiet

not_empty : (body : List Line) (line : Line) (outer : List Line) → is_empty (body ++ line ∷ outer) ≡ false
not_empty [] line outer = refl
not_empty (first ∷ body) line outer = refl

opened_repeats : (threaded : Bool) (above outer : List Line) (times at : ℕ) (names : List (List ℕ)) (commands : List Command) (named : List (List ℕ)) → Opened threaded above outer times at names commands named → after_turns outer ≡ false
    → record { open_yet : in_repeat above ≡ true; some : is_empty above ≡ false; no_turns : after_turns above ≡ false }
opened_repeats threaded above outer times at names commands named h quiet =
    let below = h.opening ∷ outer in
    record {
      open_yet = ap in_repeat h.is ∙ repeat_under threaded names h.body commands named below h.lines ∙ opens_repeat h.opening outer h.opens;
      some = ap is_empty h.is ∙ not_empty h.body h.opening outer;
      no_turns = ap after_turns h.is ∙ turns_under threaded names h.body commands named below h.lines ∙ opens_quiet h.opening outer h.opens quiet;
    }

repeats_by : (threaded : Bool) (above outer : List Line) (times at : ℕ) (names : List (List ℕ)) (commands : List Command) (named : List (List ℕ)) (r : Reading) → Opened threaded above outer times at names commands named → after_turns outer ≡ false → is_in_repeat r.place ≡ true → Repeats above r
repeats_by threaded above outer times at names commands named r h quiet is =
    let o = opened_repeats threaded above outer times at names commands named h quiet in
    record { place = is; open_yet = o.open_yet; some = o.some; no_turns = o.no_turns }

threads_there : (threads : List (List Command)) (script : List Command) → some_threads (threads ++ script ∷ []) ≡ threads ++ script ∷ []
threads_there [] script = refl
threads_there (first ∷ threads) script = refl

last_settled : (earlier : List App) (app : App) (apps all : List App) → all ≡ earlier ++ app ∷ [] → map with_some_thread earlier ≡ apps → apps ++ with_some_thread app ∷ [] ≡ map with_some_thread all
last_settled earlier app apps all is settled = sym (ap (map with_some_thread) is ∙ map_push with_some_thread earlier app ∙ ap (λ found. found ++ with_some_thread app ∷ []) settled)

pub seen : (above : List Line) (r : Reading) → Follows above r → after_turns above ≡ false → Settles above r ⊎ Repeats above r
seen above r (outside before used h) quiet = inl (record { between = h.between; apps = sym h.apps; clients = sym h.clients; out = refl })
seen above r (of_app before used name manifest h) quiet =
    inl (record { between = h.between; apps = last_settled h.earlier (record { name = name; manifest = manifest; threads = [] }) before.apps (given above).apps h.apps h.settled; clients = sym h.clients; out = refl })
seen above r (of_thread before used name manifest threads script names h) quiet =
    let app : App = record { name = name; manifest = manifest; threads = threads ++ script ∷ [] } in
    let whole : with_some_thread app ≡ app = ap (λ found. record app { threads = found }) (threads_there threads script) in
    inl (record { between = h.between; apps = ap (λ found. before.apps ++ found ∷ []) (sym whole) ∙ last_settled h.earlier app before.apps (given above).apps h.apps h.settled; clients = sym h.clients; out = refl })
seen above r (of_client before used name script names h) quiet = inl (record { between = h.between; apps = sym h.apps; clients = sym h.clients; out = refl })
seen above r (in_lines before used name manifest threads script names outer times at commands named payload h o lawful load) quiet = inr (repeats_by true above outer times at names commands named r o h.between.no_turns refl)
seen above r (in_lines_past before used name manifest threads script names outer times at commands named known kept payload h o past) quiet = inr (repeats_by true above outer times at names commands named r o h.between.no_turns refl)
seen above r (in_client_lines before used name script names outer times at commands named payload h o lawful load) quiet = inr (repeats_by false above outer times at names commands named r o h.between.no_turns refl)
seen above r (in_client_lines_past before used name script names outer times at commands named known kept payload h o past) quiet = inr (repeats_by false above outer times at names commands named r o h.between.no_turns refl)
seen above r (turning before used turns h) quiet = absurd (false≢true (sym quiet ∙ h.turned))
