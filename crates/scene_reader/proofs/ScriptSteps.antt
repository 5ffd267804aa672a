-- Lines of scripts: what each does to the reader is what the definition says of it.
use Rattle.std.proofs.Common.{◌≡◌, ℕ, ◌+◌, Bool, true, false, not, ◌&&◌, inl, inr, cond, List, [], ◌∷◌, ◌++◌, length, map, Option, None, Result, Ok, Err, refl, sym, ap, subst, ◌∙◌, arith}
use Rattle.std.specs.Prelude.{nat_lt, nat_le}
use Rattle.std.specs.List.{flat_map, list_all}
use Rattle.std.specs.Result.{is_ok}
use Rattle.std.proofs.lemmas.Bool.{false≢true, le-leb, lt-ltb, leb-true, ltb-true}
use Rattle.std.proofs.lemmas.List.{length-append, map_push}
use Rattle.std.proofs.lemmas.List.Folds.{list_all-append}
use Rattle.kernel_values.specs.Commands.{has_lawful_registers}
use Rattle.kernel_values.specs.Calls.{payload_of}
use Rattle.kernel_values.specs.SceneLaw.{payload_of_script}
use Rattle.kernel_values.specs.declared.scene.App.{App}
use Rattle.kernel_values.specs.declared.scene.Client.{Client}
use Rattle.kernel_values.specs.declared.scene.Manifest.{Manifest}
use Rattle.kernel_values.specs.declared.script.Command.{Command}
use Rattle.script_lines.specs.declared.fault.SceneKind.{SceneKind}
use Rattle.script_lines.specs.declared.fault.SceneKind.TheVariants.{BadWords, TooMany}
use Rattle.script_lines.specs.declared.words.LineWord.TheVariants as of
use Rattle.script_lines.specs.declared.words.ScriptWord.{ScriptWord}
use Rattle.script_lines.specs.declared.words.ScriptWord.TheVariants as says
use Rattle.script_lines.specs.declared.words.CallWord.{CallWord}
use Rattle.script_lines.specs.declared.words.ClientWord.{ClientWord}
use Rattle.script_lines.specs.Calls.{command_line}
use Rattle.script_lines.specs.ClientCalls.{client_command_line}
use Rattle.scene_lines.specs.declared.reading.OpenApp.{OpenApp}
use Rattle.scene_lines.specs.declared.reading.OpenClient.{OpenClient}
use Rattle.scene_lines.specs.declared.reading.Place.{Place}
use Rattle.scene_lines.specs.declared.reading.Place.TheVariants as place
use Rattle.scene_lines.specs.declared.reading.Registered.{Registered}
use Rattle.scene_lines.specs.declared.reading.Used.{Used}
use Rattle.scene_lines.specs.declared.reading.Reading.{Reading}
use Rattle.scene_lines.specs.Reading.{no_more, is_in_repeat, is_within, with_used, most_apps, after_command, with_command, app_line, with_client_command, client_line, next_thread, thread_act}
use Rattle.script_lines.proofs.Bytes.{and_true}
use Rattle.scene_reader.specs.SceneText.{Line, in_repeat, after_turns, standing, Given, on_last, with_thread, with_line, given, scripts_in, has_few_parts, has_few_threads, are_few_commands, fits, passes_limit, word_fault, with_some_thread}
use Rattle.scene_reader.proofs.Stable.{OneFate, any_names, any_client_names}
use Rattle.scene_reader.proofs.Expanding.{on_last_is, behind_app, behind_client, spoken, gives_command}
use Rattle.scene_reader.proofs.Limits.{agree, Uses, and_right, uses_empty, few_empty, uses_more, few_more, at_thread, at_threads, at_client}
use Rattle.scene_reader.proofs.Following.{Agrees, Between, InThread, InClient, Follows, outside, of_app, of_thread, of_client, in_lines, in_lines_past, in_client_lines, in_client_lines_past, turning, given_with, seen}
use Rattle.scene_reader.proofs.PartSteps.{Tells, choose_not, OnlyErr, after_ok, carried, line_with, between_with, passes_is}

-- ---- threads

-- another last application, with as many others
pub parts_changed : (found : Given) (earlier : List App) (old new : App) (names : List (List ℕ)) → has_few_parts found ≡ true → found.apps ≡ earlier ++ old ∷ [] → has_few_parts (record found { apps = earlier ++ new ∷ []; names = names }) ≡ has_few_threads new
unfolding has_few_parts
parts_changed found earlier old new names h is =
    let parts = and_true (nat_le (length found.apps) most_apps) _ h in
    let others = and_true (list_all has_few_threads found.apps) _ parts.1 in
    let count : length (earlier ++ new ∷ []) ≡ length found.apps = length-append earlier (new ∷ []) ∙ sym (length-append earlier (old ∷ [])) ∙ ap length (sym is) in
    let few = and_true (list_all has_few_threads earlier) (list_all has_few_threads (old ∷ [])) (sym (list_all-append has_few_threads earlier (old ∷ [])) ∙ ap (list_all has_few_threads) (sym is) ∙ others.0) in
    rw (count, parts.0, list_all-append has_few_threads earlier (new ∷ []), few.0, others.1) (and_right _ ∙ and_right (has_few_threads new))

abbrev longer_app : App → App
longer_app app = record app { threads = app.threads ++ [] ∷ [] }

thread_given : (found : Given) (earlier : List App) (last : App) → found.apps ≡ earlier ++ last ∷ [] → with_thread found ≡ record found { apps = earlier ++ longer_app last ∷ []; names = [] }
thread_given found earlier last is = ap (λ apps. record found { apps = apps; names = [] }) (ap (on_last longer_app) is ∙ on_last_is longer_app earlier last)

abbrev thread_of : Given → List App → App → Given
thread_of found earlier last = record found { apps = earlier ++ longer_app last ∷ []; names = [] }

thread_scripts : (found : Given) (earlier : List App) (last : App) → scripts_in (thread_of found earlier last) ≡ (flat_map (λ app. app.threads) earlier ++ last.threads) ++ [] ∷ map (λ client. client.script) found.clients
thread_scripts found earlier last = at_thread earlier (longer_app last) found.clients last.threads [] refl

scripts_found : (found : Given) (earlier : List App) (last : App) → found.apps ≡ earlier ++ last ∷ [] → scripts_in found ≡ (flat_map (λ app. app.threads) earlier ++ last.threads) ++ map (λ client. client.script) found.clients
scripts_found found earlier last is = ap (λ apps. flat_map (λ app. app.threads) apps ++ map (λ client. client.script) found.clients) is ∙ at_threads earlier last found.clients

same_apps : {B : Type 0} (f : App → B) (earlier : List App) (old new : App) → f old ≡ f new → map f (earlier ++ old ∷ []) ≡ map f (earlier ++ new ∷ [])
same_apps f earlier old new e = map_push f earlier old ∙ ap (λ last. map f earlier ++ last ∷ []) e ∙ sym (map_push f earlier new)

same_paths : (earlier : List App) (old new : App) → old.manifest ≡ new.manifest → flat_map (λ app. map (λ port. port.path) app.manifest.ports) (earlier ++ old ∷ []) ≡ flat_map (λ app. map (λ port. port.path) app.manifest.ports) (earlier ++ new ∷ [])
same_paths [] old new e = ap (λ manifest. map (λ port. port.path) manifest.ports ++ []) e
same_paths (app ∷ earlier) old new e = ap (λ rest. map (λ port. port.path) app.manifest.ports ++ rest) (same_paths earlier old new e)

thread_agrees : (found : Given) (before : Registered) (used : Used) (earlier : List App) (last : App) → Agrees found before used → found.apps ≡ earlier ++ last ∷ [] → has_few_threads (longer_app last) ≡ true → Agrees (thread_of found earlier last) before used
thread_agrees found before used earlier last h is few = record {
  named = same_apps (λ app. app.name) earlier (longer_app last) last refl ∙ ap (map (λ app. app.name)) (sym is) ∙ h.named;
  clients_named = h.clients_named;
  published = same_paths earlier (longer_app last) last refl ∙ ap (flat_map (λ app. map (λ port. port.path) app.manifest.ports)) (sym is) ∙ h.published;
  queue = h.queue;
  turns = h.turns;
  uses = subst (λ all. Uses all used) (sym (thread_scripts found earlier last)) (uses_empty _ _ used (subst (λ all. Uses all used) (scripts_found found earlier last is) h.uses));
  few_parts = parts_changed found earlier last (longer_app last) [] h.few_parts is ∙ few;
  few_commands = ap are_few_commands (thread_scripts found earlier last) ∙ few_empty _ _ ∙ ap are_few_commands (sym (scripts_found found earlier last is)) ∙ h.few_commands;
}

thread_fits : (found : Given) (before : Registered) (used : Used) (earlier : List App) (last : App) → Agrees found before used → found.apps ≡ earlier ++ last ∷ [] → fits (thread_of found earlier last) ≡ has_few_threads (longer_app last)
thread_fits found before used earlier last h is =
    let commands : are_few_commands (scripts_in (thread_of found earlier last)) ≡ true = ap are_few_commands (thread_scripts found earlier last) ∙ few_empty _ _ ∙ ap are_few_commands (sym (scripts_found found earlier last is)) ∙ h.few_commands in
    rw (parts_changed found earlier last (longer_app last) [] h.few_parts is, commands) (and_right (has_few_threads (longer_app last)))

abbrev pub script_line : ℕ → List ℕ → ScriptWord → List (List ℕ) → Line
script_line number text word words = line_with number text (of.Script word) words

-- one thread more of the last application
thread_goes : (above : List Line) (before : Registered) (used : Used) (number : ℕ) (text : List ℕ) (words : List (List ℕ)) (name : List ℕ) (manifest : Manifest) (earlier : List App) (threads : List (List Command))
    → Between above before used → (given above).apps ≡ earlier ++ record { name = name; manifest = manifest; threads = threads } ∷ [] → map with_some_thread earlier ≡ before.apps → (given above).clients ≡ before.clients → has_few_threads (longer_app (record { name = name; manifest = manifest; threads = threads })) ≡ true
    → InThread (script_line number text says.Thread words ∷ above) before used name manifest threads [] []
unfolding standing
thread_goes above before used number text words name manifest earlier threads h is settled clients few =
    let line = script_line number text says.Thread words in
    let last : App = record { name = name; manifest = manifest; threads = threads } in
    let made = thread_given (given above) earlier last is in
    let found : given (line ∷ above) ≡ thread_of (given above) earlier last = given_with above line refl h.none_expanded ∙ made in
    record {
      between = between_with above line before before used used h refl refl refl (subst (λ g. Agrees g before used) (sym made) (thread_agrees (given above) before used earlier last h.agrees is few));
      stands = refl;
      earlier = earlier;
      apps = ap (λ g. g.apps) found;
      settled = settled;
      clients = ap (λ g. g.clients) found ∙ clients;
      registers = ap (λ g. g.names) found;
    }

thread_passes : (above : List Line) (before : Registered) (used : Used) (number : ℕ) (text : List ℕ) (words : List (List ℕ)) (earlier : List App) (last : App) → Between above before used → (given above).apps ≡ earlier ++ last ∷ []
    → passes_limit (script_line number text says.Thread words ∷ above) ≡ not (has_few_threads (longer_app last))
thread_passes above before used number text words earlier last h is =
    passes_is above (script_line number text says.Thread words) before used h refl refl ∙ ap (λ found. not (fits found)) (thread_given (given above) earlier last is) ∙ ap not (thread_fits (given above) before used earlier last h.agrees is)

four : (threads : List (List Command)) (script : List Command) → nat_le (length ((threads ++ script ∷ []) ++ [] ∷ [])) 4 ≡ nat_lt (length threads) 3
four threads script =
    let count : length ((threads ++ script ∷ []) ++ [] ∷ []) ≡ length threads + 2 = omega (arith, length-append (threads ++ script ∷ []) ([] ∷ []), length-append threads (script ∷ [])) in
    agree _ _ (λ h. lt-ltb (length threads) 3 (omega (arith, count, leb-true _ 4 h))) (λ h. le-leb _ 4 (omega (arith, count, ltb-true (length threads) 3 h)))

abbrev pub PlaceTells : List Line → Line → Option SceneKind → Option SceneKind → Registered → Used → Result Place SceneKind → Type 0
PlaceTells above line fault last before used rule = Tells fault last (λ next. Follows (line ∷ above) (record { place = next; before = before; used = used })) rule

-- in a repeat, where the reader says so
pub within_lines : (above : List Line) (r : Reading) → Follows above r → after_turns above ≡ false → is_in_repeat r.place ≡ true → in_repeat above ≡ true
within_lines above r follows quiet is = elim (seen above r follows quiet) [
  | inl settles ↦ absurd (false≢true (sym settles.out ∙ is))
  | inr repeats ↦ repeats.open_yet
]

pub thread_steps : (above below : List Line) (r : Reading) (number : ℕ) (text : List ℕ) (words : List (List ℕ)) → Follows above r → after_turns above ≡ false
    → PlaceTells above (script_line number text says.Thread words) (word_fault above (script_line number text says.Thread words) below) None r.before r.used (thread_act r.place words)
unfolding thread_act next_thread word_fault
thread_steps above below r number text words (outside before used h) quiet = rw (h.between.no_repeat, h.stands) refl
thread_steps above below r number text words (of_app before used name manifest h) quiet =
    let last : App = record { name = name; manifest = manifest; threads = [] } in
    rw (h.between.no_repeat, h.stands, thread_passes above before used number text words h.earlier last h.between h.apps) (choose_not (no_more words) _ _ _ _ _ _ refl (λ none. (
      refl,
      of_thread before used name manifest [] [] [] (thread_goes above before used number text words name manifest h.earlier [] h.between h.apps h.settled h.clients refl),
    )))
thread_steps above below r number text words (of_thread before used name manifest threads script names h) quiet =
    let last : App = record { name = name; manifest = manifest; threads = threads ++ script ∷ [] } in
    rw (h.between.no_repeat, h.stands, thread_passes above before used number text words h.earlier last h.between h.apps, four threads script) (choose_not (no_more words) _ _ _ _ _ _ refl (λ none.
    carried _ _ _ _ (cond (nat_lt (length threads) 3) (Ok (record { name = name; manifest = manifest; threads = threads ++ script ∷ []; script = []; names = []; has_thread = true })) (Err TooMany)) place.App
    (choose_not {A = OpenApp} (nat_lt (length threads) 3) _ _ _ (λ app. Follows (script_line number text says.Thread words ∷ above) (record { place = place.App app; before = before; used = used })) _ _ refl (λ few. (
      refl,
      of_thread before used name manifest (threads ++ script ∷ []) [] []
          (thread_goes above before used number text words name manifest h.earlier (threads ++ script ∷ []) h.between h.apps h.settled h.clients (four threads script ∙ few)),
    ))) (λ app follows. follows)))
thread_steps above below r number text words (of_client before used name script names h) quiet = rw (h.between.no_repeat, h.stands) refl
thread_steps above below r number text words (turning before used turns h) quiet = absurd (false≢true (sym quiet ∙ h.turned))
thread_steps above below r number text words (in_lines before used name manifest threads script names outer times at commands named payload h o lawful load) quiet = rw (within_lines above r (in_lines before used name manifest threads script names outer times at commands named payload h o lawful load) quiet refl) refl
thread_steps above below r number text words (in_lines_past before used name manifest threads script names outer times at commands named known kept payload h o past) quiet = rw (within_lines above r (in_lines_past before used name manifest threads script names outer times at commands named known kept payload h o past) quiet refl) refl
thread_steps above below r number text words (in_client_lines before used name script names outer times at commands named payload h o lawful load) quiet = rw (within_lines above r (in_client_lines before used name script names outer times at commands named payload h o lawful load) quiet refl) refl
thread_steps above below r number text words (in_client_lines_past before used name script names outer times at commands named known kept payload h o past) quiet = rw (within_lines above r (in_client_lines_past before used name script names outer times at commands named known kept payload h o past) quiet refl) refl

-- ---- commands behind the last script

abbrev pub Allows : Used → List Command → Bool
Allows used more = list_all has_lawful_registers more && is_within (with_used used (length more) (payload_of_script more))

pub record Speaks (before : Registered) (used : Used) (next : Given) (more : List Command) : Type 0 where
  pub fitting : fits next ≡ Allows used more
  pub agrees : Allows used more ≡ true → Agrees next before (with_used used (length more) (payload_of_script more))

abbrev pub app_with : List ℕ → Manifest → List (List Command) → App
app_with name manifest threads = record { name = name; manifest = manifest; threads = threads }

abbrev pub client_with : List ℕ → List Command → Client
client_with name script = record { name = name; script = script }

pub thread_spoken : (found : Given) (earlier : List App) (name : List ℕ) (manifest : Manifest) (threads : List (List Command)) (script more : List Command) (names : List (List ℕ)) → found.apps ≡ earlier ++ app_with name manifest (threads ++ script ∷ []) ∷ []
    → spoken true found more names ≡ record found { apps = earlier ++ app_with name manifest (threads ++ (script ++ more) ∷ []) ∷ []; names = names }
thread_spoken found earlier name manifest threads script more names is =
    ap (λ apps. record found { apps = apps; names = names }) (ap (on_last (behind_app more)) is ∙ on_last_is (behind_app more) earlier (app_with name manifest (threads ++ script ∷ []))
    ∙ ap (λ all. earlier ++ app_with name manifest all ∷ []) (on_last_is (λ commands. commands ++ more) threads script))

old_few : (found : Given) (earlier : List App) (old : App) → has_few_parts found ≡ true → found.apps ≡ earlier ++ old ∷ [] → has_few_threads old ≡ true
unfolding has_few_parts
old_few found earlier old h is =
    let parts = and_true (nat_le (length found.apps) most_apps) _ h in
    let others = and_true (list_all has_few_threads found.apps) _ parts.1 in
    let last = and_true (list_all has_few_threads earlier) (list_all has_few_threads (old ∷ [])) (sym (list_all-append has_few_threads earlier (old ∷ [])) ∙ ap (list_all has_few_threads) (sym is) ∙ others.0) in
    (and_true (has_few_threads old) true last.1).0

pub thread_speaks : (found : Given) (before : Registered) (used : Used) (earlier : List App) (name : List ℕ) (manifest : Manifest) (threads : List (List Command)) (script more : List Command) (names : List (List ℕ)) → Agrees found before used → found.apps ≡ earlier ++ app_with name manifest (threads ++ script ∷ []) ∷ []
    → Speaks before used (record found { apps = earlier ++ app_with name manifest (threads ++ (script ++ more) ∷ []) ∷ []; names = names }) more
thread_speaks found before used earlier name manifest threads script more names h is =
    let old = app_with name manifest (threads ++ script ∷ []) in
    let new = app_with name manifest (threads ++ (script ++ more) ∷ []) in
    let next : Given = record found { apps = earlier ++ new ∷ []; names = names } in
    let front = flat_map (λ app. app.threads) earlier ++ threads in
    let back = map (λ client. client.script) found.clients in
    let before_it : scripts_in found ≡ front ++ script ∷ back = ap (λ apps. flat_map (λ app. app.threads) apps ++ back) is ∙ at_thread earlier old found.clients threads script refl in
    let after_it : scripts_in next ≡ front ++ (script ++ more) ∷ back = at_thread earlier new found.clients threads (script ++ more) refl in
    let same : length (threads ++ (script ++ more) ∷ []) ≡ length (threads ++ script ∷ []) = length-append threads ((script ++ more) ∷ []) ∙ sym (length-append threads (script ∷ [])) in
    let parts : has_few_parts next ≡ true = parts_changed found earlier old new names h.few_parts is ∙ ap (λ n. nat_le n 4) same ∙ old_few found earlier old h.few_parts is in
    let uses = subst (λ all. Uses all used) before_it h.uses in
    let few : are_few_commands (scripts_in next) ≡ Allows used more = ap are_few_commands after_it ∙ few_more front back script more used (ap are_few_commands (sym before_it) ∙ h.few_commands) uses in
    record {
      fitting = rw (parts, few) refl;
      agrees = λ e. record {
        named = same_apps (λ app. app.name) earlier new old refl ∙ ap (map (λ app. app.name)) (sym is) ∙ h.named;
        clients_named = h.clients_named;
        published = same_paths earlier new old refl ∙ ap (flat_map (λ app. map (λ port. port.path) app.manifest.ports)) (sym is) ∙ h.published;
        queue = h.queue;
        turns = h.turns;
        uses = subst (λ all. Uses all (with_used used (length more) (payload_of_script more))) (sym after_it) (uses_more front back script more used uses);
        few_parts = parts;
        few_commands = few ∙ e;
      };
    }

pub client_spoken : (found : Given) (earlier : List Client) (name : List ℕ) (script more : List Command) (names : List (List ℕ)) → found.clients ≡ earlier ++ client_with name script ∷ [] → spoken false found more names ≡ record found { clients = earlier ++ client_with name (script ++ more) ∷ []; names = names }
client_spoken found earlier name script more names is = ap (λ clients. record found { clients = clients; names = names }) (ap (on_last (behind_client more)) is ∙ on_last_is (behind_client more) earlier (client_with name script))

client_parts : (found : Given) (earlier : List Client) (old new : Client) (names : List (List ℕ)) → found.clients ≡ earlier ++ old ∷ [] → has_few_parts (record found { clients = earlier ++ new ∷ []; names = names }) ≡ has_few_parts found
unfolding has_few_parts
client_parts found earlier old new names is =
    let same : length (earlier ++ new ∷ []) ≡ length found.clients = length-append earlier (new ∷ []) ∙ sym (length-append earlier (old ∷ [])) ∙ ap length (sym is) in
    rw same refl

pub client_speaks : (found : Given) (before : Registered) (used : Used) (earlier : List Client) (name : List ℕ) (script more : List Command) (names : List (List ℕ)) → Agrees found before used → found.clients ≡ earlier ++ client_with name script ∷ []
    → Speaks before used (record found { clients = earlier ++ client_with name (script ++ more) ∷ []; names = names }) more
client_speaks found before used earlier name script more names h is =
    let old = client_with name script in
    let new = client_with name (script ++ more) in
    let next : Given = record found { clients = earlier ++ new ∷ []; names = names } in
    let front = flat_map (λ app. app.threads) found.apps ++ map (λ client. client.script) earlier in
    let before_it : scripts_in found ≡ front ++ script ∷ [] = ap (λ clients. flat_map (λ app. app.threads) found.apps ++ map (λ client. client.script) clients) is ∙ at_client found.apps earlier old in
    let after_it : scripts_in next ≡ front ++ (script ++ more) ∷ [] = at_client found.apps earlier new in
    let parts : has_few_parts next ≡ true = client_parts found earlier old new names is ∙ h.few_parts in
    let uses = subst (λ all. Uses all used) before_it h.uses in
    let few : are_few_commands (scripts_in next) ≡ Allows used more = ap are_few_commands after_it ∙ few_more front [] script more used (ap are_few_commands (sym before_it) ∙ h.few_commands) uses in
    record {
      fitting = rw (parts, few) refl;
      agrees = λ e. record {
        named = h.named;
        clients_named = map_push (λ client. client.name) earlier new ∙ sym (map_push (λ client. client.name) earlier old) ∙ ap (map (λ client. client.name)) (sym is) ∙ h.clients_named;
        published = h.published;
        queue = h.queue;
        turns = h.turns;
        uses = subst (λ all. Uses all (with_used used (length more) (payload_of_script more))) (sym after_it) (uses_more front [] script more used uses);
        few_parts = parts;
        few_commands = few ∙ e;
      };
    }

-- one command
pub one_load : (command : Command) → payload_of_script (command ∷ []) ≡ payload_of command.call
one_load command = omega arith

pub one_allows : (used : Used) (command : Command) → Allows used (command ∷ []) ≡ (has_lawful_registers command && is_within (with_used used 1 (payload_of command.call)))
one_allows used command = rw (one_load command, and_right (has_lawful_registers command)) refl

-- a line's words are of their form with any names
pub fated_ok : (x y : Result (List (List ℕ) × Command) SceneKind) → OneFate x y → is_ok y ≡ is_ok x
fated_ok (Ok x) (Ok y) h = refl
fated_ok (Err x) (Err y) h = refl
fated_ok (Ok x) (Err y) h = absurd h
fated_ok (Err x) (Ok y) h = absurd h

pub fated_bad : (x y : Result (List (List ℕ) × Command) SceneKind) → OneFate x y → OnlyErr BadWords x
fated_bad (Ok x) y h = tt
fated_bad (Err x) (Err y) h = h.0
fated_bad (Err x) (Ok y) h = absurd h

abbrev pub ScriptTells : List Line → Line → Option SceneKind → Option SceneKind → Registered → Result (Used × Place) SceneKind → Type 0
ScriptTells above line fault last before rule = Tells fault last (λ next. Follows (line ∷ above) (record { place = next.1; before = before; used = next.0 })) rule

pub thread_line : (above below : List Line) (before : Registered) (used : Used) (name : List ℕ) (manifest : Manifest) (threads : List (List Command)) (script : List Command) (names : List (List ℕ)) (number : ℕ) (text : List ℕ) (word : CallWord) (words : List (List ℕ)) → InThread above before used name manifest threads script names
    → ScriptTells above (script_line number text (says.Call word) words) (word_fault above (script_line number text (says.Call word) words) below) None before (app_line used (record { name = name; manifest = manifest; threads = threads; script = script; names = names; has_thread = true }) word words)
unfolding app_line with_command after_command word_fault standing
thread_line above below before used name manifest threads script names number text word words h =
    let line = script_line number text (says.Call word) words in
    let fate = any_names names [] word words in
    rw (h.stands, fated_ok (command_line names word words) (command_line [] word words) fate) (after_ok BadWords (command_line names word words) _ _ _ _ (fated_bad _ _ fate) (λ read e.
    let next : Given = record (given above) { apps = h.earlier ++ app_with name manifest (threads ++ (script ++ read.1 ∷ []) ∷ []) ∷ []; names = read.0 } in
    let told : command_line (given above).names word words ≡ Ok read = rw h.registers e in
    let made : with_line line.word line (given above) ≡ next = gives_command true line.word line (given above) read told ∙ thread_spoken (given above) h.earlier name manifest threads script (read.1 ∷ []) read.0 h.apps in
    let speaks = thread_speaks (given above) before used h.earlier name manifest threads script (read.1 ∷ []) read.0 h.between.agrees h.apps in
    let test = has_lawful_registers read.1 && is_within (with_used used 1 (payload_of read.1.call)) in
    let passes : passes_limit (line ∷ above) ≡ not test = passes_is above line before used h.between refl refl ∙ ap (λ found. not (fits found)) made ∙ ap not (speaks.fitting ∙ one_allows used read.1) in
    let after : OpenApp = record { name = name; manifest = manifest; threads = threads; script = script ++ read.1 ∷ []; names = read.0; has_thread = true } in
    rw passes (carried _ _ (λ more. Follows (line ∷ above) (record { place = place.App after; before = before; used = more })) _ (cond test (Ok (with_used used 1 (payload_of read.1.call))) (Err TooMany)) (λ more. (more, place.App after))
    (choose_not test _ _ _ _ _ _ refl (λ lawful.
    let agrees = subst (λ load. Agrees next before (with_used used 1 load)) (one_load read.1) (speaks.agrees (one_allows used read.1 ∙ lawful)) in
    let found = given_with above line refl h.between.none_expanded ∙ made in (
      refl,
      of_thread before (with_used used 1 (payload_of read.1.call)) name manifest threads (script ++ read.1 ∷ []) read.0 (record {
        between = between_with above line before before used (with_used used 1 (payload_of read.1.call)) h.between refl refl refl (subst (λ g. Agrees g before (with_used used 1 (payload_of read.1.call))) (sym made) agrees);
        stands = h.stands;
        earlier = h.earlier;
        apps = ap (λ g. g.apps) found;
        settled = h.settled;
        clients = ap (λ g. g.clients) found ∙ h.clients;
        registers = ap (λ g. g.names) found;
      }),
    ))) (λ more follows. follows))))

pub client_script_line : (above below : List Line) (before : Registered) (used : Used) (name : List ℕ) (script : List Command) (names : List (List ℕ)) (number : ℕ) (text : List ℕ) (word : ClientWord) (words : List (List ℕ)) → InClient above before used name script names
    → ScriptTells above (script_line number text (says.ClientCall word) words) (word_fault above (script_line number text (says.ClientCall word) words) below) None before (client_line used (record { name = name; script = script; names = names }) word words)
unfolding client_line with_client_command after_command word_fault standing
client_script_line above below before used name script names number text word words h =
    let line = script_line number text (says.ClientCall word) words in
    let fate = any_client_names names [] word words in
    rw (h.stands, fated_ok (client_command_line names word words) (client_command_line [] word words) fate) (after_ok BadWords (client_command_line names word words) _ _ _ _ (fated_bad _ _ fate) (λ read e.
    let next : Given = record (given above) { clients = before.clients ++ client_with name (script ++ read.1 ∷ []) ∷ []; names = read.0 } in
    let told : client_command_line (given above).names word words ≡ Ok read = rw h.registers e in
    let made : with_line line.word line (given above) ≡ next = gives_command false line.word line (given above) read told ∙ client_spoken (given above) before.clients name script (read.1 ∷ []) read.0 h.clients in
    let speaks = client_speaks (given above) before used before.clients name script (read.1 ∷ []) read.0 h.between.agrees h.clients in
    let test = has_lawful_registers read.1 && is_within (with_used used 1 (payload_of read.1.call)) in
    let passes : passes_limit (line ∷ above) ≡ not test = passes_is above line before used h.between refl refl ∙ ap (λ found. not (fits found)) made ∙ ap not (speaks.fitting ∙ one_allows used read.1) in
    let after : OpenClient = record { name = name; script = script ++ read.1 ∷ []; names = read.0 } in
    rw passes (carried _ _ (λ more. Follows (line ∷ above) (record { place = place.Client after; before = before; used = more })) _ (cond test (Ok (with_used used 1 (payload_of read.1.call))) (Err TooMany)) (λ more. (more, place.Client after))
    (choose_not test _ _ _ _ _ _ refl (λ lawful.
    let agrees = subst (λ load. Agrees next before (with_used used 1 load)) (one_load read.1) (speaks.agrees (one_allows used read.1 ∙ lawful)) in
    let found = given_with above line refl h.between.none_expanded ∙ made in (
      refl,
      of_client before (with_used used 1 (payload_of read.1.call)) name (script ++ read.1 ∷ []) read.0 (record {
        between = between_with above line before before used (with_used used 1 (payload_of read.1.call)) h.between refl refl refl (subst (λ g. Agrees g before (with_used used 1 (payload_of read.1.call))) (sym made) agrees);
        stands = h.stands;
        apps = ap (λ g. map with_some_thread g.apps) found ∙ h.apps;
        clients = ap (λ g. g.clients) found;
        registers = ap (λ g. g.names) found;
      }),
    ))) (λ more follows. follows))))
