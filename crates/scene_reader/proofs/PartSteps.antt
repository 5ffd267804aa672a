-- Lines that a scene is made of: what each does to the reader is what the definition says of it.
use Rattle.std.proofs.Common.{◌≡◌, ℕ, ◌+◌, Bool, true, false, not, ◌&&◌, ◌||◌, cond, List, [], ◌∷◌, ◌++◌, length, map, Option, Some, None, Result, Ok, Err, refl, sym, ap, subst, ◌∙◌, append_assoc}
use Rattle.std.specs.Prelude.{nat_lt, nat_le}
use Rattle.std.specs.List.{flat_map, list_all}
use Rattle.std.specs.Result.{is_ok, result_unwrap_or}
use Rattle.std.specs.Option.{is_none}
use Rattle.std.proofs.lemmas.Bool.{false≢true}
use Rattle.std.proofs.lemmas.List.{append-nil, length-append, length-map, map_push}
use Rattle.std.proofs.lemmas.List.Concat.{flat_map-append}
use Rattle.std.proofs.lemmas.List.Folds.{list_all-append}
use Rattle.kernel_values.specs.Words.{is_name}
use Rattle.kernel_values.specs.SceneLaw.{is_queue_size}
use Rattle.kernel_values.specs.declared.scene.App.{App}
use Rattle.kernel_values.specs.declared.scene.Client.{Client}
use Rattle.kernel_values.specs.declared.scene.Manifest.{Manifest}
use Rattle.kernel_values.specs.declared.scene.StartPort.{StartPort}
use Rattle.script_lines.specs.declared.fault.SceneKind.{SceneKind}
use Rattle.script_lines.specs.declared.fault.SceneKind.TheVariants.{BadWords, BadManifest, NameTaken}
use Rattle.script_lines.specs.declared.words.LineWord.{LineWord}
use Rattle.script_lines.specs.declared.words.LineWord.TheVariants as of
use Rattle.script_lines.specs.declared.words.PartWord.TheVariants as part
use Rattle.script_lines.specs.Gives.{◌>>=◌}
use Rattle.script_lines.specs.Numbers.{number}
use Rattle.script_lines.specs.Texts.{after_two_words}
use Rattle.app_manifest.specs.Spelled.{manifest_text}
use Rattle.scene_lines.specs.declared.reading.Place.{Place}
use Rattle.scene_lines.specs.declared.reading.Place.TheVariants as place
use Rattle.scene_lines.specs.declared.reading.Registered.{Registered}
use Rattle.scene_lines.specs.declared.reading.Used.{Used}
use Rattle.scene_lines.specs.declared.reading.Reading.{Reading}
use Rattle.scene_lines.specs.Reading.{no_more, is_in_repeat, apps_with, clients_with, is_taken, is_named, with_ports, most_apps, most_clients, manifest_act, spelled_manifest, plain_manifest, new_app, with_app, described_app, named_app, app_act, new_client, with_client, client_name, named_client, client_act, queue_word, queue_in, queues_act, turns_act}
use Rattle.script_lines.proofs.Bytes.{and_true}
use Rattle.scene_reader.specs.SceneText.{Line, in_repeat, is_repeat, is_end, is_turns, after_turns, standing, expanded_from, expanded, Given, name_in, manifest_in, with_line, with_queue, given, is_empty, paths_in, is_name_taken, scripts_in, has_few_parts, has_few_threads, are_few_commands, fits, passes_limit, word_fault, with_some_thread}
use Rattle.scene_reader.proofs.Alike.{numbers, guarded, then_bad, OnlyBad}
use Rattle.scene_reader.proofs.Limits.{Uses, and_right, below_is, uses_empty, few_empty, at_threads, at_client}
use Rattle.scene_reader.proofs.Following.{Agrees, Between, Follows, outside, of_app, of_thread, of_client, turning, given_with, expanded_with, Settles}

-- ---- a rule beside the fault that the definition tells

-- where the rule gives a value, the fault is this one, and P holds of the value; else it is the rule's
abbrev pub Tells : {A : Type 0} → Option SceneKind → Option SceneKind → (A → Type 0) → Result A SceneKind → Type 0
Tells fault last P (Ok x) = (fault ≡ last) × P x
Tells fault last P (Err kind) = fault ≡ Some kind

pub choose : {A : Type 0} (test : Bool) (fault other last : Option SceneKind) (P : A → Type 0) (rule next : Result A SceneKind) → Tells fault last P rule → Tells other last P next → Tells (cond test fault other) last P (cond test rule next)
choose true fault other last P rule next h k = h
choose false fault other last P rule next h k = k

pub choose_not : {A : Type 0} (test : Bool) (fault other last : Option SceneKind) (P : A → Type 0) (rule next : Result A SceneKind) → Tells fault last P rule → (test ≡ true → Tells other last P next) → Tells (cond (not test) fault other) last P (cond test next rule)
choose_not true fault other last P rule next h k = k refl
choose_not false fault other last P rule next h k = h

pub either_way : {A : Type 0} (a b : Bool) (fault other last : Option SceneKind) (P : A → Type 0) (rule : Result A SceneKind) → Tells (cond a fault (cond b fault other)) last P rule → Tells (cond (a || b) fault other) last P rule
either_way true b fault other last P rule h = h
either_way false b fault other last P rule h = h

abbrev pub OnlyErr : {A : Type 0} → SceneKind → Result A SceneKind → Type 0
OnlyErr kind (Ok x) = Unit {0}
OnlyErr kind (Err other) = other ≡ kind

pub after_ok : {A B : Type 0} (kind : SceneKind) (x : Result A SceneKind) (f : A → Result B SceneKind) (fault last : Option SceneKind) (P : B → Type 0) → OnlyErr kind x → ((a : A) → x ≡ Ok a → Tells fault last P (f a))
    → Tells (cond (not (is_ok x)) (Some kind) fault) last P (x >>= f)
after_ok kind (Ok a) f fault last P only next = next a refl
after_ok kind (Err other) f fault last P only next = ap Some (sym only)

pub carried : {A B : Type 0} (fault last : Option SceneKind) (P : A → Type 0) (Q : B → Type 0) (x : Result A SceneKind) (f : A → B) → Tells fault last P x → ((a : A) → P a → Q (f a)) → Tells fault last Q (x >>= (λ a. Ok (f a)))
carried fault last P Q (Ok a) f h next = (h.0, next a h.1)
carried fault last P Q (Err kind) f h next = h

-- ---- a line that is told

abbrev pub line_with : ℕ → List ℕ → LineWord → List (List ℕ) → Line
line_with number text word words = record { number = number; text = text; word = Some word; arguments = words }

abbrev PartTells : List Line → Line → Option SceneKind → Used → Result (Registered × Place) SceneKind → Type 0
PartTells above line fault used rule = Tells fault None (λ next. Follows (line ∷ above) (record { place = next.1; before = next.0; used = used })) rule

-- a line that is no repeat, no `end` and no turns
pub between_with : (above : List Line) (line : Line) (before next : Registered) (used more : Used) → Between above before used → is_repeat line.word ≡ false → is_end line.word ≡ false → is_turns line.word ≡ false → Agrees (with_line line.word line (given above)) next more → Between (line ∷ above) next more
unfolding in_repeat after_turns expanded_from
between_with above line before next used more h no_repeat no_end no_turns agrees = record {
  some = refl;
  no_repeat = rw (no_repeat, no_end) h.no_repeat;
  no_turns = rw no_turns h.no_turns;
  none_expanded = rw (no_end, no_turns) h.none_expanded;
  agrees = subst (λ found. Agrees found next more) (sym (given_with above line no_end h.none_expanded)) agrees;
}

pub passes_is : (above : List Line) (line : Line) (before : Registered) (used : Used) → Between above before used → is_repeat line.word ≡ false → is_end line.word ≡ false → passes_limit (line ∷ above) ≡ not (fits (with_line line.word line (given above)))
unfolding passes_limit in_repeat
passes_is above line before used h no_repeat no_end = rw (no_repeat, no_end, h.no_repeat, given_with above line no_end h.none_expanded) refl

-- ---- clients

bad_name : (test : Bool) (name : List ℕ) → OnlyErr BadWords (cond test (Ok name) (Err BadWords))
bad_name true name = tt
bad_name false name = refl

client_names : (words : List (List ℕ)) → OnlyErr BadWords (client_name words)
unfolding client_name
client_names [] = refl
client_names (name ∷ []) = bad_name (is_name name) name
client_names (name ∷ other ∷ words) = refl

named_by : (test : Bool) (name found : List ℕ) → cond test (Ok name) (Err BadWords) ≡ Ok found → name ≡ found
named_by true name found e = cc
named_by false name found e = absurd cc

name_found : (words : List (List ℕ)) (name : List ℕ) → client_name words ≡ Ok name → name_in words ≡ name
unfolding client_name
name_found [] name e = absurd cc
name_found (first ∷ []) name e = named_by (is_name first) first name e
name_found (first ∷ other ∷ words) name e = absurd cc

same_names : (found : Given) (before : Registered) (used : Used) (name : List ℕ) → Agrees found before used → is_name_taken found name ≡ is_named before.noted name
same_names found before used name h = rw (h.named, h.clients_named) refl

abbrev new_app_of : List ℕ → Manifest → App
new_app_of name manifest = record { name = name; manifest = manifest; threads = [] }

abbrev new_client_of : List ℕ → Client
new_client_of name = record { name = name; script = [] }

abbrev client_given : Given → List ℕ → Given
client_given found name = record found { clients = found.clients ++ new_client_of name ∷ []; names = [] }

few_clients_more : (found : Given) (before : Registered) (used : Used) (name : List ℕ) → Agrees found before used → has_few_parts (client_given found name) ≡ nat_lt (length before.noted.client_names) most_clients
unfolding has_few_parts
few_clients_more found before used name h =
    let parts = and_true (nat_le (length found.apps) most_apps) _ h.few_parts in
    let threads = and_true (list_all has_few_threads found.apps) _ parts.1 in
    let count : length before.noted.client_names ≡ length found.clients = ap length (sym h.clients_named) ∙ length-map found.clients (λ client. client.name) in
    rw (parts.0, threads.0, length-append found.clients (new_client_of name ∷ []), count) (below_is (length found.clients) most_clients)

client_agrees : (found : Given) (before : Registered) (used : Used) (name : List ℕ) (apps : List App) (clients : List Client) → Agrees found before used → nat_lt (length before.noted.client_names) most_clients ≡ true
    → Agrees (client_given found name) (record { apps = apps; clients = clients; noted = record before.noted { client_names = before.noted.client_names ++ name ∷ [] } }) used
client_agrees found before used name apps clients h few =
    let scripts : scripts_in (client_given found name) ≡ scripts_in found ++ [] ∷ [] = at_client found.apps found.clients (new_client_of name) in
    record {
      named = h.named;
      clients_named = map_push (λ client. client.name) found.clients (new_client_of name) ∙ ap (λ names. names ++ name ∷ []) h.clients_named;
      published = h.published;
      queue = h.queue;
      turns = h.turns;
      uses = subst (λ all. Uses all used) (sym scripts) (uses_empty (scripts_in found) [] used (subst (λ all. Uses all used) (sym (append-nil (scripts_in found))) h.uses));
      few_parts = few_clients_more found before used name h ∙ few;
      few_commands = ap are_few_commands scripts ∙ few_empty (scripts_in found) [] ∙ ap are_few_commands (append-nil (scripts_in found)) ∙ h.few_commands;
    }

client_fits : (found : Given) (before : Registered) (used : Used) (name : List ℕ) → Agrees found before used → fits (client_given found name) ≡ nat_lt (length before.noted.client_names) most_clients
client_fits found before used name h =
    let scripts : scripts_in (client_given found name) ≡ scripts_in found ++ [] ∷ [] = at_client found.apps found.clients (new_client_of name) in
    let commands : are_few_commands (scripts_in (client_given found name)) ≡ true = ap are_few_commands scripts ∙ few_empty (scripts_in found) [] ∙ ap are_few_commands (append-nil (scripts_in found)) ∙ h.few_commands in
    rw (few_clients_more found before used name h, commands) (and_right (nat_lt (length before.noted.client_names) most_clients))

client_goes : (above : List Line) (r : Reading) (number : ℕ) (text : List ℕ) (words : List (List ℕ)) (name : List ℕ) → Settles above r → name_in words ≡ name → nat_lt (length r.before.noted.client_names) most_clients ≡ true
    → Follows (line_with number text (of.Part part.Client) words ∷ above) (record { place = new_client name; before = record { apps = apps_with r.before.apps r.place; clients = clients_with r.before.clients r.place; noted = record r.before.noted { client_names = r.before.noted.client_names ++ name ∷ [] } }; used = r.used })
unfolding standing
client_goes above r number text words name h is few =
    let line = line_with number text (of.Part part.Client) words in
    let apps = apps_with r.before.apps r.place in
    let clients = clients_with r.before.clients r.place in
    let found : given (line ∷ above) ≡ client_given (given above) name = given_with above line refl h.between.none_expanded ∙ ap (client_given (given above)) is in
    let agrees = client_agrees (given above) r.before r.used name apps clients h.between.agrees few in
    of_client _ _ name [] [] (record {
      between = between_with above line r.before _ r.used r.used h.between refl refl refl (rw is agrees);
      stands = refl;
      apps = ap (λ g. map with_some_thread g.apps) found ∙ sym h.apps;
      clients = ap (λ g. g.clients) found ∙ ap (λ all. all ++ new_client_of name ∷ []) (sym h.clients);
      registers = ap (λ g. g.names) found;
    })

pub client_steps : (above below : List Line) (r : Reading) (number : ℕ) (text : List ℕ) (words : List (List ℕ)) → Settles above r
    → PartTells above (line_with number text (of.Part part.Client) words) (word_fault above (line_with number text (of.Part part.Client) words) below) r.used (client_act r.before r.place words)
unfolding client_act named_client with_client word_fault
client_steps above below r number text words h =
    let line = line_with number text (of.Part part.Client) words in
    rw (h.out, h.between.no_repeat) (after_ok BadWords (client_name words) _ _ _ _ (client_names words) (λ name e.
    let is = name_found words name e in
    rw (is, same_names (given above) r.before r.used name h.between.agrees, passes_is above line r.before r.used h.between refl refl, is, client_fits (given above) r.before r.used name h.between.agrees)
    (choose (is_named r.before.noted name) _ _ _ _ _ _ refl (choose_not (nat_lt (length r.before.noted.client_names) most_clients) _ _ _ _ _ _ refl (λ few. (refl, client_goes above r number text words name h is few))))))

-- ---- applications

either_err : {A : Type 0} (kind : SceneKind) (test : Bool) (next : Result A SceneKind) → OnlyErr kind next → OnlyErr kind (cond test (Err kind) next)
either_err kind true next h = refl
either_err kind false next h = h

only_taken : (paths : List (List ℕ)) (ports : List StartPort) → OnlyErr NameTaken (with_ports paths ports)
unfolding with_ports
only_taken paths [] = tt
only_taken paths (port ∷ ports) = either_err NameTaken (is_taken paths port.path) _ (only_taken (paths ++ port.path ∷ []) ports)

past_guard : {A : Type 0} (kind : SceneKind) (test : Bool) (next : Result A SceneKind) (x : A) → cond test (Err kind) next ≡ Ok x → next ≡ Ok x
past_guard kind true next x e = absurd cc
past_guard kind false next x e = e

ports_are : (paths : List (List ℕ)) (ports : List StartPort) (after : List (List ℕ)) → with_ports paths ports ≡ Ok after → paths ++ map (λ port. port.path) ports ≡ after
unfolding with_ports
ports_are paths [] after e =
    let same : paths ≡ after = cc in
    append-nil paths ∙ same
ports_are paths (port ∷ ports) after e =
    sym (append_assoc paths (port.path ∷ []) (map (λ port. port.path) ports)) ∙ ports_are (paths ++ port.path ∷ []) ports after (past_guard NameTaken (is_taken paths port.path) _ after e)

spellings : (found : Option Manifest) → OnlyErr BadManifest (spelled_manifest found)
spellings (Some manifest) = tt
spellings None = refl

manifests : (number : ℕ) (text : List ℕ) → OnlyErr BadManifest (manifest_act number text)
unfolding manifest_act
manifests number [] = tt
manifests number (byte ∷ bytes) = spellings (manifest_text (byte ∷ bytes))

abbrev app_given : Given → List ℕ → Manifest → Given
app_given found name manifest = record found { apps = found.apps ++ new_app_of name manifest ∷ []; names = [] }

few_apps_more : (found : Given) (before : Registered) (used : Used) (name : List ℕ) (manifest : Manifest) → Agrees found before used → has_few_parts (app_given found name manifest) ≡ nat_lt (length before.noted.names) most_apps
unfolding has_few_parts
few_apps_more found before used name manifest h =
    let parts = and_true (nat_le (length found.apps) most_apps) _ h.few_parts in
    let others = and_true (list_all has_few_threads found.apps) _ parts.1 in
    let count : length before.noted.names ≡ length found.apps = ap length (sym h.named) ∙ length-map found.apps (λ app. app.name) in
    rw (list_all-append has_few_threads found.apps (new_app_of name manifest ∷ []), others.0, others.1, length-append found.apps (new_app_of name manifest ∷ []), count) (and_right (nat_le (length found.apps + 1) most_apps) ∙ below_is (length found.apps) most_apps)

app_scripts : (found : Given) (name : List ℕ) (manifest : Manifest) → scripts_in (app_given found name manifest) ≡ scripts_in found
app_scripts found name manifest = at_threads found.apps (new_app_of name manifest) found.clients ∙ ap (λ front. front ++ map (λ client. client.script) found.clients) (append-nil (flat_map (λ app. app.threads) found.apps))

app_agrees : (found : Given) (before : Registered) (used : Used) (name : List ℕ) (manifest : Manifest) (ports : List (List ℕ)) (apps : List App) (clients : List Client) → Agrees found before used → with_ports before.noted.ports manifest.ports ≡ Ok ports
    → nat_lt (length before.noted.names) most_apps ≡ true → Agrees (app_given found name manifest) (record { apps = apps; clients = clients; noted = record before.noted { names = before.noted.names ++ name ∷ []; ports = ports } }) used
app_agrees found before used name manifest ports apps clients h e few = record {
  named = map_push (λ app. app.name) found.apps (new_app_of name manifest) ∙ ap (λ names. names ++ name ∷ []) h.named;
  clients_named = h.clients_named;
  published = flat_map-append (λ app. map (λ port. port.path) app.manifest.ports) found.apps (new_app_of name manifest ∷ []) ∙ ap (λ last. paths_in found.apps ++ last) (append-nil (map (λ port. port.path) manifest.ports))
      ∙ ap (λ front. front ++ map (λ port. port.path) manifest.ports) h.published ∙ ports_are before.noted.ports manifest.ports ports e;
  queue = h.queue;
  turns = h.turns;
  uses = subst (λ all. Uses all used) (sym (app_scripts found name manifest)) h.uses;
  few_parts = few_apps_more found before used name manifest h ∙ few;
  few_commands = ap are_few_commands (app_scripts found name manifest) ∙ h.few_commands;
}

app_fits : (found : Given) (before : Registered) (used : Used) (name : List ℕ) (manifest : Manifest) → Agrees found before used → fits (app_given found name manifest) ≡ nat_lt (length before.noted.names) most_apps
app_fits found before used name manifest h =
    let commands : are_few_commands (scripts_in (app_given found name manifest)) ≡ true = ap are_few_commands (app_scripts found name manifest) ∙ h.few_commands in
    rw (few_apps_more found before used name manifest h, commands) (and_right (nat_lt (length before.noted.names) most_apps))

app_goes : (above : List Line) (r : Reading) (number : ℕ) (text : List ℕ) (name : List ℕ) (words : List (List ℕ)) (manifest : Manifest) (ports : List (List ℕ)) → Settles above r → with_line (Some (of.Part part.App)) (line_with number text (of.Part part.App) (name ∷ words)) (given above) ≡ app_given (given above) name manifest
    → with_ports r.before.noted.ports manifest.ports ≡ Ok ports → nat_lt (length r.before.noted.names) most_apps ≡ true
    → Follows (line_with number text (of.Part part.App) (name ∷ words) ∷ above) (record { place = new_app name manifest; before = record { apps = apps_with r.before.apps r.place; clients = clients_with r.before.clients r.place; noted = record r.before.noted { names = r.before.noted.names ++ name ∷ []; ports = ports } }; used = r.used })
unfolding standing
app_goes above r number text name words manifest ports h made e few =
    let line = line_with number text (of.Part part.App) (name ∷ words) in
    let apps = apps_with r.before.apps r.place in
    let clients = clients_with r.before.clients r.place in
    let found : given (line ∷ above) ≡ app_given (given above) name manifest = given_with above line refl h.between.none_expanded ∙ made in
    let next : Registered = record { apps = apps; clients = clients; noted = record r.before.noted { names = r.before.noted.names ++ name ∷ []; ports = ports } } in
    let agrees = app_agrees (given above) r.before r.used name manifest ports apps clients h.between.agrees e few in
    of_app _ _ name manifest (record {
      between = between_with above line r.before next r.used r.used h.between refl refl refl (subst (λ g. Agrees g next r.used) (sym made) agrees);
      stands = refl;
      earlier = (given above).apps;
      apps = ap (λ g. g.apps) found;
      settled = sym h.apps;
      clients = ap (λ g. g.clients) found ∙ sym h.clients;
    })

pub app_steps : (above below : List Line) (r : Reading) (number : ℕ) (text : List ℕ) (words : List (List ℕ)) → Settles above r
    → PartTells above (line_with number text (of.Part part.App) words) (word_fault above (line_with number text (of.Part part.App) words) below) r.used (app_act r.before r.place text words)
unfolding app_act named_app described_app with_app word_fault
app_steps above below r number text [] h = rw (h.out, h.between.no_repeat) refl
app_steps above below r number text (name ∷ words) h =
    let line = line_with number text (of.Part part.App) (name ∷ words) in
    let agrees = h.between.agrees in
    let count : length (given above).apps ≡ length r.before.noted.names = sym (length-map (given above).apps (λ app. app.name)) ∙ ap length agrees.named in
    let read = manifest_act (length r.before.noted.names) (after_two_words text) in
    rw (h.out, h.between.no_repeat, count) (choose_not (is_name name) _ _ _ _ _ _ refl (λ lawful. after_ok BadManifest read _ _ _ _ (manifests _ _) (λ manifest e.
    let told : manifest_in (given above) line ≡ Ok manifest = ap (λ n. manifest_act n (after_two_words text)) count ∙ e in
    let made : with_line (Some (of.Part part.App)) line (given above) ≡ app_given (given above) name manifest = ap (λ found. app_given (given above) name (result_unwrap_or found (plain_manifest 0))) told in
    rw (e, same_names (given above) r.before r.used name agrees, agrees.published)
    (either_way (is_named r.before.noted name) _ _ _ _ _ _ (choose (is_named r.before.noted name) _ _ _ _ _ _ refl (after_ok NameTaken (with_ports r.before.noted.ports manifest.ports) _ _ _ _ (only_taken _ _) (λ ports e.
    let passes : passes_limit (line ∷ above) ≡ not (nat_lt (length r.before.noted.names) most_apps) =
    passes_is above line r.before r.used h.between refl refl ∙ ap (λ found. not (fits found)) made ∙ ap not (app_fits (given above) r.before r.used name manifest agrees) in
    rw passes
    (choose_not (nat_lt (length r.before.noted.names) most_apps) _ _ _ _ _ _ refl (λ few. (refl, app_goes above r number text name words manifest ports h made e few)))))))
    )))

-- ---- turns

pub fits_yet : (found : Given) (before : Registered) (used : Used) → Agrees found before used → fits found ≡ true
fits_yet found before used h = rw (h.few_parts, h.few_commands) refl

turns_goes : (above : List Line) (r : Reading) (number : ℕ) (text : List ℕ) (words : List (List ℕ)) → Settles above r
    → Follows (line_with number text (of.Part part.Turns) words ∷ above) (record { place = place.Turns []; before = record { apps = apps_with r.before.apps r.place; clients = clients_with r.before.clients r.place; noted = r.before.noted }; used = r.used })
unfolding after_turns
turns_goes above r number text words h =
    let line = line_with number text (of.Part part.Turns) words in
    let found : given (line ∷ above) ≡ given above = given_with above line refl h.between.none_expanded in
    turning _ _ [] (record {
      some = refl;
      turned = refl;
      turned_expanded = ap after_turns (expanded_with above line refl);
      apps = ap (λ g. map with_some_thread g.apps) found ∙ sym h.apps;
      clients = ap (λ g. g.clients) found ∙ sym h.clients;
      queue = ap (λ g. g.queue) found ∙ h.between.agrees.queue;
      turns_are = ap (λ g. g.turns) found ∙ h.between.agrees.turns;
    })

pub turns_steps : (above below : List Line) (r : Reading) (number : ℕ) (text : List ℕ) (words : List (List ℕ)) → Settles above r
    → PartTells above (line_with number text (of.Part part.Turns) words) (word_fault above (line_with number text (of.Part part.Turns) words) below) r.used (turns_act r.before r.place words)
unfolding turns_act word_fault
turns_steps above below r number text words h =
    let line = line_with number text (of.Part part.Turns) words in
    rw (h.out, h.between.no_repeat, passes_is above line r.before r.used h.between refl refl, fits_yet (given above) r.before r.used h.between.agrees)
    (choose_not (no_more words) _ _ _ _ _ _ refl (λ none. (refl, turns_goes above r number text words h)))

-- ---- the size of the queues

sized_parts : (found : Given) (size : ℕ) → has_few_parts (record found { queue = Some size }) ≡ has_few_parts found
unfolding has_few_parts
sized_parts found size = refl

queue_agrees : (found : Given) (before : Registered) (used : Used) (size : ℕ) → Agrees found before used → Agrees (record found { queue = Some size }) (record before { noted = record before.noted { queue = Some size } }) used
queue_agrees found before used size h = record {
  named = h.named;
  clients_named = h.clients_named;
  published = h.published;
  queue = refl;
  turns = h.turns;
  uses = h.uses;
  few_parts = sized_parts found size ∙ h.few_parts;
  few_commands = h.few_commands;
}

none_yet : (clients : List Client) → is_empty clients ≡ no_more (map (λ client. client.name) clients)
none_yet [] = refl
none_yet (client ∷ clients) = refl

only_sized : (test : Bool) (size : ℕ) → OnlyErr BadWords (cond test (Ok size) (Err BadWords))
only_sized true size = tt
only_sized false size = refl

pub bad_only : {A : Type 0} (x : Result A SceneKind) → OnlyBad x → OnlyErr BadWords x
bad_only (Ok x) h = tt
bad_only (Err kind) h = h

sizes : (words : List (List ℕ)) → OnlyErr BadWords (queue_in words)
unfolding queue_in queue_word
sizes [] = refl
sizes (word ∷ []) = bad_only _ (then_bad (number word) _ (numbers word) (λ size. guarded (is_queue_size size) size))
sizes (word ∷ other ∷ words) = refl

sized : (above : List Line) (line : Line) (size : ℕ) → is_end line.word ≡ false → after_turns (expanded above) ≡ false → with_line line.word line (given above) ≡ record (given above) { queue = Some size } → given (line ∷ above) ≡ record (given above) { queue = Some size }
sized above line size no_end quiet made = given_with above line no_end quiet ∙ made

abbrev with_size : Registered → ℕ → Registered
with_size before size = record before { noted = record before.noted { queue = Some size } }

queue_between : (above : List Line) (line : Line) (before : Registered) (used : Used) (size : ℕ) → is_repeat line.word ≡ false → is_end line.word ≡ false → is_turns line.word ≡ false → with_line line.word line (given above) ≡ record (given above) { queue = Some size } → Between above before used → Between (line ∷ above) (with_size before size) used
queue_between above line before used size no_repeat no_end no_turns made h =
    between_with above line before (with_size before size) used used h no_repeat no_end no_turns (subst (λ g. Agrees g (with_size before size) used) (sym made) (queue_agrees (given above) before used size h.agrees))

queue_goes : (above : List Line) (r : Reading) (number : ℕ) (text : List ℕ) (words : List (List ℕ)) (size : ℕ) → Follows above r → after_turns above ≡ false → is_in_repeat r.place ≡ false → queue_in words ≡ Ok size
    → Follows (line_with number text (of.Part part.Queues) words ∷ above) (record { place = r.place; before = with_size r.before size; used = r.used })
unfolding standing
queue_goes above r number text words size (outside before used h) quiet out e =
    let line = line_with number text (of.Part part.Queues) words in
    let made : with_line (Some (of.Part part.Queues)) line (given above) ≡ record (given above) { queue = Some size } = ap (with_queue (given above)) e in
    let found = sized above line size refl h.between.none_expanded made in
    outside _ used (record {
      between = queue_between above line before used size refl refl refl made h.between;
      stands = h.stands;
      apps = ap (λ g. map with_some_thread g.apps) found ∙ h.apps;
      clients = ap (λ g. g.clients) found ∙ h.clients;
    })
queue_goes above r number text words size (of_app before used name manifest h) quiet out e =
    let line = line_with number text (of.Part part.Queues) words in
    let made : with_line (Some (of.Part part.Queues)) line (given above) ≡ record (given above) { queue = Some size } = ap (with_queue (given above)) e in
    let found = sized above line size refl h.between.none_expanded made in
    of_app _ used name manifest (record {
      between = queue_between above line before used size refl refl refl made h.between;
      stands = h.stands;
      earlier = h.earlier;
      apps = ap (λ g. g.apps) found ∙ h.apps;
      settled = h.settled;
      clients = ap (λ g. g.clients) found ∙ h.clients;
    })
queue_goes above r number text words size (of_thread before used name manifest threads script names h) quiet out e =
    let line = line_with number text (of.Part part.Queues) words in
    let made : with_line (Some (of.Part part.Queues)) line (given above) ≡ record (given above) { queue = Some size } = ap (with_queue (given above)) e in
    let found = sized above line size refl h.between.none_expanded made in
    of_thread _ used name manifest threads script names (record {
      between = queue_between above line before used size refl refl refl made h.between;
      stands = h.stands;
      earlier = h.earlier;
      apps = ap (λ g. g.apps) found ∙ h.apps;
      settled = h.settled;
      clients = ap (λ g. g.clients) found ∙ h.clients;
      registers = ap (λ g. g.names) found ∙ h.registers;
    })
queue_goes above r number text words size (of_client before used name script names h) quiet out e =
    let line = line_with number text (of.Part part.Queues) words in
    let made : with_line (Some (of.Part part.Queues)) line (given above) ≡ record (given above) { queue = Some size } = ap (with_queue (given above)) e in
    let found = sized above line size refl h.between.none_expanded made in
    of_client _ used name script names (record {
      between = queue_between above line before used size refl refl refl made h.between;
      stands = h.stands;
      apps = ap (λ g. map with_some_thread g.apps) found ∙ h.apps;
      clients = ap (λ g. g.clients) found ∙ h.clients;
      registers = ap (λ g. g.names) found ∙ h.registers;
    })
queue_goes above r number text words size (turning before used turns h) quiet out e = absurd (false≢true (sym quiet ∙ h.turned))
queue_goes above r number text words size follows quiet out e = absurd (false≢true (sym out))

pub queues_steps : (above below : List Line) (r : Reading) (number : ℕ) (text : List ℕ) (words : List (List ℕ)) → Follows above r → Settles above r
    → Tells (word_fault above (line_with number text (of.Part part.Queues) words) below) None (λ next. Follows (line_with number text (of.Part part.Queues) words ∷ above) (record { place = r.place; before = next; used = r.used })) (queues_act r.before r.place words)
unfolding queues_act word_fault
queues_steps above below r number text words follows h =
    let line = line_with number text (of.Part part.Queues) words in
    let agrees = h.between.agrees in
    rw (h.out, h.between.no_repeat, none_yet (given above).clients, agrees.clients_named, agrees.queue)
    (choose_not (no_more r.before.noted.client_names && is_none r.before.noted.queue) _ _ _ _ _ _ refl (λ may. after_ok BadWords (queue_in words) _ _ _ _ (sizes words) (λ size e.
    let made : with_line (Some (of.Part part.Queues)) line (given above) ≡ record (given above) { queue = Some size } = ap (with_queue (given above)) e in
    let passes : passes_limit (line ∷ above) ≡ false = passes_is above line r.before r.used h.between refl refl ∙ ap (λ found. not (fits found)) made ∙ ap not (fits_yet _ _ _ (queue_agrees (given above) r.before r.used size agrees)) in
    rw passes (refl, queue_goes above r number text words size follows h.between.no_turns h.out e))))
