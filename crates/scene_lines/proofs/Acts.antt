-- What each line does keeps the limits.
use Rattle.std.proofs.Common.{◌≡◌, ℕ, ◌+◌, ◌*◌, ◌<◌, Bool, true, false, not, ◌&&◌, cond, ltb, leb, List, [], ◌∷◌, ◌++◌, length, Some, Result, Ok, Err, refl, sym, ap, subst, ◌∙◌, arith}
use Rattle.std.specs.Prelude.{IfOk, nat_le, sum_by}
use Rattle.std.specs.Result.{IsErrAnd}
use Rattle.std.specs.List.{list_all}
use Rattle.std.proofs.lemmas.Bool.{le-leb, ltb-true}
use Rattle.std.proofs.lemmas.List.{length-append}
use Rattle.std.proofs.lemmas.List.Folds.{list_all-append}
use Rattle.std.proofs.lemmas.List.Sums.{sum_by-append}
use Rattle.kernel_values.specs.Commands.{has_lawful_registers}
use Rattle.kernel_values.specs.Calls.{payload_of}
use Rattle.kernel_values.specs.Words.{is_name}
use Rattle.kernel_values.specs.SceneLaw.{is_lawful_app, is_lawful_client, is_lawful_thread_command, is_lawful_client_command, is_queue_size, payload_of_script}
use Rattle.kernel_values.specs.declared.scene.App.{App}
use Rattle.kernel_values.specs.declared.scene.Client.{Client}
use Rattle.kernel_values.specs.declared.scene.Manifest.{Manifest}
use Rattle.kernel_values.specs.declared.script.Command.{Command}
use Rattle.app_manifest.specs.Spelled.{HasLawfulPorts}
use Rattle.script_lines.specs.declared.fault.SceneKind.{SceneKind}
use Rattle.script_lines.specs.declared.fault.SceneKind.TheVariants.{TooMany, NameTaken}
use Rattle.script_lines.specs.declared.fault.LineRefused.{LineRefused}
use Rattle.script_lines.specs.declared.fault.LineRefused.TheVariants as line
use Rattle.scene_lines.specs.declared.reading.Noted.{Noted}
use Rattle.scene_lines.specs.declared.reading.OpenApp.{OpenApp}
use Rattle.scene_lines.specs.declared.reading.OpenClient.{OpenClient}
use Rattle.scene_lines.specs.declared.reading.Repeat.{Repeat}
use Rattle.scene_lines.specs.declared.reading.Place.{Place}
use Rattle.scene_lines.specs.declared.reading.Place.TheVariants as place
use Rattle.scene_lines.specs.declared.reading.Registered.{Registered}
use Rattle.scene_lines.specs.declared.reading.Used.{Used}
use Rattle.script_lines.specs.Gives.{◌>>=◌, Fails, Gives}
use Rattle.script_lines.specs.Calls.{is_thread_line}
use Rattle.script_lines.specs.ClientCalls.{is_client_line}
use Rattle.script_lines.specs.Texts.{after_two_words}
use Rattle.scene_lines.specs.Reading.{is_within, with_used, after_command, with_command, with_client_command, extended, next_thread, after_repeat, closed, client_closed, repeated, app_of, apps_with, client_of, clients_with, is_named, with_ports, with_app, new_app, most_apps, described_app, manifest_act, with_client, new_client, most_clients}
use Rattle.scene_lines.specs.Lawful.{KeepsCount, IsCounted, IsLawful}
use Rattle.script_lines.proofs.Bytes.{and_true}
use Rattle.scene_lines.proofs.Keeping.{facts_of, from_facts, change_last, change_client, add_app, add_client, size_told, repeated_all, repeated_length, repeated_payload}

-- what holds of each value that the rule gives holds of what was read
pub kept_by : {X : Type 0} (P : X → Type 0) (result : Result X LineRefused) (rule : Result X SceneKind) → Gives (λ x. x) result rule → ((x : X) → rule ≡ Ok x → P x) → IfOk result P
kept_by P (Ok x) rule gives each = each x gives
kept_by P (Err refused) rule gives each = tt

pub guard_ok : {A : Type 0} (b : Bool) (kind : SceneKind) (x y : A) → cond b (Ok x) (Err kind) ≡ Ok y → (b ≡ true) × (x ≡ y)
guard_ok true kind x y e = (refl, cc)
guard_ok false kind x y e = absurd cc

guard_no : {A : Type 0} (b : Bool) (kind : SceneKind) (r : Result A SceneKind) (y : A) → cond b (Err kind) r ≡ Ok y → (b ≡ false) × (r ≡ Ok y)
guard_no true kind r y e = absurd cc
guard_no false kind r y e = (refl, e)

bind_ok : {A B : Type 0} (r : Result A SceneKind) (f : A → Result B SceneKind) (y : B) → (r >>= f) ≡ Ok y → (x : A) × (r ≡ Ok x) × (f x ≡ Ok y)
bind_ok (Ok x) f y e = (x, refl, e)
bind_ok (Err kind) f y e = absurd cc

then_ok : {A B : Type 0} (r : Result A SceneKind) (f : A → B) (y : B) → (r >>= (λ x. Ok (f x))) ≡ Ok y → (x : A) × (r ≡ Ok x) × (f x ≡ y)
then_ok (Ok x) f y e = (x, refl, cc)
then_ok (Err kind) f y e = absurd cc

either : {A : Type 0} (P : A → Type 0) (b : Bool) (x y : A) → P x → P y → P (cond b x y)
either P true x y p q = p
either P false x y p q = q

-- ---- commands behind the last script

same_length : {A : Type 0} (xs : List A) (a b : A) → length (xs ++ a ∷ []) ≡ length (xs ++ b ∷ [])
same_length xs a b = length-append xs (a ∷ []) ∙ sym (length-append xs (b ∷ []))

grown_app : (app : OpenApp) (names : List (List ℕ)) (more : List Command) → is_lawful_app (app_of app) ≡ true → list_all is_lawful_thread_command more ≡ true → is_lawful_app (app_of (record app { names = names; script = app.script ++ more })) ≡ true
grown_app app names more h l =
    let f = facts_of (app_of app) h in
    let len = same_length app.threads app.script (app.script ++ more) in
    let both = and_true (list_all (list_all is_lawful_thread_command) app.threads) (list_all (list_all is_lawful_thread_command) (app.script ∷ [])) (sym (list_all-append (list_all is_lawful_thread_command) app.threads (app.script ∷ [])) ∙ f.commands) in
    let script = (and_true (list_all is_lawful_thread_command app.script) true both.1).0 in
    let longer : list_all is_lawful_thread_command (app.script ++ more) ≡ true = list_all-append is_lawful_thread_command app.script more ∙ rw (script, l) refl in
    from_facts (app_of (record app { names = names; script = app.script ++ more })) (record {
      name = f.name;
      some = subst (λ n. nat_le 1 n ≡ true) len f.some;
      few = subst (λ n. nat_le n 4 ≡ true) len f.few;
      commands = list_all-append (list_all is_lawful_thread_command) app.threads ((app.script ++ more) ∷ []) ∙ rw (both.0, longer) refl;
      few_ports = f.few_ports;
      ports = f.ports;
    })

last_lawful : (xs : List App) (app : App) (clients : List Client) (noted : Noted) (used : Used) → KeepsCount (xs ++ app ∷ []) clients noted used → is_lawful_app app ≡ true
last_lawful xs app clients noted used h = (and_true (is_lawful_app app) true (and_true (list_all is_lawful_app xs) (list_all is_lawful_app (app ∷ [])) (sym (list_all-append is_lawful_app xs (app ∷ [])) ∙ h.lawful)).1).0

grown : (before : Registered) (app : OpenApp) (used : Used) (names : List (List ℕ)) (more : List Command) (k p : ℕ) → KeepsCount (before.apps ++ app_of app ∷ []) before.clients before.noted used → list_all is_lawful_thread_command more ≡ true → length more ≡ k → payload_of_script more ≡ p
    → is_within (with_used used k p) ≡ true → IsLawful before (place.App (record app { names = names; script = app.script ++ more })) (with_used used k p)
grown before app used names more k p h l count load within = record {
  keeps = change_last before.apps (app_of app) (app_of (record app { names = names; script = app.script ++ more })) before.clients before.noted used (with_used used k p) k p h refl refl
      (grown_app app names more (last_lawful before.apps (app_of app) before.clients before.noted used h) l)
      (omega (arith, sum_by-append length app.threads ((app.script ++ more) ∷ []), sum_by-append length app.threads (app.script ∷ []), length-append app.script more, count))
      (omega (arith, sum_by-append payload_of_script app.threads ((app.script ++ more) ∷ []), sum_by-append payload_of_script app.threads (app.script ∷ []), sum_by-append (λ command. payload_of command.call) app.script more, load))
      refl refl within;
  body = tt;
}

last_client_lawful : (apps : List App) (xs : List Client) (client : Client) (noted : Noted) (used : Used) → KeepsCount apps (xs ++ client ∷ []) noted used → is_lawful_client client ≡ true
last_client_lawful apps xs client noted used h = (and_true (is_lawful_client client) true (and_true (list_all is_lawful_client xs) (list_all is_lawful_client (client ∷ [])) (sym (list_all-append is_lawful_client xs (client ∷ [])) ∙ h.lawful_clients)).1).0

longer_client : (client : Client) (more : List Command) → is_lawful_client client ≡ true → list_all is_lawful_client_command more ≡ true → is_lawful_client (record client { script = client.script ++ more }) ≡ true
longer_client client more h l =
    let f = and_true (is_name client.name) (list_all is_lawful_client_command client.script) h in
    let longer : list_all is_lawful_client_command (client.script ++ more) ≡ true = list_all-append is_lawful_client_command client.script more ∙ rw (f.1, l) refl in
    rw (f.0, longer) refl

grown_client : (before : Registered) (client : OpenClient) (used : Used) (names : List (List ℕ)) (more : List Command) (k p : ℕ) → KeepsCount before.apps (before.clients ++ client_of client ∷ []) before.noted used → list_all is_lawful_client_command more ≡ true → length more ≡ k → payload_of_script more ≡ p
    → is_within (with_used used k p) ≡ true → IsLawful before (place.Client (record client { names = names; script = client.script ++ more })) (with_used used k p)
grown_client before client used names more k p h l count load within = record {
  keeps = change_client before.apps before.clients (client_of client) (record (client_of client) { script = client.script ++ more }) before.noted used (with_used used k p) k p h refl
      (longer_client (client_of client) more (last_client_lawful before.apps before.clients (client_of client) before.noted used h) l)
      (omega (arith, length-append client.script more, count))
      (omega (arith, sum_by-append (λ command. payload_of command.call) client.script more, load))
      refl refl within;
  body = tt;
}

-- ---- one command more

counted : (used : Used) (command : Command) (more : Used) → after_command used command ≡ Ok more → (is_within (with_used used 1 (payload_of command.call)) ≡ true) × (with_used used 1 (payload_of command.call) ≡ more)
unfolding after_command
counted used command more e =
    let after = with_used used 1 (payload_of command.call) in
    let g = guard_ok (has_lawful_registers command && is_within after) TooMany after more e in
    ((and_true (has_lawful_registers command) (is_within after) g.0).1, g.1)

pub command_kept : (before : Registered) (used : Used) (app : OpenApp) (command : Command) (next : Used × Place) → with_command used app command ≡ Ok next → KeepsCount (before.apps ++ app_of app ∷ []) before.clients before.noted used → is_thread_line command.call ≡ true
    → IsLawful before next.1 next.0
unfolding with_command
command_kept before used app command next e h l =
    let longer : Place = place.App (record app { script = app.script ++ command ∷ [] }) in
    let made : Used → Used × Place = λ more. (more, longer) in
    let b = then_ok (after_command used command) made next e in
    let c = counted used command b.0 b.1 in
    subst (λ n. IsLawful before n.1 n.0) b.2 (subst (λ more. IsLawful before longer more) c.1 (grown before app used app.names (command ∷ []) 1 (payload_of command.call) h (rw l refl) refl (omega arith) c.0))

pub client_command_kept : (before : Registered) (used : Used) (client : OpenClient) (command : Command) (next : Used × Place) → with_client_command used client command ≡ Ok next → KeepsCount before.apps (before.clients ++ client_of client ∷ []) before.noted used → is_client_line command.call ≡ true
    → IsLawful before next.1 next.0
unfolding with_client_command
client_command_kept before used client command next e h l =
    let longer : Place = place.Client (record client { script = client.script ++ command ∷ [] }) in
    let made : Used → Used × Place = λ more. (more, longer) in
    let b = then_ok (after_command used command) made next e in
    let c = counted used command b.0 b.1 in
    subst (λ n. IsLawful before n.1 n.0) b.2 (subst (λ more. IsLawful before longer more) c.1 (grown_client before client used client.names (command ∷ []) 1 (payload_of command.call) h (rw l refl) refl (omega arith) c.0))

-- ---- repeats

repeat_counted : (used : Used) (repeat : Repeat) (more : Used) → after_repeat used repeat ≡ Ok more
    → (is_within (with_used used (repeat.times * length repeat.body) (repeat.times * repeat.payload)) ≡ true) × (with_used used (repeat.times * length repeat.body) (repeat.times * repeat.payload) ≡ more)
unfolding after_repeat
repeat_counted used repeat more e =
    let after = with_used used (repeat.times * length repeat.body) (repeat.times * repeat.payload) in
    let g = guard_ok (not repeat.is_past && is_within after) TooMany after more e in
    ((and_true (not repeat.is_past) (is_within after) g.0).1, g.1)

repeat_loaded : (may_stand : Command → Bool) (repeat : Repeat) → IsCounted may_stand repeat → payload_of_script (repeated repeat.times repeat.body) ≡ repeat.times * repeat.payload
repeat_loaded may_stand repeat h = repeated_payload repeat.times repeat.body ∙ ap (λ n. repeat.times * n) h.payload

pub closed_kept : (before : Registered) (used : Used) (app : OpenApp) (repeat : Repeat) (next : Used × Place) → IsLawful before (place.Repeat app repeat) used → closed used app repeat ≡ Ok next → IsLawful before next.1 next.0
unfolding closed
closed_kept before used app repeat next h e =
    let longer : Place = place.App (record app { script = app.script ++ repeated repeat.times repeat.body }) in
    let made : Used → Used × Place = λ more. (more, longer) in
    let b = then_ok (after_repeat used repeat) made next e in
    let c = repeat_counted used repeat b.0 b.1 in
    subst (λ n. IsLawful before n.1 n.0) b.2 (subst (λ more. IsLawful before longer more) c.1 (grown before app used app.names (repeated repeat.times repeat.body) (repeat.times * length repeat.body) (repeat.times * repeat.payload) h.keeps
    (repeated_all is_lawful_thread_command repeat.times repeat.body h.body.commands) (repeated_length repeat.times repeat.body) (repeat_loaded is_lawful_thread_command repeat h.body) c.0))

pub client_closed_kept : (before : Registered) (used : Used) (client : OpenClient) (repeat : Repeat) (next : Used × Place) → IsLawful before (place.ClientRepeat client repeat) used → client_closed used client repeat ≡ Ok next → IsLawful before next.1 next.0
unfolding client_closed
client_closed_kept before used client repeat next h e =
    let longer : Place = place.Client (record client { script = client.script ++ repeated repeat.times repeat.body }) in
    let made : Used → Used × Place = λ more. (more, longer) in
    let b = then_ok (after_repeat used repeat) made next e in
    let c = repeat_counted used repeat b.0 b.1 in
    subst (λ n. IsLawful before n.1 n.0) b.2 (subst (λ more. IsLawful before longer more) c.1 (grown_client before client used client.names (repeated repeat.times repeat.body) (repeat.times * length repeat.body) (repeat.times * repeat.payload) h.keeps
    (repeated_all is_lawful_client_command repeat.times repeat.body h.body.commands) (repeated_length repeat.times repeat.body) (repeat_loaded is_lawful_client_command repeat h.body) c.0))

pub extended_counted : (may_stand : Command → Bool) (repeat : Repeat) (command : Command) → IsCounted may_stand repeat → may_stand command ≡ true → IsCounted may_stand (extended repeat command)
unfolding extended
extended_counted may_stand repeat command h l = either (IsCounted may_stand) _ (record repeat { body = repeat.body ++ command ∷ []; payload = repeat.payload + payload_of command.call }) (record repeat { is_past = true })
    (record {
      commands = list_all-append may_stand repeat.body (command ∷ []) ∙ rw (h.commands, l) refl;
      payload = omega (arith, sum_by-append (λ command. payload_of command.call) repeat.body (command ∷ []), h.payload);
    })
    (record { commands = h.commands; payload = h.payload })

-- ---- threads

begun_app : (app : OpenApp) → is_lawful_app (app_of app) ≡ true → length app.threads < 3 → is_lawful_app (app_of (record app { threads = app.threads ++ app.script ∷ []; script = []; names = [] })) ≡ true
begun_app app h few =
    let f = facts_of (app_of app) h in
    let len = length-append (app.threads ++ app.script ∷ []) ([] ∷ []) in
    let one = length-append app.threads (app.script ∷ []) in
    from_facts (app_of (record app { threads = app.threads ++ app.script ∷ []; script = []; names = [] })) (record {
      name = f.name;
      some = le-leb _ _ (omega (arith, len));
      few = le-leb _ _ (omega (arith, len, one, few));
      commands = list_all-append (list_all is_lawful_thread_command) (app.threads ++ app.script ∷ []) ([] ∷ []) ∙ rw f.commands refl;
      few_ports = f.few_ports;
      ports = f.ports;
    })

thread_cases : (before : Registered) (used : Used) (app next : OpenApp) (has : Bool) → IsLawful before (place.App app) used
    → cond has (cond (ltb (length app.threads) 3) (Ok (record app { threads = app.threads ++ app.script ∷ []; script = []; names = [] })) (Err TooMany)) (Ok (record app { has_thread = true })) ≡ Ok next → IsLawful before (place.App next) used
thread_cases before used app next true h e =
    let new : OpenApp = record app { threads = app.threads ++ app.script ∷ []; script = []; names = [] } in
    let g = guard_ok (ltb (length app.threads) 3) TooMany new next e in
    subst (λ n. IsLawful before (place.App n) used) g.1 (record {
      keeps = change_last before.apps (app_of app) (app_of new) before.clients before.noted used used 0 0 h.keeps refl refl
          (begun_app app (last_lawful before.apps (app_of app) before.clients before.noted used h.keeps) (ltb-true _ _ g.0))
          (omega (arith, sum_by-append length (app.threads ++ app.script ∷ []) ([] ∷ [])))
          (omega (arith, sum_by-append payload_of_script (app.threads ++ app.script ∷ []) ([] ∷ [])))
          (omega arith) (omega arith) h.keeps.within;
      body = tt;
    })
thread_cases before used app next false h e =
    let same : record app { has_thread = true } ≡ next = cc in
    subst (λ n. IsLawful before (place.App n) used) same (record { keeps = h.keeps; body = tt })

pub thread_kept : (before : Registered) (used : Used) (app next : OpenApp) → IsLawful before (place.App app) used → next_thread app ≡ Ok next → IsLawful before (place.App next) used
unfolding next_thread
thread_kept before used app next h e = thread_cases before used app next app.has_thread h e

-- ---- applications

new_lawful : (name : List ℕ) (manifest : Manifest) → is_name name ≡ true → HasLawfulPorts manifest → is_lawful_app (record { name = name; manifest = manifest; threads = [] ∷ [] }) ≡ true
new_lawful name manifest named ports = from_facts (record { name = name; manifest = manifest; threads = [] ∷ [] }) (record { name = named; some = refl; few = refl; commands = refl; few_ports = ports.few; ports = ports.lawful })

pub app_kept : (before : Registered) (last : Place) (used : Used) (name : List ℕ) (manifest : Manifest) (next : Registered × Place) → with_app before last name manifest ≡ Ok next → IsLawful before last used → is_name name ≡ true → HasLawfulPorts manifest
    → IsLawful next.0 next.1 used
unfolding with_app
app_kept before last used name manifest next e h named ports =
    let made : List (List ℕ) → Registered × Place = λ after. (record { apps = apps_with before.apps last; clients = clients_with before.clients last; noted = record before.noted { names = before.noted.names ++ name ∷ []; ports = after } }, new_app name manifest) in
    let rest : List (List ℕ) → Result (Registered × Place) SceneKind = λ after. cond (ltb (length before.noted.names) most_apps) (Ok (made after)) (Err TooMany) in
    let g = guard_no (is_named before.noted name) NameTaken (with_ports before.noted.ports manifest.ports >>= rest) next e in
    let b = bind_ok (with_ports before.noted.ports manifest.ports) rest next g.1 in
    let w = guard_ok (ltb (length before.noted.names) most_apps) TooMany (made b.0) next b.2 in
    subst (λ n. IsLawful n.0 n.1 used) w.1 (record {
      keeps = add_app (apps_with before.apps last) (record { name = name; manifest = manifest; threads = [] ∷ [] }) (clients_with before.clients last) before.noted b.0 used h.keeps (new_lawful name manifest named ports) g.0 (ltb-true _ _ w.0) b.1 refl refl;
      body = tt;
    })

-- an application with a start port whose path is taken
pub ports_refused : (before : Registered) (last : Place) (name : List ℕ) (manifest : Manifest) (refused : LineRefused) (result : Result (Registered × Place) LineRefused) → false ≡ is_named before.noted name → Fails refused (with_ports before.noted.ports manifest.ports) → IsErrAnd result (λ told. told ≡ refused)
    → Gives (λ next. next) result (with_app before last name manifest)
unfolding with_app
ports_refused before last name manifest refused (Ok next) free h told = absurd told
ports_refused before last name manifest line.NoMemory (Err refused) free h told = subst (λ r. Fails r (with_app before last name manifest)) (sym told) tt
ports_refused before last name manifest (line.Fault kind) (Err refused) free h told =
    let made : List (List ℕ) → Registered × Place = λ after. (record { apps = apps_with before.apps last; clients = clients_with before.clients last; noted = record before.noted { names = before.noted.names ++ name ∷ []; ports = after } }, new_app name manifest) in
    let rest : List (List ℕ) → Result (Registered × Place) SceneKind = λ after. cond (ltb (length before.noted.names) most_apps) (Ok (made after)) (Err TooMany) in
    let stops : (with_ports before.noted.ports manifest.ports >>= rest) ≡ Err kind = subst (λ r. (r >>= rest) ≡ Err kind) (sym h) refl in
    let whole : with_app before last name manifest ≡ Err kind = subst (λ b. cond b (Err NameTaken) (with_ports before.noted.ports manifest.ports >>= rest) ≡ Err kind) free stops in
    subst (λ r. Fails r (with_app before last name manifest)) (sym told) whole

-- an application whose manifest was read
pub described_is : (before : Registered) (last : Place) (line name : List ℕ) (manifest : Manifest) → manifest_act (length before.noted.names) (after_two_words line) ≡ Ok manifest
    → described_app before last line name ≡ with_app before last name manifest
unfolding described_app
described_is before last line name manifest read = rw read refl

-- ---- clients and the size of the queues

pub client_kept : (before : Registered) (last : Place) (used : Used) (name : List ℕ) (next : Registered × Place) → with_client before last name ≡ Ok next → IsLawful before last used → is_name name ≡ true → IsLawful next.0 next.1 used
unfolding with_client
client_kept before last used name next e h named =
    let made : Registered × Place = (record { apps = apps_with before.apps last; clients = clients_with before.clients last; noted = record before.noted { client_names = before.noted.client_names ++ name ∷ [] } }, new_client name) in
    let g = guard_no (is_named before.noted name) NameTaken (cond (ltb (length before.noted.client_names) most_clients) (Ok made) (Err TooMany)) next e in
    let w = guard_ok (ltb (length before.noted.client_names) most_clients) TooMany made next g.1 in
    subst (λ n. IsLawful n.0 n.1 used) w.1 (record {
      keeps = add_client (apps_with before.apps last) (clients_with before.clients last) (record { name = name; script = [] }) before.noted used h.keeps (rw named refl) g.0 (ltb-true _ _ w.0) refl refl;
      body = tt;
    })

pub sized_kept : (before : Registered) (last : Place) (used : Used) (size : ℕ) → IsLawful before last used → is_queue_size size ≡ true → IsLawful (record before { noted = record before.noted { queue = Some size } }) last used
sized_kept before last used size h lawful = record { keeps = size_told (apps_with before.apps last) (clients_with before.clients last) before.noted used size h.keeps lawful; body = h.body }
