-- Line by line: the clients so far are honest exactly where no line so far is `npoke` or `nkick`.
use Rattle.std.proofs.Common.{◌≡◌, ℕ, zero, suc, ◌+◌, ◌*◌, ◌&&◌, Bool, true, false, cond, List, [], ◌∷◌, ◌++◌, length, Option, Some, None, Result, Ok, Err, refl, sym, ap, ◌∙◌, subst, arith}
use Rattle.std.specs.Prelude.{IfOk, nat_lt, nat_le, not}
use Rattle.std.specs.List.{list_all}
use Rattle.std.proofs.lemmas.Bool.{false≢true}
use Rattle.std.proofs.lemmas.Bool.Decides.{nat_tests}
use Rattle.std.proofs.lemmas.List.Folds.{list_all-append}
use Rattle.kernel_types.specs.Carried.{is_honest}
use Rattle.kernel_values.specs.Calls.{is_honest_call, payload_of}
use Rattle.kernel_values.specs.SceneLaw.{SceneValue}
use Rattle.kernel_values.specs.Commands.{has_lawful_registers}
use Rattle.kernel_values.specs.Words.{is_name}
use Rattle.kernel_values.specs.declared.scene.Client.{Client}
use Rattle.kernel_values.specs.declared.scene.Manifest.{Manifest}
use Rattle.kernel_values.specs.declared.script.Command.{Command}
use Rattle.script_lines.specs.declared.fault.SceneFault.{SceneFault}
use Rattle.script_lines.specs.declared.fault.SceneKind.{SceneKind}
use Rattle.script_lines.specs.declared.fault.SceneKind.TheVariants.{BadByte, NoHeader, OutOfPlace, BadWords, NameTaken, TooMany}
use Rattle.script_lines.specs.declared.words.CallWord.{CallWord}
use Rattle.script_lines.specs.declared.words.ClientWord.{ClientWord}
use Rattle.script_lines.specs.declared.words.LineWord.{LineWord}
use Rattle.script_lines.specs.declared.words.LineWord.TheVariants as line
use Rattle.script_lines.specs.declared.words.PartWord.{PartWord}
use Rattle.script_lines.specs.declared.words.PartWord.TheVariants as part
use Rattle.script_lines.specs.declared.words.ScriptWord.{ScriptWord}
use Rattle.script_lines.specs.declared.words.ScriptWord.TheVariants as script
use Rattle.script_lines.specs.Gives.{◌>>=◌}
use Rattle.script_lines.specs.Calls.{command_line}
use Rattle.script_lines.specs.ClientCalls.{client_command_line}
use Rattle.script_lines.specs.LineWords.{line_word}
use Rattle.script_lines.specs.Numbers.{number, number_within}
use Rattle.script_lines.specs.Texts.{after_two_words, is_text_byte, words_of, is_skipped, lines_of}
use Rattle.scene_lines.specs.declared.reading.OpenApp.{OpenApp}
use Rattle.scene_lines.specs.declared.reading.OpenClient.{OpenClient}
use Rattle.scene_lines.specs.declared.reading.Place.{Place}
use Rattle.scene_lines.specs.declared.reading.Place.TheVariants as place
use Rattle.scene_lines.specs.declared.reading.Reading.{Reading}
use Rattle.scene_lines.specs.declared.reading.Registered.{Registered}
use Rattle.scene_lines.specs.declared.reading.Repeat.{Repeat}
use Rattle.scene_lines.specs.declared.reading.Used.{Used}
use Rattle.scene_lines.specs.Reading.{is_within, with_used, after_command, with_command, app_line, extended, repeat_line, call_act, with_client_command, client_line, client_repeat_line, client_call_act, no_more, next_thread, thread_act, most_commands, times_in, begun, repeat_act, repeated, after_repeat, closed, client_closed, end_act, is_in_repeat, client_of, apps_with, clients_with, manifest_act, is_named, with_ports, most_apps, new_app, with_app, described_app, named_app, app_act, most_clients, new_client, with_client, client_name, named_client, client_act, may_be_sized, queue_in, queues_act, with_turns, turns_act, part_act, script_act, word_act, known, first_word, is_header, words_act, line_act}
use Rattle.scene_reader.specs.Whole.{opening, open_line, fault_in, ended, lines_act, scene_of}
use Rattle.scene_reader.proofs.Telling.{read_in_order}
use Rattle.scene_laws.proofs.Results.{after, after_that, either}
use Rattle.scene_laws.proofs.Honest.{commands}
use Rattle.scene_laws.proofs.FirstWords.{is_driver_script, is_driver_begin, is_driver_read, by_name, skipped_by_driver, header_by_driver, turns_by_driver}
use Rattle.scene_laws.specs.DriverWords.{is_driver_word, begins_by_driver, is_driver_line}

-- ---- truth values

and_true : (a : Bool) → (a && true) ≡ a
and_true true = refl
and_true false = refl

and_same : (a : Bool) → (a && a) ≡ a
and_same true = refl
and_same false = refl

-- one more at the end of the second, or of the third
two_longer : (c s x : Bool) → (c && (s && x)) ≡ (x && (c && s))
two_longer true true true = refl
two_longer true true false = refl
two_longer true false true = refl
two_longer true false false = refl
two_longer false s true = refl
two_longer false s false = refl

three_longer : (c s t x : Bool) → (c && (s && (t && x))) ≡ (x && (c && (s && t)))
three_longer true true true true = refl
three_longer true true true false = refl
three_longer true true false true = refl
three_longer true true false false = refl
three_longer true false t true = refl
three_longer true false t false = refl
three_longer false s t true = refl
three_longer false s t false = refl

moved : (x k b : Bool) → (x && (k && b)) ≡ ((k && x) && b)
moved true true b = refl
moved true false b = refl
moved false true b = refl
moved false false b = refl

split : {A : Type 0} (P : A → Type 0) (test : Bool) (held other : Result A SceneKind) → (test ≡ true → IfOk held P) → (test ≡ false → IfOk other P) → IfOk (cond test held other) P
split P true held other h k = h refl
split P false held other h k = k refl

-- ---- what is kept

abbrev AreCalm : List Command → Bool
AreCalm commands = list_all (λ command. is_honest_call command.call) commands

abbrev PlaceCalm : Place → Bool
PlaceCalm (place.Client client) = AreCalm client.script
PlaceCalm (place.ClientRepeat client repeat) = AreCalm client.script && AreCalm repeat.body
PlaceCalm other = true

-- of a repeat that passes a limit nothing is kept, and no scene comes of it
abbrev IsDropped : Place → Bool
IsDropped (place.ClientRepeat client repeat) = repeat.is_past
IsDropped other = false

abbrev HasTimes : Place → Type 0
HasTimes (place.ClientRepeat client repeat) = nat_le 1 repeat.times ≡ true
HasTimes other = Unit {0}

abbrev Holds : Bool → List Client → Place → Type 0
Holds b clients last = IsDropped last ≡ false → (list_all is_honest clients && PlaceCalm last) ≡ b

abbrev Keeps : Bool → List Client → Place → Type 0
Keeps b clients last = Holds b clients last × HasTimes last

abbrev UsedKeeps : Bool → List Client → Used × Place → Type 0
UsedKeeps b clients next = Keeps b clients next.1

abbrev RegisteredKeeps : Bool → Registered × Place → Type 0
RegisteredKeeps b next = Keeps b next.0.clients next.1

abbrev ReadingKeeps : Bool → Reading → Type 0
ReadingKeeps b r = Keeps b r.before.clients r.place

-- ---- commands of clients

longer : (script : List Command) (command : Command) → AreCalm (script ++ command ∷ []) ≡ (AreCalm script && is_honest_call command.call)
longer script command = list_all-append (λ (c : Command). is_honest_call c.call) script (command ∷ []) ∙ ap (λ x. AreCalm script && x) (and_true (is_honest_call command.call))

added : (x b : Bool) (clients : List Client) (used : Used) (client : OpenClient) (command : Command) → (list_all is_honest clients && AreCalm client.script) ≡ b → is_honest_call command.call ≡ x
    → IfOk (with_client_command used client command) (UsedKeeps (x && b) clients)
unfolding with_client_command
added x b clients used client command h is = after (UsedKeeps (x && b) clients) (after_command used command) _
    (λ more. (
      λ kept. ap (λ y. list_all is_honest clients && y) (longer client.script command) ∙ two_longer (list_all is_honest clients) (AreCalm client.script) (is_honest_call command.call)
          ∙ ap (λ y. y && (list_all is_honest clients && AreCalm client.script)) is ∙ ap (λ y. x && y) h,
      tt,
    ))

client_line_keeps : (b : Bool) (clients : List Client) (used : Used) (client : OpenClient) (word : ClientWord) (words : List (List ℕ)) → Keeps b clients (place.Client client)
    → IfOk (client_line used client word words) (UsedKeeps (is_driver_word word && b) clients)
unfolding client_line
client_line_keeps b clients used client word words h = after_that (λ (read : List (List ℕ) × Command). is_honest_call read.1.call ≡ is_driver_word word) (UsedKeeps (is_driver_word word && b) clients) (client_command_line client.names word words) _
    (commands client.names word words) (λ read is. added (is_driver_word word) b clients used (record client { names = read.0 }) read.1 (h.0 refl) is)

extended_keeps : (x b : Bool) (clients : List Client) (client : OpenClient) (repeat : Repeat) (command : Command) → Keeps b clients (place.ClientRepeat client repeat) → is_honest_call command.call ≡ x
    → Keeps (x && b) clients (place.ClientRepeat client (extended repeat command))
unfolding extended
extended_keeps x b clients client repeat command h is = elim (has_lawful_registers command && is_within (with_used (record { commands = length repeat.body; payload = repeat.payload }) 1 (payload_of command.call)))
    as (λ t. Keeps (x && b) clients (place.ClientRepeat client (cond t (record repeat { body = repeat.body ++ command ∷ []; payload = repeat.payload + payload_of command.call }) (record repeat { is_past = true })))) [
      | true ↦ (
        λ kept. ap (λ y. list_all is_honest clients && (AreCalm client.script && y)) (longer repeat.body command)
            ∙ three_longer (list_all is_honest clients) (AreCalm client.script) (AreCalm repeat.body) (is_honest_call command.call)
            ∙ ap (λ y. y && (list_all is_honest clients && (AreCalm client.script && AreCalm repeat.body))) is ∙ ap (λ y. x && y) (h.0 kept),
        h.1,
      )
      | false ↦ (λ kept. absurd (false≢true (sym kept)), h.1)
    ]

repeat_line_keeps : (b : Bool) (clients : List Client) (client : OpenClient) (repeat : Repeat) (word : ClientWord) (words : List (List ℕ)) → Keeps b clients (place.ClientRepeat client repeat)
    → IfOk (client_repeat_line client repeat word words) (Keeps (is_driver_word word && b) clients)
unfolding client_repeat_line
repeat_line_keeps b clients client repeat word words h =
    let past : List (List ℕ) × Command → Result Place SceneKind = λ read. Ok (place.ClientRepeat client repeat) in
    let more : List (List ℕ) × Command → Result Place SceneKind = λ read. Ok (place.ClientRepeat (record client { names = read.0 }) (extended repeat read.1)) in
    split (Keeps (is_driver_word word && b) clients) repeat.is_past (client_command_line [] word words >>= past) (client_command_line client.names word words >>= more)
    (λ is_past. after (Keeps (is_driver_word word && b) clients) (client_command_line [] word words) past (λ read. (λ kept. absurd (false≢true (sym kept ∙ is_past)), h.1)))
    (λ not_past. after_that (λ (read : List (List ℕ) × Command). is_honest_call read.1.call ≡ is_driver_word word) (Keeps (is_driver_word word && b) clients) (client_command_line client.names word words) more
    (commands client.names word words) (λ read is. extended_keeps (is_driver_word word) b clients (record client { names = read.0 }) repeat read.1 h is))

client_call_keeps : (b : Bool) (clients : List Client) (used : Used) (last : Place) (word : ClientWord) (words : List (List ℕ)) → Keeps b clients last
    → IfOk (client_call_act used last word words) (UsedKeeps (is_driver_word word && b) clients)
unfolding client_call_act
client_call_keeps b clients used (place.Client client) word words h = client_line_keeps b clients used client word words h
client_call_keeps b clients used (place.ClientRepeat client repeat) word words h =
    after_that (Keeps (is_driver_word word && b) clients) (UsedKeeps (is_driver_word word && b) clients) (client_repeat_line client repeat word words) _ (repeat_line_keeps b clients client repeat word words h) (λ next kept. kept)
client_call_keeps b clients used _ word words h = tt

-- ---- commands of threads, which stay in an application

command_stays : (b : Bool) (clients : List Client) (used : Used) (app : OpenApp) (command : Command) → (list_all is_honest clients && true) ≡ b → IfOk (with_command used app command) (UsedKeeps b clients)
unfolding with_command
command_stays b clients used app command h = after (UsedKeeps b clients) (after_command used command) _ (λ more. (λ kept. h, tt))

app_line_stays : (b : Bool) (clients : List Client) (used : Used) (app : OpenApp) (word : CallWord) (words : List (List ℕ)) → (list_all is_honest clients && true) ≡ b → IfOk (app_line used app word words) (UsedKeeps b clients)
unfolding app_line
app_line_stays b clients used app word words h =
    let next = λ (read : List (List ℕ) × Command). with_command used (record app { names = read.0 }) read.1 in
    either (UsedKeeps b clients) app.has_thread (command_line app.names word words >>= next) (Err OutOfPlace)
    (after (UsedKeeps b clients) (command_line app.names word words) next (λ read. command_stays b clients used (record app { names = read.0 }) read.1 h)) tt

app_repeat_stays : (b : Bool) (clients : List Client) (app : OpenApp) (repeat : Repeat) (word : CallWord) (words : List (List ℕ)) → (list_all is_honest clients && true) ≡ b → IfOk (repeat_line app repeat word words) (Keeps b clients)
unfolding repeat_line
app_repeat_stays b clients app repeat word words h =
    let past : List (List ℕ) × Command → Result Place SceneKind = λ read. Ok (place.Repeat app repeat) in
    let more : List (List ℕ) × Command → Result Place SceneKind = λ read. Ok (place.Repeat (record app { names = read.0 }) (extended repeat read.1)) in
    either (Keeps b clients) repeat.is_past (command_line [] word words >>= past) (command_line app.names word words >>= more)
    (after (Keeps b clients) (command_line [] word words) past (λ read. (λ kept. h, tt)))
    (after (Keeps b clients) (command_line app.names word words) more (λ read. (λ kept. h, tt)))

call_stays : (b : Bool) (clients : List Client) (used : Used) (last : Place) (word : CallWord) (words : List (List ℕ)) → Keeps b clients last → IfOk (call_act used last word words) (UsedKeeps b clients)
unfolding call_act
call_stays b clients used (place.App app) word words h = app_line_stays b clients used app word words (h.0 refl)
call_stays b clients used (place.Repeat app repeat) word words h =
    after_that (Keeps b clients) (UsedKeeps b clients) (repeat_line app repeat word words) _ (app_repeat_stays b clients app repeat word words (h.0 refl)) (λ next kept. kept)
call_stays b clients used _ word words h = tt

-- ---- threads and repeats

thread_stays : (b : Bool) (clients : List Client) (last : Place) (words : List (List ℕ)) → Keeps b clients last → IfOk (thread_act last words) (Keeps b clients)
unfolding thread_act
thread_stays b clients (place.App app) words h =
    let opened : OpenApp → Result Place SceneKind = λ next. Ok (place.App next) in
    either (Keeps b clients) (no_more words) (next_thread app >>= opened) (Err BadWords) (after (Keeps b clients) (next_thread app) opened (λ next. h)) tt
thread_stays b clients _ words h = tt

first_of : (a b : Bool) → (a && b) ≡ true → a ≡ true
first_of true b h = refl
first_of false b h = h

some_times : (words : List (List ℕ)) → IfOk (times_in words) (λ times. nat_le 1 times ≡ true)
unfolding times_in number_within
some_times [] = tt
some_times (word ∷ []) = after (λ times. nat_le 1 times ≡ true) (number word) _
    (λ n. split (λ times. nat_le 1 times ≡ true) (nat_le 1 n && nat_le n most_commands) (Ok n) (Err BadWords) (λ fits. first_of (nat_le 1 n) (nat_le n most_commands) fits) (λ no. tt))
some_times (word ∷ more ∷ words) = tt

repeat_begins : (b : Bool) (clients : List Client) (at : ℕ) (last : Place) (words : List (List ℕ)) → Keeps b clients last → IfOk (repeat_act at last words) (Keeps b clients)
unfolding repeat_act
repeat_begins b clients at (place.App app) words h =
    let opened : ℕ → Result Place SceneKind = λ times. Ok (place.Repeat app (begun at times)) in
    either (Keeps b clients) app.has_thread (times_in words >>= opened) (Err OutOfPlace) (after (Keeps b clients) (times_in words) opened (λ times. h)) tt
repeat_begins b clients at (place.Client client) words h = after_that (λ times. nat_le 1 times ≡ true) (Keeps b clients) (times_in words) _ (some_times words)
    (λ times some. (λ kept. ap (λ y. list_all is_honest clients && y) (and_true (AreCalm client.script)) ∙ h.0 refl, some))
repeat_begins b clients at _ words h = tt

positive : (n : ℕ) → nat_le 1 (suc n) ≡ true
positive n = grind (arith, nat_tests)

repeated_calm : (times : ℕ) (body : List Command) → nat_le 1 times ≡ true → AreCalm (repeated times body) ≡ AreCalm body
unfolding repeated
repeated_calm zero body some = absurd (false≢true some)
repeated_calm (suc zero) body some = list_all-append (λ (c : Command). is_honest_call c.call) body [] ∙ and_true (AreCalm body)
repeated_calm (suc (suc times)) body some = list_all-append (λ (c : Command). is_honest_call c.call) body (repeated (suc times) body)
    ∙ ap (λ y. AreCalm body && y) (repeated_calm (suc times) body (positive times)) ∙ and_same (AreCalm body)

not_past : (p f : Bool) → (not p && f) ≡ true → p ≡ false
not_past true f h = absurd (false≢true h)
not_past false f h = refl

kept_repeat : (used : Used) (repeat : Repeat) → IfOk (after_repeat used repeat) (λ more. repeat.is_past ≡ false)
unfolding after_repeat
kept_repeat used repeat =
    let fits : Bool = is_within (with_used used (repeat.times * length repeat.body) (repeat.times * repeat.payload)) in
    split (λ more. repeat.is_past ≡ false) (not repeat.is_past && fits) (Ok (with_used used (repeat.times * length repeat.body) (repeat.times * repeat.payload))) (Err TooMany)
    (λ holds. not_past repeat.is_past fits holds) (λ no. tt)

end_keeps : (b : Bool) (clients : List Client) (used : Used) (last : Place) (words : List (List ℕ)) → Keeps b clients last → IfOk (end_act used last words) (UsedKeeps b clients)
unfolding end_act closed client_closed
end_keeps b clients used (place.Repeat app repeat) words h = either (UsedKeeps b clients) (no_more words) (closed used app repeat) (Err BadWords) (after (UsedKeeps b clients) (after_repeat used repeat) _ (λ more. (λ kept. h.0 refl, tt))) tt
end_keeps b clients used (place.ClientRepeat client repeat) words h = either (UsedKeeps b clients) (no_more words) (client_closed used client repeat) (Err BadWords)
    (after_that (λ (more : Used). repeat.is_past ≡ false) (UsedKeeps b clients) (after_repeat used repeat) _ (kept_repeat used repeat)
    (λ more not_past. (
      λ kept. ap (λ y. list_all is_honest clients && y) (list_all-append (λ (c : Command). is_honest_call c.call) client.script (repeated repeat.times repeat.body)
          ∙ ap (λ y. AreCalm client.script && y) (repeated_calm repeat.times repeat.body h.1)) ∙ h.0 not_past,
      tt,
    ))) tt
end_keeps b clients used _ words h = tt

-- ---- applications, clients and turns

clients_keep : (b : Bool) (clients : List Client) (last : Place) → is_in_repeat last ≡ false → Keeps b clients last → (list_all is_honest (clients_with clients last) && true) ≡ b
clients_keep b clients (place.Client client) outside h = and_true (list_all is_honest (clients ++ client_of client ∷ [])) ∙ list_all-append is_honest clients (client_of client ∷ [])
    ∙ ap (λ y. list_all is_honest clients && y) (and_true (AreCalm client.script)) ∙ h.0 refl
clients_keep b clients (place.ClientRepeat client repeat) outside h = absurd (false≢true (sym outside))
clients_keep b clients (place.App app) outside h = h.0 refl
clients_keep b clients (place.Repeat app repeat) outside h = absurd (false≢true (sym outside))
clients_keep b clients place.Start outside h = h.0 refl
clients_keep b clients place.Outside outside h = h.0 refl
clients_keep b clients (place.Turns turns) outside h = h.0 refl

module _ (b : Bool) (before : Registered) (last : Place) (h : Keeps b before.clients last) where
  app_added : is_in_repeat last ≡ false → (name : List ℕ) (manifest : Manifest) → IfOk (with_app before last name manifest) (RegisteredKeeps b)
  unfolding with_app
  app_added outside name manifest =
      let made : List (List ℕ) → Result (Registered × Place) SceneKind = λ ports. Ok (record { apps = apps_with before.apps last; clients = clients_with before.clients last; noted = record before.noted { names = before.noted.names ++ name ∷ []; ports = ports } }, new_app name manifest) in
      let next : List (List ℕ) → Result (Registered × Place) SceneKind = λ ports. cond (nat_lt (length before.noted.names) most_apps) (made ports) (Err TooMany) in
      either (RegisteredKeeps b) (is_named before.noted name) (Err NameTaken) (with_ports before.noted.ports manifest.ports >>= next) tt
      (after (RegisteredKeeps b) (with_ports before.noted.ports manifest.ports) next (λ ports. either (RegisteredKeeps b) (nat_lt (length before.noted.names) most_apps) (made ports) (Err TooMany) (λ kept. clients_keep b before.clients last outside h, tt) tt))

  app_named : is_in_repeat last ≡ false → (text : List ℕ) (words : List (List ℕ)) → IfOk (named_app before last text words) (RegisteredKeeps b)
  unfolding named_app described_app
  app_named outside text [] = tt
  app_named outside text (name ∷ words) = either (RegisteredKeeps b) (is_name name) (described_app before last text name) (Err BadWords)
      (after (RegisteredKeeps b) (manifest_act (length before.noted.names) (after_two_words text)) (with_app before last name) (app_added outside name)) tt

  app_keeps : (text : List ℕ) (words : List (List ℕ)) → IfOk (app_act before last text words) (RegisteredKeeps b)
  unfolding app_act
  app_keeps text words = split (RegisteredKeeps b) (is_in_repeat last) (Err OutOfPlace) (named_app before last text words) (λ inside. tt) (λ outside. app_named outside text words)

  client_added : is_in_repeat last ≡ false → (name : List ℕ) → IfOk (with_client before last name) (RegisteredKeeps b)
  unfolding with_client
  client_added outside name =
      let made : Result (Registered × Place) SceneKind = Ok (record { apps = apps_with before.apps last; clients = clients_with before.clients last; noted = record before.noted { client_names = before.noted.client_names ++ name ∷ [] } }, new_client name) in
      let next : Result (Registered × Place) SceneKind = cond (nat_lt (length before.noted.client_names) most_clients) made (Err TooMany) in
      either (RegisteredKeeps b) (is_named before.noted name) (Err NameTaken) next tt (either (RegisteredKeeps b) (nat_lt (length before.noted.client_names) most_clients) made (Err TooMany) (λ kept. clients_keep b before.clients last outside h, tt) tt)

  client_keeps : (words : List (List ℕ)) → IfOk (client_act before last words) (RegisteredKeeps b)
  unfolding client_act named_client
  client_keeps words = split (RegisteredKeeps b) (is_in_repeat last) (Err OutOfPlace) (named_client before last words) (λ inside. tt)
      (λ outside. after (RegisteredKeeps b) (client_name words) (λ name. with_client before last name) (client_added outside))

  turns_keep : (words : List (List ℕ)) → IfOk (turns_act before last words) (RegisteredKeeps b)
  unfolding turns_act
  turns_keep words =
      let made : Result (Registered × Place) SceneKind = Ok (record { apps = apps_with before.apps last; clients = clients_with before.clients last; noted = before.noted }, place.Turns []) in
      split (RegisteredKeeps b) (is_in_repeat last) (Err OutOfPlace) (cond (no_more words) made (Err BadWords)) (λ inside. tt)
      (λ outside. either (RegisteredKeeps b) (no_more words) made (Err BadWords) (λ kept. clients_keep b before.clients last outside h, tt) tt)

  queues_keep : (words : List (List ℕ)) → IfOk (queues_act before last words) (λ next. Keeps b next.clients last)
  unfolding queues_act
  queues_keep words =
      let sized : ℕ → Result Registered SceneKind = λ size. Ok (record before { noted = record before.noted { queue = Some size } }) in
      either (λ (next : Registered). Keeps b next.clients last) (may_be_sized before last) (queue_in words >>= sized) (Err OutOfPlace)
      (after (λ (next : Registered). Keeps b next.clients last) (queue_in words) sized (λ size. h)) tt

  part_keeps : (text : List ℕ) (word : PartWord) (words : List (List ℕ)) → IfOk (part_act before last text word words) (RegisteredKeeps b)
  unfolding part_act
  part_keeps text part.Queues words = after_that (λ (next : Registered). Keeps b next.clients last) (RegisteredKeeps b) (queues_act before last words) _ (queues_keep words) (λ next kept. kept)
  part_keeps text part.App words = app_keeps text words
  part_keeps text part.Client words = client_keeps words
  part_keeps text part.Turns words = turns_keep words

-- ---- lines

script_keeps : (b : Bool) (clients : List Client) (used : Used) (last : Place) (at : ℕ) (word : ScriptWord) (words : List (List ℕ)) → Keeps b clients last
    → IfOk (script_act used last at word words) (UsedKeeps (is_driver_script word && b) clients)
unfolding script_act
script_keeps b clients used last at script.Thread words h = after_that (Keeps b clients) (UsedKeeps b clients) (thread_act last words) _ (thread_stays b clients last words h) (λ next kept. kept)
script_keeps b clients used last at script.Repeat words h = after_that (Keeps b clients) (UsedKeeps b clients) (repeat_act at last words) _ (repeat_begins b clients at last words h) (λ next kept. kept)
script_keeps b clients used last at script.End words h = end_keeps b clients used last words h
script_keeps b clients used last at (script.Call word) words h = call_stays b clients used last word words h
script_keeps b clients used last at (script.ClientCall word) words h = client_call_keeps b clients used last word words h

word_keeps : (b : Bool) (r : Reading) (at : ℕ) (text : List ℕ) (word : LineWord) (words : List (List ℕ)) → ReadingKeeps b r → IfOk (word_act r at text word words) (ReadingKeeps (is_driver_begin word && b))
unfolding word_act
word_keeps b r at text line.Scene words h = tt
word_keeps b r at text (line.Part word) words h = after_that (RegisteredKeeps b) (ReadingKeeps b) (part_act r.before r.place text word words) _
    (part_keeps b r.before r.place h text word words) (λ next kept. kept)
word_keeps b r at text (line.Script word) words h = after_that (UsedKeeps (is_driver_script word && b) r.before.clients) (ReadingKeeps (is_driver_script word && b)) (script_act r.used r.place at word words) _
    (script_keeps b r.before.clients r.used r.place at word words h) (λ next kept. kept)

known_keeps : (b : Bool) (r : Reading) (at : ℕ) (text : List ℕ) (found : Option LineWord) (words : List (List ℕ)) → ReadingKeeps b r
    → IfOk (known found >>= (λ word. word_act r at text word words)) (ReadingKeeps (is_driver_read found && b))
known_keeps b r at text None words h = tt
known_keeps b r at text (Some word) words h = word_keeps b r at text word words h

first_keeps : (b : Bool) (r : Reading) (at : ℕ) (text : List ℕ) (words : List (List ℕ)) → ReadingKeeps b r → IfOk (first_word r at text words) (ReadingKeeps (begins_by_driver words && b))
unfolding first_word
first_keeps b r at text [] h = h
first_keeps b r at text (first ∷ words) h =
    subst (λ x. IfOk (known (line_word first) >>= (λ word. word_act r at text word words)) (ReadingKeeps (x && b))) (by_name first) (known_keeps b r at text (line_word first) words h)

header_keeps : (b : Bool) (r : Reading) (words : List (List ℕ)) → Keeps b r.before.clients place.Start → IfOk (cond (is_header words) (Ok (record r { place = place.Outside })) (Err NoHeader)) (ReadingKeeps (begins_by_driver words && b))
header_keeps b r words h = split (ReadingKeeps (begins_by_driver words && b)) (is_header words) (Ok (record r { place = place.Outside })) (Err NoHeader)
    (λ is. subst (λ y. ReadingKeeps (y && b) (record r { place = place.Outside })) (sym (header_by_driver words is)) h) (λ no. tt)

act_keeps : (b : Bool) (r : Reading) (last : Place) (at : ℕ) (text : List ℕ) (words : List (List ℕ)) → last ≡ r.place → ReadingKeeps b r → IfOk (words_act r last at text words) (ReadingKeeps (begins_by_driver words && b))
unfolding words_act
act_keeps b r place.Start at text words is h = header_keeps b r words (subst (Keeps b r.before.clients) (sym is) h)
act_keeps b r (place.Turns turns) at text words is h = after_that (λ (all : List _). begins_by_driver words ≡ true) (ReadingKeeps (begins_by_driver words && b)) (with_turns turns words) (λ all. Ok (record r { place = place.Turns all })) (turns_by_driver turns words)
    (λ all driver. subst (λ y. ReadingKeeps (y && b) (record r { place = place.Turns all })) (sym driver) (subst (Keeps b r.before.clients) (sym is) h))
act_keeps b r place.Outside at text words is h = first_keeps b r at text words h
act_keeps b r (place.App app) at text words is h = first_keeps b r at text words h
act_keeps b r (place.Repeat app repeat) at text words is h = first_keeps b r at text words h
act_keeps b r (place.Client client) at text words is h = first_keeps b r at text words h
act_keeps b r (place.ClientRepeat client repeat) at text words is h = first_keeps b r at text words h

line_keeps : (b : Bool) (r : Reading) (at : ℕ) (text : List ℕ) → ReadingKeeps b r → IfOk (line_act r at text) (ReadingKeeps (is_driver_line text && b))
unfolding line_act
line_keeps b r at text h =
    let acted = words_act r r.place at text (words_of text) in
    split (ReadingKeeps (is_driver_line text && b)) (is_skipped (words_of text)) (Ok r) (cond (list_all is_text_byte text) acted (Err BadByte))
    (λ skipped. subst (λ y. ReadingKeeps (y && b) r) (sym (skipped_by_driver (words_of text) skipped)) h)
    (λ said. either (ReadingKeeps (is_driver_line text && b)) (list_all is_text_byte text) acted (Err BadByte) (act_keeps b r r.place at text (words_of text) refl h) tt)

-- ---- all lines

abbrev HonestAs : Bool → SceneValue → Type 0
HonestAs b scene = list_all is_honest scene.clients ≡ b

ended_keeps : (b : Bool) (r : Reading) (last : Place) → Keeps b r.before.clients last → IfOk (ended r last) (HonestAs b)
unfolding ended
ended_keeps b r place.Start h = tt
ended_keeps b r (place.Repeat app repeat) h = tt
ended_keeps b r (place.ClientRepeat client repeat) h = tt
ended_keeps b r place.Outside h = sym (and_true (list_all is_honest r.before.clients)) ∙ clients_keep b r.before.clients place.Outside refl h
ended_keeps b r (place.App app) h = sym (and_true (list_all is_honest r.before.clients)) ∙ clients_keep b r.before.clients (place.App app) refl h
ended_keeps b r (place.Client client) h = sym (and_true (list_all is_honest (clients_with r.before.clients (place.Client client)))) ∙ clients_keep b r.before.clients (place.Client client) refl h
ended_keeps b r (place.Turns turns) h = sym (and_true (list_all is_honest r.before.clients)) ∙ clients_keep b r.before.clients (place.Turns turns) refl h

lines_keep : (b : Bool) (lines : List (List ℕ)) (r : Reading) (at : ℕ) → ReadingKeeps b r → IfOk (lines_act lines r at) (HonestAs (list_all is_driver_line lines && b))
unfolding lines_act
lines_keep b [] r at h = ended_keeps b r r.place h
lines_keep b (line ∷ lines) r at h =
    elim (line_act r at line) as (λ rule. IfOk rule (ReadingKeeps (is_driver_line line && b)) → IfOk (elim rule as (λ _. Result SceneValue SceneFault) [
      | Ok next ↦ lines_act lines next (at + 1)
      | Err kind ↦ Err (fault_in (open_line r.place) at kind lines)
    ]) (HonestAs ((is_driver_line line && list_all is_driver_line lines) && b))) [
      | Ok next ↦ λ kept. subst (λ y. IfOk (lines_act lines next (at + 1)) (HonestAs y)) (moved (list_all is_driver_line lines) (is_driver_line line) b) (lines_keep (is_driver_line line && b) lines next (at + 1) kept)
      | Err kind ↦ λ kept. tt
    ] (line_keeps b r at line h)

scene_keeps : (bytes : List ℕ) → IfOk (scene_of bytes) (HonestAs (list_all is_driver_line (lines_of bytes)))
scene_keeps bytes = subst (λ y. IfOk (scene_of bytes) (HonestAs y)) (and_true (list_all is_driver_line (lines_of bytes)))
    (subst (λ rule. IfOk rule (HonestAs (list_all is_driver_line (lines_of bytes) && true))) (read_in_order bytes) (lines_keep true (lines_of bytes) opening 1 (λ kept. refl, tt)))

pub honest_by_lines : (bytes : List ℕ) (scene : SceneValue) → scene_of bytes ≡ Ok scene → list_all is_honest scene.clients ≡ list_all is_driver_line (lines_of bytes)
honest_by_lines bytes scene read = subst (λ rule. IfOk rule (HonestAs (list_all is_driver_line (lines_of bytes)))) read (scene_keeps bytes)
