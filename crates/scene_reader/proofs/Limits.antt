-- What one line more does to the limits.
use Rattle.std.proofs.Common.{◌≡◌, ℕ, ◌+◌, Bool, true, false, ◌&&◌, List, [], ◌∷◌, ◌++◌, length, map, refl, sym, ap, ◌∙◌, append_assoc, arith}
use Rattle.std.specs.Prelude.{nat_lt, nat_le, sum_by}
use Rattle.std.specs.List.{flat_map, list_all}
use Rattle.std.proofs.lemmas.Bool.{le-leb, lt-ltb, leb-true, ltb-true}
use Rattle.std.proofs.lemmas.List.{append-nil, length-append, map_push}
use Rattle.std.proofs.lemmas.List.Concat.{flat_map-append}
use Rattle.std.proofs.lemmas.List.Folds.{list_all-append}
use Rattle.std.proofs.lemmas.List.Sums.{sum_by-append}
use Rattle.kernel_values.specs.Commands.{has_lawful_registers}
use Rattle.kernel_values.specs.Calls.{payload_of}
use Rattle.kernel_values.specs.SceneLaw.{payload_of_script}
use Rattle.kernel_values.specs.declared.scene.App.{App}
use Rattle.kernel_values.specs.declared.scene.Client.{Client}
use Rattle.kernel_values.specs.declared.script.Command.{Command}
use Rattle.scene_lines.specs.declared.reading.Used.{Used}
use Rattle.scene_lines.specs.Reading.{is_within, with_used}
use Rattle.script_lines.proofs.Bytes.{and_true}
use Rattle.scene_reader.specs.SceneText.{are_few_commands}

pub agree : (a b : Bool) → (a ≡ true → b ≡ true) → (b ≡ true → a ≡ true) → a ≡ b
agree true b h k = sym (h refl)
agree false true h k = k refl
agree false false h k = refl

pub and_right : (b : Bool) → (b && true) ≡ b
and_right true = refl
and_right false = refl

pub below_is : (n most : ℕ) → nat_le (n + 1) most ≡ nat_lt n most
below_is n most = agree (nat_le (n + 1) most) (nat_lt n most) (λ h. lt-ltb n most (omega (arith, leb-true (n + 1) most h))) (λ h. le-leb (n + 1) most (omega (arith, ltb-true n most h)))

-- ---- scripts, one of which grows

-- what scripts use
pub record Uses (scripts : List (List Command)) (used : Used) : Type 0 where
  pub commands : sum_by length scripts ≡ used.commands
  pub payload : sum_by payload_of_script scripts ≡ used.payload

counts : (front back : List (List Command)) (script more : List Command) → sum_by length (front ++ (script ++ more) ∷ back) ≡ sum_by length (front ++ script ∷ back) + length more
counts front back script more =
    let new : sum_by length ((script ++ more) ∷ back) ≡ 0 + length (script ++ more) + sum_by length back = sum_by-append length ((script ++ more) ∷ []) back in
    let old : sum_by length (script ∷ back) ≡ 0 + length script + sum_by length back = sum_by-append length (script ∷ []) back in
    omega (arith, new, old, sum_by-append length front ((script ++ more) ∷ back), sum_by-append length front (script ∷ back), length-append script more)

loads : (front back : List (List Command)) (script more : List Command) → sum_by payload_of_script (front ++ (script ++ more) ∷ back) ≡ sum_by payload_of_script (front ++ script ∷ back) + payload_of_script more
loads front back script more =
    let new : sum_by payload_of_script ((script ++ more) ∷ back) ≡ 0 + payload_of_script (script ++ more) + sum_by payload_of_script back = sum_by-append payload_of_script ((script ++ more) ∷ []) back in
    let old : sum_by payload_of_script (script ∷ back) ≡ 0 + payload_of_script script + sum_by payload_of_script back = sum_by-append payload_of_script (script ∷ []) back in
    omega (arith, new, old, sum_by-append payload_of_script front ((script ++ more) ∷ back), sum_by-append payload_of_script front (script ∷ back), sum_by-append (λ command. payload_of command.call) script more)

pub uses_more : (front back : List (List Command)) (script more : List Command) (used : Used) → Uses (front ++ script ∷ back) used → Uses (front ++ (script ++ more) ∷ back) (with_used used (length more) (payload_of_script more))
uses_more front back script more used h = record {
  commands = counts front back script more ∙ ap (λ n. n + length more) h.commands;
  payload = loads front back script more ∙ ap (λ n. n + payload_of_script more) h.payload;
}

lawful_more : (front back : List (List Command)) (script more : List Command) → list_all (list_all has_lawful_registers) (front ++ script ∷ back) ≡ true → list_all (list_all has_lawful_registers) (front ++ (script ++ more) ∷ back) ≡ list_all has_lawful_registers more
lawful_more front back script more h =
    let all = list_all (list_all has_lawful_registers) in
    let split = and_true (all front) (all (script ∷ back)) (sym (list_all-append (list_all has_lawful_registers) front (script ∷ back)) ∙ h) in
    let last = and_true (list_all has_lawful_registers script) (all back) split.1 in
    list_all-append (list_all has_lawful_registers) front ((script ++ more) ∷ back) ∙ rw (split.0, last.1, list_all-append has_lawful_registers script more, last.0) (and_right (list_all has_lawful_registers more))

pub few_more : (front back : List (List Command)) (script more : List Command) (used : Used) → are_few_commands (front ++ script ∷ back) ≡ true → Uses (front ++ script ∷ back) used
    → are_few_commands (front ++ (script ++ more) ∷ back) ≡ (list_all has_lawful_registers more && is_within (with_used used (length more) (payload_of_script more)))
unfolding are_few_commands
few_more front back script more used h uses =
    let lawful = (and_true (list_all (list_all has_lawful_registers) (front ++ script ∷ back)) _ h).0 in
    let after = uses_more front back script more used uses in
    rw (lawful_more front back script more lawful, after.commands, after.payload) refl

-- an empty script more
pub uses_empty : (front back : List (List Command)) (used : Used) → Uses (front ++ back) used → Uses (front ++ [] ∷ back) used
uses_empty front back used h = record {
  commands = omega (arith, sum_by-append length front ([] ∷ back), sum_by-append length front back, h.commands);
  payload = omega (arith, sum_by-append payload_of_script front ([] ∷ back), sum_by-append payload_of_script front back, h.payload);
}

pub few_empty : (front back : List (List Command)) → are_few_commands (front ++ [] ∷ back) ≡ are_few_commands (front ++ back)
unfolding are_few_commands
few_empty front back =
    let commands : sum_by length (front ++ [] ∷ back) ≡ sum_by length (front ++ back) = omega (arith, sum_by-append length front ([] ∷ back), sum_by-append length front back) in
    let payload : sum_by payload_of_script (front ++ [] ∷ back) ≡ sum_by payload_of_script (front ++ back) = omega (arith, sum_by-append payload_of_script front ([] ∷ back), sum_by-append payload_of_script front back) in
    let lawful : list_all (list_all has_lawful_registers) (front ++ [] ∷ back) ≡ list_all (list_all has_lawful_registers) (front ++ back) =
    list_all-append (list_all has_lawful_registers) front ([] ∷ back) ∙ sym (list_all-append (list_all has_lawful_registers) front back) in
    rw (commands, payload, lawful) refl

-- ---- the scripts of a scene

flat_last : (apps : List App) (app : App) → flat_map (λ app. app.threads) (apps ++ app ∷ []) ≡ flat_map (λ app. app.threads) apps ++ app.threads
flat_last apps app = flat_map-append (λ app. app.threads) apps (app ∷ []) ∙ ap (λ last. flat_map (λ app. app.threads) apps ++ last) (append-nil app.threads)

-- the scripts before the last thread of the last application, it, and the clients'
pub at_thread : (apps : List App) (app : App) (clients : List Client) (threads : List (List Command)) (script : List Command) → app.threads ≡ threads ++ script ∷ []
    → flat_map (λ app. app.threads) (apps ++ app ∷ []) ++ map (λ client. client.script) clients ≡ (flat_map (λ app. app.threads) apps ++ threads) ++ script ∷ map (λ client. client.script) clients
at_thread apps app clients threads script h =
    let front = flat_map (λ app. app.threads) apps in
    let back = map (λ client. client.script) clients in
    ap (λ all. all ++ back) (flat_last apps app ∙ ap (λ last. front ++ last) h ∙ sym (append_assoc front threads (script ∷ []))) ∙ append_assoc (front ++ threads) (script ∷ []) back

-- the same without its last thread
pub at_threads : (apps : List App) (app : App) (clients : List Client) → flat_map (λ app. app.threads) (apps ++ app ∷ []) ++ map (λ client. client.script) clients ≡ (flat_map (λ app. app.threads) apps ++ app.threads) ++ map (λ client. client.script) clients
at_threads apps app clients = ap (λ all. all ++ map (λ client. client.script) clients) (flat_last apps app)

pub at_client : (apps : List App) (clients : List Client) (client : Client) → flat_map (λ app. app.threads) apps ++ map (λ client. client.script) (clients ++ client ∷ []) ≡ (flat_map (λ app. app.threads) apps ++ map (λ client. client.script) clients) ++ client.script ∷ []
at_client apps clients client =
    let front = flat_map (λ app. app.threads) apps in
    ap (λ last. front ++ last) (map_push (λ client. client.script) clients client) ∙ sym (append_assoc front (map (λ client. client.script) clients) (client.script ∷ []))
