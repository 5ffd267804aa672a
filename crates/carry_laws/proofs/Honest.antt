-- In a history that follows the scripts of honest clients, each call of a client is an honest one.
use Rattle.std.proofs.Common.{◌≡◌, ℕ, zero, suc, ◌-◌, ◌≤◌, Bool, true, false, ◌&&◌, cond, eqb, List, [], ◌∷◌, ◌++◌, Option, Some, None, length, map, refl, ap, subst, arith}
use Rattle.std.specs.Prelude.{slice_get}
use Rattle.std.specs.List.{cons_option, flat_map, filter_map, fold, list_all}
use Rattle.std.proofs.lemmas.Bool.{eq-eqb}
use Rattle.kernel_values.specs.SceneLaw.{SceneValue, scripts_of}
use Rattle.kernel_values.specs.declared.call.Call.{Call}
use Rattle.kernel_values.specs.declared.call.Call.TheVariants as call
use Rattle.kernel_values.specs.declared.entry.Entry.{Entry}
use Rattle.kernel_values.specs.declared.entry.Event.{Event}
use Rattle.kernel_values.specs.declared.entry.Event.TheVariants as event
use Rattle.kernel_values.specs.declared.reply.Answer.{Answer}
use Rattle.kernel_values.specs.declared.scene.Client.{Client}
use Rattle.kernel_values.specs.declared.script.Command.{Command}
use Rattle.kernel_values.specs.declared.script.RegRead.{RegRead}
use Rattle.kernel_types.specs.Carried.{is_honest}
use Rattle.kernel_values.specs.Calls.{is_honest_call, with_number}
use Rattle.kernel_types.specs.Scripts.{Stand, answered, call_at, call_of, calls_from, calls_of, led_by, next_call, one_if, read_register, script_begin, value_in}
use Rattle.kernel_types.specs.Whole.{FollowsScripts, InScript, answers_in, call_by, calls_in, is_by}
use Rattle.carry_laws.proofs.Lists.{AllOf}

abbrev pub IsHonest : Call → Type 0
IsHonest asked = is_honest_call asked ≡ true

-- Scripts.

number_honest : (place value : ℕ) (asked : Call) → IsHonest asked → IsHonest (with_number place value asked)
number_honest place value (call.NsPoke addr bytes) honest = absurd (cc)
number_honest place value (call.NsKick queue head) honest = absurd (cc)
number_honest place value other honest = refl

reads_honest : (registers : List ℕ) (asked : Call) (reads : List RegRead) → IsHonest asked → IsHonest (fold (read_register registers) asked reads)
reads_honest registers asked [] honest = honest
reads_honest registers asked (read ∷ reads) honest =
    reads_honest registers (read_register registers asked read) reads (number_honest read.place (value_in registers read.reg) asked honest)

call_honest : (registers : List ℕ) (command : Command) → IsHonest command.call → IsHonest (call_of registers command)
unfolding call_of
call_honest registers command honest = reads_honest registers command.call command.reads honest

abbrev IfHonest : Option Call → Type 0
IfHonest None = Unit {0}
IfHonest (Some asked) = IsHonest asked

command_at : (registers : List ℕ) (position len : ℕ) (script : List Command) (at : ℕ) → AllOf (λ command. IsHonest command.call) script
    → IfHonest (call_at (record { position = position; registers = registers }) len (slice_get script at))
command_at registers position len [] at all = elim (eqb position len) as (λ b. IfHonest (cond b (Some call.Finish) None)) [ true ↦ refl | false ↦ tt ]
command_at registers position len (command ∷ script) zero all = call_honest registers command all.0
command_at registers position len (command ∷ script) (suc at) all = command_at registers position len script at all.1

next_honest : (script : List Command) (stand : Stand) → AllOf (λ command. IsHonest command.call) script → IfHonest (next_call script stand)
unfolding next_call
next_honest script stand all = command_at stand.registers stand.position (length script) script stand.position all

led_honest : (o : Option Call) (calls : List Call) → IfHonest o → AllOf IsHonest calls → AllOf IsHonest (led_by o calls)
led_honest None calls first rest = tt
led_honest (Some asked) calls first rest = (first, rest)

one_honest : (o : Option Call) → IfHonest o → AllOf IsHonest (one_if o)
one_honest None is = tt
one_honest (Some asked) is = (is, tt)

from_honest : (script : List Command) (stand : Stand) (answers : List Answer) → AllOf (λ command. IsHonest command.call) script → AllOf IsHonest (calls_from script stand answers)
from_honest script stand [] all = one_honest (next_call script stand) (next_honest script stand all)
from_honest script stand (answer ∷ answers) all =
    led_honest (next_call script stand) (calls_from script (answered script stand answer) answers) (next_honest script stand all) (from_honest script (answered script stand answer) answers all)

calls_honest : (script : List Command) (answers : List Answer) → AllOf (λ command. IsHonest command.call) script → AllOf IsHonest (calls_of script answers)
unfolding calls_of
calls_honest script answers all = from_honest script script_begin answers all

-- Lists.

of_front : {X : Type 0} (R : X → Type 0) (xs ys zs : List X) → xs ++ ys ≡ zs → AllOf R zs → AllOf R xs
of_front R [] ys zs is all = tt
of_front R (x ∷ xs) ys [] is all = absurd (cc)
of_front R (x ∷ xs) ys (z ∷ zs) is all =
    let first : z ≡ x = cc in
    let rest : xs ++ ys ≡ zs = cc in
    (subst R first all.0, of_front R xs ys zs rest all.1)

of_test : {X : Type 0} (p : X → Bool) (xs : List X) → list_all p xs ≡ true → AllOf (λ x. p x ≡ true) xs
of_test p [] all = tt
of_test p (x ∷ xs) all =
    let Q : Bool → Type 0 = λ b. (b && list_all p xs) ≡ true → (b ≡ true) × (list_all p xs ≡ true) in
    let go : (b : Bool) → Q b = λ b. elim b as (λ v. Q v) [ true ↦ (λ rest. (refl, rest)) | false ↦ (λ no. absurd (cc)) ] in
    let both : (p x ≡ true) × (list_all p xs ≡ true) = go (p x) all in
    (both.0, of_test p xs both.1)

of_each : {X I : Type 0} (R : I → X → Type 0) (xs : List X) → ((i : I) → AllOf (R i) xs) → AllOf (λ x. (i : I) → R i x) xs
of_each R [] all = tt
of_each R (x ∷ xs) all = (λ i. (all i).0, of_each R xs (λ i. (all i).1))

of_found : {X : Type 0} (R : X → Type 0) (xs : List X) (at : ℕ) (x : X) → AllOf R xs → slice_get xs at ≡ Some x → R x
of_found R [] at x all is = absurd (cc)
of_found R (y ∷ ys) zero x all is = let same : y ≡ x = cc in subst R same all.0
of_found R (y ∷ ys) (suc at) x all is = of_found R ys at x all.1 is

found_mapped : {X Y : Type 0} (f : X → Y) (xs : List X) (at : ℕ) (x : X) → slice_get xs at ≡ Some x → slice_get (map f xs) at ≡ Some (f x)
found_mapped f [] at x is = absurd (cc)
found_mapped f (y ∷ ys) zero x is = let same : y ≡ x = cc in ap (λ z. Some (f z)) same
found_mapped f (y ∷ ys) (suc at) x is = found_mapped f ys at x is

found_behind : {X : Type 0} (xs ys : List X) (at : ℕ) (x : X) → length xs ≤ at → slice_get ys (at - length xs) ≡ Some x → slice_get (xs ++ ys) at ≡ Some x
found_behind [] ys at x le is = let same : at - 0 ≡ at = omega arith in rw same at is
found_behind (y ∷ xs) ys zero x le is = absurd (omega arith)
found_behind (y ∷ xs) ys (suc at) x le is =
    let same : suc at - suc (length xs) ≡ at - length xs = omega arith in
    found_behind xs ys at x (omega arith) (rw same at is)

-- A call of a client, at its start.

pub record ClientAt (scene : SceneValue) : Type 0 where
  pub actor : ℕ
  pub start : ℕ
  pub client : Client
  pub behind : length (flat_map (λ app. app.threads) scene.apps) ≤ actor
  pub found : slice_get scene.clients (actor - length (flat_map (λ app. app.threads) scene.apps)) ≡ Some client

script_found : (scene : SceneValue) (i : ClientAt scene) → slice_get (scripts_of scene) i.actor ≡ Some i.client.script
script_found scene i =
    found_behind (flat_map (λ app. app.threads) scene.apps) (map (λ (client : Client). client.script) scene.clients) i.actor i.client.script i.behind
    (found_mapped (λ (client : Client). client.script) scene.clients (i.actor - length (flat_map (λ app. app.threads) scene.apps)) i.client i.found)

filtered : (h : Entry → Option Call) (entries : List Entry) → AllOf IsHonest (filter_map h entries) → AllOf (λ entry. IfHonest (h entry)) entries
filtered h [] all = tt
filtered h (entry ∷ entries) all =
    elim (h entry) as (λ o. AllOf IsHonest (cons_option o (filter_map h entries)) → IfHonest o × AllOf (λ e. IfHonest (h e)) entries) [
      | None ↦ (λ rest. (tt, filtered h entries rest))
      | Some asked ↦ (λ both. (both.0, filtered h entries both.1))
    ] all

counted : (actor start : ℕ) (entries : List Entry) → AllOf IsHonest (calls_in actor start entries) → AllOf (λ entry. IfHonest (call_by actor start entry.event)) entries
unfolding calls_in
counted actor start entries all = filtered (λ entry. call_by actor start entry.event) entries all

of_client : (scene : SceneValue) (entries : List Entry) → AllOf (λ client. is_honest client ≡ true) scene.clients → FollowsScripts (scripts_of scene) entries
    → (i : ClientAt scene) → AllOf (λ entry. IfHonest (call_by i.actor i.start entry.event)) entries
of_client scene entries honest follows i =
    let script : List Command = i.client.script in
    let answers : List Answer = answers_in i.actor i.start entries in
    let in_script : InScript script (calls_in i.actor i.start entries) answers = follows i.actor i.start script (script_found scene i) in
    let good : is_honest i.client ≡ true = of_found (λ (client : Client). is_honest client ≡ true) scene.clients (i.actor - length (flat_map (λ app. app.threads) scene.apps)) i.client honest i.found in
    let commands : AllOf (λ command. IsHonest command.call) script = of_test (λ (command : Command). is_honest_call command.call) script good in
    counted i.actor i.start entries
    (of_front IsHonest (calls_in i.actor i.start entries) in_script.0.0 (calls_of script answers) in_script.0.1 (calls_honest script answers commands))

-- an entry that begins a call of a client begins an honest one
abbrev pub IsHonestEntry : SceneValue → Event → Type 0
IsHonestEntry scene (event.Begin actor start asked) =
    (client : Client) → length (flat_map (λ app. app.threads) scene.apps) ≤ actor.0 → slice_get scene.clients (actor.0 - length (flat_map (λ app. app.threads) scene.apps)) ≡ Some client
    → IsHonest asked
IsHonestEntry scene other = Unit {0}

by_itself : (actor start : ℕ) → is_by actor start actor start ≡ true
by_itself actor start =
    let one : eqb actor actor ≡ true = eq-eqb actor actor refl in
    let two : eqb start start ≡ true = eq-eqb start start refl in
    rw (one, two) refl

entry_honest : (scene : SceneValue) (e : Event) → ((i : ClientAt scene) → IfHonest (call_by i.actor i.start e)) → IsHonestEntry scene e
entry_honest scene (event.Begin actor start asked) all =
    λ client behind found.
    let one : IfHonest (cond (is_by actor.0 start actor.0 start) (Some asked) None) =
    all (record { actor = actor.0; start = start; client = client; behind = behind; found = found }) in
    let same : is_by actor.0 start actor.0 start ≡ true = by_itself actor.0 start in
    subst (λ b. IfHonest (cond b (Some asked) None)) same one
entry_honest scene (event.Resume actor start) all = tt
entry_honest scene event.Device all = tt
entry_honest scene event.Idle all = tt

pub all_honest : (scene : SceneValue) (entries : List Entry) → list_all is_honest scene.clients ≡ true → FollowsScripts (scripts_of scene) entries
    → AllOf (λ entry. IsHonestEntry scene entry.event) entries
all_honest scene entries honest follows =
    each_honest entries (of_each (λ (i : ClientAt scene) entry. IfHonest (call_by i.actor i.start entry.event)) entries
    (of_client scene entries (of_test is_honest scene.clients honest) follows))
  where
    each_honest : (es : List Entry) → AllOf (λ entry. (i : ClientAt scene) → IfHonest (call_by i.actor i.start entry.event)) es → AllOf (λ entry. IsHonestEntry scene entry.event) es
    each_honest [] all = tt
    each_honest (entry ∷ es) all = (entry_honest scene entry.event all.0, each_honest es all.1)
