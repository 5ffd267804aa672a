-- How the limits are kept: one application or client more, a change of the last one, and the scene at the end.
use Rattle.std.proofs.Common.{◌≡◌, ℕ, zero, suc, ◌+◌, ◌*◌, ◌<◌, Bool, true, false, not, ◌&&◌, ◌||◌, List, [], ◌∷◌, ◌++◌, length, map, Some, Result, Ok, Err, refl, sym, ap, subst, ◌∙◌, append_assoc, arith, cond, leb}
use Rattle.std.specs.Prelude.{bytes_eq, nat_le, sum_by}
use Rattle.std.specs.List.{flat_map, list_all, list_any}
use Rattle.std.proofs.lemmas.Bool.{false≢true, le-leb}
use Rattle.std.proofs.Math.Nat.{suc-mul}
use Rattle.std.proofs.lemmas.List.{append-nil, length-map, length-append, map_push}
use Rattle.std.proofs.lemmas.List.Concat.{flat_map-append}
use Rattle.std.proofs.lemmas.List.Folds.{list_all-append, list_any-append}
use Rattle.std.proofs.lemmas.List.Sums.{sum_by-append}
use Rattle.std.proofs.lemmas.Slice.Eq.{bytes_eq-Decides}
use Rattle.kernel_values.specs.Calls.{payload_of}
use Rattle.kernel_values.specs.Words.{is_name, are_distinct}
use Rattle.kernel_values.specs.SceneLaw.{IsLawfulScene, is_lawful_app, is_lawful_client, is_lawful_start_port, is_lawful_thread_command, is_queue_size, payload_of_script}
use Rattle.kernel_values.specs.declared.scene.App.{App}
use Rattle.kernel_values.specs.declared.scene.Client.{Client}
use Rattle.kernel_values.specs.declared.scene.StartPort.{StartPort}
use Rattle.kernel_values.specs.declared.scene.Turn.{Turn}
use Rattle.kernel_values.specs.declared.script.Command.{Command}
use Rattle.script_lines.specs.declared.fault.SceneKind.{SceneKind}
use Rattle.scene_lines.specs.declared.reading.Noted.{Noted}
use Rattle.scene_lines.specs.declared.reading.Used.{Used}
use Rattle.scene_lines.specs.Reading.{is_within, is_taken, is_named, with_ports, repeated, most_apps, most_clients, queue_of}
use Rattle.script_lines.proofs.Bytes.{and_true}
use Rattle.scene_lines.specs.Lawful.{scripts_in, client_scripts, KeepsCount}

pub or_false : (a b : Bool) → (a || b) ≡ false → (a ≡ false) × (b ≡ false)
or_false false b h = (refl, h)
or_false true b h = absurd (false≢true (sym h))

pub not_true : (a : Bool) → not a ≡ true → a ≡ false
not_true false h = refl
not_true true h = absurd (false≢true h)

-- ---- an application, taken apart

pub record AppFacts (app : App) : Type 0 where
  pub name : is_name app.name ≡ true
  pub some : nat_le 1 (length app.threads) ≡ true
  pub few : nat_le (length app.threads) 4 ≡ true
  pub commands : list_all (list_all is_lawful_thread_command) app.threads ≡ true
  pub few_ports : nat_le (length app.manifest.ports) 8 ≡ true
  pub ports : list_all is_lawful_start_port app.manifest.ports ≡ true

six : (a b c d e f : Bool) → (a && b && c && d && e && f) ≡ true → (a ≡ true) × (b ≡ true) × (c ≡ true) × (d ≡ true) × (e ≡ true) × (f ≡ true)
six true true true true true f h = (refl, refl, refl, refl, refl, h)
six false b c d e f h = absurd (false≢true h)
six true false c d e f h = absurd (false≢true h)
six true true false d e f h = absurd (false≢true h)
six true true true false e f h = absurd (false≢true h)
six true true true true false f h = absurd (false≢true h)

pub facts_of : (app : App) → is_lawful_app app ≡ true → AppFacts app
facts_of app h =
    let s = six (is_name app.name) (nat_le 1 (length app.threads)) (nat_le (length app.threads) 4) (list_all (list_all is_lawful_thread_command) app.threads) (nat_le (length app.manifest.ports) 8) (list_all is_lawful_start_port app.manifest.ports) h in
    record { name = s.0; some = s.1; few = s.2; commands = s.3; few_ports = s.4; ports = s.5 }

pub from_facts : (app : App) → AppFacts app → is_lawful_app app ≡ true
from_facts app h = rw (h.name, h.some, h.few, h.commands, h.few_ports, h.ports) refl

-- ---- the last of a list

map_last : {A B : Type 0} (f : A → B) (xs : List A) (a b : A) → f b ≡ f a → map f (xs ++ b ∷ []) ≡ map f (xs ++ a ∷ [])
map_last f [] a b e = rw e refl
map_last f (x ∷ xs) a b e = ap (λ r. f x ∷ r) (map_last f xs a b e)

flat_last : {A B : Type 0} (f : A → List B) (xs : List A) (a b : A) → f b ≡ f a → flat_map f (xs ++ b ∷ []) ≡ flat_map f (xs ++ a ∷ [])
flat_last f [] a b e = rw e refl
flat_last f (x ∷ xs) a b e = ap (λ r. f x ++ r) (flat_last f xs a b e)

sum_last : {A B : Type 0} (f : A → List B) (g : B → ℕ) (xs : List A) (b : A) → sum_by g (flat_map f (xs ++ b ∷ [])) ≡ sum_by g (flat_map f xs) + sum_by g (f b)
sum_last f g xs b = rw (flat_map-append f xs (b ∷ []), append-nil (f b), sum_by-append g (flat_map f xs) (f b)) refl

sum_changed : {A B : Type 0} (f : A → List B) (g : B → ℕ) (xs : List A) (a b : A) (k : ℕ) → sum_by g (f b) ≡ sum_by g (f a) + k → sum_by g (flat_map f (xs ++ b ∷ [])) ≡ sum_by g (flat_map f (xs ++ a ∷ [])) + k
sum_changed f g xs a b k e = omega (arith, sum_last f g xs b, sum_last f g xs a, e)

mapped_last : {A B : Type 0} (f : A → B) (g : B → ℕ) (xs : List A) (b : A) → sum_by g (map f (xs ++ b ∷ [])) ≡ sum_by g (map f xs) + g (f b)
mapped_last f g xs b = omega (arith, ap (sum_by g) (map_push f xs b), sum_by-append g (map f xs) (f b ∷ []))

pub change_last : (xs : List App) (a b : App) (clients : List Client) (noted : Noted) (used after : Used) (k p : ℕ) → KeepsCount (xs ++ a ∷ []) clients noted used → b.name ≡ a.name → b.manifest ≡ a.manifest → is_lawful_app b ≡ true
    → sum_by length b.threads ≡ sum_by length a.threads + k → sum_by payload_of_script b.threads ≡ sum_by payload_of_script a.threads + p → after.commands ≡ used.commands + k → after.payload ≡ used.payload + p → is_within after ≡ true → KeepsCount (xs ++ b ∷ []) clients noted after
change_last xs a b clients noted used after k p h name manifest lawful commands payload counted loaded within =
    let l = and_true (list_all is_lawful_app xs) (list_all is_lawful_app (a ∷ [])) (sym (list_all-append is_lawful_app xs (a ∷ [])) ∙ h.lawful) in
    record {
      lawful = list_all-append is_lawful_app xs (b ∷ []) ∙ rw (l.0, lawful) refl;
      lawful_clients = h.lawful_clients;
      named = map_last (λ app. app.name) xs a b name ∙ h.named;
      clients_named = h.clients_named;
      published = flat_last (λ app. map (λ port. port.path) app.manifest.ports) xs a b (ap (λ m. map (λ port. port.path) m.ports) manifest) ∙ h.published;
      few = h.few;
      few_clients = h.few_clients;
      distinct_names = h.distinct_names;
      distinct_ports = h.distinct_ports;
      queue = h.queue;
      commands = omega (arith, sum_changed (λ app. app.threads) length xs a b k commands, h.commands, counted);
      payload = omega (arith, sum_changed (λ app. app.threads) payload_of_script xs a b p payload, h.payload, loaded);
      within = within;
    }

pub change_client : (apps : List App) (xs : List Client) (a b : Client) (noted : Noted) (used after : Used) (k p : ℕ) → KeepsCount apps (xs ++ a ∷ []) noted used → b.name ≡ a.name → is_lawful_client b ≡ true
    → length b.script ≡ length a.script + k → payload_of_script b.script ≡ payload_of_script a.script + p → after.commands ≡ used.commands + k → after.payload ≡ used.payload + p → is_within after ≡ true → KeepsCount apps (xs ++ b ∷ []) noted after
change_client apps xs a b noted used after k p h name lawful commands payload counted loaded within =
    let l = and_true (list_all is_lawful_client xs) (list_all is_lawful_client (a ∷ [])) (sym (list_all-append is_lawful_client xs (a ∷ [])) ∙ h.lawful_clients) in
    record {
      lawful = h.lawful;
      lawful_clients = list_all-append is_lawful_client xs (b ∷ []) ∙ rw (l.0, lawful) refl;
      named = h.named;
      clients_named = map_last (λ client. client.name) xs a b name ∙ h.clients_named;
      published = h.published;
      few = h.few;
      few_clients = h.few_clients;
      distinct_names = h.distinct_names;
      distinct_ports = h.distinct_ports;
      queue = h.queue;
      commands = omega (arith, mapped_last (λ client. client.script) length xs a, mapped_last (λ client. client.script) length xs b, commands, h.commands, counted);
      payload = omega (arith, mapped_last (λ client. client.script) payload_of_script xs a, mapped_last (λ client. client.script) payload_of_script xs b, payload, h.payload, loaded);
      within = within;
    }

-- ---- names that differ

pub distinct_push : (names : List (List ℕ)) (name : List ℕ) → are_distinct names ≡ true → is_taken names name ≡ false → are_distinct (names ++ name ∷ []) ≡ true
distinct_push [] name h t = refl
distinct_push (x ∷ xs) name h t =
    let d = and_true (not (list_any (bytes_eq x) xs)) (are_distinct xs) h in
    let o = or_false (bytes_eq x name) (is_taken xs name) t in
    let apart : list_any (bytes_eq x) (xs ++ name ∷ []) ≡ false = list_any-append (bytes_eq x) xs (name ∷ []) ∙ rw (not_true (list_any (bytes_eq x) xs) d.0, o.0) refl in
    rw (apart, distinct_push xs name d.1 o.1) refl

never_true : (b : Bool) → (b ≡ true → ⊥) → b ≡ false
never_true true never = absurd (never refl)
never_true false never = refl

differ_too : (a b : List ℕ) → bytes_eq a b ≡ false → bytes_eq b a ≡ false
differ_too a b h = never_true (bytes_eq b a) (λ same. false≢true (sym h ∙ (bytes_eq-Decides a b).1 (sym ((bytes_eq-Decides b a).0 same))))

none_equal : (names : List (List ℕ)) (name : List ℕ) → is_taken names name ≡ false → list_any (bytes_eq name) names ≡ false
none_equal [] name t = refl
none_equal (x ∷ xs) name t =
    let o = or_false (bytes_eq x name) (is_taken xs name) t in
    rw (differ_too x name o.0, none_equal xs name o.1) refl

-- a name between two lists that has not come in either
distinct_between : (names others : List (List ℕ)) (name : List ℕ) → are_distinct (names ++ others) ≡ true → is_taken names name ≡ false → is_taken others name ≡ false → are_distinct ((names ++ name ∷ []) ++ others) ≡ true
distinct_between [] others name h t u = rw (none_equal others name u, h) refl
distinct_between (x ∷ xs) others name h t u =
    let d = and_true (not (list_any (bytes_eq x) (xs ++ others))) (are_distinct (xs ++ others)) h in
    let o = or_false (bytes_eq x name) (is_taken xs name) t in
    let far = or_false (list_any (bytes_eq x) xs) (list_any (bytes_eq x) others) (sym (list_any-append (bytes_eq x) xs others) ∙ not_true (list_any (bytes_eq x) (xs ++ others)) d.0) in
    let near : list_any (bytes_eq x) (xs ++ name ∷ []) ≡ false = list_any-append (bytes_eq x) xs (name ∷ []) ∙ rw (far.0, o.0) refl in
    let apart : list_any (bytes_eq x) ((xs ++ name ∷ []) ++ others) ≡ false = list_any-append (bytes_eq x) (xs ++ name ∷ []) others ∙ rw (near, far.1) refl in
    rw (apart, distinct_between xs others name d.1 o.1 u) refl

-- a name behind two lists that has not come in either
distinct_behind : (names others : List (List ℕ)) (name : List ℕ) → are_distinct (names ++ others) ≡ true → is_taken names name ≡ false → is_taken others name ≡ false → are_distinct (names ++ (others ++ name ∷ [])) ≡ true
distinct_behind names others name h t u =
    let free : is_taken (names ++ others) name ≡ false = list_any-append (λ other. bytes_eq other name) names others ∙ rw (t, u) refl in
    subst (λ all. are_distinct all ≡ true) (append_assoc names others (name ∷ [])) (distinct_push (names ++ others) name h free)

guarded : {A : Type 0} (b : Bool) (kind : SceneKind) (r : Result A SceneKind) (x : A) → cond b (Err kind) r ≡ Ok x → (b ≡ false) × (r ≡ Ok x)
guarded true kind r x e = absurd cc
guarded false kind r x e = (refl, e)

pub with_ports_is : (paths : List (List ℕ)) (ports : List StartPort) (after : List (List ℕ)) → are_distinct paths ≡ true → with_ports paths ports ≡ Ok after → (after ≡ paths ++ map (λ port. port.path) ports) × (are_distinct after ≡ true)
unfolding with_ports
with_ports_is paths [] after h e =
    let same : paths ≡ after = cc in
    (sym same ∙ sym (append-nil paths), rw (← same) h)
with_ports_is paths (port ∷ ports) after h e =
    let g = guarded (is_taken paths port.path) _ (with_ports (paths ++ port.path ∷ []) ports) after e in
    let more = with_ports_is (paths ++ port.path ∷ []) ports after (distinct_push paths port.path h g.0) g.1 in
    (more.0 ∙ append_assoc paths (port.path ∷ []) (map (λ port. port.path) ports), more.1)

pub add_app : (xs : List App) (b : App) (clients : List Client) (noted : Noted) (after : List (List ℕ)) (used : Used) → KeepsCount xs clients noted used → is_lawful_app b ≡ true → is_named noted b.name ≡ false → length noted.names < most_apps
    → with_ports noted.ports b.manifest.ports ≡ Ok after → sum_by length b.threads ≡ 0 → sum_by payload_of_script b.threads ≡ 0 → KeepsCount (xs ++ b ∷ []) clients (record noted { names = noted.names ++ b.name ∷ []; ports = after }) used
add_app xs b clients noted after used h lawful free few published commands payload =
    let w = with_ports_is noted.ports b.manifest.ports after h.distinct_ports published in
    let o = or_false (is_taken noted.names b.name) (is_taken noted.client_names b.name) free in
    record {
      lawful = list_all-append is_lawful_app xs (b ∷ []) ∙ rw (h.lawful, lawful) refl;
      lawful_clients = h.lawful_clients;
      named = map_push (λ app. app.name) xs b ∙ ap (λ ns. ns ++ b.name ∷ []) h.named;
      clients_named = h.clients_named;
      published = flat_map-append (λ app. map (λ port. port.path) app.manifest.ports) xs (b ∷ []) ∙ rw (append-nil (map (λ port. port.path) b.manifest.ports), h.published) (sym w.0);
      few = le-leb _ _ (omega (arith, length-append noted.names (b.name ∷ []), few));
      few_clients = h.few_clients;
      distinct_names = distinct_between noted.names noted.client_names b.name h.distinct_names o.0 o.1;
      distinct_ports = w.1;
      queue = h.queue;
      commands = omega (arith, sum_last (λ app. app.threads) length xs b, commands, h.commands);
      payload = omega (arith, sum_last (λ app. app.threads) payload_of_script xs b, payload, h.payload);
      within = h.within;
    }

pub add_client : (apps : List App) (xs : List Client) (b : Client) (noted : Noted) (used : Used) → KeepsCount apps xs noted used → is_lawful_client b ≡ true → is_named noted b.name ≡ false → length noted.client_names < most_clients
    → length b.script ≡ 0 → payload_of_script b.script ≡ 0 → KeepsCount apps (xs ++ b ∷ []) (record noted { client_names = noted.client_names ++ b.name ∷ [] }) used
add_client apps xs b noted used h lawful free few commands payload =
    let o = or_false (is_taken noted.names b.name) (is_taken noted.client_names b.name) free in
    record {
      lawful = h.lawful;
      lawful_clients = list_all-append is_lawful_client xs (b ∷ []) ∙ rw (h.lawful_clients, lawful) refl;
      named = h.named;
      clients_named = map_push (λ client. client.name) xs b ∙ ap (λ ns. ns ++ b.name ∷ []) h.clients_named;
      published = h.published;
      few = h.few;
      few_clients = le-leb _ _ (omega (arith, length-append noted.client_names (b.name ∷ []), few));
      distinct_names = distinct_behind noted.names noted.client_names b.name h.distinct_names o.0 o.1;
      distinct_ports = h.distinct_ports;
      queue = h.queue;
      commands = omega (arith, mapped_last (λ client. client.script) length xs b, commands, h.commands);
      payload = omega (arith, mapped_last (λ client. client.script) payload_of_script xs b, payload, h.payload);
      within = h.within;
    }

pub size_told : (apps : List App) (clients : List Client) (noted : Noted) (used : Used) (size : ℕ) → KeepsCount apps clients noted used → is_queue_size size ≡ true → KeepsCount apps clients (record noted { queue = Some size }) used
size_told apps clients noted used size h lawful = record {
  lawful = h.lawful;
  lawful_clients = h.lawful_clients;
  named = h.named;
  clients_named = h.clients_named;
  published = h.published;
  few = h.few;
  few_clients = h.few_clients;
  distinct_names = h.distinct_names;
  distinct_ports = h.distinct_ports;
  queue = lawful;
  commands = h.commands;
  payload = h.payload;
  within = h.within;
}

-- ---- repeats

pub repeated_all : (may_stand : Command → Bool) (times : ℕ) (body : List Command) → list_all may_stand body ≡ true → list_all may_stand (repeated times body) ≡ true
unfolding repeated
repeated_all may_stand zero body h = refl
repeated_all may_stand (suc times) body h = list_all-append may_stand body (repeated times body) ∙ rw (h, repeated_all may_stand times body h) refl

pub repeated_length : (times : ℕ) (body : List Command) → length (repeated times body) ≡ times * length body
unfolding repeated
repeated_length zero body =
    let e : 0 ≡ 0 * length body = omega arith in
    e
repeated_length (suc times) body = omega (arith, length-append body (repeated times body), repeated_length times body, suc-mul times (length body))

pub repeated_payload : (times : ℕ) (body : List Command) → payload_of_script (repeated times body) ≡ times * payload_of_script body
unfolding repeated
repeated_payload zero body =
    let e : 0 ≡ 0 * payload_of_script body = omega arith in
    e
repeated_payload (suc times) body = omega (arith, sum_by-append (λ command. payload_of command.call) body (repeated times body), repeated_payload times body, suc-mul times (payload_of_script body))

-- ---- the end

pub scene_kept : (apps : List App) (clients : List Client) (noted : Noted) (used : Used) (turns : List Turn) → KeepsCount apps clients noted used → IsLawfulScene (record { apps = apps; clients = clients; queue = queue_of noted; turns = turns })
scene_kept apps clients noted used turns h =
    let within = and_true (nat_le used.commands 16384) (nat_le used.payload 16777216) h.within in
    record {
      few_apps = rw (← length-map apps (λ app. app.name), h.named) h.few;
      few_clients = rw (← length-map clients (λ client. client.name), h.clients_named) h.few_clients;
      apps = h.lawful;
      clients = h.lawful_clients;
      names = rw (h.named, h.clients_named) h.distinct_names;
      start_ports = rw h.published h.distinct_ports;
      queue = h.queue;
      few_commands = subst (λ n. nat_le n 16384 ≡ true) (sym (sum_by-append length (scripts_in apps) (client_scripts clients) ∙ h.commands)) within.0;
      small_payload = subst (λ n. nat_le n 16777216 ≡ true) (sym (sum_by-append payload_of_script (scripts_in apps) (client_scripts clients) ∙ h.payload)) within.1;
    }
