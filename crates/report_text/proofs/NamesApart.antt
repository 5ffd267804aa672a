-- The names of the actors of a lawful scene are words, and no two are equal.
use Rattle.std.proofs.Common.{◌≡◌, ◌<◌, ◌≤◌, ℕ, zero, suc, ◌+◌, Bool, true, false, List, [], ◌∷◌, ◌++◌, length, map, Some, refl, sym, ap, ◌∙◌, subst, arith, append_assoc}
use Rattle.std.specs.Prelude.{decimal, nat_lt, nat_le, ◌&&◌, ◌||◌, ◌^◌, not, bytes_eq, slice_get}
use Rattle.std.specs.List.{AllByRecursion, list_all, list_any, flat_map, range_with_len}
use Rattle.std.proofs.lemmas.Bool.Decides.{nat_tests}
use Rattle.std.proofs.lemmas.Slice.Eq.{bytes_eq-Decides}
use Rattle.kernel_values.specs.SceneLaw.{SceneValue, IsLawfulScene, is_lawful_app, is_lawful_client}
use Rattle.kernel_values.specs.Words.{is_letter, is_name_byte, is_name, are_distinct}
use Rattle.kernel_values.specs.declared.scene.App.{App}
use Rattle.kernel_values.specs.declared.scene.Client.{Client}
use Rattle.report_text.specs.Lines.{blank, line_end}
use Rattle.report_text.specs.Names.{dot, thread_name, thread_names, actor_names, name_in}
use Rattle.report_text.specs.Plain.{IsInner, IsWord}
use Rattle.report_text.proofs.Fixing.{head_is, tail_is}
use Rattle.report_text.proofs.WordsRead.{first_of, second_of, word_by, plain_decimal, numbers_same}

-- Lists of which no two items are equal.

abbrev pub IsNone : List ℕ → List (List ℕ) → Type 0
IsNone name names = AllByRecursion (λ other. name ≡ other → ⊥) names

pub AreApart : List (List ℕ) → Type 0
AreApart [] = Unit {0}
AreApart (name ∷ names) = IsNone name names × AreApart names

pub all_at : {X : Type 0} (P : X → Type 0) (xs : List X) (k : ℕ) (x : X) → AllByRecursion P xs → slice_get xs k ≡ Some x → P x
all_at P [] k x all is = absurd (cc)
all_at P (first ∷ xs) zero x all is = subst P (let same : first ≡ x = cc in same) all.0
all_at P (first ∷ xs) (suc k) x all is = all_at P xs k x all.1 is

pub all_append : {X : Type 0} (P : X → Type 0) (xs ys : List X) → AllByRecursion P xs → AllByRecursion P ys → AllByRecursion P (xs ++ ys)
all_append P [] ys p q = q
all_append P (x ∷ xs) ys p q = (p.0, all_append P xs ys p.1 q)

pub place_same : (names : List (List ℕ)) (j k : ℕ) (name : List ℕ) → AreApart names → slice_get names j ≡ Some name → slice_get names k ≡ Some name → j ≡ k
unfolding AreApart
place_same [] j k name apart p q = absurd (cc)
place_same (first ∷ names) zero zero name apart p q = refl
place_same (first ∷ names) zero (suc k) name apart p q = absurd (all_at (λ other. first ≡ other → ⊥) names k name apart.0 q (let same : first ≡ name = cc in same))
place_same (first ∷ names) (suc j) zero name apart p q = absurd (all_at (λ other. first ≡ other → ⊥) names j name apart.0 p (let same : first ≡ name = cc in same))
place_same (first ∷ names) (suc j) (suc k) name apart p q = ap (λ n. suc n) (place_same names j k name apart.1 p q)

apart_append : (xs ys : List (List ℕ)) → AreApart xs → AllByRecursion (λ x. IsNone x ys) xs → AreApart ys → AreApart (xs ++ ys)
unfolding AreApart
apart_append [] ys p between q = q
apart_append (x ∷ xs) ys p between q = (all_append (λ other. x ≡ other → ⊥) xs ys p.0 between.0, apart_append xs ys p.1 between.1 q)

left_not : (a b : Bool) → (a || b) ≡ false → a ≡ false
left_not true b h = absurd (cc)
left_not false b h = refl

right_not : (a b : Bool) → (a || b) ≡ false → b ≡ false
right_not true b h = absurd (cc)
right_not false b h = h

none_by : (name : List ℕ) (names : List (List ℕ)) → list_any (bytes_eq name) names ≡ false → IsNone name names
none_by name [] h = tt
none_by name (other ∷ names) h = (
  λ same. (let equal : bytes_eq name other ≡ true = (bytes_eq-Decides name other).1 same in let not_equal : bytes_eq name other ≡ false = left_not (bytes_eq name other) (list_any (bytes_eq name) names) h in cc),
  none_by name names (right_not (bytes_eq name other) (list_any (bytes_eq name) names) h),
)

not_true : (b : Bool) → not b ≡ true → b ≡ false
not_true true h = absurd (cc)
not_true false h = refl

apart_by : (names : List (List ℕ)) → are_distinct names ≡ true → AreApart names
unfolding AreApart
apart_by [] h = tt
apart_by (name ∷ names) h = (
  none_by name names (not_true (list_any (bytes_eq name) names) (first_of (not (list_any (bytes_eq name) names)) (are_distinct names) h)),
  apart_by names (second_of (not (list_any (bytes_eq name) names)) (are_distinct names) h),
)

-- Names without a dot.

abbrev NoDot : List ℕ → Type 0
NoDot name = AllByRecursion (λ byte. byte ≡ dot → ⊥) name

name_bytes : (bytes : List ℕ) → list_all is_name_byte bytes ≡ true → NoDot bytes
name_bytes [] h = tt
name_bytes (byte ∷ bytes) h = (
  λ same. (let yes : is_name_byte 46 ≡ true = sym (ap is_name_byte same) ∙ first_of (is_name_byte byte) (list_all is_name_byte bytes) h in cc (yes)),
  name_bytes bytes (second_of (is_name_byte byte) (list_all is_name_byte bytes) h),
)

plain_bytes : (bytes : List ℕ) → list_all is_name_byte bytes ≡ true → IsWord bytes
plain_bytes [] h = tt
plain_bytes (byte ∷ bytes) h = (
  (
    (λ same. (let yes : is_name_byte blank ≡ true = sym (ap is_name_byte same) ∙ first_of (is_name_byte byte) (list_all is_name_byte bytes) h in cc (yes))),
    (λ same. (let yes : is_name_byte line_end ≡ true = sym (ap is_name_byte same) ∙ first_of (is_name_byte byte) (list_all is_name_byte bytes) h in cc (yes))),
  ),
  plain_bytes bytes (second_of (is_name_byte byte) (list_all is_name_byte bytes) h),
)

or_left : (a b : Bool) → a ≡ true → (a || b) ≡ true
or_left true b h = refl
or_left false b h = absurd (cc)

name_all : (name : List ℕ) → is_name name ≡ true → list_all is_name_byte name ≡ true
name_all [] h = refl
name_all (byte ∷ bytes) h =
    let front : (is_letter byte && list_all is_name_byte bytes) ≡ true = first_of (is_letter byte && list_all is_name_byte bytes) (nat_lt (length bytes) 16) h in
    let letter : is_letter byte ≡ true = first_of (is_letter byte) (list_all is_name_byte bytes) front in
    let rest : list_all is_name_byte bytes ≡ true = second_of (is_letter byte) (list_all is_name_byte bytes) front in
    rw (letter, rest) refl

no_dot : (name : List ℕ) → is_name name ≡ true → NoDot name
no_dot name h = name_bytes name (name_all name h)

plain_name : (name : List ℕ) → is_name name ≡ true → IsWord name
plain_name name h = plain_bytes name (name_all name h)

dots_same : (v w a b : List ℕ) → NoDot v → NoDot w → v ++ dot ∷ a ≡ w ++ dot ∷ b → (v ≡ w) × (a ≡ b)
dots_same [] [] a b p q e = (refl, tail_is dot dot a b e)
dots_same [] (c ∷ w) a b p q e = absurd (q.0 (sym (head_is dot c a (w ++ dot ∷ b) e)))
dots_same (d ∷ v) [] a b p q e = absurd (p.0 (head_is d dot (v ++ dot ∷ a) b e))
dots_same (d ∷ v) (c ∷ w) a b p q e =
    let later = dots_same v w a b p.1 q.1 (tail_is d c (v ++ dot ∷ a) (w ++ dot ∷ b) e) in
    (ap (λ z. z ∷ v) (head_is d c (v ++ dot ∷ a) (w ++ dot ∷ b) e) ∙ ap (λ l. c ∷ l) later.0, later.1)

dot_none : (v w a : List ℕ) → NoDot w → v ++ dot ∷ a ≡ w → ⊥
dot_none [] [] a q e = absurd (cc)
dot_none [] (c ∷ w) a q e = q.0 (sym (head_is dot c a w e))
dot_none (d ∷ v) [] a q e = absurd (cc)
dot_none (d ∷ v) (c ∷ w) a q e = dot_none v w a q.1 (tail_is d c (v ++ dot ∷ a) w e)

-- The names of one application's threads.

later_apart : (app : List ℕ) (k j n : ℕ) → NoDot app → k < j → j + n ≤ 2 ^ 64 → IsNone (thread_name app k) (map (thread_name app) (range_with_len j n))
later_apart app k j zero plain before few = tt
later_apart app k j (suc n) plain before few = (
  λ same. omega (arith, before, numbers_same k j (omega (arith, before, few)) (omega (arith, few)) (dots_same app app (decimal k) (decimal j) plain plain same).1),
  later_apart app k (j + 1) n plain (omega (arith, before)) (omega (arith, few)),
)

threads_apart : (app : List ℕ) (k n : ℕ) → NoDot app → k + n ≤ 2 ^ 64 → AreApart (map (thread_name app) (range_with_len k n))
unfolding AreApart
threads_apart app k zero plain few = tt
threads_apart app k (suc n) plain few = (later_apart app k (k + 1) n plain (omega arith) (omega (arith, few)), threads_apart app (k + 1) n plain (omega (arith, few)))

all_threads : (P : List ℕ → Type 0) (app : List ℕ) → ((k : ℕ) → P (thread_name app k)) → (k n : ℕ) → AllByRecursion P (map (thread_name app) (range_with_len k n))
all_threads P app p k zero = tt
all_threads P app p k (suc n) = (p k, all_threads P app p (k + 1) n)

-- All names.

-- what the scene says of an application and of a client

lawful_name : (app : App) → is_lawful_app app ≡ true → is_name app.name ≡ true
lawful_name app h = first_of _ _ (first_of _ _ (first_of _ _ (first_of _ _ (first_of _ _ h))))

at_most_four : (n : ℕ) → nat_le n 4 ≡ true → n ≤ 4
at_most_four n h = grind (arith, nat_tests)

few_threads : (app : App) → is_lawful_app app ≡ true → length app.threads ≤ 4
few_threads app h = at_most_four (length app.threads) (second_of _ _ (first_of _ _ (first_of _ _ (first_of _ _ h))))

abbrev names_of : List App → List Client → List (List ℕ)
names_of apps clients = flat_map thread_names apps ++ map (λ client. client.name) clients

abbrev scene_names : List App → List Client → List (List ℕ)
scene_names apps clients = map (λ app. app.name) apps ++ map (λ client. client.name) clients

not_of_clients : (app : List ℕ) (k : ℕ) (clients : List Client) → list_all is_lawful_client clients ≡ true → IsNone (thread_name app k) (map (λ client. client.name) clients)
not_of_clients app k [] lawful = tt
not_of_clients app k (client ∷ clients) lawful = (
  dot_none app client.name (decimal k) (no_dot client.name (first_of _ _ (first_of _ _ lawful))),
  not_of_clients app k clients (second_of _ _ lawful),
)

not_of_others : (app : List ℕ) (k : ℕ) (apps : List App) (clients : List Client) → NoDot app → list_all is_lawful_app apps ≡ true → list_all is_lawful_client clients ≡ true
    → IsNone app (scene_names apps clients) → IsNone (thread_name app k) (names_of apps clients)
not_of_others app k [] clients plain lawful all none = not_of_clients app k clients all
not_of_others app k (other ∷ apps) clients plain lawful all none =
    let here : IsNone (thread_name app k) (thread_names other) =
    all_threads (λ name. thread_name app k ≡ name → ⊥) other.name
    (λ j same. none.0 (dots_same app other.name (decimal k) (decimal j) plain (no_dot other.name (lawful_name other (first_of _ _ lawful))) same).0) 0 (length other.threads) in
    subst (λ names. IsNone (thread_name app k) names) (sym (append_assoc (thread_names other) (flat_map thread_names apps) (map (λ client. client.name) clients)))
    (all_append (λ name. thread_name app k ≡ name → ⊥) (thread_names other) (names_of apps clients) here (not_of_others app k apps clients plain (second_of _ _ lawful) all none.1))

names_apart : (apps : List App) (clients : List Client) → list_all is_lawful_app apps ≡ true → list_all is_lawful_client clients ≡ true
    → AreApart (scene_names apps clients) → AreApart (names_of apps clients)
unfolding AreApart
names_apart [] clients lawful all apart = apart
names_apart (app ∷ apps) clients lawful all apart =
    let here : is_lawful_app app ≡ true = first_of _ _ lawful in
    let plain : NoDot app.name = no_dot app.name (lawful_name app here) in
    subst AreApart (sym (append_assoc (thread_names app) (flat_map thread_names apps) (map (λ client. client.name) clients)))
    (apart_append (thread_names app) (names_of apps clients) (threads_apart app.name 0 (length app.threads) plain (omega (arith, few_threads app here)))
    (all_threads (λ name. IsNone name (names_of apps clients)) app.name (λ k. not_of_others app.name k apps clients plain (second_of _ _ lawful) all apart.0) 0 (length app.threads))
    (names_apart apps clients (second_of _ _ lawful) all apart.1))

pub actors_apart : (scene : SceneValue) → IsLawfulScene scene → AreApart (actor_names scene)
unfolding actor_names
actors_apart scene lawful = names_apart scene.apps scene.clients lawful.apps lawful.clients (apart_by (scene_names scene.apps scene.clients) lawful.names)

-- Each is a word.

inner_append : (xs ys : List ℕ) → IsWord xs → IsWord ys → IsWord (xs ++ ys)
inner_append xs ys p q = all_append IsInner xs ys p q

plain_thread : (app : List ℕ) (k : ℕ) → IsWord app → IsWord (thread_name app k)
plain_thread app k plain = inner_append app (dot ∷ decimal k) plain ((λ is. omega (arith, is), λ is. omega (arith, is)), word_by (decimal k) (plain_decimal k))

plain_clients : (clients : List Client) → list_all is_lawful_client clients ≡ true → AllByRecursion IsWord (map (λ client. client.name) clients)
plain_clients [] lawful = tt
plain_clients (client ∷ clients) lawful = (plain_name client.name (first_of _ _ (first_of _ _ lawful)), plain_clients clients (second_of _ _ lawful))

plain_all : (apps : List App) (clients : List Client) → list_all is_lawful_app apps ≡ true → list_all is_lawful_client clients ≡ true → AllByRecursion IsWord (names_of apps clients)
plain_all [] clients lawful all = plain_clients clients all
plain_all (app ∷ apps) clients lawful all =
    let plain : IsWord app.name = plain_name app.name (lawful_name app (first_of _ _ lawful)) in
    subst (λ names. AllByRecursion IsWord names) (sym (append_assoc (thread_names app) (flat_map thread_names apps) (map (λ client. client.name) clients)))
    (all_append IsWord (thread_names app) (names_of apps clients) (all_threads IsWord app.name (λ k. plain_thread app.name k plain) 0 (length app.threads)) (plain_all apps clients (second_of _ _ lawful) all))

pub actors_plain : (scene : SceneValue) → IsLawfulScene scene → AllByRecursion IsWord (actor_names scene)
unfolding actor_names
actors_plain scene lawful = plain_all scene.apps scene.clients lawful.apps lawful.clients

-- A name fixes its actor.

name_at : (names : List (List ℕ)) (k : ℕ) → k < length names → slice_get names k ≡ Some (name_in names k)
name_at [] k below = absurd (omega arith)
name_at (name ∷ names) zero below = refl
name_at (name ∷ names) (suc k) below = name_at names k (omega arith)

pub actor_same : (names : List (List ℕ)) (j k : ℕ) → AreApart names → j < length names → k < length names → name_in names j ≡ name_in names k → j ≡ k
actor_same names j k apart p q same = place_same names j k (name_in names k) apart (name_at names j p ∙ ap (λ name. Some name) same) (name_at names k q)

pub word_of_actor : (names : List (List ℕ)) (k : ℕ) → AllByRecursion IsWord names → k < length names → IsWord (name_in names k)
word_of_actor names k plain below = all_at IsWord names k (name_in names k) plain (name_at names k below)
