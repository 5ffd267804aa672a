-- The first word of a line, as it is spelled and as it is read: whether it leads past the driver.
use Rattle.std.proofs.Common.{◌≡◌, ℕ, Bool, true, false, cond, ◌&&◌, ◌||◌, List, [], ◌∷◌, ◌++◌, Option, Some, None, Result, Ok, Err, refl, sym, ap, subst, ◌∙◌, arith}
use Rattle.std.specs.Prelude.{IfOk, not, bytes_eq, codes}
use Rattle.std.proofs.lemmas.Bool.{false≢true}
use Rattle.std.proofs.lemmas.Bool.Decides.{nat_tests}
use Rattle.std.proofs.lemmas.Slice.Eq.{bytes_eq-Decides}
use Rattle.kernel_values.specs.declared.scene.Turn.{Turn}
use Rattle.script_lines.specs.declared.fault.SceneKind.{SceneKind}
use Rattle.script_lines.specs.declared.fault.SceneKind.TheVariants.{BadWords}
use Rattle.script_lines.specs.declared.words.CallWord.{CallWord}
use Rattle.script_lines.specs.declared.words.ClientWord.{ClientWord}
use Rattle.script_lines.specs.declared.words.ClientWord.TheVariants as client
use Rattle.script_lines.specs.declared.words.LineWord.{LineWord}
use Rattle.script_lines.specs.declared.words.LineWord.TheVariants as line
use Rattle.script_lines.specs.declared.words.PartWord.{PartWord}
use Rattle.script_lines.specs.declared.words.ScriptWord.{ScriptWord}
use Rattle.script_lines.specs.declared.words.ScriptWord.TheVariants as script
use Rattle.script_lines.specs.Gives.{◌>>=◌}
use Rattle.script_lines.specs.Calls.{port_word, message_word, handle_word, memory_word}
use Rattle.script_lines.specs.LineWords.{line_word, part_word, script_word, structure_word, thread_word, client_word, or_calls, or_script}
use Rattle.script_lines.specs.Numbers.{number_below}
use Rattle.script_lines.specs.Texts.{is_skipped}
use Rattle.scene_lines.specs.Reading.{is_header, turn_word, with_turns}
use Rattle.scene_laws.proofs.Results.{after}
use Rattle.scene_laws.specs.DriverWords.{is_driver_word, begins_by_driver}

-- whether what was read leads no client past its driver

abbrev pub is_driver_script : ScriptWord → Bool
is_driver_script (script.ClientCall word) = is_driver_word word
is_driver_script other = true

abbrev pub is_driver_begin : LineWord → Bool
is_driver_begin (line.Script word) = is_driver_script word
is_driver_begin other = true

abbrev pub is_driver_read : Option LineWord → Bool
is_driver_read None = true
is_driver_read (Some word) = is_driver_begin word

abbrev is_driver_client : Option ClientWord → Bool
is_driver_client None = true
is_driver_client (Some word) = is_driver_word word

-- ---- by the spelled word

same_bytes : (xs ys : List ℕ) → bytes_eq xs ys ≡ true → xs ≡ ys
same_bytes xs ys e = (bytes_eq-Decides xs ys).0 e

of_client : (m n o p x y : Bool) → x ≡ false → y ≡ false
    → is_driver_client (cond m (Some client.Connect) (cond n (Some client.Send) (cond o (Some client.Recv) (cond p (Some client.Close) (cond x (Some client.Poke) (cond y (Some client.Kick) None)))))) ≡ true
of_client true n o p x y e f = refl
of_client false true o p x y e f = refl
of_client false false true p x y e f = refl
of_client false false false true x y e f = refl
of_client false false false false true y e f = absurd cc
of_client false false false false false true e f = absurd cc
of_client false false false false false false e f = refl

of_calls : (a b c : Bool) (th : Option CallWord) (cl : Option ClientWord) → is_driver_client cl ≡ true
    → is_driver_read (or_script None (or_calls (cond a (Some script.Thread) (cond b (Some script.Repeat) (cond c (Some script.End) None))) th cl)) ≡ true
of_calls true b c th cl h = refl
of_calls false true c th cl h = refl
of_calls false false true th cl h = refl
of_calls false false false (Some word) cl h = refl
of_calls false false false None (Some word) h = h
of_calls false false false None None h = refl

of_line : (t : Bool) (p : Option PartWord) (s : Option ScriptWord) → is_driver_read (or_script None s) ≡ true → is_driver_read (cond t (Some line.Scene) (or_script p s)) ≡ true
of_line true p s h = refl
of_line false (Some word) s h = refl
of_line false None s h = h

npoke_read : is_driver_read (line_word (codes "npoke")) ≡ false
unfolding line_word part_word script_word structure_word thread_word port_word message_word handle_word memory_word client_word
npoke_read = refl

nkick_read : is_driver_read (line_word (codes "nkick")) ≡ false
unfolding line_word part_word script_word structure_word thread_word port_word message_word handle_word memory_word client_word
nkick_read = refl

neither : (first : List ℕ) → bytes_eq first (codes "npoke") ≡ false → bytes_eq first (codes "nkick") ≡ false → is_driver_read (line_word first) ≡ true
unfolding line_word script_word structure_word client_word
neither first e f =
    of_line (bytes_eq first (codes "scene")) (part_word first) _ (of_calls (bytes_eq first (codes "thread")) (bytes_eq first (codes "repeat")) (bytes_eq first (codes "end")) (thread_word first) _
    (of_client (bytes_eq first (codes "nconnect")) (bytes_eq first (codes "nsend")) (bytes_eq first (codes "nrecv")) (bytes_eq first (codes "nclose")) (bytes_eq first (codes "npoke")) (bytes_eq first (codes "nkick")) e f))

pub by_name : (first : List ℕ) → is_driver_read (line_word first) ≡ not (bytes_eq first (codes "npoke") || bytes_eq first (codes "nkick"))
by_name first =
    let go : (x y : Bool) → bytes_eq first (codes "npoke") ≡ x → bytes_eq first (codes "nkick") ≡ y → is_driver_read (line_word first) ≡ not (x || y) = λ x y. elim x as (λ x. bytes_eq first (codes "npoke") ≡ x → bytes_eq first (codes "nkick") ≡ y → is_driver_read (line_word first) ≡ not (x || y)) [
      | true ↦ (λ e f. ap (λ word. is_driver_read (line_word word)) (same_bytes first (codes "npoke") e) ∙ npoke_read)
      | false ↦ elim y as (λ y. bytes_eq first (codes "npoke") ≡ false → bytes_eq first (codes "nkick") ≡ y → is_driver_read (line_word first) ≡ not y) [
        | true ↦ (λ e f. ap (λ word. is_driver_read (line_word word)) (same_bytes first (codes "nkick") f) ∙ nkick_read)
        | false ↦ (λ e f. neither first e f)
      ]
    ] in
    go (bytes_eq first (codes "npoke")) (bytes_eq first (codes "nkick")) refl refl

-- ---- lines that begin by no such word

pub skipped_by_driver : (words : List (List ℕ)) → is_skipped words ≡ true → begins_by_driver words ≡ true
skipped_by_driver [] h = refl
skipped_by_driver ([] ∷ words) h = refl
skipped_by_driver ((byte ∷ bytes) ∷ words) h =
    let is : byte ≡ 35 = grind (arith, nat_tests) in
    subst (λ b. begins_by_driver ((b ∷ bytes) ∷ words) ≡ true) (sym is) refl

left_of : (a b : Bool) → (a && b) ≡ true → a ≡ true
left_of true b h = refl
left_of false b h = h

pub header_by_driver : (words : List (List ℕ)) → is_header words ≡ true → begins_by_driver words ≡ true
header_by_driver (first ∷ second ∷ []) h =
    let is : first ≡ codes "scene" = same_bytes first (codes "scene") (left_of (bytes_eq first (codes "scene")) (bytes_eq second (codes "1")) h) in
    subst (λ word. begins_by_driver (word ∷ second ∷ []) ≡ true) (sym is) refl
header_by_driver words h = absurd (false≢true h)

turn_npoke : turn_word (codes "npoke") ≡ Err BadWords
unfolding turn_word number_below
turn_npoke = refl

turn_nkick : turn_word (codes "nkick") ≡ Err BadWords
unfolding turn_word number_below
turn_nkick = refl

refused_turn : (rule : Result Turn SceneKind) (next : Turn → Result (List Turn) SceneKind) (P : List Turn → Type 0) → rule ≡ Err BadWords → IfOk (rule >>= next) P
refused_turn rule next P e = subst (λ rule. IfOk (rule >>= next) P) (sym e) tt

any_rest : (rule : Result (List Turn) SceneKind) → IfOk rule (λ all. not false ≡ true)
any_rest (Ok all) = refl
any_rest (Err kind) = tt

pub turns_by_driver : (turns : List Turn) (words : List (List ℕ)) → IfOk (with_turns turns words) (λ all. begins_by_driver words ≡ true)
unfolding with_turns
turns_by_driver turns [] = refl
turns_by_driver turns (first ∷ words) =
    let next = λ (turn : Turn). with_turns (turns ++ turn ∷ []) words in
    let By : Bool → List Turn → Type 0 = λ b all. not b ≡ true in
    let go : (x y : Bool) → bytes_eq first (codes "npoke") ≡ x → bytes_eq first (codes "nkick") ≡ y → IfOk (turn_word first >>= next) (By (x || y)) = λ x y. elim x as (λ x. bytes_eq first (codes "npoke") ≡ x → bytes_eq first (codes "nkick") ≡ y → IfOk (turn_word first >>= next) (By (x || y))) [
      | true ↦ (λ e f. refused_turn (turn_word first) next (By true) (ap turn_word (same_bytes first (codes "npoke") e) ∙ turn_npoke))
      | false ↦ elim y as (λ y. bytes_eq first (codes "npoke") ≡ false → bytes_eq first (codes "nkick") ≡ y → IfOk (turn_word first >>= next) (By y)) [
        | true ↦ (λ e f. refused_turn (turn_word first) next (By true) (ap turn_word (same_bytes first (codes "nkick") f) ∙ turn_nkick))
        | false ↦ (λ e f. after (By false) (turn_word first) next (λ turn. any_rest (with_turns (turns ++ turn ∷ []) words)))
      ]
    ] in
    go (bytes_eq first (codes "npoke")) (bytes_eq first (codes "nkick")) refl refl
