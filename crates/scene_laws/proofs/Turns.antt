-- The turns so far and the bytes of the lines that are left bound the turns of the scene.
use Rattle.std.proofs.Common.{◌≡◌, ℕ, ◌+◌, ◌≤◌, cond, List, [], ◌∷◌, ◌++◌, length, Result, Ok, Err, subst, arith}
use Rattle.std.specs.Prelude.{IfOk}
use Rattle.std.specs.List.{list_all}
use Rattle.std.proofs.lemmas.List.{length-append}
use Rattle.kernel_values.specs.SceneLaw.{SceneValue}
use Rattle.kernel_values.specs.declared.scene.Turn.{Turn}
use Rattle.script_lines.specs.declared.fault.SceneKind.TheVariants.{BadByte, NoHeader}
use Rattle.script_lines.specs.declared.fault.SceneFault.{SceneFault}
use Rattle.scene_lines.specs.declared.reading.Place.{Place}
use Rattle.scene_lines.specs.declared.reading.Place.TheVariants as place
use Rattle.scene_lines.specs.declared.reading.Reading.{Reading}
use Rattle.script_lines.specs.LineWords.{line_word}
use Rattle.script_lines.specs.Texts.{is_text_byte, words_of, is_skipped, lines_of}
use Rattle.scene_lines.specs.Reading.{turn_word, with_turns, known, word_act, first_word, is_header, words_act, line_act}
use Rattle.scene_reader.specs.Whole.{opening, open_line, fault_in, turns_in, ended, lines_act, scene_of}
use Rattle.scene_reader.proofs.Telling.{read_in_order}
use Rattle.scene_laws.proofs.Parts.{words_few, bytes_in, lines_short}
use Rattle.scene_laws.proofs.Results.{after, after_that, either}
use Rattle.scene_laws.proofs.Quiet.{HasAtMost, word_few}

-- ---- a line

listed : (most : ℕ) (turns : List Turn) (words : List (List ℕ)) → length turns + length words ≤ most → IfOk (with_turns turns words) (λ all. length all ≤ most)
unfolding with_turns
listed most turns [] few = omega (arith, few)
listed most turns (word ∷ words) few = after (λ (all : List Turn). length all ≤ most) (turn_word word) (λ turn. with_turns (turns ++ turn ∷ []) words)
    (λ turn. listed most (turns ++ turn ∷ []) words (omega (arith, length-append turns (turn ∷ []), few)))

first_few : (most : ℕ) (r : Reading) (at : ℕ) (text : List ℕ) (words : List (List ℕ)) → HasAtMost most r → IfOk (first_word r at text words) (HasAtMost most)
unfolding first_word
first_few most r at text [] few = few
first_few most r at text (first ∷ words) few = after (HasAtMost most) (known (line_word first)) (λ word. word_act r at text word words) (λ word. word_few most r at text word words few)

act_few : (most : ℕ) (r : Reading) (last : Place) (at : ℕ) (text : List ℕ) (words : List (List ℕ)) → HasAtMost most r → length (turns_in last) + length words ≤ most → IfOk (words_act r last at text words) (HasAtMost most)
unfolding words_act
act_few most r place.Start at text words few room = either (HasAtMost most) (is_header words) (Ok (record r { place = place.Outside })) (Err NoHeader) (omega arith) tt
act_few most r (place.Turns turns) at text words few room =
    after_that (λ (all : List Turn). length all ≤ most) (HasAtMost most) (with_turns turns words) (λ all. Ok (record r { place = place.Turns all })) (listed most turns words room) (λ all more. more)
act_few most r place.Outside at text words few room = first_few most r at text words few
act_few most r (place.App app) at text words few room = first_few most r at text words few
act_few most r (place.Repeat app repeat) at text words few room = first_few most r at text words few
act_few most r (place.Client client) at text words few room = first_few most r at text words few
act_few most r (place.ClientRepeat client repeat) at text words few room = first_few most r at text words few

line_few : (r : Reading) (at : ℕ) (text : List ℕ) → IfOk (line_act r at text) (HasAtMost (length (turns_in r.place) + length text))
unfolding line_act
line_few r at text =
    let most = length (turns_in r.place) + length text in
    let acted = words_act r r.place at text (words_of text) in
    either (HasAtMost most) (is_skipped (words_of text)) (Ok r) (cond (list_all is_text_byte text) acted (Err BadByte)) (omega arith)
    (either (HasAtMost most) (list_all is_text_byte text) acted (Err BadByte) (act_few most r r.place at text (words_of text) (omega arith) (omega (arith, words_few text))) tt)

-- ---- all lines

abbrev IsShort : ℕ → SceneValue → Type 0
IsShort most scene = length scene.turns ≤ most

ended_few : (most : ℕ) (r : Reading) (last : Place) → length (turns_in last) ≤ most → IfOk (ended r last) (IsShort most)
unfolding ended
ended_few most r place.Start few = tt
ended_few most r (place.Repeat app repeat) few = tt
ended_few most r place.Outside few = few
ended_few most r (place.ClientRepeat client repeat) few = tt
ended_few most r (place.App app) few = few
ended_few most r (place.Client client) few = few
ended_few most r (place.Turns turns) few = few

lines_few : (most : ℕ) (lines : List (List ℕ)) (r : Reading) (at : ℕ) → length (turns_in r.place) + bytes_in lines ≤ most → IfOk (lines_act lines r at) (IsShort most)
unfolding lines_act
lines_few most [] r at room = ended_few most r r.place (omega (arith, room))
lines_few most (line ∷ lines) r at room =
    elim (line_act r at line) as (λ rule. IfOk rule (HasAtMost (length (turns_in r.place) + length line)) → IfOk (elim rule as (λ _. Result SceneValue SceneFault) [
      | Ok next ↦ lines_act lines next (at + 1)
      | Err kind ↦ Err (fault_in (open_line r.place) at kind lines)
    ]) (IsShort most)) [
      | Ok next ↦ λ few. lines_few most lines next (at + 1) (omega (arith, few, room))
      | Err kind ↦ λ few. tt
    ] (line_few r at line)

scene_few : (bytes : List ℕ) → IfOk (scene_of bytes) (IsShort (length bytes))
scene_few bytes = subst (λ rule. IfOk rule (IsShort (length bytes))) (read_in_order bytes) (lines_few (length bytes) (lines_of bytes) opening 1 (omega (arith, lines_short bytes)))

pub turns_few : (bytes : List ℕ) (scene : SceneValue) → scene_of bytes ≡ Ok scene → length scene.turns ≤ length bytes
turns_few bytes scene read = subst (λ rule. IfOk rule (IsShort (length bytes))) read (scene_few bytes)
