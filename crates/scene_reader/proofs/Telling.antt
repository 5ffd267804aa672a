-- The reader's lines, one after the other, give what the definition tells of the text.
use Rattle.std.proofs.Common.{◌≡◌, ℕ, ◌+◌, Bool, true, false, not, ◌&&◌, ◌||◌, cond, List, [], ◌∷◌, ◌++◌, map, Option, Some, None, Result, Ok, Err, refl, sym, ap, subst, ◌∙◌, inl, inr}
use Rattle.std.specs.Prelude.{bytes_eq, codes}
use Rattle.std.specs.List.{list_all, list_any}
use Rattle.std.specs.Result.{is_ok}
use Rattle.std.proofs.lemmas.Bool.{false≢true}
use Rattle.std.proofs.lemmas.Slice.Eq.{bytes_eq-Decides}
use Rattle.kernel_values.specs.SceneLaw.{SceneValue}
use Rattle.kernel_values.specs.declared.script.Command.{Command}
use Rattle.kernel_values.specs.declared.scene.Turn.{Turn}
use Rattle.kernel_values.specs.declared.scene.Turn.TheVariants as turn
use Rattle.script_lines.specs.declared.fault.SceneKind.{SceneKind}
use Rattle.script_lines.specs.declared.fault.SceneKind.TheVariants.{BadByte, BadWords, TooMany, OpenRepeat}
use Rattle.script_lines.specs.declared.fault.SceneFault.{SceneFault}
use Rattle.script_lines.specs.declared.words.LineWord.{LineWord}
use Rattle.script_lines.specs.declared.words.LineWord.TheVariants as of
use Rattle.script_lines.specs.declared.words.ScriptWord.TheVariants as says
use Rattle.script_lines.specs.Gives.{◌>>=◌}
use Rattle.script_lines.specs.Numbers.{number, number_below}
use Rattle.script_lines.specs.Texts.{words_of, is_skipped, is_text_byte, lines_of}
use Rattle.script_lines.specs.LineWords.{line_word}
use Rattle.scene_lines.specs.declared.reading.Place.{Place}
use Rattle.scene_lines.specs.declared.reading.Place.TheVariants as place
use Rattle.scene_lines.specs.declared.reading.Registered.{Registered}
use Rattle.scene_lines.specs.declared.reading.Used.{Used}
use Rattle.scene_lines.specs.declared.reading.Reading.{Reading}
use Rattle.scene_lines.specs.Reading.{is_in_repeat, after_repeat, closed, client_closed, end_act, script_act, word_act, known, first_word, turn_word, with_turns, is_header, words_act, line_act}
use Rattle.script_lines.proofs.Bytes.{and_true}
use Rattle.scene_reader.specs.Whole.{opening, open_line, is_past_limit, is_closed_by, fault_in, scene_in, turns_in, lines_act, ended, closes}
use Rattle.scene_reader.specs.Whole.{is_end as is_end_words}
use Rattle.scene_reader.specs.SceneText.{Line, cut, numbered, is_end, is_repeat, is_turns, in_repeat, after_turns, standing, expanded_from, with_turn_line, given_by, given, with_some_thread, scene_given, is_empty, has_few_parts, are_few_commands, word_fault, stays_open, header_fault, turn_fault, fault_of, whole, told, scene_of}
use Rattle.scene_reader.specs.SceneText.{closes as line_closes}
use Rattle.scene_reader.proofs.Alike.{OnlyBad, numbers}
use Rattle.scene_reader.proofs.Expanding.{Body, empty, another, calls_of, turns_under}
use Rattle.scene_reader.proofs.Following.{InTurns, Opened, Follows, outside, of_app, of_thread, of_client, in_lines, in_lines_past, in_client_lines, in_client_lines_past, turning, Settles, seen}
use Rattle.scene_reader.proofs.PartSteps.{Tells, choose_not, OnlyErr, after_ok}
use Rattle.scene_reader.proofs.RepeatSteps.{open_last}
use Rattle.scene_reader.proofs.LineSteps.{found_steps}
use Rattle.scene_reader.proofs.Closing.{end_spelled, spells_end, line_closes_is, skipped_closes, any_closes, left_open}

-- ---- the header

-- a line that begins and adds nothing
pub scene_follows : (line : Line) → line.word ≡ Some of.Scene → Follows (line ∷ []) (record opening { place = place.Outside })
unfolding in_repeat after_turns expanded_from standing given given_by has_few_parts are_few_commands
scene_follows line e = outside _ _ (record {
  between = record {
    some = refl;
    no_repeat = rw e refl;
    no_turns = rw e refl;
    none_expanded = rw e refl;
    agrees = rw e (record { named = refl; clients_named = refl; published = refl; queue = refl; turns = refl; uses = record { commands = refl; payload = refl }; few_parts = refl; few_commands = refl });
  };
  stands = rw e refl;
  apps = rw e refl;
  clients = rw e refl;
})

no_repeat_yet : (line : Line) → line.word ≡ Some of.Scene → in_repeat (line ∷ []) ≡ false
unfolding in_repeat
no_repeat_yet line e = rw e refl

header_word : (number : ℕ) (text : List ℕ) (words : List (List ℕ)) → is_header words ≡ true → (cut number text words).word ≡ Some of.Scene
unfolding line_word
header_word number text (first ∷ second ∷ []) h = rw (and_true (bytes_eq first (codes "scene")) (bytes_eq second (codes "1")) h).0 refl
header_word number text [] h = absurd (false≢true h)
header_word number text (first ∷ []) h = absurd (false≢true h)
header_word number text (first ∷ second ∷ third ∷ words) h = absurd (false≢true h)

cut_text : (number : ℕ) (text : List ℕ) (words : List (List ℕ)) → (cut number text words).text ≡ text
cut_text number text [] = refl
cut_text number text (word ∷ words) = refl

cut_number : (number : ℕ) (text : List ℕ) (words : List (List ℕ)) → (cut number text words).number ≡ number
cut_number number text [] = refl
cut_number number text (word ∷ words) = refl

-- the rule of a line that is not skipped
abbrev shown : Reading → ℕ → List ℕ → Result Reading SceneKind
shown r number text = cond (list_all is_text_byte text) (words_act r r.place number text (words_of text)) (Err BadByte)

shown_is : (r : Reading) (number : ℕ) (text : List ℕ) → is_skipped (words_of text) ≡ false → line_act r number text ≡ shown r number text
unfolding line_act
shown_is r number text h = rw h refl

skipped_is : (r : Reading) (number : ℕ) (text : List ℕ) → is_skipped (words_of text) ≡ true → line_act r number text ≡ Ok r
unfolding line_act
skipped_is r number text h = rw h refl

header_tells : (number : ℕ) (text : List ℕ) (below : List Line) → Tells (fault_of [] (cut number text (words_of text)) below) None (λ next. Follows (cut number text (words_of text) ∷ []) next × (in_repeat (cut number text (words_of text) ∷ []) ≡ false)) (shown opening number text)
unfolding fault_of header_fault words_act
header_tells number text below =
    rw (cut_text number text (words_of text)) (choose_not (list_all is_text_byte text) _ _ _ _ _ _ refl (λ text_bytes.
    choose_not (is_header (words_of text)) _ _ _ _ _ _ refl (λ header. (refl, (scene_follows (cut number text (words_of text)) (header_word number text (words_of text) header), no_repeat_yet (cut number text (words_of text)) (header_word number text (words_of text) header))))))

-- ---- turns

actor_bad : (x : Result ℕ SceneKind) → OnlyBad x → OnlyErr BadWords (x >>= (λ actor. Ok (turn.Actor actor)))
actor_bad (Ok x) h = tt
actor_bad (Err kind) h = h

turn_bad : (word : List ℕ) → OnlyErr BadWords (turn_word word)
unfolding turn_word
turn_bad word = elim (bytes_eq word (codes "D")) as (λ t. OnlyErr BadWords (cond t (Ok turn.Device) (cond (bytes_eq word (codes "I")) (Ok turn.Idle) (number word >>= (λ actor. Ok (turn.Actor actor)))))) [
  | true ↦ tt
  | false ↦ elim (bytes_eq word (codes "I")) as (λ t. OnlyErr BadWords (cond t (Ok turn.Idle) (number word >>= (λ actor. Ok (turn.Actor actor))))) [
    | true ↦ tt
    | false ↦ actor_bad (number word) (numbers word)
  ]
]

-- both lists of turns go on, or both have bad words
abbrev BothTurns : Result (List Turn) SceneKind → Result (List Turn) SceneKind → Type 0
BothTurns (Ok turns) (Ok others) = Unit {0}
BothTurns (Err kind) (Err other) = (kind ≡ BadWords) × (other ≡ BadWords)
BothTurns x y = ⊥

turns_with : (x : Result Turn SceneKind) (f g : Turn → Result (List Turn) SceneKind) → OnlyErr BadWords x → ((turn : Turn) → BothTurns (f turn) (g turn)) → BothTurns (x >>= f) (x >>= g)
turns_with (Ok turn) f g only h = h turn
turns_with (Err kind) f g only h = (only, only)

both_turns : (turns others : List Turn) (words : List (List ℕ)) → BothTurns (with_turns turns words) (with_turns others words)
unfolding with_turns
both_turns turns others [] = tt
both_turns turns others (word ∷ words) = turns_with (turn_word word) _ _ (turn_bad word) (λ turn. both_turns (turns ++ turn ∷ []) (others ++ turn ∷ []) words)

turns_ok : (x y : Result (List Turn) SceneKind) → BothTurns x y → is_ok y ≡ is_ok x
turns_ok (Ok x) (Ok y) h = refl
turns_ok (Err x) (Err y) h = refl
turns_ok (Ok x) (Err y) h = absurd h
turns_ok (Err x) (Ok y) h = absurd h

turns_bad : (x y : Result (List Turn) SceneKind) → BothTurns x y → OnlyErr BadWords x
turns_bad (Ok x) y h = tt
turns_bad (Err x) (Err y) h = h.0
turns_bad (Err x) (Ok y) h = absurd h

end_no_turn : turn_word (codes "end") ≡ Err BadWords
unfolding turn_word number_below
end_no_turn = refl

first_turn : (x : Result Turn SceneKind) (f : Turn → Result (List Turn) SceneKind) (turns : List Turn) → (x >>= f) ≡ Ok turns → x ≡ Err BadWords → ⊥
first_turn (Ok x) f turns e bad = absurd cc
first_turn (Err kind) f turns e bad = absurd cc

-- a line of turns ends no repeat
turn_no_end : (number : ℕ) (text : List ℕ) (before turns : List Turn) (words : List (List ℕ)) → with_turns before words ≡ Ok turns → is_end (cut number text words).word ≡ false
unfolding with_turns
turn_no_end number text before turns [] e = refl
turn_no_end number text before turns (word ∷ words) e = elim (is_end (line_word word)) as (λ t. is_end (line_word word) ≡ t → t ≡ false) [
  | true ↦ λ h. absurd (first_turn (turn_word word) _ turns e (ap turn_word ((bytes_eq-Decides word (codes "end")).0 (end_spelled word h)) ∙ end_no_turn))
  | false ↦ λ h. refl
] refl

or_yes : (b : Bool) → (b || true) ≡ true
or_yes true = refl
or_yes false = refl

turn_follows : (above : List Line) (line : Line) (before : Registered) (used : Used) (turns next : List Turn) → InTurns above before turns → is_end line.word ≡ false → with_turns turns (words_of line.text) ≡ Ok next → Follows (line ∷ above) (record { place = place.Turns next; before = before; used = used })
unfolding after_turns given given_by expanded_from
turn_follows above line before used turns next h no_end e =
    let found : given (line ∷ above) ≡ with_turn_line line (given above) = rw (no_end, h.turned_expanded) refl in
    turning before used next (record {
      some = refl;
      turned = rw h.turned (or_yes _);
      turned_expanded = rw (no_end, h.turned_expanded) (or_yes _);
      apps = ap (λ g. map with_some_thread g.apps) found ∙ h.apps;
      clients = ap (λ g. g.clients) found ∙ h.clients;
      queue = ap (λ g. g.queue) found ∙ h.queue;
      turns_are = ap (λ g. g.turns) found ∙ rw (h.turns_are, e) refl;
    })

turn_tells : (above below : List Line) (before : Registered) (used : Used) (turns : List Turn) (number : ℕ) (text : List ℕ) → InTurns above before turns
    → Tells (fault_of above (cut number text (words_of text)) below) None (Follows (cut number text (words_of text) ∷ above)) (shown (record { place = place.Turns turns; before = before; used = used }) number text)
unfolding fault_of turn_fault words_act
turn_tells above below before used turns number text h =
    let line = cut number text (words_of text) in
    let both = both_turns turns [] (words_of text) in
    rw (cut_text number text (words_of text), h.some, h.turned, turns_ok (with_turns turns (words_of text)) (with_turns [] (words_of text)) both) (choose_not (list_all is_text_byte text) _ _ _ _ _ _ refl (λ text_bytes.
    after_ok BadWords (with_turns turns (words_of text)) _ _ _ _ (turns_bad _ _ both) (λ next e. (refl, turn_follows above line before used turns next h (turn_no_end number text turns next (words_of text) e) (ap (λ t. with_turns turns (words_of t)) (cut_text number text (words_of text)) ∙ e)))))

-- ---- lines between

words_found : (above below : List Line) (r : Reading) (number : ℕ) (text : List ℕ) (words : List (List ℕ)) → is_skipped words ≡ false → Follows above r → after_turns above ≡ false
    → Tells (word_fault above (cut number text words) below) (open_last (cut number text words) below) (Follows (cut number text words ∷ above)) (first_word r number text words)
unfolding first_word
words_found above below r number text [] h f quiet = absurd (false≢true (sym h))
words_found above below r number text (word ∷ words) h f quiet = found_steps above below r number text (line_word word) words f quiet

between_act : (above : List Line) (r : Reading) (number : ℕ) (text : List ℕ) (words : List (List ℕ)) → Follows above r → after_turns above ≡ false → words_act r r.place number text words ≡ first_word r number text words
unfolding words_act
between_act above r number text words (outside before used h) quiet = refl
between_act above r number text words (of_app before used name manifest h) quiet = refl
between_act above r number text words (of_thread before used name manifest threads script names h) quiet = refl
between_act above r number text words (of_client before used name script names h) quiet = refl
between_act above r number text words (in_lines before used name manifest threads script names outer times at commands named payload h o lawful load) quiet = refl
between_act above r number text words (in_lines_past before used name manifest threads script names outer times at commands named known kept payload h o past) quiet = refl
between_act above r number text words (in_client_lines before used name script names outer times at commands named payload h o lawful load) quiet = refl
between_act above r number text words (in_client_lines_past before used name script names outer times at commands named known kept payload h o past) quiet = refl
between_act above r number text words (turning before used turns h) quiet = absurd (false≢true (sym quiet ∙ h.turned))

some_above : (above : List Line) (r : Reading) → Follows above r → after_turns above ≡ false → is_empty above ≡ false
some_above above r f quiet = elim (seen above r f quiet) [
  | inl settles ↦ settles.between.some
  | inr repeats ↦ repeats.some
]

between_tells : (above below : List Line) (r : Reading) (number : ℕ) (text : List ℕ) → is_skipped (words_of text) ≡ false → Follows above r → after_turns above ≡ false
    → Tells (fault_of above (cut number text (words_of text)) below) (open_last (cut number text (words_of text)) below) (Follows (cut number text (words_of text) ∷ above)) (shown r number text)
unfolding fault_of
between_tells above below r number text h f quiet =
    rw (cut_text number text (words_of text), some_above above r f quiet, quiet, between_act above r number text (words_of text) f quiet) (choose_not (list_all is_text_byte text) _ _ _ _ _ _ refl (λ text_bytes. words_found above below r number text (words_of text) h f quiet))

-- ---- a line that closes has no fault but a limit

abbrev OnlyPast : Result Reading SceneKind → Type 0
OnlyPast (Ok next) = Unit {0}
OnlyPast (Err kind) = is_past_limit kind ≡ true

abbrev reading_of : Registered → Used × Place → Result Reading SceneKind
reading_of before next = Ok (record { place = next.1; before = before; used = next.0 })

abbrev at_place : Place → Used → Result (Used × Place) SceneKind
at_place place more = Ok (more, place)

past_through : (test : Bool) (used : Used) (place : Place) (before : Registered) → OnlyPast ((cond test (Ok used) (Err TooMany) >>= at_place place) >>= reading_of before)
past_through true used place before = tt
past_through false used place before = refl

end_past : (at : ℕ) (before : Registered) (used : Used) (place : Place) (number : ℕ) (text : List ℕ) → open_line place ≡ Some at → OnlyPast (word_act (record { place = place; before = before; used = used }) number text (of.Script says.End) [])
unfolding word_act script_act end_act closed client_closed after_repeat
end_past at before used (place.Repeat app repeat) number text o = past_through _ _ _ before
end_past at before used (place.ClientRepeat client repeat) number text o = past_through _ _ _ before
end_past at before used place.Start number text o = absurd cc
end_past at before used place.Outside number text o = absurd cc
end_past at before used (place.App app) number text o = absurd cc
end_past at before used (place.Client client) number text o = absurd cc
end_past at before used (place.Turns turns) number text o = absurd cc

words_past : (at : ℕ) (before : Registered) (used : Used) (place : Place) (number : ℕ) (text : List ℕ) (words : List (List ℕ)) → open_line place ≡ Some at → is_end_words words ≡ true → OnlyPast (first_word (record { place = place; before = before; used = used }) number text words)
unfolding first_word
words_past at before used place number text [] o h = absurd (false≢true h)
words_past at before used place number text (word ∷ []) o h = rw (spells_end word h) (end_past at before used place number text o)
words_past at before used place number text (word ∷ other ∷ words) o h = absurd (false≢true h)

past_is : (rule : Result Reading SceneKind) (kind : SceneKind) → rule ≡ Err kind → OnlyPast rule → is_past_limit kind ≡ true
past_is rule kind e h = subst OnlyPast e h

closing_past : (at : ℕ) (above : List Line) (r : Reading) (number : ℕ) (text : List ℕ) (kind : SceneKind) → Follows above r → after_turns above ≡ false → open_line r.place ≡ Some at → closes text ≡ true → shown r number text ≡ Err kind → is_past_limit kind ≡ true
unfolding closes
closing_past at above r number text kind f quiet o h e =
    let both = and_true (list_all is_text_byte text) (is_end_words (words_of text)) h in
    let acted : first_word r number text (words_of text) ≡ Err kind = sym (between_act above r number text (words_of text) f quiet) ∙ ap (λ t. cond t (words_act r r.place number text (words_of text)) (Err BadByte)) (sym both.0) ∙ e in
    past_is (first_word r number text (words_of text)) kind acted (words_past at r.before r.used r.place number text (words_of text) o both.1)

-- ---- a repeat that is begun

top : (threaded : Bool) (names : List (List ℕ)) (body : List Line) (commands : List Command) (named : List (List ℕ)) (line first : Line) (above outer : List Line) → Body threaded names body commands named → line ∷ above ≡ body ++ first ∷ outer → is_repeat line.word ≡ true → line ≡ first
top threaded names body commands named line first above outer empty e is = cc
top threaded names body commands named line first above outer (another last rest before found read b told) e is =
    let same : line ≡ last = cc in
    absurd (false≢true (sym (calls_of threaded last.word found last.arguments read told).no_repeat ∙ ap (λ l. is_repeat l.word) (sym same) ∙ is))

opened_number : (threaded : Bool) (line : Line) (above outer : List Line) (times at : ℕ) (names : List (List ℕ)) (commands : List Command) (named : List (List ℕ)) → Opened threaded (line ∷ above) outer times at names commands named → is_repeat line.word ≡ true → at ≡ line.number
opened_number threaded line above outer times at names commands named o is = sym o.numbered ∙ ap (λ l. l.number) (sym (top threaded names o.body commands named line o.opening above outer o.lines o.is is))

repeat_in : (line : Line) (above : List Line) → is_repeat line.word ≡ true → in_repeat (line ∷ above) ≡ true
unfolding in_repeat
repeat_in line above is = rw is refl

repeat_turns : (found : Option LineWord) → is_repeat found ≡ true → is_turns found ≡ false
repeat_turns (Some (of.Script says.Repeat)) h = refl
repeat_turns found h = absurd (false≢true h)

repeat_quiet : (line : Line) (above : List Line) → is_repeat line.word ≡ true → after_turns above ≡ false → after_turns (line ∷ above) ≡ false
unfolding after_turns
repeat_quiet line above is quiet = rw (repeat_turns line.word is) quiet

no_way : {A : Type 0} (line : Line) (above : List Line) → is_repeat line.word ≡ true → in_repeat (line ∷ above) ≡ false → A
no_way line above is apart = absurd (false≢true (sym apart ∙ repeat_in line above is))

begun_at : (line : Line) (above : List Line) (r : Reading) → Follows (line ∷ above) r → is_repeat line.word ≡ true → after_turns above ≡ false → open_line r.place ≡ Some line.number
begun_at line above r (outside before used h) is quiet = no_way line above is h.between.no_repeat
begun_at line above r (of_app before used name manifest h) is quiet = no_way line above is h.between.no_repeat
begun_at line above r (of_thread before used name manifest threads script names h) is quiet = no_way line above is h.between.no_repeat
begun_at line above r (of_client before used name script names h) is quiet = no_way line above is h.between.no_repeat
begun_at line above r (in_lines before used name manifest threads script names outer times at commands named payload h o lawful load) is quiet = ap Some (opened_number true line above outer times at names commands named o is)
begun_at line above r (in_lines_past before used name manifest threads script names outer times at commands named known kept payload h o past) is quiet = ap Some (opened_number true line above outer times at names commands named o is)
begun_at line above r (in_client_lines before used name script names outer times at commands named payload h o lawful load) is quiet = ap Some (opened_number false line above outer times at names commands named o is)
begun_at line above r (in_client_lines_past before used name script names outer times at commands named known kept payload h o past) is quiet = ap Some (opened_number false line above outer times at names commands named o is)
begun_at line above r (turning before used turns h) is quiet = absurd (false≢true (sym (repeat_quiet line above is quiet) ∙ h.turned))

-- ---- all lines

place_open : (place : Place) (at : ℕ) → open_line place ≡ Some at → is_in_repeat place ≡ true
place_open (place.Repeat app repeat) at o = refl
place_open (place.ClientRepeat client repeat) at o = refl
place_open place.Start at o = absurd cc
place_open place.Outside at o = absurd cc
place_open (place.App app) at o = absurd cc
place_open (place.Client client) at o = absurd cc
place_open (place.Turns turns) at o = absurd cc

open_above : (above : List Line) (r : Reading) (at : ℕ) → Follows above r → after_turns above ≡ false → open_line r.place ≡ Some at → in_repeat above ≡ true
open_above above r at f quiet o = elim (seen above r f quiet) [
  | inl settles ↦ absurd (false≢true (sym settles.out ∙ place_open r.place at o))
  | inr repeats ↦ repeats.open_yet
]

-- what the reader holds after the line `turns`
record HeldTurns (above : List Line) (r : Reading) : Type 0 where
  before : Registered
  used : Used
  turns : List Turn
  is : r ≡ record { place = place.Turns turns; before = before; used = used }
  held : InTurns above before turns

quiet_above : (threaded : Bool) (above outer : List Line) (times at : ℕ) (names : List (List ℕ)) (commands : List Command) (named : List (List ℕ)) → Opened threaded above outer times at names commands named → after_turns outer ≡ false → after_turns above ≡ false
unfolding after_turns
quiet_above threaded above outer times at names commands named o quiet = ap after_turns o.is ∙ turns_under threaded names o.body commands named (o.opening ∷ outer) o.lines ∙ rw o.opens quiet

held_turns : (above : List Line) (r : Reading) → Follows above r → after_turns above ≡ true → HeldTurns above r
held_turns above r (turning before used turns h) t = record { before = before; used = used; turns = turns; is = refl; held = h }
held_turns above r (outside before used h) t = absurd (false≢true (sym h.between.no_turns ∙ t))
held_turns above r (of_app before used name manifest h) t = absurd (false≢true (sym h.between.no_turns ∙ t))
held_turns above r (of_thread before used name manifest threads script names h) t = absurd (false≢true (sym h.between.no_turns ∙ t))
held_turns above r (of_client before used name script names h) t = absurd (false≢true (sym h.between.no_turns ∙ t))
held_turns above r (in_lines before used name manifest threads script names outer times at commands named payload h o lawful load) t = absurd (false≢true (sym (quiet_above true above outer times at names commands named o h.between.no_turns) ∙ t))
held_turns above r (in_lines_past before used name manifest threads script names outer times at commands named known kept payload h o past) t = absurd (false≢true (sym (quiet_above true above outer times at names commands named o h.between.no_turns) ∙ t))
held_turns above r (in_client_lines before used name script names outer times at commands named payload h o lawful load) t = absurd (false≢true (sym (quiet_above false above outer times at names commands named o h.between.no_turns) ∙ t))
held_turns above r (in_client_lines_past before used name script names outer times at commands named known kept payload h o past) t = absurd (false≢true (sym (quiet_above false above outer times at names commands named o h.between.no_turns) ∙ t))

any_tells : (above below : List Line) (r : Reading) (number : ℕ) (text : List ℕ) (turned : Bool) → after_turns above ≡ turned → is_skipped (words_of text) ≡ false → Follows above r
    → Tells (fault_of above (cut number text (words_of text)) below) (cond (not turned && stays_open (cut number text (words_of text)) below) (Some OpenRepeat) None) (Follows (cut number text (words_of text) ∷ above)) (shown r number text)
any_tells above below r number text true t h f =
    let held = held_turns above r f t in
    subst (λ q. Tells (fault_of above (cut number text (words_of text)) below) None (Follows (cut number text (words_of text) ∷ above)) (shown q number text)) (sym held.is) (turn_tells above below held.before held.used held.turns number text held.held)
any_tells above below r number text false t h f = between_tells above below r number text h f t

-- the rule's result and the told one, side by side
beside : (P : Reading → Type 0) (texts : List (List ℕ)) (above : List Line) (line : Line) (below : List Line) (r : Reading) (number : ℕ) (open_yet : Bool) (rule : Result Reading SceneKind) (fault : Option SceneKind)
    → Tells fault (cond open_yet (Some OpenRepeat) None) P rule
    → ((next : Reading) → open_yet ≡ false → P next → lines_act texts next (number + 1) ≡ told (line ∷ above) below)
    → ((next : Reading) → open_yet ≡ true → P next → lines_act texts next (number + 1) ≡ Err (record { kind = OpenRepeat; line = line.number }))
    → ((kind : SceneKind) → rule ≡ Err kind → fault_in (open_line r.place) number kind texts ≡ record { kind = kind; line = line.number })
    → (elim rule as (λ _. Result SceneValue SceneFault) [
      | Ok next ↦ lines_act texts next (number + 1)
      | Err kind ↦ Err (fault_in (open_line r.place) number kind texts)
    ]) ≡ (elim fault as (λ _. Result SceneValue SceneFault) [
      | Some kind ↦ Err (record { kind = kind; line = line.number })
      | None ↦ told (line ∷ above) below
    ])
beside P texts above line below r number true (Ok next) fault h goes opens stops = rw h.0 (opens next refl h.1)
beside P texts above line below r number false (Ok next) fault h goes opens stops = rw h.0 (goes next refl h.1)
beside P texts above line below r number open_yet (Err kind) fault h goes opens stops = rw h (ap Err (stops kind refl))

not_false : (b : Bool) → not b ≡ false → b ≡ true
not_false true h = refl
not_false false h = absurd (false≢true (sym h))

or_that : (a b : Bool) → (a || b) ≡ true → a ≡ false → b ≡ true
or_that true b h e = absurd (false≢true (sym e))
or_that false b h e = h

never_end : (a e n : Bool) → e ≡ false → (a && e && n) ≡ false
never_end true e n h = rw h refl
never_end false e n h = refl

not_end_no_close : (number : ℕ) (text : List ℕ) → is_end (cut number text (words_of text)).word ≡ false → closes text ≡ false
unfolding line_closes
not_end_no_close number text h = sym (line_closes_is number text) ∙ never_end (list_all is_text_byte (cut number text (words_of text)).text) _ _ h

-- the lines below close what is open after the line
still_closed : (above : List Line) (number : ℕ) (text : List ℕ) (texts : List (List ℕ)) (repeats ends : Bool) → is_repeat (cut number text (words_of text)).word ≡ repeats → is_end (cut number text (words_of text)).word ≡ ends → stays_open (cut number text (words_of text)) (numbered (number + 1) texts) ≡ false
    → (in_repeat above ≡ true → list_any closes (text ∷ texts) ≡ true) → in_repeat (cut number text (words_of text) ∷ above) ≡ true → list_any closes texts ≡ true
unfolding in_repeat
still_closed above number text texts true ends is e left h i =
    let none : not (list_any line_closes (numbered (number + 1) texts)) ≡ false = rw is at left in
    sym (any_closes texts (number + 1)) ∙ not_false (list_any line_closes (numbered (number + 1) texts)) none
still_closed above number text texts false true is e left h i = absurd (false≢true (rw (is, e) at i))
still_closed above number text texts false false is e left h i =
    let above_too : in_repeat above ≡ true = rw (is, e) at i in
    or_that (closes text) (list_any closes texts) (h above_too) (not_end_no_close number text e)

plain_fault : (opened : Option ℕ) (number line : ℕ) (kind : SceneKind) (texts : List (List ℕ)) → line ≡ number → ((at : ℕ) → opened ≡ Some at → is_closed_by kind texts ≡ true) → fault_in opened number kind texts ≡ record { kind = kind; line = line }
unfolding fault_in
plain_fault None number line kind texts e h = ap (λ n. record { kind = kind; line = n }) (sym e)
plain_fault (Some at) number line kind texts e h = rw (h at refl) (ap (λ n. record { kind = kind; line = n }) (sym e))

closed_by : (kind : SceneKind) (texts : List (List ℕ)) (past : Bool) → is_past_limit kind ≡ past → (past ≡ false → list_any closes texts ≡ true) → is_closed_by kind texts ≡ true
closed_by kind texts true e h = rw e refl
closed_by kind texts false e h = rw e (h refl)

not_open : (above : List Line) (r : Reading) (at : ℕ) → Follows above r → after_turns above ≡ true → open_line r.place ≡ Some at → ⊥
not_open above r at f t o =
    let held = held_turns above r f t in
    let none : open_line (place.Turns held.turns) ≡ Some at = ap (λ q. open_line q.place) (sym held.is) ∙ o in
    absurd cc

settles_of : (above : List Line) (r : Reading) → Follows above r → after_turns above ≡ false → is_in_repeat r.place ≡ false → Settles above r
settles_of above r f quiet out = elim (seen above r f quiet) [
  | inl settles ↦ settles
  | inr repeats ↦ absurd (false≢true (sym out ∙ repeats.place))
]

settled_scene : (above : List Line) (r : Reading) → Settles above r → turns_in r.place ≡ [] → scene_in r.before r.place ≡ scene_given (given above)
settled_scene above r s none = rw (s.apps, s.clients, s.between.agrees.queue, s.between.agrees.turns, none) refl

repeat_above : (above : List Line) (r : Reading) → Follows above r → after_turns above ≡ false → is_in_repeat r.place ≡ true → in_repeat above ≡ true
repeat_above above r f quiet is = elim (seen above r f quiet) [
  | inl settles ↦ absurd (false≢true (sym settles.out ∙ is))
  | inr repeats ↦ repeats.open_yet
]

never_closed : (above : List Line) (r : Reading) → Follows above r → after_turns above ≡ false → is_in_repeat r.place ≡ true → (after_turns above ≡ false → in_repeat above ≡ true → false ≡ true) → ⊥
never_closed above r f quiet is h = false≢true (h quiet (repeat_above above r f quiet is))

turned_scene : (above : List Line) (before : Registered) (turns : List Turn) → InTurns above before turns → scene_in before (place.Turns turns) ≡ scene_given (given above)
turned_scene above before turns h = rw (h.apps, h.clients, h.queue, h.turns_are) refl

or_both : (a b : Bool) → (a || b) ≡ false → b ≡ false
or_both true b h = absurd (false≢true (sym h))
or_both false b h = h

ended_is : (above : List Line) (r : Reading) → Follows above r → (after_turns above ≡ false → in_repeat above ≡ true → false ≡ true) → ended r r.place ≡ whole above
unfolding ended whole
ended_is above r (outside before used h) k = rw h.between.some (ap Ok (settled_scene above r (settles_of above r (outside before used h) h.between.no_turns refl) refl))
ended_is above r (of_app before used name manifest h) k = rw h.between.some (ap Ok (settled_scene above r (settles_of above r (of_app before used name manifest h) h.between.no_turns refl) refl))
ended_is above r (of_thread before used name manifest threads script names h) k = rw h.between.some (ap Ok (settled_scene above r (settles_of above r (of_thread before used name manifest threads script names h) h.between.no_turns refl) refl))
ended_is above r (of_client before used name script names h) k = rw h.between.some (ap Ok (settled_scene above r (settles_of above r (of_client before used name script names h) h.between.no_turns refl) refl))
ended_is above r (in_lines before used name manifest threads script names outer times at commands named payload h o lawful load) k = absurd (never_closed above r (in_lines before used name manifest threads script names outer times at commands named payload h o lawful load) (quiet_above true above outer times at names commands named o h.between.no_turns) refl k)
ended_is above r (in_lines_past before used name manifest threads script names outer times at commands named known kept payload h o past) k = absurd (never_closed above r (in_lines_past before used name manifest threads script names outer times at commands named known kept payload h o past) (quiet_above true above outer times at names commands named o h.between.no_turns) refl k)
ended_is above r (in_client_lines before used name script names outer times at commands named payload h o lawful load) k = absurd (never_closed above r (in_client_lines before used name script names outer times at commands named payload h o lawful load) (quiet_above false above outer times at names commands named o h.between.no_turns) refl k)
ended_is above r (in_client_lines_past before used name script names outer times at commands named known kept payload h o past) k = absurd (never_closed above r (in_client_lines_past before used name script names outer times at commands named known kept payload h o past) (quiet_above false above outer times at names commands named o h.between.no_turns) refl k)
ended_is above r (turning before used turns h) k = rw h.some (ap Ok (turned_scene above before turns h))

turns_above : (line : Line) (above : List Line) → after_turns (line ∷ above) ≡ false → after_turns above ≡ false
unfolding after_turns
turns_above line above h = or_both (is_turns line.word) _ h

is_false : (b : Bool) → not b ≡ true → b ≡ false
is_false false h = refl
is_false true h = absurd (false≢true h)

text_closed : (above : List Line) (r : Reading) (number : ℕ) (text : List ℕ) (texts : List (List ℕ)) (kind : SceneKind) (turned closed : Bool) (at : ℕ) → after_turns above ≡ turned → closes text ≡ closed → Follows above r → open_line r.place ≡ Some at → shown r number text ≡ Err kind → is_past_limit kind ≡ false
    → (after_turns above ≡ false → in_repeat above ≡ true → (closes text || list_any closes texts) ≡ true) → list_any closes texts ≡ true
text_closed above r number text texts kind true closed at t c f o e past h = absurd (not_open above r at f t o)
text_closed above r number text texts kind false true at t c f o e past h = absurd (false≢true (sym past ∙ closing_past at above r number text kind f t o c e))
text_closed above r number text texts kind false false at t c f o e past h = or_that (closes text) (list_any closes texts) (h t (open_above above r at f t o)) c

run : (texts : List (List ℕ)) (above : List Line) (r : Reading) (number : ℕ) → Follows above r → (after_turns above ≡ false → in_repeat above ≡ true → list_any closes texts ≡ true) → lines_act texts r number ≡ told above (numbered number texts)
unfolding lines_act told numbered
run [] above r number f h = ended_is above r f h
run (text ∷ texts) above r number f h =
    let line = cut number text (words_of text) in
    let below = numbered (number + 1) texts in
    elim (is_skipped (words_of text)) as (λ t. is_skipped (words_of text) ≡ t → (elim (line_act r number text) as (λ _. Result SceneValue SceneFault) [
      | Ok next ↦ lines_act texts next (number + 1)
      | Err kind ↦ Err (fault_in (open_line r.place) number kind texts)
    ]) ≡ told above (cond t below (line ∷ below))) [
      | true ↦ λ e. rw (skipped_is r number text e) (run texts above r (number + 1) f (λ quiet i. or_that (closes text) (list_any closes texts) (h quiet i) (skipped_closes text e)))
      | false ↦ λ e. rw (shown_is r number text e) (beside (Follows (line ∷ above)) texts above line below r number (not (after_turns above) && stays_open line below) (shown r number text) (fault_of above line below) (any_tells above below r number text (after_turns above) refl e f)
          (λ next left follows. run texts (line ∷ above) next (number + 1) follows (λ q i.
          let quiet = turns_above line above q in
          still_closed above number text texts _ _ refl refl (rw quiet at left) (h quiet) i))
          (λ next yes_open follows.
          let both = and_true (not (after_turns above)) (stays_open line below) yes_open in
          let opened = and_true (is_repeat line.word) (not (list_any line_closes below)) both.1 in
          left_open line.number texts next (number + 1) (begun_at line above next follows opened.0 (is_false (after_turns above) both.0)) (sym (any_closes texts (number + 1)) ∙ is_false (list_any line_closes below) opened.1))
          (λ kind stop. plain_fault (open_line r.place) number line.number kind texts (cut_number number text (words_of text)) (λ at o. closed_by kind texts (is_past_limit kind) refl (λ past. text_closed above r number text texts kind (after_turns above) (closes text) at refl refl f o stop past h))))
    ] refl

from_start : (texts : List (List ℕ)) (number : ℕ) → lines_act texts opening number ≡ told [] (numbered number texts)
unfolding lines_act told numbered ended whole
from_start [] number = refl
from_start (text ∷ texts) number =
    let line = cut number text (words_of text) in
    let below = numbered (number + 1) texts in
    elim (is_skipped (words_of text)) as (λ t. is_skipped (words_of text) ≡ t → (elim (line_act opening number text) as (λ _. Result SceneValue SceneFault) [
      | Ok next ↦ lines_act texts next (number + 1)
      | Err kind ↦ Err (fault_in (open_line opening.place) number kind texts)
    ]) ≡ told [] (cond t below (line ∷ below))) [
      | true ↦ λ e. rw (skipped_is opening number text e) (from_start texts (number + 1))
      | false ↦ λ e. rw (shown_is opening number text e) (beside (λ next. Follows (line ∷ []) next × (in_repeat (line ∷ []) ≡ false)) texts [] line below opening number false (shown opening number text) (fault_of [] line below) (header_tells number text below)
          (λ next left follows. run texts (line ∷ []) next (number + 1) follows.0 (λ q i. absurd (false≢true (sym follows.1 ∙ i))))
          (λ next yes_open follows. absurd (false≢true yes_open))
          (λ kind stop. plain_fault None number line.number kind texts (cut_number number text (words_of text)) (λ at o. absurd cc)))
    ] refl

-- what the reader reads in order is what the text spells
pub read_in_order : (bytes : List ℕ) → lines_act (lines_of bytes) opening 1 ≡ scene_of bytes
unfolding scene_of
read_in_order bytes = from_start (lines_of bytes) 1
