-- Which lines close a repeat, and what becomes of one that none closes.
use Rattle.std.proofs.Common.{◌≡◌, ℕ, ◌+◌, Bool, true, false, ◌&&◌, ◌||◌, cond, List, [], ◌∷◌, ◌++◌, length, Option, Some, None, Result, Ok, Err, refl, sym, ap, subst, ◌∙◌}
use Rattle.std.specs.Prelude.{bytes_eq, codes}
use Rattle.std.specs.List.{list_all, list_any}
use Rattle.std.proofs.lemmas.Bool.{false≢true}
use Rattle.std.proofs.lemmas.Slice.Eq.{bytes_eq-Decides}
use Rattle.kernel_values.specs.SceneLaw.{SceneValue}
use Rattle.kernel_values.specs.Commands.{has_lawful_registers}
use Rattle.kernel_values.specs.Calls.{payload_of}
use Rattle.kernel_values.specs.declared.script.Command.{Command}
use Rattle.script_lines.specs.declared.fault.SceneKind.{SceneKind}
use Rattle.script_lines.specs.declared.fault.SceneKind.TheVariants.{BadByte, BadWords, OpenRepeat}
use Rattle.script_lines.specs.declared.fault.SceneFault.{SceneFault}
use Rattle.script_lines.specs.declared.words.LineWord.{LineWord}
use Rattle.script_lines.specs.declared.words.LineWord.TheVariants as of
use Rattle.script_lines.specs.declared.words.PartWord.{PartWord}
use Rattle.script_lines.specs.declared.words.PartWord.TheVariants as part
use Rattle.script_lines.specs.declared.words.ScriptWord.{ScriptWord}
use Rattle.script_lines.specs.declared.words.ScriptWord.TheVariants as says
use Rattle.script_lines.specs.declared.words.CallWord.{CallWord}
use Rattle.script_lines.specs.declared.words.ClientWord.{ClientWord}
use Rattle.script_lines.specs.Gives.{◌>>=◌}
use Rattle.script_lines.specs.Texts.{words_of, is_skipped, is_comment, is_text_byte}
use Rattle.script_lines.specs.LineWords.{line_word, part_word, script_word, structure_word, thread_word, client_word, or_calls, or_script}
use Rattle.script_lines.specs.Calls.{command_line}
use Rattle.script_lines.specs.ClientCalls.{client_command_line}
use Rattle.scene_lines.specs.declared.reading.OpenApp.{OpenApp}
use Rattle.scene_lines.specs.declared.reading.OpenClient.{OpenClient}
use Rattle.scene_lines.specs.declared.reading.Repeat.{Repeat}
use Rattle.scene_lines.specs.declared.reading.Place.{Place}
use Rattle.scene_lines.specs.declared.reading.Place.TheVariants as place
use Rattle.scene_lines.specs.declared.reading.Registered.{Registered}
use Rattle.scene_lines.specs.declared.reading.Used.{Used}
use Rattle.scene_lines.specs.declared.reading.Reading.{Reading}
use Rattle.scene_lines.specs.Reading.{no_more, is_within, with_used, extended, repeat_line, call_act, client_repeat_line, client_call_act, thread_act, repeat_act, end_act, queues_act, app_act, client_act, turns_act, part_act, script_act, word_act, known, first_word, words_act, line_act}
use Rattle.scene_reader.specs.Whole.{open_line, is_past_limit, fault_in, lines_act, ended, closes}
use Rattle.scene_reader.specs.Whole.{is_end as is_end_words}
use Rattle.scene_reader.specs.SceneText.{cut, numbered, is_end}
use Rattle.scene_reader.specs.SceneText.{closes as line_closes}
use Rattle.scene_reader.proofs.Stable.{any_names, any_client_names}
use Rattle.scene_reader.proofs.Limits.{agree}
use Rattle.scene_reader.proofs.PartSteps.{OnlyErr}
use Rattle.scene_reader.proofs.ScriptSteps.{fated_bad}

-- ---- `end`

from_line : (test : Bool) (p : Option PartWord) (q : Option ScriptWord) → cond test (Some of.Scene) (or_script p q) ≡ Some (of.Script says.End) → q ≡ Some says.End
from_line true p q e = absurd cc
from_line false (Some word) q e = absurd cc
from_line false None (Some word) e = cc
from_line false None None e = absurd cc

from_script : (s : Option ScriptWord) (t : Option CallWord) (c : Option ClientWord) → or_calls s t c ≡ Some says.End → s ≡ Some says.End
from_script (Some word) t c e = e
from_script None (Some word) c e = absurd cc
from_script None None (Some word) e = absurd cc
from_script None None None e = absurd cc

from_structure : (a b c : Bool) → cond {A = Option ScriptWord} a (Some says.Thread) (cond b (Some says.Repeat) (cond c (Some says.End) None)) ≡ Some says.End → c ≡ true
from_structure true b c e = absurd cc
from_structure false true c e = absurd cc
from_structure false false true e = refl
from_structure false false false e = absurd cc

is_end_is : (found : Option LineWord) → is_end found ≡ true → found ≡ Some (of.Script says.End)
is_end_is (Some (of.Script says.End)) h = refl
is_end_is found h = absurd (false≢true h)

pub end_spelled : (word : List ℕ) → is_end (line_word word) ≡ true → bytes_eq word (codes "end") ≡ true
unfolding line_word script_word structure_word
end_spelled word h =
    let found = from_line (bytes_eq word (codes "scene")) (part_word word) (or_calls (structure_word word) (thread_word word) (client_word word)) (is_end_is (line_word word) h) in
    from_structure (bytes_eq word (codes "thread")) (bytes_eq word (codes "repeat")) (bytes_eq word (codes "end")) (from_script (structure_word word) (thread_word word) (client_word word) found)

end_read : line_word (codes "end") ≡ Some (of.Script says.End)
unfolding line_word part_word script_word structure_word
end_read = refl

pub spells_end : (word : List ℕ) → bytes_eq word (codes "end") ≡ true → line_word word ≡ Some (of.Script says.End)
spells_end word h = ap line_word ((bytes_eq-Decides word (codes "end")).0 h) ∙ end_read

same_end : (word : List ℕ) → is_end (line_word word) ≡ bytes_eq word (codes "end")
same_end word = agree _ _ (end_spelled word) (λ h. ap is_end (spells_end word h))

-- ---- lines that close

joined : (a e n b : Bool) → (e && n) ≡ b → (a && e && n) ≡ (a && b)
joined true e n b h = h
joined false e n b h = refl

and_false : (b : Bool) → (b && false) ≡ false
and_false true = refl
and_false false = refl

and_yes : (b : Bool) → (b && true) ≡ b
and_yes true = refl
and_yes false = refl

cut_closes : (number : ℕ) (text : List ℕ) (words : List (List ℕ)) → line_closes (cut number text words) ≡ (list_all is_text_byte text && is_end_words words)
unfolding line_closes
cut_closes number text [] = joined (list_all is_text_byte text) false true false refl
cut_closes number text (word ∷ []) = joined (list_all is_text_byte text) (is_end (line_word word)) true (bytes_eq word (codes "end")) (and_yes _ ∙ same_end word)
cut_closes number text (word ∷ other ∷ words) = joined (list_all is_text_byte text) (is_end (line_word word)) false false (and_false _)

pub line_closes_is : (number : ℕ) (text : List ℕ) → line_closes (cut number text (words_of text)) ≡ closes text
unfolding closes
line_closes_is number text = cut_closes number text (words_of text)

comment_no_end : (word : List ℕ) → is_comment word ≡ true → bytes_eq word (codes "end") ≡ false
comment_no_end [] h = absurd (false≢true h)
comment_no_end (byte ∷ bytes) h = elim (bytes_eq (byte ∷ bytes) (codes "end")) as (λ t. bytes_eq (byte ∷ bytes) (codes "end") ≡ t → t ≡ false) [
  | true ↦ λ e. absurd (false≢true (sym (ap is_comment ((bytes_eq-Decides (byte ∷ bytes) (codes "end")).0 e)) ∙ h))
  | false ↦ λ e. refl
] refl

skipped_words : (words : List (List ℕ)) → is_skipped words ≡ true → is_end_words words ≡ false
skipped_words [] h = refl
skipped_words (word ∷ []) h = comment_no_end word h
skipped_words (word ∷ other ∷ words) h = refl

pub skipped_closes : (text : List ℕ) → is_skipped (words_of text) ≡ true → closes text ≡ false
unfolding closes
skipped_closes text h = rw (skipped_words (words_of text) h) (and_false (list_all is_text_byte text))

pub any_closes : (texts : List (List ℕ)) (number : ℕ) → list_any line_closes (numbered number texts) ≡ list_any closes texts
unfolding numbered
any_closes [] number = refl
any_closes (text ∷ texts) number = elim (is_skipped (words_of text)) as (λ t. is_skipped (words_of text) ≡ t → list_any line_closes (cond t (numbered (number + 1) texts) (cut number text (words_of text) ∷ numbered (number + 1) texts)) ≡ (closes text || list_any closes texts)) [
  | true ↦ λ h. rw (skipped_closes text h) (any_closes texts (number + 1))
  | false ↦ λ h. rw (line_closes_is number text, any_closes texts (number + 1)) refl
] refl

-- ---- a repeat that is open

-- it stays open, or the line has a fault that is no limit
abbrev Stays : ℕ → Result Reading SceneKind → Type 0
Stays at (Ok next) = open_line next.place ≡ Some at
Stays at (Err kind) = is_past_limit kind ≡ false

abbrev PlaceStays : ℕ → Result Place SceneKind → Type 0
PlaceStays at (Ok next) = open_line next ≡ Some at
PlaceStays at (Err kind) = is_past_limit kind ≡ false

then_stays : {A : Type 0} (at : ℕ) (x : Result A SceneKind) (f : A → Place) → OnlyErr BadWords x → ((a : A) → open_line (f a) ≡ Some at) → PlaceStays at (x >>= (λ a. Ok (f a)))
then_stays at (Ok a) f only h = h a
then_stays at (Err kind) f only h = ap is_past_limit only

abbrev paired : Used → Place → Result (Used × Place) SceneKind
paired used next = Ok (used, next)

abbrev reading_with : Registered → Used × Place → Result Reading SceneKind
reading_with before next = Ok (record { place = next.1; before = before; used = next.0 })

lift_stays : (at : ℕ) (before : Registered) (used : Used) (x : Result Place SceneKind) → PlaceStays at x → Stays at ((x >>= paired used) >>= reading_with before)
lift_stays at before used (Ok next) h = h
lift_stays at before used (Err kind) h = h

kept_line : (repeat : Repeat) (command : Command) → (extended repeat command).line ≡ repeat.line
unfolding extended
kept_line repeat command = elim (has_lawful_registers command && is_within (with_used (record { commands = length repeat.body; payload = repeat.payload }) 1 (payload_of command.call))) as (λ t. (cond t (record repeat { body = repeat.body ++ command ∷ []; payload = repeat.payload + payload_of command.call }) (record repeat { is_past = true })).line ≡ repeat.line) [
  | true ↦ refl
  | false ↦ refl
]

either_stays : (at : ℕ) (test : Bool) (x y : Result Place SceneKind) → PlaceStays at x → PlaceStays at y → PlaceStays at (cond test x y)
either_stays at true x y h k = h
either_stays at false x y h k = k

line_stays : (app : OpenApp) (repeat : Repeat) (word : CallWord) (words : List (List ℕ)) → PlaceStays repeat.line (repeat_line app repeat word words)
unfolding repeat_line
line_stays app repeat word words = either_stays repeat.line repeat.is_past _ _
    (then_stays repeat.line (command_line [] word words) (λ read. place.Repeat app repeat) (fated_bad _ _ (any_names [] [] word words)) (λ read. refl))
    (then_stays repeat.line (command_line app.names word words) (λ read. place.Repeat (record app { names = read.0 }) (extended repeat read.1)) (fated_bad _ _ (any_names app.names [] word words)) (λ read. ap Some (kept_line repeat read.1)))

client_line_stays : (client : OpenClient) (repeat : Repeat) (word : ClientWord) (words : List (List ℕ)) → PlaceStays repeat.line (client_repeat_line client repeat word words)
unfolding client_repeat_line
client_line_stays client repeat word words = either_stays repeat.line repeat.is_past _ _
    (then_stays repeat.line (client_command_line [] word words) (λ read. place.ClientRepeat client repeat) (fated_bad _ _ (any_client_names [] [] word words)) (λ read. refl))
    (then_stays repeat.line (client_command_line client.names word words) (λ read. place.ClientRepeat (record client { names = read.0 }) (extended repeat read.1)) (fated_bad _ _ (any_client_names client.names [] word words)) (λ read. ap Some (kept_line repeat read.1)))

word_stays : (before : Registered) (used : Used) (app : OpenApp) (repeat : Repeat) (number : ℕ) (text : List ℕ) (word : LineWord) (words : List (List ℕ)) → (is_end (Some word) && no_more words) ≡ false → Stays repeat.line (word_act (record { place = place.Repeat app repeat; before = before; used = used }) number text word words)
unfolding word_act part_act queues_act app_act client_act turns_act script_act thread_act repeat_act end_act call_act client_call_act
word_stays before used app repeat number text of.Scene words h = refl
word_stays before used app repeat number text (of.Part part.Queues) words h = refl
word_stays before used app repeat number text (of.Part part.App) words h = refl
word_stays before used app repeat number text (of.Part part.Client) words h = refl
word_stays before used app repeat number text (of.Part part.Turns) words h = refl
word_stays before used app repeat number text (of.Script says.Thread) words h = refl
word_stays before used app repeat number text (of.Script says.Repeat) words h = refl
word_stays before used app repeat number text (of.Script says.End) words h = rw h refl
word_stays before used app repeat number text (of.Script (says.Call word)) words h = lift_stays repeat.line before used _ (line_stays app repeat word words)
word_stays before used app repeat number text (of.Script (says.ClientCall word)) words h = refl

client_word_stays : (before : Registered) (used : Used) (client : OpenClient) (repeat : Repeat) (number : ℕ) (text : List ℕ) (word : LineWord) (words : List (List ℕ)) → (is_end (Some word) && no_more words) ≡ false → Stays repeat.line (word_act (record { place = place.ClientRepeat client repeat; before = before; used = used }) number text word words)
unfolding word_act part_act queues_act app_act client_act turns_act script_act thread_act repeat_act end_act call_act client_call_act
client_word_stays before used client repeat number text of.Scene words h = refl
client_word_stays before used client repeat number text (of.Part part.Queues) words h = refl
client_word_stays before used client repeat number text (of.Part part.App) words h = refl
client_word_stays before used client repeat number text (of.Part part.Client) words h = refl
client_word_stays before used client repeat number text (of.Part part.Turns) words h = refl
client_word_stays before used client repeat number text (of.Script says.Thread) words h = refl
client_word_stays before used client repeat number text (of.Script says.Repeat) words h = refl
client_word_stays before used client repeat number text (of.Script says.End) words h = rw h refl
client_word_stays before used client repeat number text (of.Script (says.Call word)) words h = refl
client_word_stays before used client repeat number text (of.Script (says.ClientCall word)) words h = lift_stays repeat.line before used _ (client_line_stays client repeat word words)

known_stays : (before : Registered) (used : Used) (app : OpenApp) (repeat : Repeat) (number : ℕ) (text : List ℕ) (found : Option LineWord) (words : List (List ℕ)) → (is_end found && no_more words) ≡ false → Stays repeat.line (known found >>= (λ word. word_act (record { place = place.Repeat app repeat; before = before; used = used }) number text word words))
known_stays before used app repeat number text None words h = refl
known_stays before used app repeat number text (Some word) words h = word_stays before used app repeat number text word words h

client_known_stays : (before : Registered) (used : Used) (client : OpenClient) (repeat : Repeat) (number : ℕ) (text : List ℕ) (found : Option LineWord) (words : List (List ℕ)) → (is_end found && no_more words) ≡ false → Stays repeat.line (known found >>= (λ word. word_act (record { place = place.ClientRepeat client repeat; before = before; used = used }) number text word words))
client_known_stays before used client repeat number text None words h = refl
client_known_stays before used client repeat number text (Some word) words h = client_word_stays before used client repeat number text word words h

no_close : (words : List (List ℕ)) (word : List ℕ) → is_end_words (word ∷ words) ≡ false → (is_end (line_word word) && no_more words) ≡ false
no_close [] word h = and_yes _ ∙ same_end word ∙ h
no_close (other ∷ words) word h = and_false _

words_stay : (before : Registered) (used : Used) (app : OpenApp) (repeat : Repeat) (number : ℕ) (text : List ℕ) (words : List (List ℕ)) → is_end_words words ≡ false → Stays repeat.line (words_act (record { place = place.Repeat app repeat; before = before; used = used }) (place.Repeat app repeat) number text words)
unfolding words_act first_word
words_stay before used app repeat number text [] h = refl
words_stay before used app repeat number text (word ∷ words) h = known_stays before used app repeat number text (line_word word) words (no_close words word h)

client_words_stay : (before : Registered) (used : Used) (client : OpenClient) (repeat : Repeat) (number : ℕ) (text : List ℕ) (words : List (List ℕ)) → is_end_words words ≡ false → Stays repeat.line (words_act (record { place = place.ClientRepeat client repeat; before = before; used = used }) (place.ClientRepeat client repeat) number text words)
unfolding words_act first_word
client_words_stay before used client repeat number text [] h = refl
client_words_stay before used client repeat number text (word ∷ words) h = client_known_stays before used client repeat number text (line_word word) words (no_close words word h)

guarded_stays : (at : ℕ) (r : Reading) (skips is_text ends : Bool) (acted : Result Reading SceneKind) → open_line r.place ≡ Some at → (is_text && ends) ≡ false → (ends ≡ false → Stays at acted) → Stays at (cond skips (Ok r) (cond is_text acted (Err BadByte)))
guarded_stays at r true is_text ends acted o h k = o
guarded_stays at r false true ends acted o h k = k h
guarded_stays at r false false ends acted o h k = refl

text_stays : (at : ℕ) (before : Registered) (used : Used) (place : Place) (number : ℕ) (text : List ℕ) → open_line place ≡ Some at → closes text ≡ false → Stays at (line_act (record { place = place; before = before; used = used }) number text)
unfolding line_act closes
text_stays at before used (place.Repeat app repeat) number text o h =
    guarded_stays at _ (is_skipped (words_of text)) (list_all is_text_byte text) (is_end_words (words_of text)) _ o h (λ open_yet. let line : repeat.line ≡ at = cc in subst (λ n. Stays n (words_act (record { place = place.Repeat app repeat; before = before; used = used }) (place.Repeat app repeat) number text (words_of text))) line (words_stay before used app repeat number text (words_of text) open_yet))
text_stays at before used (place.ClientRepeat client repeat) number text o h =
    guarded_stays at _ (is_skipped (words_of text)) (list_all is_text_byte text) (is_end_words (words_of text)) _ o h (λ open_yet. let line : repeat.line ≡ at = cc in subst (λ n. Stays n (words_act (record { place = place.ClientRepeat client repeat; before = before; used = used }) (place.ClientRepeat client repeat) number text (words_of text))) line (client_words_stay before used client repeat number text (words_of text) open_yet))
text_stays at before used place.Start number text o h = absurd cc
text_stays at before used place.Outside number text o h = absurd cc
text_stays at before used (place.App app) number text o h = absurd cc
text_stays at before used (place.Client client) number text o h = absurd cc
text_stays at before used (place.Turns turns) number text o h = absurd cc

or_none : (a b : Bool) → (a || b) ≡ false → (a ≡ false) × (b ≡ false)
or_none true b h = absurd (false≢true (sym h))
or_none false b h = (refl, h)

ended_open : (at : ℕ) (r : Reading) (last : Place) → open_line last ≡ Some at → ended r last ≡ Err (record { kind = OpenRepeat; line = at })
unfolding ended
ended_open at r (place.Repeat app repeat) o = let line : repeat.line ≡ at = cc in ap (λ n. Err (record { kind = OpenRepeat; line = n })) line
ended_open at r (place.ClientRepeat client repeat) o = let line : repeat.line ≡ at = cc in ap (λ n. Err (record { kind = OpenRepeat; line = n })) line
ended_open at r place.Start o = absurd cc
ended_open at r place.Outside o = absurd cc
ended_open at r (place.App app) o = absurd cc
ended_open at r (place.Client client) o = absurd cc
ended_open at r (place.Turns turns) o = absurd cc

stays_told : (at number : ℕ) (kind : SceneKind) (texts : List (List ℕ)) (opened : Option ℕ) → opened ≡ Some at → is_past_limit kind ≡ false → list_any closes texts ≡ false → fault_in opened number kind texts ≡ record { kind = OpenRepeat; line = at }
unfolding fault_in
stays_told at number kind texts (Some line) o limit none = let same : line ≡ at = cc in rw (limit, none, same) refl
stays_told at number kind texts None o limit none = absurd cc

-- a repeat that no later line closes is told at its own line
pub left_open : (at : ℕ) (texts : List (List ℕ)) (r : Reading) (number : ℕ) → open_line r.place ≡ Some at → list_any closes texts ≡ false → lines_act texts r number ≡ Err (record { kind = OpenRepeat; line = at })
unfolding lines_act
left_open at [] r number o none = ended_open at r r.place o
left_open at (text ∷ texts) r number o none =
    let both = or_none (closes text) (list_any closes texts) none in
    elim (line_act r number text) as (λ rule. Stays at rule → elim rule as (λ _. Result SceneValue SceneFault) [
      | Ok next ↦ lines_act texts next (number + 1)
      | Err kind ↦ Err (fault_in (open_line r.place) number kind texts)
    ] ≡ Err (record { kind = OpenRepeat; line = at })) [
      | Ok next ↦ λ stays. left_open at texts next (number + 1) stays both.1
      | Err kind ↦ λ limit. ap Err (stays_told at number kind texts (open_line r.place) o limit both.1)
    ] (text_stays at r.before r.used r.place number text o both.0)
