-- An actor's calls in a history, one entry at a time.
use Rattle.std.proofs.Common.{◌≡◌, ℕ, ◌+◌, true, false, List, [], ◌∷◌, ◌++◌, length, map, refl, sym, ap, ◌∙◌, append-nil, arith, cond, ◌<◌, drop, get_or, rules}
use Rattle.std.proofs.lemmas.Grind.{flat_map-append}
use Rattle.std.specs.Prelude.{Option, Some, None, is_some}
use Rattle.kernel_values.specs.declared.call.Call.{Call}
use Rattle.kernel_values.specs.declared.entry.Entry.{Entry}
use Rattle.kernel_values.specs.declared.reply.Answer.{Answer}
use Rattle.kernel_log.specs.Books.{is_of_actor}
use Rattle.report_text.proofs.Printed.{left_at}
use Rattle.report_text.specs.OwnCalls.{begun_by, wait_answer, answer_in, final_answer, led_by, calls_of}
use Rattle.report_text.specs.Forms.{answered_call_words, one_actor_lines, actors_lines}
use Rattle.report_text.specs.Lines.{lined, text_of}

led_one : (call : Option Call) (answer : Option Answer) (calls : List (Call × Option Answer)) → is_some call ≡ true → length (led_by call answer calls) ≡ length calls + 1
led_one None answer calls is = absurd (search rules)
led_one (Some call) answer calls is = omega arith

led_same : (call : Option Call) (answer : Option Answer) (calls : List (Call × Option Answer)) → is_some call ≡ false → length (led_by call answer calls) ≡ length calls
led_same None answer calls is = refl
led_same (Some call) answer calls is = absurd (search rules)

pub calls_one : (actor : ℕ) (entry : Entry) (later : List Entry) → is_some (begun_by actor entry.event) ≡ true
    → length (calls_of actor (entry ∷ later)) ≡ length (calls_of actor later) + 1
calls_one actor entry later is = led_one (begun_by actor entry.event) (final_answer actor entry.answer later) (calls_of actor later) is

pub calls_same : (actor : ℕ) (entry : Entry) (later : List Entry) → is_some (begun_by actor entry.event) ≡ false
    → length (calls_of actor (entry ∷ later)) ≡ length (calls_of actor later)
calls_same actor entry later is = led_same (begun_by actor entry.event) (final_answer actor entry.answer later) (calls_of actor later) is

pub calls_left : (call : Option Call) (answer : Option Answer) (calls : List (Call × Option Answer))
    → text_of (map answered_call_words (led_by call answer calls)) ≡ text_of (map answered_call_words (led_by call answer [])) ++ text_of (map answered_call_words calls)
calls_left None answer calls = refl
calls_left (Some call) answer calls = ap (λ text. text ++ text_of (map answered_call_words calls)) (sym (append-nil (lined (answered_call_words (call, answer)))))

pub answer_own : (actor : ℕ) (entry : Entry) (later : List Entry) → is_of_actor actor entry.event ≡ true
    → answer_in actor (entry ∷ later) ≡ wait_answer entry.event entry.answer
answer_own actor entry later own = ap (λ b. cond b (wait_answer entry.event entry.answer) (answer_in actor later)) own

pub answer_later : (actor : ℕ) (entry : Entry) (later : List Entry) → is_of_actor actor entry.event ≡ false
    → answer_in actor (entry ∷ later) ≡ answer_in actor later
answer_later actor entry later own = ap (λ b. cond b (wait_answer entry.event entry.answer) (answer_in actor later)) own

-- from a place on, where the entry and the later ones are known
pub calls_left_at : (actor : ℕ) (entries : List Entry) (k : ℕ) (entry : Entry) (later : List Entry) → k < length entries → entry ≡ get_or entries k entry
    → later ≡ drop (k + 1) entries
    → text_of (map answered_call_words (calls_of actor (drop k entries)))
    ≡ text_of (map answered_call_words (led_by (begun_by actor entry.event) (final_answer actor entry.answer later) []))
    ++ text_of (map answered_call_words (calls_of actor (drop (k + 1) entries)))
calls_left_at actor entries k entry later below is later_is =
    left_at (λ es. text_of (map answered_call_words (calls_of actor es))) entries k entry below is
    ∙ calls_left (begun_by actor entry.event) (final_answer actor entry.answer (drop (k + 1) entries)) (calls_of actor (drop (k + 1) entries))
    ∙ ap (λ es. text_of (map answered_call_words (led_by (begun_by actor entry.event) (final_answer actor entry.answer es) []))
    ++ text_of (map answered_call_words (calls_of actor (drop (k + 1) entries)))) (sym later_is)

-- no call, or one, begins with the entry
pub none_begun : (found call : Option Call) (answer : Option Answer) → found ≡ None → found ≡ call
    → text_of (map answered_call_words (led_by call answer [])) ≡ []
none_begun found call answer none is = ap (λ o. text_of (map answered_call_words (led_by o answer []))) (sym is ∙ none)

pub one_begun : (found : Call) (call : Option Call) (given answer : Option Answer) → Some found ≡ call → given ≡ answer
    → lined (answered_call_words (found, given)) ≡ text_of (map answered_call_words (led_by call answer []))
one_begun found call given answer is given_is =
    ap (λ a. lined (answered_call_words (found, a))) given_is
    ∙ sym (append-nil (lined (answered_call_words (found, answer))))
    ∙ ap (λ o. text_of (map answered_call_words (led_by o answer []))) is

-- the actors from a place on, where the one at the place is known
pub actors_left_at : (entries : List Entry) (names : List (List ℕ)) (k : ℕ) (there name : List ℕ) → k < length names → there ≡ get_or names k there
    → name ≡ there → text_of (actors_lines entries k (drop k names))
    ≡ text_of (one_actor_lines entries k name) ++ text_of (actors_lines entries (k + 1) (drop (k + 1) names))
actors_left_at entries names k there name below is name_is =
    left_at (λ ns. text_of (actors_lines entries k ns)) names k there below is
    ∙ flat_map-append lined (one_actor_lines entries k there) (actors_lines entries (k + 1) (drop (k + 1) names))
    ∙ ap (λ one. text_of (one_actor_lines entries k one) ++ text_of (actors_lines entries (k + 1) (drop (k + 1) names))) (sym name_is)
