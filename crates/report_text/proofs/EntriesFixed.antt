-- A line fixes its event, and a text its entries, where both histories go on from the same state.
use Rattle.std.proofs.Common.{◌≡◌, ◌<◌, ℕ, ◌+◌, true, List, [], ◌∷◌, ◌++◌, length, drop, Some, refl, sym, ap, ◌∙◌, subst, arith, append_assoc}
use Rattle.std.specs.Prelude.{codes, decimal}
use Rattle.std.specs.List.{AllByRecursion}
use Rattle.kernel_values.specs.Calls.{can_be_spelled}
use Rattle.kernel_values.specs.declared.call.Call.{Call}
use Rattle.kernel_values.specs.declared.entry.Entry.{Entry}
use Rattle.kernel_values.specs.declared.entry.EndFacts.{EndFacts}
use Rattle.kernel_values.specs.declared.entry.Event.{Event}
use Rattle.kernel_values.specs.declared.entry.Event.TheVariants as event
use Rattle.kernel_values.specs.declared.state.State.{State}
use Rattle.kernel_types.specs.History.{Legal, step_entry, next_state}
use Rattle.report_text.specs.Answers.{answer_words}
use Rattle.report_text.specs.Calls.{call_words}
use Rattle.report_text.specs.Forms.{end_words, answered_by, event_words, entry_words, entry_lines}
use Rattle.report_text.specs.Lines.{blank, line_end, spelled, text_of}
use Rattle.report_text.specs.Names.{name_in}
use Rattle.report_text.specs.Plain.{IsWord}
use Rattle.report_text.specs.Within.{IsEventWithin, AreWithin}
use Rattle.report_text.proofs.Fixing.{word_first, tail_is, led}
use Rattle.report_text.proofs.WordsRead.{is_plain, word_by, IsDigit, plain_decimal, no_decimal}
use Rattle.report_text.proofs.CallsFixed.{IsTold, told_by, tag_of, tag_first, tag_plain, call_same, no_call_word, call_word}
use Rattle.report_text.proofs.Lawful.{IsActive, IsOfScene, begins, resumes, start_same, actor_below, step_of_scene}
use Rattle.report_text.proofs.NamesApart.{AreApart, actor_same, word_of_actor}
use Rattle.report_text.proofs.Scripted.{IsSpelledEvent, AreSpelled}

arrow_word : IsWord (codes "->")
unfolding is_plain
arrow_word = word_by (codes "->") refl

resume_word : IsWord (codes "resume")
unfolding is_plain
resume_word = word_by (codes "resume") refl

device_word : IsWord (codes "device")
unfolding is_plain
device_word = word_by (codes "device") refl

idle_word : IsWord (codes "idle")
unfolding is_plain
idle_word = word_by (codes "idle") refl

end_word : IsWord (codes "end")
unfolding is_plain
end_word = word_by (codes "end") refl

-- words and what follows their line
abbrev told : List (List ℕ) → List ℕ → List ℕ
told words rest = spelled words ++ line_end ∷ rest

-- what an event's second word tells: a call, the end of a wait, or neither
abbrev kind_of : Event → ℕ
kind_of (event.Begin actor start asked) = 0
kind_of (event.Resume actor start) = 1
kind_of event.Device = 2
kind_of event.Idle = 2

arrow_kind : no_call_word (codes "->") ≡ 2
unfolding no_call_word
arrow_kind = refl

resume_kind : no_call_word (codes "resume") ≡ 1
unfolding no_call_word
resume_kind = refl

-- the first two words of a line
record Begins (words : List (List ℕ)) (kind : ℕ) : Type 0 where
  first : List ℕ
  second : List ℕ
  rest : List (List ℕ)
  words_are : words ≡ first ∷ second ∷ rest
  first_word : IsWord first
  second_word : IsWord second
  kind_is : no_call_word second ≡ kind

kinds_same : (one two : List (List ℕ)) (m n : ℕ) (a b : List ℕ) → Begins one m → Begins two n → told one a ≡ told two b → m ≡ n
kinds_same one two m n a b p q same =
    let firsts = word_first p.first q.first (p.second ∷ p.rest) (q.second ∷ q.rest) a b p.first_word q.first_word
    (ap (λ words. told words a) (sym p.words_are) ∙ same ∙ ap (λ words. told words b) q.words_are) in
    sym p.kind_is ∙ ap no_call_word (word_first p.second q.second p.rest q.rest a b p.second_word q.second_word firsts.1).0 ∙ q.kind_is

device_apart : codes "device" ≡ codes "idle" → ⊥
device_apart same = absurd (cc)

module _ (names : List (List ℕ)) (plain : AllByRecursion IsWord names) (apart : AreApart names) (s : State) (of : IsOfScene (length names) s) where
  abbrev Lawful : Event → Type 0
  Lawful e = (entry : Entry) × (step_entry s e ≡ Some entry)

  -- the words of an event, and those that follow them
  abbrev words_of : Event → List (List ℕ) → List (List ℕ)
  words_of e more = event_words names e ++ codes "->" ∷ more

  begin_below : (actor start : ℕ) (asked : Call) → Lawful (event.Begin (record { 0 = actor }) start asked) → actor < length names
  begin_below actor start asked l = actor_below (length names) s actor start of (begins s actor start asked l.0 l.1)

  resume_below : (actor start : ℕ) → Lawful (event.Resume (record { 0 = actor }) start) → actor < length names
  resume_below actor start l = actor_below (length names) s actor start of (resumes s actor start l.0 l.1)

  begin_spelled : (actor start : ℕ) (asked : Call) → Lawful (event.Begin (record { 0 = actor }) start asked) → IsSpelledEvent (length names) (event.Begin (record { 0 = actor }) start asked)
      → can_be_spelled asked ≡ true
  begin_spelled actor start asked l spelled = spelled (begin_below actor start asked l)

  begins_with : (e : Event) (more : List (List ℕ)) → Lawful e → Begins (words_of e more) (kind_of e)
  begins_with (event.Begin actor start asked) more l = record {
    first = name_in names actor.0;
    second = tag_of asked;
    rest = drop 1 (call_words asked) ++ codes "->" ∷ more;
    words_are = ap (λ words. name_in names actor.0 ∷ words ++ codes "->" ∷ more) (tag_first asked);
    first_word = word_of_actor names actor.0 plain (begin_below actor.0 start asked l);
    second_word = tag_plain asked;
    kind_is = call_word asked;
  }
  begins_with (event.Resume actor start) more l = record {
    first = name_in names actor.0;
    second = codes "resume";
    rest = codes "->" ∷ more;
    words_are = refl;
    first_word = word_of_actor names actor.0 plain (resume_below actor.0 start l);
    second_word = resume_word;
    kind_is = resume_kind;
  }
  begins_with event.Device more l =
      record { first = codes "device"; second = codes "->"; rest = more; words_are = refl; first_word = device_word; second_word = arrow_word; kind_is = arrow_kind }
  begins_with event.Idle more l =
      record { first = codes "idle"; second = codes "->"; rest = more; words_are = refl; first_word = idle_word; second_word = arrow_word; kind_is = arrow_kind }

  module _ (more others : List (List ℕ)) (a b : List ℕ) where
    names_off : (j k : ℕ) (v w : List (List ℕ)) → j < length names → k < length names → told (name_in names j ∷ v) a ≡ told (name_in names k ∷ w) b → (j ≡ k) × (told v a ≡ told w b)
    names_off j k v w p q same =
        let one = word_first (name_in names j) (name_in names k) v w a b (word_of_actor names j plain p) (word_of_actor names k plain q) same in
        (actor_same names j k apart p q one.0, one.1)

    begins_same : (j i : ℕ) (one : Call) (k h : ℕ) (two : Call) → Lawful (event.Begin (record { 0 = j }) i one) → Lawful (event.Begin (record { 0 = k }) h two) → IsTold one → can_be_spelled two ≡ true
        → told (words_of (event.Begin (record { 0 = j }) i one) more) a ≡ told (words_of (event.Begin (record { 0 = k }) h two) others) b
        → event.Begin (record { 0 = j }) i one ≡ event.Begin (record { 0 = k }) h two
    begins_same j i one k h two p q t u same =
        let off = names_off j k (call_words one ++ codes "->" ∷ more) (call_words two ++ codes "->" ∷ others) (begin_below j i one p) (begin_below k h two q) same in
        let calls : one ≡ two = call_same one two t u more others a b off.1 in
        let starts : i ≡ h = start_same s k i h (subst (λ n. IsActive s n i) off.0 (begins s j i one p.0 p.1)) (begins s k h two q.0 q.1) in
        λ x. event.Begin (record { 0 = off.0 x }) (starts x) (calls x)

    resumes_same : (j i k h : ℕ) → Lawful (event.Resume (record { 0 = j }) i) → Lawful (event.Resume (record { 0 = k }) h)
        → told (words_of (event.Resume (record { 0 = j }) i) more) a ≡ told (words_of (event.Resume (record { 0 = k }) h) others) b
        → event.Resume (record { 0 = j }) i ≡ event.Resume (record { 0 = k }) h
    resumes_same j i k h p q same =
        let off = names_off j k (codes "resume" ∷ codes "->" ∷ more) (codes "resume" ∷ codes "->" ∷ others) (resume_below j i p) (resume_below k h q) same in
        let starts : i ≡ h = start_same s k i h (subst (λ n. IsActive s n i) off.0 (resumes s j i p.0 p.1)) (resumes s k h q.0 q.1) in
        λ x. event.Resume (record { 0 = off.0 x }) (starts x)

    device_idle : told (codes "device" ∷ codes "->" ∷ more) a ≡ told (codes "idle" ∷ codes "->" ∷ others) b → ⊥
    device_idle same = device_apart (word_first (codes "device") (codes "idle") (codes "->" ∷ more) (codes "->" ∷ others) a b device_word idle_word same).0

    idle_device : told (codes "idle" ∷ codes "->" ∷ more) a ≡ told (codes "device" ∷ codes "->" ∷ others) b → ⊥
    idle_device same = device_apart (sym (word_first (codes "idle") (codes "device") (codes "->" ∷ more) (codes "->" ∷ others) a b idle_word device_word same).0)

    by_kind : (e f : Event) → kind_of e ≡ kind_of f → Lawful e → Lawful f → IsSpelledEvent (length names) e → IsEventWithin e → IsSpelledEvent (length names) f
        → told (words_of e more) a ≡ told (words_of f others) b → e ≡ f
    by_kind (event.Begin j i one) (event.Begin k h two) kind p q t w u same =
        begins_same j.0 i one k.0 h two p q (told_by one (begin_spelled j.0 i one p t) w) (begin_spelled k.0 h two q u) same
    by_kind (event.Resume j i) (event.Resume k h) kind p q t w u same = resumes_same j.0 i k.0 h p q same
    by_kind event.Device event.Device kind p q t w u same = refl
    by_kind event.Device event.Idle kind p q t w u same = absurd (device_idle same)
    by_kind event.Idle event.Device kind p q t w u same = absurd (idle_device same)
    by_kind event.Idle event.Idle kind p q t w u same = refl
    by_kind (event.Begin j i one) (event.Resume k h) kind p q t w u same = absurd (omega (arith, kind))
    by_kind (event.Begin j i one) event.Device kind p q t w u same = absurd (omega (arith, kind))
    by_kind (event.Begin j i one) event.Idle kind p q t w u same = absurd (omega (arith, kind))
    by_kind (event.Resume j i) (event.Begin k h two) kind p q t w u same = absurd (omega (arith, kind))
    by_kind (event.Resume j i) event.Device kind p q t w u same = absurd (omega (arith, kind))
    by_kind (event.Resume j i) event.Idle kind p q t w u same = absurd (omega (arith, kind))
    by_kind event.Device (event.Begin k h two) kind p q t w u same = absurd (omega (arith, kind))
    by_kind event.Device (event.Resume k h) kind p q t w u same = absurd (omega (arith, kind))
    by_kind event.Idle (event.Begin k h two) kind p q t w u same = absurd (omega (arith, kind))
    by_kind event.Idle (event.Resume k h) kind p q t w u same = absurd (omega (arith, kind))

    -- one line, one event
    event_same : (e f : Event) → Lawful e → Lawful f → IsSpelledEvent (length names) e → IsEventWithin e → IsSpelledEvent (length names) f
        → told (words_of e more) a ≡ told (words_of f others) b → e ≡ f
    event_same e f p q t w u same =
        by_kind e f (kinds_same (words_of e more) (words_of f others) (kind_of e) (kind_of f) a b (begins_with e more p) (begins_with f others q) same) p q t w u same

-- Whole texts.

front_off : (xs a b : List ℕ) → xs ++ a ≡ xs ++ b → a ≡ b
front_off [] a b same = same
front_off (x ∷ xs) a b same = front_off xs a b (tail_is x x (xs ++ a) (xs ++ b) same)

-- the text from an entry's line on, behind a blank
entry_led : (names : List (List ℕ)) (k : ℕ) (entry : Entry) (lines : List (List (List ℕ)))
    → blank ∷ text_of (entry_words names k entry ∷ lines) ≡ (blank ∷ decimal k) ++ told (event_words names entry.event ++ answered_by (answer_words entry.answer)) (text_of lines)
unfolding entry_words
entry_led names k entry lines =
    led (decimal k) (event_words names entry.event ++ answered_by (answer_words entry.answer)) lines
    ∙ append_assoc (blank ∷ decimal k) (spelled (event_words names entry.event ++ answered_by (answer_words entry.answer))) (line_end ∷ text_of lines)

lines_cut : (names : List (List ℕ)) (k : ℕ) (one two : Entry) (later others : List (List (List ℕ)))
    → text_of (entry_words names k one ∷ later) ≡ text_of (entry_words names k two ∷ others)
    → told (event_words names one.event ++ answered_by (answer_words one.answer)) (text_of later) ≡ told (event_words names two.event ++ answered_by (answer_words two.answer)) (text_of others)
lines_cut names k one two later others same =
    front_off (blank ∷ decimal k) _ _ (sym (entry_led names k one later) ∙ ap (λ text. blank ∷ text) same ∙ entry_led names k two others)

-- the last line is none of an entry
no_entry : (names : List (List ℕ)) (k : ℕ) (entry : Entry) (later : List (List (List ℕ))) (end : EndFacts)
    → text_of (end_words end ∷ []) ≡ text_of (entry_words names k entry ∷ later) → ⊥
unfolding entry_words
no_entry names k entry later end same =
    let words = event_words names entry.event ++ answered_by (answer_words entry.answer) in
    let rest = codes "clock" ∷ decimal end.clock ∷ codes "objects" ∷ decimal end.objects ∷ codes "names" ∷ decimal end.names ∷ [] in
    let lines = sym (led (codes "end") rest []) ∙ (ap (λ text. blank ∷ text) same ∙ led (decimal k) words later) in
    let digit : IsDigit 101 = no_decimal k (codes "end") (sym (word_first (codes "end") (decimal k) rest words [] (text_of later) end_word (word_by (decimal k) (plain_decimal k)) lines).0) in
    omega (arith, digit.1)

module _ (names : List (List ℕ)) (plain : AllByRecursion IsWord names) (apart : AreApart names) where
  entry_same : (s : State) (one two : Entry) (later others : List (List (List ℕ))) → IsOfScene (length names) s → step_entry s one.event ≡ Some one → step_entry s two.event ≡ Some two
      → IsSpelledEvent (length names) one.event → IsEventWithin one.event → IsSpelledEvent (length names) two.event
      → told (event_words names one.event ++ answered_by (answer_words one.answer)) (text_of later) ≡ told (event_words names two.event ++ answered_by (answer_words two.answer)) (text_of others)
      → one ≡ two
  entry_same s one two later others of p q t w u same =
      let events : one.event ≡ two.event = event_same names plain apart s of (answer_words one.answer) (answer_words two.answer) (text_of later) (text_of others) one.event two.event (one, p) (two, q) t w u same in
      let both : Some one ≡ Some two = sym p ∙ ap (λ (e : Event). step_entry s e) events ∙ q in
      cc

  pub entries_same : (s : State) (k : ℕ) (one two : List Entry) (end last : EndFacts) → IsOfScene (length names) s → Legal s one → Legal s two
      → AreSpelled (length names) one → AreWithin one → AreSpelled (length names) two
      → text_of (entry_lines names k one ++ end_words end ∷ []) ≡ text_of (entry_lines names k two ++ end_words last ∷ []) → one ≡ two
  entries_same s k [] [] end last of p q t w u same = refl
  entries_same s k [] (entry ∷ two) end last of p q t w u same = absurd (no_entry names k entry (entry_lines names (k + 1) two ++ end_words last ∷ []) end same)
  entries_same s k (entry ∷ one) [] end last of p q t w u same = absurd (no_entry names k entry (entry_lines names (k + 1) one ++ end_words end ∷ []) last (sym same))
  entries_same s k (entry ∷ one) (other ∷ two) end last of p q t w u same =
      let later = entry_lines names (k + 1) one ++ end_words end ∷ [] in
      let others = entry_lines names (k + 1) two ++ end_words last ∷ [] in
      let cut = lines_cut names k entry other later others same in
      let here : entry ≡ other = entry_same s entry other later others of p.0 q.0 t.0 w.0 u.0 cut in
      let words : Entry → List (List ℕ) = λ e. event_words names e.event ++ answered_by (answer_words e.answer) in
      let after : line_end ∷ text_of later ≡ line_end ∷ text_of others =
      front_off (spelled (words entry)) (line_end ∷ text_of later) (line_end ∷ text_of others)
      (subst (λ (e : Entry). told (words entry) (text_of later) ≡ told (words e) (text_of others)) (sym here) cut) in
      let rest : one ≡ two = entries_same (next_state s entry.event) (k + 1) one two end last (step_of_scene (length names) s entry.event of) p.1
      (subst (λ (e : Entry). Legal (next_state s e.event) two) (sym here) q.1) t.1 w.1 u.1 (tail_is line_end line_end (text_of later) (text_of others) after) in
      λ i. here i ∷ rest i
