-- Whose entry a line is of: what stands behind the number tells it.
use Rattle.std.proofs.Common.{◌≡◌, ◌<◌, ℕ, zero, suc, List, [], ◌∷◌, ◌++◌, length, drop, get_or, Some, refl, sym, ap, ◌∙◌, subst, arith, append_assoc, inl}
use Rattle.std.specs.Prelude.{codes, decimal, slice_get}
use Rattle.std.specs.List.{AllByRecursion}
use Rattle.std.proofs.lemmas.List.{append_cancel_left}
use mathlib.Core.List.{IsPrefix}
use Rattle.kernel_values.specs.declared.call.Call.{Call}
use Rattle.kernel_values.specs.declared.call.Call.TheVariants as call
use Rattle.kernel_values.specs.declared.entry.Entry.{Entry}
use Rattle.kernel_values.specs.declared.entry.Event.{Event}
use Rattle.kernel_values.specs.declared.entry.Event.TheVariants as event
use Rattle.kernel_values.specs.declared.reply.Answer.{Answer}
use Rattle.kernel_values.specs.declared.scene.Turn.{Turn}
use Rattle.kernel_values.specs.declared.scene.Turn.TheVariants as turn
use Rattle.report_text.specs.Answers.{answer_words}
use Rattle.report_text.specs.Calls.{call_words}
use Rattle.report_text.specs.Forms.{answered_by, event_words, entry_words}
use Rattle.report_text.specs.Lines.{blank, line_end, lined, spelled}
use Rattle.report_text.specs.Names.{name_in}
use Rattle.report_text.specs.Plain.{IsWord}
use Rattle.report_text.proofs.Fixing.{head_is, tail_is, word_ends}
use Rattle.report_text.proofs.NamesApart.{AreApart, place_same, word_of_actor}
use Rattle.report_text.proofs.WordsRead.{is_plain, word_by}
use Rattle.history_check.specs.Fronts.{IsNamed, IsOf, IsOfNobody}
use Rattle.history_check.specs.Matching.{IsEventOf}

-- a call's first word
abbrev pub tag_of : Call → List ℕ
tag_of asked = get_or {A = List ℕ} (call_words asked) 0 []

tag_first : (asked : Call) → call_words asked ≡ tag_of asked ∷ drop 1 (call_words asked)
unfolding call_words
tag_first (call.Send chan bytes parts) = refl
tag_first _ = refl

-- the words behind a line's number
abbrev pub words_of : List (List ℕ) → Event → Answer → List (List ℕ)
words_of names e given = event_words names e ++ answered_by (answer_words given)

abbrev pub first_of : List (List ℕ) → Event → List ℕ
first_of names (event.Begin actor start asked) = name_in names actor.0
first_of names (event.Resume actor start) = name_in names actor.0
first_of names event.Device = codes "device"
first_of names event.Idle = codes "idle"

abbrev pub second_of : Event → List ℕ
second_of (event.Begin actor start asked) = tag_of asked
second_of (event.Resume actor start) = codes "resume"
second_of event.Device = codes "->"
second_of event.Idle = codes "->"

-- the first two of them
record Begins (names : List (List ℕ)) (e : Event) (given : Answer) : Type 0 where
  more : List (List ℕ)
  words_are : words_of names e given ≡ first_of names e ∷ second_of e ∷ more

begins : (names : List (List ℕ)) (e : Event) (given : Answer) → Begins names e given
begins names (event.Begin actor start asked) given = record {
  more = drop 1 (call_words asked) ++ answered_by (answer_words given);
  words_are = ap (λ words. name_in names actor.0 ∷ words ++ answered_by (answer_words given)) (tag_first asked);
}
begins names (event.Resume actor start) given = record { more = answered_by (answer_words given); words_are = refl }
begins names event.Device given = record { more = answer_words given; words_are = refl }
begins names event.Idle given = record { more = answer_words given; words_are = refl }

spelled_two : (number first second : List ℕ) (more : List (List ℕ))
    → drop 1 (spelled (number ∷ first ∷ second ∷ more)) ++ line_end ∷ [] ≡ (number ++ blank ∷ []) ++ (first ++ blank ∷ (second ++ (spelled more ++ line_end ∷ [])))
spelled_two number first second more =
    append_assoc number (blank ∷ (first ++ blank ∷ (second ++ spelled more))) (line_end ∷ [])
    ∙ (ap (λ rest. number ++ blank ∷ rest) (append_assoc first (blank ∷ (second ++ spelled more)) (line_end ∷ []) ∙ ap (λ rest. first ++ blank ∷ rest) (append_assoc second (spelled more) (line_end ∷ [])))
    ∙ sym (append_assoc number (blank ∷ []) (first ++ blank ∷ (second ++ (spelled more ++ line_end ∷ [])))))

-- a line is its number, a blank, and the words behind it
record Line (names : List (List ℕ)) (k : ℕ) (entry : Entry) : Type 0 where
  rest : List ℕ
  line_is : lined (entry_words names k entry) ≡ (decimal k ++ blank ∷ []) ++ (first_of names entry.event ++ blank ∷ (second_of entry.event ++ rest))

line_of : (names : List (List ℕ)) (k : ℕ) (entry : Entry) → Line names k entry
unfolding lined entry_words
line_of names k entry =
    let b = begins names entry.event entry.answer in
    record {
      rest = spelled b.more ++ line_end ∷ [];
      line_is = ap (λ words. drop 1 (spelled (decimal k ∷ words)) ++ line_end ∷ []) b.words_are ∙ spelled_two (decimal k) (first_of names entry.event) (second_of entry.event) b.more;
    }

-- what stands behind the number of an entry's line
pub record Says (names : List (List ℕ)) (e : Event) (said : List ℕ) : Type 0 where
  pub rest : List ℕ
  pub said_is : said ≡ first_of names e ++ blank ∷ (second_of e ++ rest)

pub fronted : (names : List (List ℕ)) (k : ℕ) (entry : Entry) (text : List ℕ) → IsPrefix (lined (entry_words names k entry)) text → IsPrefix (decimal k ++ blank ∷ []) text
fronted names k entry text p =
    let l = line_of names k entry in (
      (first_of names entry.event ++ blank ∷ (second_of entry.event ++ l.rest)) ++ p.0,
      sym (append_assoc (decimal k ++ blank ∷ []) (first_of names entry.event ++ blank ∷ (second_of entry.event ++ l.rest)) p.0) ∙ ap (λ line. line ++ p.0) (sym l.line_is) ∙ p.1,
    )

pub says : (names : List (List ℕ)) (k : ℕ) (entry : Entry) (text said : List ℕ) → IsPrefix (lined (entry_words names k entry)) text → text ≡ (decimal k ++ blank ∷ []) ++ said → Says names entry.event said
says names k entry text said p text_is =
    let l = line_of names k entry in
    let words : List ℕ = first_of names entry.event ++ blank ∷ (second_of entry.event ++ l.rest) in
    let same : (decimal k ++ blank ∷ []) ++ (words ++ p.0) ≡ (decimal k ++ blank ∷ []) ++ said =
    sym (append_assoc (decimal k ++ blank ∷ []) words p.0) ∙ ap (λ line. line ++ p.0) (sym l.line_is) ∙ p.1 ∙ text_is in
    record {
      rest = l.rest ++ p.0;
      said_is = sym (append_cancel_left (decimal k ++ blank ∷ []) (words ++ p.0) said same)
          ∙ (append_assoc (first_of names entry.event) (blank ∷ (second_of entry.event ++ l.rest)) p.0 ∙ ap (λ rest. first_of names entry.event ++ blank ∷ rest) (append_assoc (second_of entry.event) l.rest p.0));
    }

-- Whose it is.

tag_begins : (asked : Call) → get_or {A = ℕ} (tag_of asked) 0 45 ≡ 45 → ⊥
unfolding call_words
tag_begins (call.Send chan bytes parts) h = absurd (omega (arith, h))
tag_begins _ h = absurd (omega (arith, h))

begins_dash : (word rest more : List ℕ) → word ++ rest ≡ 45 ∷ more → get_or {A = ℕ} word 0 45 ≡ 45
begins_dash [] rest more same = refl
begins_dash (byte ∷ word) rest more same = head_is byte 45 (word ++ rest) more same

device_word : IsWord (codes "device")
unfolding is_plain
device_word = word_by (codes "device") refl

idle_word : IsWord (codes "idle")
unfolding is_plain
idle_word = word_by (codes "idle") refl

device_idle : codes "device" ≡ codes "idle" → ⊥
device_idle same = absurd (cc)

module _ (names : List (List ℕ)) (plain : AllByRecursion IsWord names) (apart : AreApart names) where
  -- the actor of an event is one of those with a name
  abbrev pub HasName : Event → Type 0
  HasName (event.Begin actor start asked) = actor.0 < length names
  HasName (event.Resume actor start) = actor.0 < length names
  HasName _ = Unit {0}

  name_at : (actor : ℕ) → actor < length names → slice_get names actor ≡ Some (name_in names actor)
  name_at actor below = at names actor below
    where
      at : (xs : List (List ℕ)) (k : ℕ) → k < length xs → slice_get xs k ≡ Some (name_in xs k)
      at [] k h = absurd (omega arith)
      at (x ∷ xs) zero h = refl
      at (x ∷ xs) (suc k) h = at xs k (omega arith)

  -- a line of an actor, by its second word
  module _ (said second rest : List ℕ) (actor : ℕ) (below : actor < length names) (is : said ≡ name_in names actor ++ blank ∷ (second ++ rest))
      (no_arrow : get_or {A = ℕ} second 0 45 ≡ 45 → ⊥) where
    word : IsWord (name_in names actor)
    word = word_of_actor names actor plain below

    same_actor : (other : ℕ) → IsNamed names said other → actor ≡ other
    same_actor other named =
        let name_word : IsWord named.name = subst (λ w. IsWord w) (let same : name_in names other ≡ named.name = rw named.name_is refl in same) (word_of_other other named.name named.name_is) in
        let both : named.name ++ blank ∷ named.begins.0 ≡ name_in names actor ++ blank ∷ (second ++ rest) =
        sym (append_assoc named.name (blank ∷ []) named.begins.0) ∙ named.begins.1 ∙ is in
        let name_same : named.name ≡ name_in names actor = (word_ends named.name (name_in names actor) named.begins.0 (second ++ rest) blank blank name_word word (inl refl) (inl refl) both).0 in
        place_same names actor other named.name apart (name_at actor below ∙ ap (λ n. Some n) (sym name_same)) named.name_is
      where
        word_of_other : (k : ℕ) (name : List ℕ) → slice_get names k ≡ Some name → IsWord (name_in names k)
        word_of_other k name is = by names k name plain is
          where
            by : (xs : List (List ℕ)) (k : ℕ) (name : List ℕ) → AllByRecursion IsWord xs → slice_get xs k ≡ Some name → IsWord (name_in xs k)
            by [] k name all is = absurd (cc)
            by (x ∷ xs) zero name all is = all.0
            by (x ∷ xs) (suc k) name all is = by xs k name all.1 is

    not_step : (step : List ℕ) → IsWord step → IsPrefix (step ++ blank ∷ codes "->") said → ⊥
    not_step step step_word p =
        let both : step ++ blank ∷ (codes "->" ++ p.0) ≡ name_in names actor ++ blank ∷ (second ++ rest) =
        sym (append_assoc step (blank ∷ codes "->") p.0) ∙ p.1 ∙ is in
        let behind = (word_ends step (name_in names actor) (codes "->" ++ p.0) (second ++ rest) blank blank step_word word (inl refl) (inl refl) both).1 in
        no_arrow (begins_dash second rest (62 ∷ p.0) (sym (tail_is blank blank (codes "->" ++ p.0) (second ++ rest) behind)))

    named_here : IsNamed names said actor
    named_here = record {
      name = name_in names actor;
      name_is = name_at actor below;
      begins = (second ++ rest, append_assoc (name_in names actor) (blank ∷ []) (second ++ rest) ∙ sym is);
    }

  step_apart : (said rest : List ℕ) (one other : List ℕ) → IsWord one → IsWord other → (one ≡ other → ⊥) → said ≡ one ++ blank ∷ rest → IsPrefix (other ++ blank ∷ codes "->") said → ⊥
  step_apart said rest one other p q differs is prefix =
      let both : other ++ blank ∷ (codes "->" ++ prefix.0) ≡ one ++ blank ∷ rest = sym (append_assoc other (blank ∷ codes "->") prefix.0) ∙ prefix.1 ∙ is in
      differs (sym (word_ends other one (codes "->" ++ prefix.0) rest blank blank q p (inl refl) (inl refl) both).0)

  step_here : (said rest one : List ℕ) → said ≡ one ++ blank ∷ (codes "->" ++ rest) → IsPrefix (one ++ blank ∷ codes "->") said
  step_here said rest one is = (rest, append_assoc one (blank ∷ codes "->") rest ∙ sym is)

  no_resume : get_or {A = ℕ} (codes "resume") 0 45 ≡ 45 → ⊥
  no_resume h = absurd (omega (arith, h))

  -- the turn that was found is the event's
  pub turn_is : (e : Event) (taken : Turn) (said : List ℕ) → HasName e → Says names e said → IsOf names said taken → IsEventOf taken e
  turn_is (event.Begin actor start asked) (turn.Actor other) said below s of = same_actor said (tag_of asked) s.rest actor.0 below s.said_is (tag_begins asked) other of.1
  turn_is (event.Begin actor start asked) turn.Device said below s of = absurd (not_step said (tag_of asked) s.rest actor.0 below s.said_is (tag_begins asked) (codes "device") device_word of)
  turn_is (event.Begin actor start asked) turn.Idle said below s of = absurd (not_step said (tag_of asked) s.rest actor.0 below s.said_is (tag_begins asked) (codes "idle") idle_word of)
  turn_is (event.Resume actor start) (turn.Actor other) said below s of = same_actor said (codes "resume") s.rest actor.0 below s.said_is no_resume other of.1
  turn_is (event.Resume actor start) turn.Device said below s of = absurd (not_step said (codes "resume") s.rest actor.0 below s.said_is no_resume (codes "device") device_word of)
  turn_is (event.Resume actor start) turn.Idle said below s of = absurd (not_step said (codes "resume") s.rest actor.0 below s.said_is no_resume (codes "idle") idle_word of)
  turn_is event.Device (turn.Actor other) said below s of = absurd (of.0.not_device (step_here said s.rest (codes "device") s.said_is))
  turn_is event.Device turn.Device said below s of = tt
  turn_is event.Device turn.Idle said below s of = absurd (step_apart said (codes "->" ++ s.rest) (codes "device") (codes "idle") device_word idle_word device_idle s.said_is of)
  turn_is event.Idle (turn.Actor other) said below s of = absurd (of.0.not_idle (step_here said s.rest (codes "idle") s.said_is))
  turn_is event.Idle turn.Device said below s of = absurd (step_apart said (codes "->" ++ s.rest) (codes "idle") (codes "device") idle_word device_word (λ same. device_idle (sym same)) s.said_is of)
  turn_is event.Idle turn.Idle said below s of = tt

  pub nobody : (e : Event) (said : List ℕ) → HasName e → Says names e said → IsOfNobody names said → ⊥
  nobody (event.Begin actor start asked) said below s of = of.1 actor.0 (named_here said (tag_of asked) s.rest actor.0 below s.said_is (tag_begins asked))
  nobody (event.Resume actor start) said below s of = of.1 actor.0 (named_here said (codes "resume") s.rest actor.0 below s.said_is no_resume)
  nobody event.Device said below s of = of.0.not_device (step_here said s.rest (codes "device") s.said_is)
  nobody event.Idle said below s of = of.0.not_idle (step_here said s.rest (codes "idle") s.said_is)
