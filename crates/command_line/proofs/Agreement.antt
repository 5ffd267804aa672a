-- Clap comes to the command that the words are, and refuses them where they are none.
use Rattle.std.proofs.Common.{◌≡◌, List, [], ◌∷◌, ◌++◌, Option, Some, None, Bool, true, false, drop, codes, refl, ap, ap₂, sym, subst, ◌∙◌}
use Rattle.std.specs.Prelude.{option_and_then, is_some, bytes_eq, IsUtf8}
use Rattle.std.specs.List.{AllByRecursion}
use Rattle.clap.specs.Walk.{Text, Held, Waiting, idle, option, settled_rows, pushed, walk, walk_from, walked, nothing_held, finished, settled}
use Rattle.clap.specs.Simple.{built, entered, matches_of}
use Rattle.clap.specs.Faults.{fault_of, entered_fault, defaults_fault, check_fault, settle_fault, use_fault, turn_fault, walk_fault, flag_word_fault}
use Rattle.clap.specs.Lexer.{long_of}
use Rattle.clap.specs.Kinds.{Kinds, or_else}
use Rattle.clap.specs.declared.error.kind.ErrorKind.TheVariants as kind
use Rattle.command_line.specs.Words.{Word, ends, form_follows, form, unknown, positional, Spoken, spoken, form_spoken, with_form, with_word, word_of}
use Rattle.command_line.specs.Commands.{command_spoken, command_in, form_named}
use Rattle.command_line.specs.Program.{trusty_app, form_id, words_id}
use Rattle.command_line.proofs.ClapApp.{shape, rules, form_rule, rows, order_after, form_free, form_twice, IsFault}
use Rattle.command_line.proofs.WordShapes.{word_told, same_bytes, form_and_value, IsPlain, is_plain}
use Rattle.command_line.proofs.Unknown.{unknown_fault}
use Rattle.command_line.proofs.Walks.{after, form_next, second_form, word_next, nothing_more, bad_form, option_names_none, walk_at, walk_past, free, Good, Bad, end_fault, Agrees, Ends, refused_now, goes_on, good_end, bad_end, asking, answered, with_value, hearing, asking_bad, answered_good, answered_bad, with_value_good, hearing_good, if_never, end_turn, end_step, asked_end_turn, asked_end_step, form_turn, form_step, value_turn, value_step}

-- ---- words that are no option

plain_turn : (waiting : Bool) (word : Text) (held : Held) → IsPlain word → turn_fault shape [] (walk_at (free waiting) held) word ≡ settle_fault rules false held
plain_turn true word held plain = rw (plain.no_end, plain.no_long, plain.no_short) (if_never _ _ _)
plain_turn false word held plain = rw (plain.no_end, plain.no_long, plain.no_short) (if_never _ _ _)

plain_step : (waiting : Bool) (word : Text) (held : Held) → IsPlain word → walked rules [] (walk_at (free waiting) held) word ≡ walk_at (free true) (hearing word held)
unfolding walked
plain_step true word held plain = rw (plain.no_end, plain.no_long, plain.no_short) (ap (λ h. walk_at (free true) (pushed words_id word h)) (if_never _ held (settled rules held)))
plain_step false word held plain = rw (plain.no_end, plain.no_long, plain.no_short) (ap (λ h. walk_at (free true) (pushed words_id word h)) (if_never _ held (settled rules held)))

answer_turn : (word : Text) (held : Held) → IsPlain word → turn_fault shape [] (walk_at (option form_id) (asking held)) word ≡ []
answer_turn word held plain = rw (plain.no_end, plain.no_long, plain.no_short) refl

answer_step : (word : Text) (held : Held) → IsPlain word → walked rules [] (walk_at (option form_id) (asking held)) word ≡ walk_at idle (answered word held)
unfolding walked
answer_step word held plain = rw (plain.no_end, plain.no_long, plain.no_short) refl

past_turn : (word : Text) (waiting : Waiting) (held : Held) → turn_fault shape [] (walk_past waiting held) word ≡ settle_fault rules false held
past_turn word waiting held = if_never _ _ _

past_step : (word : Text) (waiting : Waiting) (held : Held) → walked rules [] (walk_past waiting held) word ≡ walk_past (free true) (hearing word held)
unfolding walked
past_step word waiting held = ap (λ h. walk_past (free true) (pushed words_id word h)) (if_never _ held (settled rules held))

-- ---- words that clap refuses

abbrev flag_is_unknown : Text → Held → Type 0
flag_is_unknown word held = (bytes_eq word (codes "--") ≡ false) × (flag_word_fault rules false (long_of word) word held ≡ kind.UnknownArgument ∷ [])

unknown_turn : (waiting : Bool) (word : Text) (held : Held) → flag_is_unknown word held → turn_fault shape [] (walk_at (free waiting) held) word ≡ kind.UnknownArgument ∷ []
unknown_turn true word held refused = rw (refused.0, refused.1) refl
unknown_turn false word held refused = rw (refused.0, refused.1) refl

asked_unknown_turn : (word : Text) (held : Held) → flag_is_unknown word held → turn_fault shape [] (walk_at (option form_id) held) word ≡ kind.UnknownArgument ∷ []
asked_unknown_turn word held refused = rw (refused.0, refused.1) refl

unknown_told : (word : Text) (held : Held) → IsUtf8 word → held.skip ≡ 0 → word_of word ≡ unknown → flag_is_unknown word held
unknown_told word held utf8 none e =
    let tests = word_told word unknown e in
    (tests.0, unknown_fault word held none tests.3 (record { utf8 = utf8; no_end = tests.0; no_form = tests.1; no_value = tests.2 }))

with_nothing : (kinds : Kinds) → IsFault kinds → IsFault (or_else kinds [])
with_nothing [] fault = absurd fault
with_nothing (kind ∷ kinds) fault = tt

with_more : (kinds more : Kinds) → IsFault kinds → IsFault (or_else kinds more)
with_more [] more fault = absurd fault
with_more (kind ∷ kinds) more fault = tt

-- ---- after `--`

past_ends : (words : List Text) (waiting : Waiting) (held : Held) (given : Option Text) (heard : List Text) (order : Bool) → Good held given heard order
    → Ends (walk_past waiting held) words (after given heard (Some (record { forms = []; words = words })))
past_ends [] waiting held given heard order good =
    subst (λ c. Ends (walk_past waiting held) [] c) (sym (nothing_more given heard)) (good_end (walk_past waiting held) given heard order good)
past_ends (word ∷ rest) waiting held given heard order good =
    goes_on (walk_past waiting held) (walk_past (free true) (hearing word held)) word rest _ (past_turn word waiting held ∙ good.fault) (past_step word waiting held)
    (subst (λ c. Ends (walk_past (free true) (hearing word held)) rest c) (sym (word_next given heard word (Some (record { forms = []; words = rest }))))
    (past_ends rest (free true) (hearing word held) given (heard ++ word ∷ []) (order_after heard order) (hearing_good word held given heard order good)))

past_bad : (words : List Text) (waiting : Waiting) (held : Held) → Bad held → Ends (walk_past waiting held) words None
past_bad [] waiting held bad = bad_end (walk_past waiting held) bad
past_bad (word ∷ rest) waiting held bad = refused_now (walk_past waiting held) word rest None (subst IsFault (sym (past_turn word waiting held)) bad.fault) refl

-- ---- among options

abbrev IdleEnds : List Text → Type 0
IdleEnds words = (waiting : Bool) (held : Held) (given : Option Text) (heard : List Text) (order : Bool) → Good held given heard order
    → Ends (walk_at (free waiting) held) words (after given heard (spoken words))

abbrev AskingEnds : List Text → Type 0
AskingEnds words = (held : Held) (given : Option Text) (heard : List Text) (order : Bool) → Good held given heard order
    → Ends (walk_at (option form_id) (asking held)) words (after given heard (form_spoken words))

abbrev BadEnds : List Text → Type 0
BadEnds words = (waiting : Bool) (held : Held) → Bad held → Ends (walk_at (free waiting) held) words None

bad_turn : (kind : Word) (word : Text) (rest : List Text) → IsUtf8 word → word_of word ≡ kind → BadEnds (word ∷ rest)
bad_turn ends word rest utf8 e waiting held bad =
    let is : word ≡ codes "--" = same_bytes _ _ (word_told word ends e) in
    subst (λ w. Ends (walk_at (free waiting) held) (w ∷ rest) None) (sym is)
    (goes_on _ _ (codes "--") rest None (end_turn waiting held) (end_step waiting held) (past_bad rest (free waiting) held bad))
bad_turn form_follows word rest utf8 e waiting held bad =
    let is : word ≡ codes "--form" = same_bytes _ _ (word_told word form_follows e) in
    subst (λ w. Ends (walk_at (free waiting) held) (w ∷ rest) None) (sym is)
    (refused_now _ (codes "--form") rest None (subst IsFault (sym (form_turn waiting held)) (with_nothing _ bad.fault)) refl)
bad_turn (form value) word rest utf8 e waiting held bad =
    let tests = word_told word (form value) e in
    let is : word ≡ codes "--form=" ++ value = form_and_value word tests.0 ∙ ap (λ v. codes "--form=" ++ v) (sym tests.1) in
    subst (λ w. Ends (walk_at (free waiting) held) (w ∷ rest) None) (sym is)
    (refused_now _ (codes "--form=" ++ value) rest None (subst IsFault (sym (value_turn waiting value held)) (with_nothing _ (with_more _ _ bad.fault))) refl)
bad_turn unknown word rest utf8 e waiting held bad =
    refused_now _ word rest None (subst IsFault (sym (unknown_turn waiting word held (unknown_told word held utf8 bad.skip e))) tt) refl
bad_turn positional word rest utf8 e waiting held bad =
    refused_now _ word rest None (subst IsFault (sym (plain_turn waiting word held (is_plain word (word_told word positional e).1))) bad.fault) refl

pub bad_ends : (words : List Text) → AllByRecursion IsUtf8 words → BadEnds words
bad_ends [] utf8 waiting held bad = bad_end (walk_at (free waiting) held) bad
bad_ends (word ∷ rest) utf8 waiting held bad = bad_turn _ word rest utf8.0 refl waiting held bad

-- what a word says, by what it is
abbrev spoken_by : Word → Text → List Text → Option Spoken
spoken_by ends word rest = Some (record { forms = []; words = rest })
spoken_by form_follows word rest = form_spoken rest
spoken_by (form value) word rest = with_form value (spoken rest)
spoken_by unknown word rest = None
spoken_by positional word rest = with_word word (spoken rest)

spoken_is : (word : Text) (rest : List Text) (kind : Word) → word_of word ≡ kind → spoken (word ∷ rest) ≡ spoken_by kind word rest
unfolding spoken
spoken_is word rest ends e = rw (e, spoken) refl
spoken_is word rest form_follows e = rw (e, spoken) refl
spoken_is word rest (form value) e = rw (e, spoken) refl
spoken_is word rest unknown e = rw (e, spoken) refl
spoken_is word rest positional e = rw (e, spoken) refl

asked_is : (value : Text) (rest : List Text) → form_spoken (value ∷ rest) ≡ with_form value (spoken rest)
unfolding form_spoken
asked_is value rest = refl

abbrev IsRefusedKind : Word → Type 0
IsRefusedKind ends = Unit {0}
IsRefusedKind form_follows = Unit {0}
IsRefusedKind (form value) = Unit {0}
IsRefusedKind unknown = Unit {0}
IsRefusedKind positional = ⊥

-- a value that begins with `-` names no form
names_none : (kind : Word) (value : Text) → word_of value ≡ kind → IsRefusedKind kind → form_named value ≡ None
names_none ends value e refused = ap form_named {x = value} {y = codes "--"} (same_bytes value (codes "--") (word_told value ends e))
names_none form_follows value e refused = ap form_named {x = value} {y = codes "--form"} (same_bytes value (codes "--form") (word_told value form_follows e))
names_none (form given) value e refused = ap form_named {x = value} {y = codes "--form=" ++ drop 7 value} (form_and_value value (word_told value (form given) e).0)
names_none unknown value e refused = option_names_none value (word_told value unknown e).3
names_none positional value e refused = absurd refused

by_form : (value : Text) (held : Held) (given : Option Text) (heard : List Text) (order : Bool) → Good held given heard order
    → or_else (or_else (settle_fault rules false held) (use_fault false form_rule (value ∷ []) (settled_rows rules held.pending held.rows))) []
    ≡ or_else (use_fault false form_rule (value ∷ []) (rows given heard order)) []
by_form value held given heard order good =
    ap₂ (λ faults found. or_else (or_else faults (use_fault false form_rule (value ∷ []) found)) []) good.fault good.are

abbrev IdleFormEnds : Text → List Text → Type 0
IdleFormEnds value rest = (waiting : Bool) (held : Held) (given : Option Text) (heard : List Text) (order : Bool) → Good held given heard order
    → Ends (walk_at (free waiting) held) ((codes "--form=" ++ value) ∷ rest) (after given heard (with_form value (spoken rest)))

module _ (rest : List Text) (idle_rest : IdleEnds rest) (asking_rest : AskingEnds rest) (bad_rest : BadEnds rest) where
  form_value_turn : (value : Text) → IdleFormEnds value rest
  form_value_turn value waiting held None heard order good =
      goes_on _ _ (codes "--form=" ++ value) rest _
      (value_turn waiting value held ∙ by_form value held None heard order good ∙ ap (λ faults. or_else faults []) (form_free value heard order))
      (value_step waiting value held)
      (subst (λ c. Ends (walk_at (free false) (with_value value held)) rest c) (sym (form_next value heard (spoken rest)))
      (idle_rest false (with_value value held) (Some value) heard false (with_value_good value held heard order good)))
  form_value_turn value waiting held (Some before) heard order good =
      refused_now _ (codes "--form=" ++ value) rest _
      (subst IsFault (sym (value_turn waiting value held ∙ by_form value held (Some before) heard order good)) (with_nothing _ (form_twice value before heard order)))
      (second_form before value heard (spoken rest))

  idle_turn : (kind : Word) (word : Text) → IsUtf8 word → word_of word ≡ kind → (waiting : Bool) (held : Held) (given : Option Text) (heard : List Text) (order : Bool)
      → Good held given heard order → Ends (walk_at (free waiting) held) (word ∷ rest) (after given heard (spoken_by kind word rest))
  idle_turn ends word utf8 e waiting held given heard order good =
      let is : word ≡ codes "--" = same_bytes _ _ (word_told word ends e) in
      subst (λ w. Ends (walk_at (free waiting) held) (w ∷ rest) (after given heard (Some (record { forms = []; words = rest })))) (sym is)
      (goes_on _ _ (codes "--") rest _ (end_turn waiting held) (end_step waiting held) (past_ends rest (free waiting) held given heard order good))
  idle_turn form_follows word utf8 e waiting held given heard order good =
      let is : word ≡ codes "--form" = same_bytes _ _ (word_told word form_follows e) in
      subst (λ w. Ends (walk_at (free waiting) held) (w ∷ rest) (after given heard (form_spoken rest))) (sym is)
      (goes_on _ _ (codes "--form") rest _ (form_turn waiting held ∙ ap (λ faults. or_else faults []) good.fault) (form_step waiting held)
      (asking_rest held given heard order good))
  idle_turn (form value) word utf8 e waiting held given heard order good =
      let tests = word_told word (form value) e in
      let is : word ≡ codes "--form=" ++ value = form_and_value word tests.0 ∙ ap (λ v. codes "--form=" ++ v) (sym tests.1) in
      subst (λ w. Ends (walk_at (free waiting) held) (w ∷ rest) (after given heard (with_form value (spoken rest)))) (sym is)
      (form_value_turn value waiting held given heard order good)
  idle_turn unknown word utf8 e waiting held given heard order good =
      refused_now _ word rest _ (subst IsFault (sym (unknown_turn waiting word held (unknown_told word held utf8 good.skip e))) tt) refl
  idle_turn positional word utf8 e waiting held given heard order good =
      let plain = is_plain word (word_told word positional e).1 in
      goes_on _ _ word rest _ (plain_turn waiting word held plain ∙ good.fault) (plain_step waiting word held plain)
      (subst (λ c. Ends (walk_at (free true) (hearing word held)) rest c) (sym (word_next given heard word (spoken rest)))
      (idle_rest true (hearing word held) given (heard ++ word ∷ []) (order_after heard order) (hearing_good word held given heard order good)))

  asking_refused : (kind : Word) (value : Text) → IsUtf8 value → word_of value ≡ kind → IsRefusedKind kind → (held : Held) → held.skip ≡ 0
      → Ends (walk_at (option form_id) (asking held)) (value ∷ rest) None
  asking_refused ends value utf8 e refused held none =
      let is : value ≡ codes "--" = same_bytes _ _ (word_told value ends e) in
      subst (λ w. Ends (walk_at (option form_id) (asking held)) (w ∷ rest) None) (sym is)
      (goes_on _ _ (codes "--") rest None (asked_end_turn (asking held)) (asked_end_step (asking held)) (past_bad rest (option form_id) (asking held) (asking_bad held none)))
  asking_refused form_follows value utf8 e refused held none =
      let is : value ≡ codes "--form" = same_bytes _ _ (word_told value form_follows e) in
      subst (λ w. Ends (walk_at (option form_id) (asking held)) (w ∷ rest) None) (sym is)
      (refused_now _ (codes "--form") rest None tt refl)
  asking_refused (form given) value utf8 e refused held none =
      let is : value ≡ codes "--form=" ++ drop 7 value = form_and_value value (word_told value (form given) e).0 in
      subst (λ w. Ends (walk_at (option form_id) (asking held)) (w ∷ rest) None) (sym is)
      (refused_now _ (codes "--form=" ++ drop 7 value) rest None tt refl)
  asking_refused unknown value utf8 e refused held none =
      refused_now _ value rest None (subst IsFault (sym (asked_unknown_turn value (asking held) (unknown_told value (asking held) utf8 none e))) tt) refl
  asking_refused positional value utf8 e refused held none = absurd refused

  asking_plain : (value : Text) → IsPlain value → (held : Held) (given : Option Text) (heard : List Text) (order : Bool) → Good held given heard order
      → Ends (walk_at (option form_id) (asking held)) (value ∷ rest) (after given heard (with_form value (spoken rest)))
  asking_plain value plain held None heard order good =
      goes_on _ _ value rest _ (answer_turn value held plain) (answer_step value held plain)
      (subst (λ c. Ends (walk_at (free false) (answered value held)) rest c) (sym (form_next value heard (spoken rest)))
      (idle_rest false (answered value held) (Some value) heard false (answered_good value held heard order good)))
  asking_plain value plain held (Some before) heard order good =
      goes_on _ _ value rest _ (answer_turn value held plain) (answer_step value held plain)
      (subst (λ c. Ends (walk_at (free false) (answered value held)) rest c) (sym (second_form before value heard (spoken rest)))
      (bad_rest false (answered value held) (answered_bad value before held heard order good)))

  to_none : (kind : Word) (value : Text) → IsUtf8 value → word_of value ≡ kind → IsRefusedKind kind → (held : Held) (given : Option Text) (heard : List Text) (order : Bool)
      → Good held given heard order → Ends (walk_at (option form_id) (asking held)) (value ∷ rest) (after given heard (with_form value (spoken rest)))
  to_none kind value utf8 e refused held given heard order good =
      subst (λ c. Ends (walk_at (option form_id) (asking held)) (value ∷ rest) c)
      (sym (bad_form given value heard (spoken rest) (names_none kind value e refused))) (asking_refused kind value utf8 e refused held good.skip)

  asking_turn : (kind : Word) (value : Text) → IsUtf8 value → word_of value ≡ kind → (held : Held) (given : Option Text) (heard : List Text) (order : Bool) → Good held given heard order
      → Ends (walk_at (option form_id) (asking held)) (value ∷ rest) (after given heard (with_form value (spoken rest)))
  asking_turn ends value utf8 e held given heard order good = to_none ends value utf8 e tt held given heard order good
  asking_turn form_follows value utf8 e held given heard order good = to_none form_follows value utf8 e tt held given heard order good
  asking_turn (form inner) value utf8 e held given heard order good = to_none (form inner) value utf8 e tt held given heard order good
  asking_turn unknown value utf8 e held given heard order good = to_none unknown value utf8 e tt held given heard order good
  asking_turn positional value utf8 e held given heard order good = asking_plain value (is_plain value (word_told value positional e).1) held given heard order good

-- ---- all words

abbrev BothEnd : List Text → Type 0
BothEnd words = IdleEnds words × AskingEnds words

both_end : (words : List Text) → AllByRecursion IsUtf8 words → BothEnd words
unfolding spoken form_spoken
both_end [] utf8 = (
  λ waiting held given heard order good.
      subst (λ c. Ends (walk_at (free waiting) held) [] c) (sym (nothing_more given heard)) (good_end (walk_at (free waiting) held) given heard order good),
  λ held given heard order good. bad_end (walk_at (option form_id) (asking held)) (asking_bad held good.skip),
)
both_end (word ∷ rest) utf8 =
    let later = both_end rest utf8.1 in
    let bad = bad_ends rest utf8.1 in (
      λ waiting held given heard order good.
          subst (λ o. Ends (walk_at (free waiting) held) (word ∷ rest) (after given heard o)) (sym (spoken_is word rest _ refl))
          (idle_turn rest later.0 later.1 bad _ word utf8.0 refl waiting held given heard order good),
      λ held given heard order good.
          subst (λ o. Ends (walk_at (option form_id) (asking held)) (word ∷ rest) (after given heard o)) (sym (asked_is word rest))
          (asking_turn rest later.0 later.1 bad _ word utf8.0 refl held given heard order good),
    )

level_is : (stop : Option (Text × List Text)) (first : Kinds) (held : Held)
    → or_else first (or_else (entered_fault (built trusty_app) stop) (or_else (settle_fault rules false held)
    (or_else (defaults_fault (settled_rows rules held.pending held.rows) rules) (check_fault shape (finished rules held) (is_some (entered (built trusty_app) stop))))))
    ≡ or_else first (end_fault held)
level_is None first held = refl
level_is (Some met) first held = refl

all_after : (o : Option Spoken) → after None [] o ≡ option_and_then command_spoken o
all_after None = refl
all_after (Some said) = refl

pub clap_agrees : (words : List Text) → AllByRecursion IsUtf8 words → Agrees (fault_of trusty_app words) (matches_of trusty_app words) (command_in words)
unfolding command_in
clap_agrees words utf8 =
    let ends_here = (both_end words utf8).0 false nothing_held None [] true (record { skip = refl; fault = refl; are = refl }) in
    let end = walk rules [] nothing_held words in
    subst (λ faults. Agrees faults (matches_of trusty_app words) (option_and_then command_spoken (spoken words)))
    (sym (level_is end.stopped (walk_fault shape [] (walk_from nothing_held) words) end.held))
    (subst (λ c. Agrees (or_else (walk_fault shape [] (walk_from nothing_held) words) (end_fault end.held)) (finished rules end.held) c) (all_after (spoken words)) ends_here.agrees)
