-- The program's words as clap walks over them.
use Rattle.std.proofs.Common.{◌≡◌, ℕ, List, [], ◌∷◌, ◌++◌, Option, Some, None, Bool, true, false, codes, refl, ap, ap₂, sym, subst, ◌∙◌, append-nil, append_assoc}
use Rattle.std.specs.Prelude.{◌&&◌, ◌==◌, fold, option_and_then, if◌then◌else◌}
use Rattle.std.proofs.lemmas.Bool.{eqb-true}
use Rattle.clap.specs.Walk.{Text, Row, Held, Walk, Waiting, idle, option, positional, with_default, settled_rows, walked, first_of, all_of, finished, used}
use Rattle.clap.specs.Faults.{defaults_fault, check_fault, settle_fault, use_fault, turn_fault, walk_fault}
use Rattle.clap.specs.Kinds.{Kinds, or_else}
use Rattle.command_line.specs.declared.command.Command.{Command}
use Rattle.command_line.specs.Words.{Spoken, with_form, with_word, is_option}
use Rattle.command_line.specs.Commands.{form_named, command_with, command_spoken, listed, judged}
use Rattle.command_line.specs.Program.{form_id, words_id}
use Rattle.command_line.proofs.ClapApp.{shape, rules, form_rule, words_rule, rows, said, order_after, form_used, word_used, form_free, word_free, IsFault, form_twice, no_default, defaults_free, form_found, words_found}

-- ---- what was said before these words

abbrev pub after : Option Text → List Text → Option Spoken → Option Command
after given heard None = None
after given heard (Some rest) = command_spoken (record { forms = listed given ++ rest.forms; words = heard ++ rest.words })

none_of : {A B : Type 0} (o : Option A) → option_and_then {T = A} {U = B} (λ x. None) o ≡ None
none_of None = refl
none_of (Some x) = refl

pub form_next : (value : Text) (heard : List Text) (rest : Option Spoken) → after None heard (with_form value rest) ≡ after (Some value) heard rest
form_next value heard None = refl
form_next value heard (Some rest) = refl

pub second_form : (held value : Text) (heard : List Text) (rest : Option Spoken) → after (Some held) heard (with_form value rest) ≡ None
second_form held value heard None = refl
second_form held value heard (Some rest) = refl

pub word_next : (given : Option Text) (heard : List Text) (word : Text) (rest : Option Spoken) → after given heard (with_word word rest) ≡ after given (heard ++ word ∷ []) rest
word_next given heard word None = refl
word_next given heard word (Some rest) = ap (λ words. command_with (listed given ++ rest.forms) words) (sym (append_assoc heard (word ∷ []) rest.words))

pub nothing_more : (given : Option Text) (heard : List Text) → after given heard (Some (record { forms = []; words = [] })) ≡ judged given (said heard)
nothing_more None [] = refl
nothing_more None (word ∷ more) = ap (λ words. command_with [] words) (append-nil (word ∷ more))
nothing_more (Some value) [] = none_of (form_named value)
nothing_more (Some value) (word ∷ more) = ap (λ words. command_with (value ∷ []) words) (append-nil (word ∷ more))

-- no form is named by this
bad_alone : (value : Text) (forms words : List Text) → form_named value ≡ None → command_with (value ∷ forms) words ≡ None
bad_alone value [] words e = rw e refl
bad_alone value (again ∷ forms) words e = refl

pub bad_form : (given : Option Text) (value : Text) (heard : List Text) (rest : Option Spoken) → form_named value ≡ None → after given heard (with_form value rest) ≡ None
bad_form given value heard None e = refl
bad_form None value heard (Some rest) e = bad_alone value rest.forms (heard ++ rest.words) e
bad_form (Some held) value heard (Some rest) e = refl

first_names_none : (byte : ℕ) (rest : Text) → (byte == 45) ≡ true → form_named (byte ∷ rest) ≡ None
first_names_none byte rest e = let dash : byte ≡ 45 = eqb-true byte 45 e in ap (λ b. form_named (b ∷ rest)) dash

pub option_names_none : (word : Text) → is_option word ≡ true → form_named word ≡ None
option_names_none [] e = absurd (cc)
option_names_none (byte ∷ []) e = absurd (cc)
option_names_none (byte ∷ next ∷ rest) e = first_names_none byte (next ∷ rest) e

-- ---- where the walk stands

abbrev pub walk_at : Waiting → Held → Walk
walk_at waiting held = record { held = held; waiting = waiting; position = 1; is_trailing = false; stopped = None }

abbrev pub walk_past : Waiting → Held → Walk
walk_past waiting held = record { held = held; waiting = waiting; position = 1; is_trailing = true; stopped = None }

-- no option waits: at the start and behind a value, or behind a word
abbrev pub free : Bool → Waiting
free true = positional
free false = idle

-- what is held is good: with this form and these words
pub record Good (held : Held) (given : Option Text) (heard : List Text) (order : Bool) : Type 0 where
  pub skip : held.skip ≡ 0
  pub fault : settle_fault rules false held ≡ []
  pub are : settled_rows rules held.pending held.rows ≡ rows given heard order

-- what is held is refused as soon as it is used
pub record Bad (held : Held) : Type 0 where
  pub skip : held.skip ≡ 0
  pub fault : IsFault (settle_fault rules false held)

abbrev pub end_fault : Held → Kinds
end_fault held = or_else (settle_fault rules false held)
    (or_else (defaults_fault (settled_rows rules held.pending held.rows) rules) (check_fault shape (finished rules held) false))

abbrev pub Agrees : Kinds → List Row → Option Command → Type 0
Agrees [] found command = command ≡ judged (first_of form_id found) (all_of words_id found)
Agrees (kind ∷ kinds) found command = command ≡ None

-- from here on clap comes to this command, or to a fault where there is none
pub record Ends (walk : Walk) (words : List Text) (command : Option Command) : Type 0 where
  pub agrees : Agrees (or_else (walk_fault shape [] walk words) (end_fault (fold (walked rules []) walk words).held))
      (finished rules (fold (walked rules []) walk words).held) command

-- ---- a step, and the end

refused_first : (first second third : Kinds) (found : List Row) (command : Option Command) → IsFault first → command ≡ None
    → Agrees (or_else (or_else first second) third) found command
refused_first [] second third found command fault none = absurd fault
refused_first (kind ∷ kinds) second third found command fault none = none

pub refused_now : (walk : Walk) (word : Text) (rest : List Text) (command : Option Command) → IsFault (turn_fault shape [] walk word) → command ≡ None
    → Ends walk (word ∷ rest) command
unfolding walk_fault
refused_now walk word rest command fault none = record { agrees = refused_first (turn_fault shape [] walk word) _ _ _ command fault none }

pub goes_on : (walk next : Walk) (word : Text) (rest : List Text) (command : Option Command) → turn_fault shape [] walk word ≡ [] → walked rules [] walk word ≡ next
    → Ends next rest command → Ends walk (word ∷ rest) command
unfolding walk_fault
goes_on walk next word rest command free step later = record {
  agrees =
      subst (λ faults. Agrees (or_else (or_else faults (walk_fault shape [] (walked rules [] walk word) rest)) (end_fault (fold (walked rules []) (walked rules [] walk word) rest).held))
      (finished rules (fold (walked rules []) (walked rules [] walk word) rest).held) command) (sym free)
      (subst (λ w. Agrees (or_else (walk_fault shape [] w rest) (end_fault (fold (walked rules []) w rest).held)) (finished rules (fold (walked rules []) w rest).held) command) (sym step) later.agrees);
}

end_found : (held : Held) (given : Option Text) (heard : List Text) (order : Bool) → Good held given heard order → finished rules held ≡ rows given heard order
end_found held given heard order good = ap (λ found. fold with_default found rules) good.are ∙ no_default given heard order

end_free : (held : Held) (given : Option Text) (heard : List Text) (order : Bool) → Good held given heard order → end_fault held ≡ []
end_free held given heard order good =
    ap (λ faults. or_else faults (or_else (defaults_fault (settled_rows rules held.pending held.rows) rules) (check_fault shape (finished rules held) false))) good.fault
    ∙ ap (λ faults. or_else faults (check_fault shape (finished rules held) false)) (ap (λ found. defaults_fault found rules) good.are ∙ defaults_free given heard order)

pub good_end : (walk : Walk) (given : Option Text) (heard : List Text) (order : Bool) → Good walk.held given heard order → Ends walk [] (judged given (said heard))
unfolding walk_fault
good_end walk given heard order good =
    let found = end_found walk.held given heard order good in
    record {
      agrees = subst (λ faults. Agrees faults (finished rules walk.held) (judged given (said heard))) (sym (end_free walk.held given heard order good))
          (ap₂ judged (sym (ap (first_of form_id) found ∙ form_found given heard order)) (sym (ap (all_of words_id) found ∙ words_found given heard order)));
    }

refused_last : (first second : Kinds) (found : List Row) → IsFault first → Agrees (or_else first second) found None
refused_last [] second found fault = absurd fault
refused_last (kind ∷ kinds) second found fault = refl

pub bad_end : (walk : Walk) → Bad walk.held → Ends walk [] None
unfolding walk_fault
bad_end walk bad = record { agrees = refused_last (settle_fault rules false walk.held) _ _ bad.fault }

-- ---- what a word leaves held

-- `--form` waits for its value
abbrev pub asking : Held → Held
asking held = record { rows = settled_rows rules held.pending held.rows; pending = Some (form_id, []); skip = held.skip }

-- the value of `--form`
abbrev pub answered : Text → Held → Held
answered value held = record { rows = settled_rows rules held.pending held.rows; pending = Some (form_id, value ∷ []); skip = held.skip }

-- `--form=V`
abbrev pub with_value : Text → Held → Held
with_value value held = record { rows = used form_rule (value ∷ []) (settled_rows rules held.pending held.rows); pending = None; skip = held.skip }

-- a word that is no option
abbrev pub hearing : Text → Held → Held
hearing word held = record { rows = settled_rows rules held.pending held.rows; pending = Some (words_id, word ∷ []); skip = held.skip }

pub asking_bad : (held : Held) → held.skip ≡ 0 → Bad (asking held)
asking_bad held none = record { skip = none; fault = tt }

pub answered_good : (value : Text) (held : Held) (heard : List Text) (order : Bool) → Good held None heard order → Good (answered value held) (Some value) heard false
answered_good value held heard order good = record {
  skip = good.skip;
  fault = ap (λ found. use_fault false form_rule (value ∷ []) found) good.are ∙ form_free value heard order;
  are = ap (λ found. used form_rule (value ∷ []) found) good.are ∙ form_used value heard order;
}

pub answered_bad : (value before : Text) (held : Held) (heard : List Text) (order : Bool) → Good held (Some before) heard order → Bad (answered value held)
answered_bad value before held heard order good = record {
  skip = good.skip;
  fault = subst (λ found. IsFault (use_fault false form_rule (value ∷ []) found)) (sym good.are) (form_twice value before heard order);
}

pub with_value_good : (value : Text) (held : Held) (heard : List Text) (order : Bool) → Good held None heard order → Good (with_value value held) (Some value) heard false
with_value_good value held heard order good = record {
  skip = good.skip;
  fault = refl;
  are = ap (λ found. used form_rule (value ∷ []) found) good.are ∙ form_used value heard order;
}

pub hearing_good : (word : Text) (held : Held) (given : Option Text) (heard : List Text) (order : Bool) → Good held given heard order
    → Good (hearing word held) given (heard ++ word ∷ []) (order_after heard order)
hearing_good word held given heard order good = record {
  skip = good.skip;
  fault = word_free word (settled_rows rules held.pending held.rows);
  are = ap (λ found. used words_rule (word ∷ []) found) good.are ∙ word_used word given heard order;
}

-- ---- the words, one by one

pub if_never : {A : Type 0} (b : Bool) (x y : A) → (if b && false then x else y) ≡ y
if_never true x y = refl
if_never false x y = refl

-- `--` among options
pub end_turn : (waiting : Bool) (held : Held) → turn_fault shape [] (walk_at (free waiting) held) (codes "--") ≡ []
end_turn true held = refl
end_turn false held = refl

pub end_step : (waiting : Bool) (held : Held) → walked rules [] (walk_at (free waiting) held) (codes "--") ≡ walk_past (free waiting) held
unfolding walked
end_step true held = refl
end_step false held = refl

-- and in place of a value
pub asked_end_turn : (held : Held) → turn_fault shape [] (walk_at (option form_id) held) (codes "--") ≡ []
asked_end_turn held = refl

pub asked_end_step : (held : Held) → walked rules [] (walk_at (option form_id) held) (codes "--") ≡ walk_past (option form_id) held
unfolding walked
asked_end_step held = refl

-- `--form`
pub form_turn : (waiting : Bool) (held : Held) → turn_fault shape [] (walk_at (free waiting) held) (codes "--form") ≡ or_else (settle_fault rules false held) []
form_turn true held = refl
form_turn false held = refl

pub form_step : (waiting : Bool) (held : Held) → walked rules [] (walk_at (free waiting) held) (codes "--form") ≡ walk_at (option form_id) (asking held)
unfolding walked
form_step true held = refl
form_step false held = refl

-- `--form=V`
pub value_turn : (waiting : Bool) (value : Text) (held : Held) → turn_fault shape [] (walk_at (free waiting) held) (codes "--form=" ++ value)
    ≡ or_else (or_else (settle_fault rules false held) (use_fault false form_rule (value ∷ []) (settled_rows rules held.pending held.rows))) []
value_turn true value held = refl
value_turn false value held = refl

pub value_step : (waiting : Bool) (value : Text) (held : Held)
    → walked rules [] (walk_at (free waiting) held) (codes "--form=" ++ value) ≡ walk_at idle (with_value value held)
unfolding walked
value_step true value held = refl
value_step false value held = refl
