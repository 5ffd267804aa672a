-- The program's command as clap sees it, and what clap makes of the matches that its walk may hold.
use Rattle.std.proofs.Common.{◌≡◌, List, [], ◌∷◌, ◌++◌, Option, Some, None, Bool, true, false, refl}
use Rattle.std.specs.Prelude.{fold}
use Rattle.clap.specs.Walk.{Text, Rule, Row, with_default, first_of, all_of, used}
use Rattle.clap.specs.Simple.{Shape, built, is_simple}
use Rattle.clap.specs.Faults.{is_simple_and_free, defaults_fault, use_fault}
use Rattle.clap.specs.Kinds.{Kinds}
use Rattle.clap.specs.declared.builder.value_parser.Reading.TheVariants.{AsWritten}
use Rattle.clap.specs.declared.parser.matches.ValueSource.TheVariants.{CommandLine}
use Rattle.command_line.specs.Program.{form_id, words_id, form_given, trusty_app}
use Rattle.clap.proofs.OnLiterals.{clap_on_literals}

pub app_is_free : is_simple_and_free trusty_app ≡ true
unfolding clap_on_literals
app_is_free = refl

pub app_is_simple : is_simple trusty_app ≡ true
unfolding clap_on_literals
app_is_simple = refl

-- as built
abbrev pub shape : Shape
shape = (built trusty_app).top

abbrev pub rules : List Rule
rules = shape.rules

abbrev pub form_rule : Rule
form_rule = elim rules as (λ _. Rule) [ [] ↦ form_given | rule ∷ rest ↦ rule ]

abbrev pub words_rule : Rule
words_rule = elim rules as (λ _. Rule) [ [] ↦ form_given | rule ∷ rest ↦ elim rest as (λ _. Rule) [ [] ↦ form_given | second ∷ others ↦ second ] ]

abbrev pub row_for : Text → List Text → Row
row_for id values = record { id = id; values = values; count = None; source = Some CommandLine; reading = AsWritten }

-- the matches with this form and these words, in one of the two orders
abbrev pub rows : Option Text → List Text → Bool → List Row
rows None [] order = []
rows (Some value) [] order = row_for form_id (value ∷ []) ∷ []
rows None (word ∷ more) order = row_for words_id (word ∷ more) ∷ []
rows (Some value) (word ∷ more) true = row_for form_id (value ∷ []) ∷ row_for words_id (word ∷ more) ∷ []
rows (Some value) (word ∷ more) false = row_for words_id (word ∷ more) ∷ row_for form_id (value ∷ []) ∷ []

pub form_used : (value : Text) (words : List Text) (order : Bool) → used form_rule (value ∷ []) (rows None words order) ≡ rows (Some value) words false
form_used value [] order = refl
form_used value (word ∷ more) order = refl

-- the first word stands behind a form that was given before it
abbrev pub order_after : List Text → Bool → Bool
order_after [] order = true
order_after (word ∷ more) order = order

pub word_used : (next : Text) (form : Option Text) (words : List Text) (order : Bool)
    → used words_rule (next ∷ []) (rows form words order) ≡ rows form (words ++ next ∷ []) (order_after words order)
word_used next None [] order = refl
word_used next None (word ∷ more) order = refl
word_used next (Some value) [] order = refl
word_used next (Some value) (word ∷ more) true = refl
word_used next (Some value) (word ∷ more) false = refl

pub form_free : (value : Text) (words : List Text) (order : Bool) → use_fault false form_rule (value ∷ []) (rows None words order) ≡ []
form_free value [] order = refl
form_free value (word ∷ more) order = refl

pub word_free : (next : Text) (found : List Row) → use_fault false words_rule (next ∷ []) found ≡ []
word_free next found = refl

abbrev pub IsFault : Kinds → Type 0
IsFault [] = ⊥
IsFault (kind ∷ kinds) = Unit {0}

pub form_twice : (value held : Text) (words : List Text) (order : Bool) → IsFault (use_fault false form_rule (value ∷ []) (rows (Some held) words order))
form_twice value held [] order = tt
form_twice value held (word ∷ more) true = tt
form_twice value held (word ∷ more) false = tt

pub no_default : (form : Option Text) (words : List Text) (order : Bool) → fold with_default (rows form words order) rules ≡ rows form words order
no_default None [] order = refl
no_default (Some value) [] order = refl
no_default None (word ∷ more) order = refl
no_default (Some value) (word ∷ more) true = refl
no_default (Some value) (word ∷ more) false = refl

pub defaults_free : (form : Option Text) (words : List Text) (order : Bool) → defaults_fault (rows form words order) rules ≡ []
unfolding clap_on_literals
defaults_free None [] order = refl
defaults_free (Some value) [] order = refl
defaults_free None (word ∷ more) order = refl
defaults_free (Some value) (word ∷ more) true = refl
defaults_free (Some value) (word ∷ more) false = refl

pub form_found : (form : Option Text) (words : List Text) (order : Bool) → first_of form_id (rows form words order) ≡ form
form_found None [] order = refl
form_found (Some value) [] order = refl
form_found None (word ∷ more) order = refl
form_found (Some value) (word ∷ more) true = refl
form_found (Some value) (word ∷ more) false = refl

-- the words, where there are some
abbrev pub said : List Text → Option (List Text)
said [] = None
said (word ∷ more) = Some (word ∷ more)

pub words_found : (form : Option Text) (words : List Text) (order : Bool) → all_of words_id (rows form words order) ≡ said words
words_found None [] order = refl
words_found (Some value) [] order = refl
words_found None (word ∷ more) order = refl
words_found (Some value) (word ∷ more) true = refl
words_found (Some value) (word ∷ more) false = refl
