-- The command that words are.
use Rattle.std.specs.Prelude.{ℕ, ◌≤◌, List, [], ◌∷◌, Option, Some, None, bytes_eq, codes, option_and_then, option_map, if◌then◌else◌, ⊤}
use Rattle.report_text.specs.declared.form.Form.{Form}
use Rattle.report_text.specs.declared.form.Form.TheVariants.{History, Actors, Counts, Summary}
use Rattle.command_line.specs.Numbers.{number_within}
use Rattle.command_line.specs.Words.{Spoken, spoken}
use Rattle.command_line.specs.declared.command.Command.{Command}
use Rattle.command_line.specs.declared.command.Command.TheVariants.{Serial, Replay, Run, Gen, Check}

abbrev pub form_named : List ℕ → Option Form
form_named name = if bytes_eq name (codes "history") then Some History
    else if bytes_eq name (codes "actors") then Some Actors
    else if bytes_eq name (codes "counts") then Some Counts
    else if bytes_eq name (codes "summary") then Some Summary
    else None

-- a command that is one word, and reads the scene that it runs
abbrev pub run_named : List ℕ → Form → Option Command
run_named name form = if bytes_eq name (codes "serial") then Some (Serial form)
    else if bytes_eq name (codes "replay") then Some (Replay form)
    else if bytes_eq name (codes "run") then Some (Run form)
    else None

-- a seed has at most 20 digits and fits 64 bits
abbrev pub seed_said : List ℕ → Option ℕ
seed_said word = number_within 20 0 18446744073709551615 word

-- a number of commands has at most 5 digits, and is from 1 to 10,000
abbrev pub count_said : List ℕ → Option ℕ
count_said word = number_within 5 1 10000 word

-- `gen SEED COUNT`
abbrev pub made_by : List ℕ → List ℕ → List ℕ → Form → Option Command
made_by name seed count form = if bytes_eq name (codes "gen")
    then option_and_then (λ s. option_map (λ n. Gen s n form) (count_said count)) (seed_said seed)
    else None

-- where a form is given
abbrev pub command_named : List (List ℕ) → Form → Option Command
command_named [] form = None
command_named (name ∷ []) form = run_named name form
command_named (name ∷ seed ∷ []) form = None
command_named (name ∷ seed ∷ count ∷ []) form = made_by name seed count form
command_named (name ∷ seed ∷ count ∷ extra ∷ words) form = None

-- Where none is given, the scene that was read is reported in the history form, and the one that was made in the summary form.

abbrev pub alone_named : List ℕ → Option Command
alone_named name = if bytes_eq name (codes "check") then Some Check else run_named name History

abbrev pub command_alone : List (List ℕ) → Option Command
command_alone [] = None
command_alone (name ∷ []) = alone_named name
command_alone (name ∷ next ∷ words) = command_named (name ∷ next ∷ words) Summary

-- with at most one form
abbrev pub command_with : List (List ℕ) → List (List ℕ) → Option Command
command_with [] words = command_alone words
command_with (form ∷ []) words = option_and_then (command_named words) (form_named form)
command_with (form ∷ again ∷ forms) words = None

abbrev pub command_spoken : Spoken → Option Command
command_spoken said = command_with said.forms said.words

abbrev pub listed : Option (List ℕ) → List (List ℕ)
listed None = []
listed (Some name) = name ∷ []

-- with at most one form, and the words, where there are some
abbrev pub judged : Option (List ℕ) → Option (List (List ℕ)) → Option Command
judged form None = None
judged form (Some words) = command_with (listed form) words

unfoldable pub command_in : List (List ℕ) → Option Command
command_in words = option_and_then command_spoken (spoken words)

-- a scene that is made has at most 10,000 commands
abbrev pub MakesFew : Option Command → Type 0
MakesFew (Some (Gen seed count form)) = count ≤ 10000
MakesFew _ = ⊤
