-- What a parse gives of the words.
use Rattle.std.proofs.Common.{◌≡◌, List, [], ◌∷◌, Option, Some, None, Bool, true, false, cond, map, refl, ap, ap₂, sym, subst, ◌∙◌}
use Rattle.std.specs.Prelude.{find, bytes_eq, option_map, option_and_then, slice_get, string_bytes, String, IsUtf8}
use Rattle.std.specs.declared.alloc.Global.{Global}
use Rattle.std.specs.Borrow.{Bor}
use Rattle.std.specs.List.{AllByRecursion}
use Rattle.std.proofs.lemmas.Str.{IsUtf8-had}
use Rattle.clap.specs.Facts.{Entry}
use Rattle.clap.specs.Simple.{App, matches_of}
use Rattle.clap.specs.Faults.{fault_of}
use Rattle.clap.specs.Kinds.{Kinds, IsAmong}
use Rattle.clap.specs.declared.error.kind.ErrorKind.{ErrorKind}
use Rattle.command_line.specs.declared.command.Command.{Command}
use Rattle.command_line.specs.Commands.{judged, command_in}
use Rattle.command_line.specs.Program.{trusty_app, form_id, words_id}
use Rattle.command_line.proofs.Walks.{Agrees}
use Rattle.command_line.proofs.Agreement.{clap_agrees}
use Rattle.clap.specs.Walk.{Text, Row, row_of, rows_of, first_of, all_of}
use Rattle.clap.specs.Matches.{first_value, matched_of, raw_values}
use Rattle.clap.specs.declared.parser.matches.Found.{Found}

-- words are UTF-8
pub words_are_utf8 : (words : List (String Global)) → AllByRecursion IsUtf8 (map string_bytes words)
words_are_utf8 [] = tt
words_are_utf8 (word ∷ words) = (IsUtf8-had _ word.ok, words_are_utf8 words)

abbrev of_entry : Option Entry → Option Text
of_entry entry = option_and_then (λ a. option_map (λ s. s.now) (slice_get a.vals.items 0)) (option_map (λ e. e.1) entry)

abbrev of_row : Option Row → Option Text
of_row row = option_and_then (λ r. slice_get r.values 0) row

first_seen : (texts : List (Bor Text)) → option_map (λ s. s.now) (slice_get texts 0) ≡ slice_get (map (λ s. s.now) texts) 0
first_seen [] = refl
first_seen (text ∷ texts) = refl

first_text : (e : Entry) → of_entry (Some e) ≡ of_row (Some (row_of e))
first_text e = first_seen e.1.vals.items

picked : (here : Bool) (e : Entry) (later : Option Entry) (later_row : Option Row) → of_entry later ≡ of_row later_row
    → of_entry (cond here (Some e) later) ≡ of_row (cond here (Some (row_of e)) later_row)
picked true e later later_row same = first_text e
picked false e later later_row same = same

first_among : (id : Text) (es : List Entry) → of_entry (find (λ e. bytes_eq e.0.now id) es) ≡ of_row (find (λ r. bytes_eq r.id id) (map row_of es))
first_among id [] = refl
first_among id (e ∷ es) = picked (bytes_eq e.0.now id) e _ _ (first_among id es)

pub first_value_is : (found : Found) (id : Text) → first_value found id ≡ first_of id (rows_of found)
first_value_is found id = first_among id found.entries.items

-- all values in place of the first

abbrev all_in_entry : Option Entry → Option (List Text)
all_in_entry entry = option_map raw_values (option_map (λ e. e.1) entry)

abbrev all_in_row : Option Row → Option (List Text)
all_in_row row = option_map (λ r. r.values) row

all_picked : (here : Bool) (e : Entry) (later : Option Entry) (later_row : Option Row) → all_in_entry later ≡ all_in_row later_row
    → all_in_entry (cond here (Some e) later) ≡ all_in_row (cond here (Some (row_of e)) later_row)
all_picked true e later later_row same = refl
all_picked false e later later_row same = same

all_among : (id : Text) (es : List Entry) → all_in_entry (find (λ e. bytes_eq e.0.now id) es) ≡ all_in_row (find (λ r. bytes_eq r.id id) (map row_of es))
all_among id [] = refl
all_among id (e ∷ es) = all_picked (bytes_eq e.0.now id) e _ _ (all_among id es)

pub all_values_are : (found : Found) (id : Text) → option_map raw_values (matched_of found id) ≡ all_of id (rows_of found)
all_values_are found id = all_among id found.entries.items

refused : (kind : ErrorKind) (kinds : Kinds) (found : List Row) (command : Option Command) → IsAmong kind kinds → Agrees kinds found command → command ≡ None
refused kind [] found command fault agreed = absurd fault
refused kind (first ∷ kinds) found command fault agreed = agreed

module _ (words : List (String Global)) (app : App) (is : app ≡ trusty_app) where
  agrees : Agrees (fault_of app (map string_bytes words)) (matches_of app (map string_bytes words)) (command_in (map string_bytes words))
  agrees = subst (λ a. Agrees (fault_of a (map string_bytes words)) (matches_of a (map string_bytes words)) (command_in (map string_bytes words)))
      (sym is) (clap_agrees (map string_bytes words) (words_are_utf8 words))

  pub given_is : (found : Found) → fault_of app (map string_bytes words) ≡ [] → rows_of found ≡ matches_of app (map string_bytes words)
      → command_in (map string_bytes words) ≡ judged (first_value found form_id) (option_map raw_values (matched_of found words_id))
  given_is found free same =
      let as_found : command_in (map string_bytes words) ≡ judged (first_of form_id (matches_of app (map string_bytes words))) (all_of words_id (matches_of app (map string_bytes words)))
      = subst (λ kinds. Agrees kinds (matches_of app (map string_bytes words)) (command_in (map string_bytes words))) free agrees in
      as_found ∙ ap₂ judged (sym (first_value_is found form_id ∙ ap (first_of form_id) same)) (sym (all_values_are found words_id ∙ ap (all_of words_id) same))

  pub nothing_given : (kind : ErrorKind) → IsAmong kind (fault_of app (map string_bytes words)) → command_in (map string_bytes words) ≡ None
  nothing_given kind fault = refused kind _ _ _ fault agrees
