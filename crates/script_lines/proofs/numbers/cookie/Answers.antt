use Rattle.std.proofs.Common.{◌≡◌, true, rules, tests}
use Rattle.std.proofs.lemmas.Str.{IsUtf8-from_ascii}
use Rattle.script_lines.specs.Numbers.{is_number}
use Rattle.script_lines.proofs.Numerals.{number_ascii, unparsed}
use Rattle.script_lines.proofs.numbers.cookie.Goals as goal

pub returns-in_default : goal.returns-in_default
returns-in_default c =
    let digits : is_number 20 c.args.word.now ≡ true = first_of (cc, search (rules, tests)) in
    absurd (c.in_default.ensures.cases.0 (IsUtf8-from_ascii c.args.word.now (number_ascii 20 c.args.word.now digits)))

pub returns-in-Err : goal.returns-in-Err
returns-in-Err c =
    let digits : is_number 20 c.args.word.now ≡ true = first_of (cc, search (rules, tests)) in
    unparsed 64 20 c.args.word.now c.in-Ok.text.now c.in-Err.field-0 digits c.in-Ok.ensures.cases.0 c.in-Err.ensures.value.0
