use Rattle.std.proofs.Common.{◌≡◌, true, ap, ap₂, ◌∙◌, rules}
use Rattle.clap.specs.Words.{rule_of, with_rule}
use Rattle.clap.specs.Simple.{on_top, app_of_fields}
use Rattle.command_line.specs.Program.{form_given, words_given}
use Rattle.command_line.proofs.words.program.Goals as goal

pub returns : goal.returns
returns c =
    let form_is : rule_of c.action-form.result ≡ form_given = search rules in
    let words_are : rule_of c.action-words.result ≡ words_given = search rules in
    let no_binary = ap app_of_fields c.no_binary_name.ensures ∙ ap (on_top (λ s. record s { no_binary_name = true })) c.new-3.ensures.app in
    let no_help = ap app_of_fields c.disable_help_flag.ensures ∙ ap (on_top (λ s. record s { disable_help_flag = true })) no_binary in
    let no_version = ap app_of_fields c.disable_version_flag.ensures ∙ ap (on_top (λ s. record s { disable_version_flag = true })) no_help in
    c.in_ok-program.ensures.shape (search rules) ∙ ap₂ with_rule (c.in_ok-arg.ensures.shape (search rules) ∙ ap₂ with_rule no_version form_is) words_are
