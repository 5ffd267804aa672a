-- The program's command line in clap's words: the option `form` and words, with no help and no version.
use Rattle.std.specs.Prelude.{Some, true, codes}
use Rattle.clap.specs.Walk.{Text, Rule}
use Rattle.clap.specs.Simple.{App, new_app, new_rule, with_rule, on_top}
use Rattle.clap.specs.declared.builder.action.ArgAction.TheVariants.{Set, Append}

abbrev pub form_id : Text
form_id = codes "form"

abbrev pub words_id : Text
words_id = codes "words"

abbrev pub form_given : Rule
form_given = record (new_rule form_id) { long = Some form_id; action = Some Set }

abbrev pub words_given : Rule
words_given = record (new_rule words_id) { action = Some Append }

abbrev pub plain_app : App
plain_app = on_top (λ s. record s { no_binary_name = true; disable_help_flag = true; disable_version_flag = true }) (new_app (codes "trusty"))

abbrev pub trusty_app : App
trusty_app = with_rule (with_rule plain_app form_given) words_given
