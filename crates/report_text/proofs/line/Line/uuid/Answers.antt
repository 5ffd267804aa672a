use Rattle.std.proofs.Common.{◌≡◌, ◌++◌, ◌∷◌, ◌∙◌, ap, subst}
use Rattle.std.specs.Prelude.{OnOk}
use Rattle.uuid.specs.Text.{hyphenated_text, lower}
use Rattle.report_text.specs.Lines.{blank, uuid_word}
use Rattle.report_text.proofs.line.Line.uuid.Goals as goal

pub returns : goal.returns
returns c =
    let text_is : c.encode_lower-text.result.now ≡ uuid_word c.args.uuid =
    c.encode_lower-text.ensures.text ∙ ap (hyphenated_text lower) (c.hyphenated.ensures ∙ c.from_u128.ensures) in
    subst (λ text. OnOk c.word.result (c.word.new.self ≡ c.args.self.now ++ blank ∷ text)) text_is c.word.ensures
