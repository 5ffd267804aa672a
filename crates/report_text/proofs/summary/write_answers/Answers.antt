use Rattle.std.proofs.Common.{◌∷◌, codes}
use Rattle.report_text.specs.declared.summary.Kind.TheVariants as kind
use Rattle.report_text.specs.Forms.{answers_words}
use Rattle.report_text.specs.Lines.{blank, named}
use Rattle.report_text.specs.Tallies.{count_of}
use Rattle.report_text.proofs.Spelling.{before, last}
use Rattle.report_text.proofs.summary.write_answers.Goals as goal

pub returns : goal.returns
unfolding answers_words
returns c =
    before c.write_count-2.result c.write_count-2.new.line _ _ (blank ∷ codes "answers") _ c.in_ok-word.ensures
    (before c.write_count-2.result c.write_count-2.new.line _ _ (named (codes "given") (count_of kind.Given c.args.entries.now)) _ c.in_ok-write_count.ensures
    (last c.write_count-2.result c.write_count-2.new.line _ (named (codes "refused") (count_of kind.Refused c.args.entries.now)) c.write_count-2.ensures))
