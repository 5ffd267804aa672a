use Rattle.std.proofs.Common.{◌∷◌, codes, length}
use Rattle.report_text.specs.declared.summary.Kind.TheVariants as kind
use Rattle.report_text.specs.Forms.{history_words}
use Rattle.report_text.specs.Lines.{blank, named}
use Rattle.report_text.specs.Tallies.{count_of}
use Rattle.report_text.proofs.Spelling.{before, last}
use Rattle.report_text.proofs.summary.write_history.Goals as goal

pub returns : goal.returns
unfolding history_words
returns c =
    before c.write_count-4.result c.write_count-4.new.line _ _ (blank ∷ codes "summary") _ c.in_ok-word.ensures
    (before c.write_count-4.result c.write_count-4.new.line _ _ (named (codes "history") (length c.args.entries.now)) _ c.in_ok-named.ensures
    (before c.write_count-4.result c.write_count-4.new.line _ _ (named (codes "begins") (count_of kind.Begin c.args.entries.now)) _ c.in_ok-write_count.ensures
    (before c.write_count-4.result c.write_count-4.new.line _ _ (named (codes "resumes") (count_of kind.Resume c.args.entries.now)) _ c.in_ok-write_count-2.ensures
    (before c.write_count-4.result c.write_count-4.new.line _ _ (named (codes "device") (count_of kind.Device c.args.entries.now)) _ c.in_ok-write_count-3.ensures
    (last c.write_count-4.result c.write_count-4.new.line _ (named (codes "idle") (count_of kind.Idle c.args.entries.now)) c.write_count-4.ensures)))))
