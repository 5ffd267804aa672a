use Rattle.std.proofs.Common.{◌∙◌, ap}
use Rattle.kernel_log.specs.declared.stories.Move.TheVariants.{Send, Opening, Retirement}
use Rattle.kernel_log.specs.Moves.{numbers_of}
use Rattle.kernel_log.proofs.Telling.{story_in_order}
use Rattle.kernel_log.proofs.stories.story.Goals as goal

pub returns-clause-in_order : goal.returns-clause-in_order
returns-clause-in_order c =
    story_in_order c.args.journal.now.entries c.args.end.0 _ _ _
    (c.in_ok-numbers.ensures ∙ ap (λ entries. numbers_of Send c.args.end.0 entries) c.entries-entries.ensures)
    (c.in_ok-numbers-2.ensures ∙ ap (λ entries. numbers_of Opening c.args.end.0 entries) c.entries-entries.ensures)
    (c.in_ok-numbers-3.ensures ∙ ap (λ entries. numbers_of Retirement c.args.end.0 entries) c.entries-entries.ensures)
