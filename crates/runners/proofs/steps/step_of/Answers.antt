use Rattle.std.proofs.Common.{Option, subst, ap, ◌∙◌}
use Rattle.kernel_log.specs.Logs.{Wrote}
use Rattle.kernel_log.specs.declared.logged.Receipt.{Receipt}
use Rattle.kernel_values.specs.declared.reply.Answer.{Answer}
use Rattle.runners.specs.Places.{after_answer}
use Rattle.runners.specs.Steps.{Made}
use Rattle.runners.proofs.Stepping.{answer_there}
use Rattle.runners.proofs.steps.step_of.Goals as goal

pub returns-clause-made : goal.returns-clause-made
returns-clause-made g c =
    let wrote : Wrote c.args.event c.args.logged.now c.step_once.new.logged c.in-Some.receipt.place =
    subst (λ (r : Option Receipt). Made c.args.event c.args.logged.now c.step_once.new.logged r) c.in-Some.is c.in_ok-receipt.ensures.made in
    (c.in-Some.receipt.place, wrote, c.take.ensures ∙ ap (λ (a : Answer). after_answer c.args.place.now a) (answer_there c.args.logged.now _ _ _ wrote c.in-Some-answer.answer.now c.in-Some-answer.ensures))
