-- What is due of a seed is due of the scene that was made.
use Rattle.std.proofs.Common.{subst}
use Rattle.kernel_values.specs.SceneLaw.{SceneValue}
use Rattle.trusty_main.specs.Answers.{Tells}
use Rattle.trusty_main.specs.Due.{due_of_run}
use Rattle.trusty_main.specs.Plans.{outturn_of}
use Rattle.trusty_main.specs.declared.plan.Order.TheVariants as order
use Rattle.trusty_main.proofs.Commanding.{made_told}
use Rattle.trusty_main.proofs.plain.make.Goals as goal

pub returns-clause-tells : goal.returns-clause-tells
returns-clause-tells g c =
    made_told c.args.making.seed c.args.making.count c.args.making.form _ _ _ _ _
    (subst (λ (scene : SceneValue). Tells (due_of_run scene c.args.making.form (outturn_of order.Serial scene)) (g.K.Sink.written c.args.sink.now) (g.K.Sink.written c.run-told.new.sink)
    (g.K.Sink.faults c.args.sink.now) (g.K.Sink.faults c.run-told.new.sink) c.run-told.result) c.in-Ok.ensures c.run-told.ensures.tells)
