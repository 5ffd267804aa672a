-- What is due of the input is due of the scene or the fault that was read.
use Rattle.std.proofs.Common.{arith, subst}
use Rattle.kernel_types.specs.Turns.{history_limit}
use Rattle.script_lines.specs.declared.fault.SceneFault.{SceneFault}
use Rattle.trusty_main.specs.Answers.{Tells}
use Rattle.trusty_main.specs.Texts.{fault_text}
use Rattle.trusty_main.specs.declared.status.Status.TheVariants as status
use Rattle.trusty_main.proofs.Commanding.{plan_fault_told, plan_told}
use Rattle.trusty_main.proofs.plain.answer.Goals as goal

pub run-told-requires : goal.run-told-requires
unfolding history_limit
run-told-requires g c = omega (arith, c.turns_take_bytes.ensures c.args.input.now c.in-Ok.scene c.in-Ok.ensures, c.requires)

pub returns-in-Ok-clause-tells : goal.returns-in-Ok-clause-tells
returns-in-Ok-clause-tells g c = plan_told c.args.input.now c.in-Ok.scene c.in-Ok.ensures _ _ _ _ _ c.args.plan.order c.args.plan.form c.run-told.ensures.tells

pub returns-in-Err-Fault-clause-tells : goal.returns-in-Err-Fault-clause-tells
returns-in-Err-Fault-clause-tells g c =
    plan_fault_told c.args.plan.order c.args.plan.form c.args.input.now _ _ _ _ _ _ (rw c.in-Err-Fault.field-0-is at c.in-Err-Fault.ensures)
    (subst (λ (fault : SceneFault). Tells (record { status = status.InputRefused; text = fault_text fault }) (g.K.Sink.written c.args.sink.now) (g.K.Sink.written c.tell_fault.new.sink)
    (g.K.Sink.faults c.args.sink.now) (g.K.Sink.faults c.tell_fault.new.sink) c.tell_fault.result) c.in-Err-Fault.fault-is c.tell_fault.ensures.tells)
