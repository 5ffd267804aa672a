-- What is due of the input is due of the scene in its first part and the report behind it, or of the scene's fault.
use Rattle.std.proofs.Common.{arith, subst, sym, ap, ◌∙◌}
use Rattle.command_line.specs.declared.command.Command.TheVariants as command
use Rattle.kernel_types.specs.Kernel.{step_limit}
use Rattle.scene_reader.specs.Whole.{scene_of}
use Rattle.script_lines.specs.declared.fault.SceneFault.{SceneFault}
use Rattle.trusty_main.specs.Answers.{Tells}
use Rattle.trusty_main.specs.Commanded.{IsDueOfCheck, TellsSome}
use Rattle.trusty_main.specs.Texts.{fault_text}
use Rattle.trusty_main.specs.declared.status.Status.TheVariants as status
use Rattle.trusty_main.proofs.Commanding.{fault_told, scene_told}
use Rattle.trusty_main.proofs.check.check.Goals as goal

pub check_report-told-requires : goal.check_report-told-requires
unfolding step_limit
check_report-told-requires g c = omega (arith, c.cut.ensures.lines, c.requires)

pub returns-in-Ok : goal.returns-in-Ok
returns-in-Ok g c = record {
  tells = scene_told command.Check c.args.input.now c.in-Ok.scene _ _ _ _ _ (ap scene_of (sym c.cut.ensures.scene) ∙ c.in-Ok.ensures)
      (subst (λ report. TellsSome (IsDueOfCheck c.in-Ok.scene report) (g.K.Sink.written c.args.sink.now) (g.K.Sink.written c.check_report-told.new.sink)
      (g.K.Sink.faults c.args.sink.now) (g.K.Sink.faults c.check_report-told.new.sink) c.check_report-told.result) c.cut.ensures.report c.check_report-told.ensures.tells);
}

pub returns-in-Err-Fault : goal.returns-in-Err-Fault
returns-in-Err-Fault g c = record {
  tells = fault_told command.Check c.args.input.now _ _ _ _ _ _ (ap scene_of (sym c.cut.ensures.scene) ∙ (rw c.in-Err-Fault.field-0-is at c.in-Err-Fault.ensures))
      (subst (λ (fault : SceneFault). Tells (record { status = status.InputRefused; text = fault_text fault }) (g.K.Sink.written c.args.sink.now) (g.K.Sink.written c.tell_fault.new.sink)
      (g.K.Sink.faults c.args.sink.now) (g.K.Sink.faults c.tell_fault.new.sink) c.tell_fault.result) c.in-Err-Fault.fault-is c.tell_fault.ensures.tells);
}
