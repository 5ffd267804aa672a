-- What came of a run by threads, as far as the input was read.
use Rattle.command_line.specs.declared.command.Command.TheVariants as command
use Rattle.trusty_main.proofs.Commanding.{does_reading, done_reading, run_reads}
use Rattle.trusty_main.proofs.trusty.run.Goals as goal

pub returns-clause-does : goal.returns-clause-does
returns-clause-does g c =
    does_reading (command.Run c.args.form) _ _ _ c.in-Ok.input.items _ _ _ _ _ (run_reads c.args.form) c.in-Ok.ensures.whole (rw c.as_slice.ensures.value at c.answer.ensures.tells)

pub returns-clause-done : goal.returns-clause-done
returns-clause-done g c is =
    done_reading c.args.form _ _ _ c.in-Ok.input.items _ _ c.in-Ok.ensures.whole ((rw c.as_slice.ensures.value at c.answer.ensures.done) is)
