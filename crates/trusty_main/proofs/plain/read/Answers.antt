-- What came of an input, as far as it was read.
use Rattle.std.proofs.Common.{refl}
use Rattle.trusty_main.specs.Plans.{command_for}
use Rattle.trusty_main.proofs.Commanding.{does_long, does_reading, endless_reading, reads_for, reported_reading}
use Rattle.trusty_main.proofs.plain.read.Goals as goal

pub returns-clause-does : goal.returns-clause-does
returns-clause-does g c =
    does_reading (command_for c.args.purpose) _ _ _ c.in-Ok.input.items _ _ _ _ _ (reads_for c.args.purpose) c.in-Ok.ensures.whole (rw c.as_slice.ensures.value at c.serve.ensures.tells)

pub returns-clause-reported : goal.returns-clause-reported
returns-clause-reported g c is =
    reported_reading (command_for c.args.purpose) _ _ _ c.in-Ok.input.items _ _ (reads_for c.args.purpose) c.in-Ok.ensures.whole ((rw c.as_slice.ensures.value at c.serve.ensures.reported) is)

pub returns-clause-endless : goal.returns-clause-endless
returns-clause-endless g c is =
    endless_reading (command_for c.args.purpose) _ _ _ c.in-Ok.input.items (reads_for c.args.purpose) c.in-Ok.ensures.whole ((rw c.as_slice.ensures.value at c.serve.ensures.endless) is)

pub returns-in-Err-TooLong-clause-does : goal.returns-in-Err-TooLong-clause-does
returns-in-Err-TooLong-clause-does g c =
    does_long (command_for c.args.purpose) _ _ _ _ _ (reads_for c.args.purpose) ((rw c.in-Err-TooLong.field-0-is at c.in-Err-TooLong.ensures.long) refl)
