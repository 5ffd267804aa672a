use Rattle.std.proofs.Common.{◌∙◌, length, ap}
use Rattle.wait_events.specs.Waits.{least_deadline}
use Rattle.wait_events.proofs.waits.Waits.new.Goals as goal

pub invariant_of-result : goal.invariant_of-result
invariant_of-result c = (ap length c.in_ok-new_tables.ensures, c.least_of-least.ensures ∙ ap least_deadline c.deref.ensures.value)
