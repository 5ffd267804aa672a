-- What the entries from the place on tell is what all of them tell.
use Rattle.std.proofs.Common.{◌≡◌, drop}
use Rattle.report_text.specs.OwnCalls.{answer_in}
use Rattle.report_text.proofs.actors.answer_in.Given as goal

abbrev pub invariant-loop-entry : goal.invariant-loop-entry
invariant-loop-entry l = answer_in l.actor (drop l.entry-index l.later) ≡ answer_in l.actor l.later
