use Rattle.std.proofs.Common.{drop, ◌≡◌}
use Rattle.kernel_types.specs.Events.{has_filled}
use Rattle.counted_core.proofs.events.has_filled.Given as goal

abbrev pub invariant-loop-message : goal.invariant-loop-message
invariant-loop-message l = has_filled (drop l.message-index l.messages) ≡ has_filled l.messages
