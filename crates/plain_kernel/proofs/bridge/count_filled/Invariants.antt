use Rattle.std.proofs.Common.{◌≡◌, ◌≤◌, take}
use Rattle.std.specs.List.{count_by}
use Rattle.kernel_types.specs.Events.{is_filled}
use Rattle.plain_kernel.proofs.bridge.count_filled.Given as goal

abbrev pub invariant-loop-message : goal.invariant-loop-message
invariant-loop-message l = (l.count ≡ count_by is_filled (take l.message-index l.messages)) × (l.count ≤ l.message-index)
