use Rattle.std.specs.List.{list_any}
use Rattle.kernel_types.specs.Step.{has_begun_and_goes_on}
use Rattle.std.proofs.Common.{drop, ◌≡◌}
use Rattle.plain_kernel.proofs.facts.any_goes_on.Given as goal

abbrev pub invariant-loop-status : goal.invariant-loop-status
invariant-loop-status l = list_any has_begun_and_goes_on (drop l.status-index l.statuses) ≡ list_any has_begun_and_goes_on l.statuses
