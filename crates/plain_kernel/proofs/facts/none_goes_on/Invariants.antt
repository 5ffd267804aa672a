use Rattle.std.specs.List.{list_all}
use Rattle.std.proofs.Common.{not, drop, ◌≡◌}
use Rattle.kernel_types.specs.Step.{has_begun_and_goes_on}
use Rattle.plain_kernel.proofs.facts.none_goes_on.Given as goal

abbrev pub invariant-loop-status : goal.invariant-loop-status
invariant-loop-status l = list_all (λ status. not (has_begun_and_goes_on status)) (drop l.status-index l.statuses) ≡ list_all (λ status. not (has_begun_and_goes_on status)) l.statuses
