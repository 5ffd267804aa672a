use Rattle.std.specs.List.{list_any}
use Rattle.kernel_types.specs.Step.{is_running}
use Rattle.std.proofs.Common.{drop, ◌≡◌}
use Rattle.plain_kernel.proofs.facts.any_runs.Given as goal

abbrev pub invariant-loop-status : goal.invariant-loop-status
invariant-loop-status l = list_any is_running (drop l.status-index l.statuses) ≡ list_any is_running l.statuses
