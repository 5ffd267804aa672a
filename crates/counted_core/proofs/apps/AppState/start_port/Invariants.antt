use Rattle.std.specs.List.{find}
use Rattle.kernel_types.specs.Applications.{is_start_port}
use Rattle.std.proofs.Common.{drop, ◌≡◌}
use Rattle.counted_core.proofs.apps.AppState.start_port.Given as goal

abbrev pub invariant-loop-port : goal.invariant-loop-port
invariant-loop-port l = find (is_start_port l.path) (drop l.port-index l.port-items) ≡ find (is_start_port l.path) l.port-items
