use Rattle.std.proofs.Common.{◌+◌, drop, ◌≡◌}
use Rattle.std.specs.List.{position_or_len}
use Rattle.kernel_types.specs.Applications.{has_start_port}
use Rattle.counted_core.proofs.ports.place_of_server.Given as goal

abbrev pub invariant-loop-at : goal.invariant-loop-at
invariant-loop-at l = l.at + position_or_len (has_start_port l.path) (drop l.at l.apps) ≡ position_or_len (has_start_port l.path) l.apps
