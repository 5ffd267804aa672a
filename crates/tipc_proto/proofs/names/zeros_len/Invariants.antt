use Rattle.std.proofs.Common.{◌≡◌, ◌≤◌, ◌+◌, ◌-◌, length, drop}
use Rattle.std.specs.List.{prefix_len}
use Rattle.tipc_proto.specs.Names.{is_zero}
use Rattle.tipc_proto.proofs.names.zeros_len.Given as goal

abbrev pub invariant-loop-at : goal.invariant-loop-at
invariant-loop-at l = record { so_far : l.at + prefix_len is_zero (drop l.at l.bytes) ≡ prefix_len is_zero l.bytes; within : l.at ≤ length l.bytes }

abbrev pub decreases-loop-at : goal.decreases-loop-at
decreases-loop-at l = length l.bytes - l.at
