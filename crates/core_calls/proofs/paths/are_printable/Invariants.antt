use Rattle.std.specs.List.{list_all}
use Rattle.kernel_values.specs.Words.{is_printable}
use Rattle.std.proofs.Common.{drop, ◌≡◌}
use Rattle.core_calls.proofs.paths.are_printable.Given as goal

abbrev pub invariant-loop-byte : goal.invariant-loop-byte
invariant-loop-byte l = list_all is_printable (drop l.byte-index l.bytes) ≡ list_all is_printable l.bytes
