use Rattle.std.proofs.Common.{◌≡◌, ◌+◌, ◌++◌, drop, length, take}
use Rattle.counted_core.proofs.memories.overwrite.Given as goal

abbrev pub invariant-loop-byte : goal.invariant-loop-byte
invariant-loop-byte l =
    (take l.at l.bytes ≡ take l.offset l.initial.bytes ++ take l.byte-index l.new) × (drop l.at l.bytes ≡ drop l.at l.initial.bytes) × (length l.bytes ≡ length l.initial.bytes) × (l.at ≡ l.offset + l.byte-index)
