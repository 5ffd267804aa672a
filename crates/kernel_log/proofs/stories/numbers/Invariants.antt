use Rattle.std.proofs.Common.{◌≡◌, take}
use Rattle.kernel_log.specs.Moves.{numbers_of}
use Rattle.kernel_log.proofs.stories.numbers.Given as goal

abbrev pub invariant-loop-entry : goal.invariant-loop-entry
invariant-loop-entry l = l.numbers ≡ numbers_of l.which l.end.0 (take l.entry-index l.entries)
