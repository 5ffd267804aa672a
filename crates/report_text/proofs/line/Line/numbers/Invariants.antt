-- The word is written, and the numbers in front of the place.
use Rattle.std.proofs.Common.{◌≡◌, ◌++◌, ◌∷◌, map, decimal, take}
use Rattle.report_text.specs.Lines.{spelled}
use Rattle.report_text.proofs.line.Line.numbers.Given as goal

abbrev pub invariant-loop-number : goal.invariant-loop-number
invariant-loop-number l = l.self ≡ l.fn.self ++ spelled (l.word ∷ map decimal (take l.number-index l.numbers))
