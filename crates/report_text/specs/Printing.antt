-- What printing a text does to the sink, and when it is refused.
use Rattle.std.specs.Prelude.{◌≡◌, ℕ, ◌+◌, ◌≤◌, List, length, Option, Result, Ok, Err, OnOk, OnErr}
use Rattle.std.specs.Io.KnownBytes.{Appends}
use Rattle.outside_io.specs.Faults.{Rose}
use Rattle.outside_io.specs.Writing.{AppendsFront}
use Rattle.report_text.specs.declared.refused.PrintRefused.{PrintRefused}
use Rattle.report_text.specs.declared.refused.PrintRefused.TheVariants.{Failed, NoMemory}

-- A failure is told only where the sink's count of faults rose; with every other answer the count stays.
abbrev pub HasCause : ℕ → ℕ → Result (Unit {0}) PrintRefused → Type 0
HasCause before now (Ok done) = now ≡ before
HasCause before now (Err Failed) = Rose before now
HasCause before now (Err NoMemory) = now ≡ before

-- The text is appended, or where printing is refused a front of it. A write takes a byte at least: there are no more of them than
-- the text has bytes.
pub record Prints (old new : Option (List ℕ)) (before now : ℕ) (made_before made : ℕ) (result : Result (Unit {0}) PrintRefused) (text : List ℕ) : Type 0 where
  pub whole : OnOk result (Appends old new text)
  pub front : OnErr result (AppendsFront old new text)
  pub later : before ≤ now
  pub cause : HasCause before now result
  pub turns : made ≤ made_before + length text
