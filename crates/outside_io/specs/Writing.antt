-- What writing appends to a sink whose bytes are known.
use Rattle.std.specs.Prelude.{◌≡◌, ℕ, ◌<◌, ◌≤◌, List, length, ◌++◌, Option, Result, IfOk}
use Rattle.std.specs.Io.KnownBytes.{Appends}

-- at `Ok(n)` one byte at least was taken, and no more than there were
abbrev pub TakesSome : {E : Type 0} → Result ℕ E → List ℕ → Type 0
TakesSome result bytes = IfOk result (λ n. (0 < n) × (n ≤ length bytes))

-- the front of the text was appended, but not all of it
pub record AppendsFront (old new : Option (List ℕ)) (text : List ℕ) : Type 0 where
  pub front : List ℕ
  pub rest : List ℕ
  pub parts : text ≡ front ++ rest
  pub unfinished : 0 < length rest
  pub appended : Appends old new front
