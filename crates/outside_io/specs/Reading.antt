-- What reading takes from a source whose bytes are known.
use Rattle.std.specs.Prelude.{ℕ, ◌<◌, ◌≤◌, List, length, Option}
use Rattle.std.specs.Io.KnownBytes.{Consumes, IsAtEnd}

-- the bytes are all that was left, and no more than this
pub record ReadsWhole (limit : ℕ) (old new : Option (List ℕ)) (bytes : List ℕ) : Type 0 where
  pub taken : Consumes old new bytes
  pub at_end : IsAtEnd new
  pub within : length bytes ≤ limit

-- some bytes were taken, at most this many
pub record TakesWithin (limit : ℕ) (old new : Option (List ℕ)) : Type 0 where
  pub bytes : List ℕ
  pub taken : Consumes old new bytes
  pub within : length bytes ≤ limit

-- more bytes than this were taken
pub record TakesMore (limit : ℕ) (old new : Option (List ℕ)) : Type 0 where
  pub bytes : List ℕ
  pub taken : Consumes old new bytes
  pub more : limit < length bytes
