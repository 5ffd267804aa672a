-- The handles and the registers in the words of a line.
use Rattle.std.specs.Prelude.{ℕ, Bool, List, [], ◌∷◌, ◌++◌, ◌+◌, ◌==◌, ◌&&◌, length, nat_lt, bytes_eq, codes, Result, Ok, Err, if◌then◌else◌}
use Rattle.std.specs.List.{position_or_len}
use Rattle.kernel_values.specs.Words.{is_name}
use Rattle.script_lines.specs.declared.fault.SceneKind.{SceneKind}
use Rattle.script_lines.specs.declared.fault.SceneKind.TheVariants.{BadWords}
use Rattle.script_lines.specs.declared.registers.Registers.{Registers}
use Rattle.script_lines.specs.Gives.{◌>>=◌}
use Rattle.script_lines.specs.Numbers.{number}

-- a handle that is read from a register stands as this number
abbrev pub no_handle : ℕ
no_handle = 4294967295

-- a register's number: the place of its name among the script's, in the order in which its lines first name them
unfoldable pub place_of : List (List ℕ) → List ℕ → ℕ
place_of names name = position_or_len (λ other. bytes_eq other name) names

abbrev pub with_name : List (List ℕ) → List ℕ → List (List ℕ)
with_name names name = if place_of names name == length names then names ++ name ∷ [] else names

unfoldable pub register : Registers → List ℕ → Result (Registers × ℕ) SceneKind
register r name = if is_name name then Ok (record r { names = with_name r.names name }, place_of r.names name) else Err BadWords

-- the place-th handle of the line: `$` and a register, or a number
unfoldable pub hand : Registers → ℕ → List ℕ → Result (Registers × ℕ) SceneKind
hand r place [] = Err BadWords
hand r place (byte ∷ name) = if byte == 36 then (do
  read ← register r name
  Ok (record read.0 { reads = read.0.reads ++ record { place = place; reg = read.1 } ∷ [] }, no_handle))
    else do
      n ← number (byte ∷ name)
      Ok (r, n)

-- the answer sets this register too
unfoldable pub with_set : Registers → List ℕ → Result Registers SceneKind
with_set r name = do
  named ← register r name
  Ok (record named.0 { sets = named.0.sets ++ named.1 ∷ [] })

unfoldable pub with_sets : Registers → List (List ℕ) → Result Registers SceneKind
with_sets r [] = Ok r
with_sets r (name ∷ names) = do
  first ← with_set r name
  with_sets first names

-- nothing, or `as` and a register
unfoldable pub as_one : Registers → List (List ℕ) → Result Registers SceneKind
as_one r [] = Ok r
as_one r (word ∷ name ∷ []) = if bytes_eq word (codes "as") then with_set r name else Err BadWords
as_one r words = Err BadWords

-- nothing, or `as` and 1 to 8 registers
unfoldable pub as_some : Registers → List (List ℕ) → Result Registers SceneKind
as_some r [] = Ok r
as_some r (word ∷ []) = Err BadWords
as_some r (word ∷ name ∷ names) = if bytes_eq word (codes "as") && nat_lt (length names) 8 then with_sets r (name ∷ names) else Err BadWords

-- the handles that go with a message, behind those that were read; the channel is the line's handle 0
unfoldable pub parts : Registers → List ℕ → List (List ℕ) → Result (Registers × List ℕ) SceneKind
parts r handles [] = Ok (r, handles)
parts r handles (word ∷ words) = do
  first ← hand r (length handles + 1) word
  parts first.0 (handles ++ first.1 ∷ []) words
