-- A name in its field of 256 bytes: a lawful path, then zeros.
use Rattle.std.specs.Prelude.{◌≡◌, ℕ, ◌+◌, ◌-◌, Bool, ◌==◌, if◌then◌else◌, nat_lt, List, ◌++◌, length, take, drop, Result, Ok, Err, IsTrue}
use Rattle.std.specs.List.{prefix_len}
use Rattle.std.proofs.Math.ListN.{replicate}
use Rattle.kernel_values.specs.Words.{is_path, is_printable}
use Rattle.tipc_proto.specs.declared.faults.FrameFault.{FrameFault}
use Rattle.tipc_proto.specs.declared.faults.FrameFault.TheVariants.{Name}

-- the one spelling of a path
unfoldable pub name_field : List ℕ → List ℕ
name_field path = path ++ replicate (256 - length path) 0

-- the field of some path begins so
pub record GoesOn (front : List ℕ) : Type 0 where
  pub path : List ℕ
  pub lawful : IsTrue (is_path path)
  pub rest : List ℕ
  pub begins : front ++ rest ≡ name_field path

-- the first place at which no path goes on
pub record BreaksAt (field : List ℕ) (place : ℕ) : Type 0 where
  pub before : GoesOn (take place field)
  pub here : GoesOn (take (place + 1) field) → ⊥

abbrev pub is_zero : ℕ → Bool
is_zero byte = byte == 0

-- the path in a field: its printable bytes in front, unless there are none, or more than 63, or a byte
-- behind them is not zero
unfoldable pub name_in : List ℕ → Result (List ℕ) FrameFault
name_in field =
    let long = prefix_len is_printable field in
    let end = long + prefix_len is_zero (drop long field) in
    if long == 0 then Err (Name 0)
    else if nat_lt 63 long then Err (Name 63)
    else if nat_lt end (length field) then Err (Name end)
    else Ok (take long field)
