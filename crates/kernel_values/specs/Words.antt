-- Words, names and paths, as lists of bytes.
use Rattle.std.specs.Prelude.{ℕ, Bool, true, false, List, [], ◌∷◌, ◌==◌, ◌&&◌, ◌||◌, length, nat_lt, nat_le, bytes_eq, not}
use Rattle.std.specs.List.{list_all, list_any}

-- a printable byte that is no blank
abbrev pub is_printable : ℕ → Bool
is_printable byte = nat_le 0x21 byte && nat_le byte 0x7E

-- one or more printable bytes
abbrev pub is_word : List ℕ → Bool
is_word [] = false
is_word (byte ∷ bytes) = list_all is_printable (byte ∷ bytes)

-- the path of a port: 1 to 63 printable bytes
abbrev pub is_path : List ℕ → Bool
is_path bytes = is_word bytes && nat_lt (length bytes) 64

abbrev pub is_letter : ℕ → Bool
is_letter byte = nat_le 0x61 byte && nat_le byte 0x7A

abbrev pub is_name_byte : ℕ → Bool
is_name_byte byte = is_letter byte || (nat_le 0x30 byte && nat_le byte 0x39) || (byte == 0x5F)

-- the name of an application, a client or a register: 1 to 16 of `a` to `z`, `0` to `9` and `_`, a letter first
abbrev pub is_name : List ℕ → Bool
is_name [] = false
is_name (byte ∷ bytes) = is_letter byte && list_all is_name_byte bytes && nat_lt (length bytes) 16

-- no two of these are equal
abbrev pub are_distinct : List (List ℕ) → Bool
are_distinct [] = true
are_distinct (one ∷ others) = not (list_any (bytes_eq one) others) && are_distinct others
