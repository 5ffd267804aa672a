-- Words that are numbers, flags or times.
use Rattle.std.specs.Prelude.{ℕ, Bool, List, ◌&&◌, ◌^◌, ◌+◌, length, nat_lt, nat_le, bytes_eq, codes, Option, Some, None, Result, Ok, Err, if◌then◌else◌}
use Rattle.std.specs.List.{list_all}
use Rattle.std.specs.Str.Parse.{digits_value}
use Rattle.kernel_values.specs.Words.{is_word}
use Rattle.kernel_values.specs.declared.call.Timeout.{Timeout}
use Rattle.kernel_values.specs.declared.call.Timeout.TheVariants as timeout
use Rattle.kernel_values.specs.declared.flags.PortFlags.{PortFlags}
use Rattle.kernel_values.specs.declared.flags.ConnectFlags.{ConnectFlags}
use Rattle.kernel_values.specs.declared.flags.MemFlags.{MemFlags}
use Rattle.kernel_values.specs.declared.flags.Events.{Events}
use Rattle.script_lines.specs.declared.fault.SceneKind.{SceneKind}
use Rattle.script_lines.specs.declared.fault.SceneKind.TheVariants.{BadWords}
use Rattle.script_lines.specs.Gives.{◌>>=◌}

abbrev pub is_digit : ℕ → Bool
is_digit byte = nat_le 48 byte && nat_le byte 57

-- at least one digit, and at most so many
abbrev pub is_number : ℕ → List ℕ → Bool
is_number most word = (nat_lt 0 (length word) && nat_le (length word) most) && list_all is_digit word

-- a number of at most so many digits, below the limit
unfoldable pub number_below : ℕ → ℕ → List ℕ → Result ℕ SceneKind
number_below most limit word = if is_number most word && nat_lt (digits_value 10 word) limit then Ok (digits_value 10 word) else Err BadWords

abbrev pub number : List ℕ → Result ℕ SceneKind
number word = number_below 10 (2 ^ 32) word

abbrev pub cookie : List ℕ → Result ℕ SceneKind
cookie word = number_below 20 (2 ^ 64) word

-- a number within both bounds
unfoldable pub number_within : ℕ → ℕ → List ℕ → Result ℕ SceneKind
number_within least most word = do
  n ← number word
  if nat_le least n && nat_le n most then Ok n else Err BadWords

unfoldable pub mask : List ℕ → Result Events SceneKind
mask word = do
  bits ← number_within 0 31 word
  Ok (record { 0 = bits })

-- `-1` is for ever
unfoldable pub timeout_word : List ℕ → Result Timeout SceneKind
timeout_word word = if bytes_eq word (codes "-1") then Ok timeout.Forever else do
  millis ← number word
  Ok (timeout.Millis millis)

-- any word of printable bytes
unfoldable pub path_word : List ℕ → Result (List ℕ) SceneKind
path_word word = if is_word word then Ok word else Err BadWords

-- secure applications have bit 0, the normal world bit 1
unfoldable pub port_flags : List ℕ → Result PortFlags SceneKind
port_flags word = if bytes_eq word (codes "none") then Ok (record { 0 = 0 })
    else if bytes_eq word (codes "ta") then Ok (record { 0 = 1 })
    else if bytes_eq word (codes "ns") then Ok (record { 0 = 2 })
    else if bytes_eq word (codes "ta+ns") then Ok (record { 0 = 3 })
    else Err BadWords

-- to wait for the port has bit 0, to answer at once bit 1
unfoldable pub connect_flags : List ℕ → Result ConnectFlags SceneKind
connect_flags word = if bytes_eq word (codes "sync") then Ok (record { 0 = 0 })
    else if bytes_eq word (codes "sync+wait") then Ok (record { 0 = 1 })
    else if bytes_eq word (codes "async") then Ok (record { 0 = 2 })
    else if bytes_eq word (codes "async+wait") then Ok (record { 0 = 3 })
    else Err BadWords

unfoldable pub mem_flags : List ℕ → Result MemFlags SceneKind
mem_flags word = if bytes_eq word (codes "r") then Ok (record { 0 = 0 })
    else if bytes_eq word (codes "rw") then Ok (record { 0 = 1 })
    else Err BadWords
