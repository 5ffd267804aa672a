-- The bytes of a chain: a list of addresses, in order.
use Rattle.std.specs.Prelude.{ℕ, ◌+◌, ◌^◌, ◌≤◌, List, map, slice_index, slice_set}
use Rattle.std.specs.List.{flat_map, fold, range_with_len, sum_by, zip}
use Rattle.virtqueue.specs.declared.parts.Part.{Part}

-- a part ends within the memory of 2 ^ 20 bytes
abbrev pub IsWithin : Part → Type 0
IsWithin part = part.addr + part.len ≤ 2 ^ 20

-- the addresses of the parts, one part after the other
unfoldable pub addresses : List Part → List ℕ
addresses parts = flat_map (λ part. range_with_len part.addr part.len) parts

-- how many bytes the parts hold
unfoldable pub room : List Part → ℕ
room parts = sum_by (λ part. part.len) parts

-- the bytes that stand at the addresses
unfoldable pub bytes_at : List Part → List ℕ → List ℕ
bytes_at parts memory = map (λ at. slice_index memory at) (addresses parts)

abbrev pub put_byte : List ℕ → ℕ × ℕ → List ℕ
put_byte memory pair = slice_set memory pair.0 pair.1

-- the memory with the first byte put at the first address, the second at the second, and so on: where
-- an address comes again, the later byte stays
unfoldable pub stored : List Part → List ℕ → List ℕ → List ℕ
stored parts bytes memory = fold put_byte memory (zip (addresses parts) bytes)
