-- Where the rings of the two queues stand (VIRTIO 1.2, 2.7), and the numbers there, all little endian.
use Rattle.std.specs.Prelude.{ℕ, ◌+◌, ◌*◌, ◌-◌, ◌%◌, ◌<◌, ◌≤◌, List, ◌++◌, length, take, drop}
use Rattle.byteorder.specs.Endian.{little_number, little_bytes}
use Rattle.virtqueue.specs.declared.queue.Queue.{Queue}

-- queue 0 or 1, with 1 to 256 places; the standard asks for a power of two, and no rule here needs it
pub record IsQueue (q : Queue) : Type 0 where
  pub index : q.index < 2
  pub low : 1 ≤ q.n
  pub high : q.n ≤ 256

-- the descriptors of 16 bytes, one after the other (2.7.5)
abbrev pub descriptor_start : ℕ → ℕ → ℕ
descriptor_start index place = 0x3000 * index + 16 * place

-- the available ring: flags, idx, then the heads of 2 bytes (2.7.6)
abbrev pub available_start : ℕ → ℕ
available_start index = 0x3000 * index + 0x1000

abbrev pub available_idx_start : ℕ → ℕ
available_idx_start index = available_start index + 2

abbrev pub available_place : Queue → ℕ → ℕ
available_place q i = available_start q.index + 4 + 2 * (i % q.n)

-- the used ring: flags, idx, then pairs of id and len, 4 bytes each (2.7.8)
abbrev pub used_start : ℕ → ℕ
used_start index = 0x3000 * index + 0x2000

abbrev pub used_idx_start : ℕ → ℕ
used_idx_start index = used_start index + 2

abbrev pub used_place : Queue → ℕ → ℕ
used_place q i = used_start q.index + 4 + 8 * (i % q.n)

-- the number in the n bytes at a place
abbrev pub number_at : ℕ → ℕ → List ℕ → ℕ
number_at n at memory = little_number n (drop at memory)

-- the memory with these bytes at a place
unfoldable pub written_at : ℕ → List ℕ → List ℕ → List ℕ
written_at at bytes memory = take at memory ++ (bytes ++ drop (at + length bytes) memory)

-- indexes run modulo 65,536
abbrev pub next_index : ℕ → ℕ
next_index i = (i + 1) % 65536

-- how far the index `to` is ahead of `from`
abbrev pub ahead : ℕ → ℕ → ℕ
ahead from to = (to + (65536 - from)) % 65536

-- idx of the available ring
unfoldable pub available_idx : List ℕ → ℕ → ℕ
available_idx memory index = number_at 2 (available_idx_start index) memory

-- the head at an index of the available ring
unfoldable pub available_head : List ℕ → Queue → ℕ → ℕ
available_head memory q i = number_at 2 (available_place q i) memory

-- the memory with an element in the used ring, and with the used index that follows
unfoldable pub used_pushed : List ℕ → Queue → ℕ → ℕ → List ℕ
used_pushed memory q head len =
    written_at (used_idx_start q.index) (little_bytes 2 (next_index q.used))
    (written_at (used_place q q.used + 4) (little_bytes 4 len) (written_at (used_place q q.used) (little_bytes 4 head) memory))

-- the memory with a head in the available ring behind its index, and with the index that follows
unfoldable pub published : List ℕ → Queue → ℕ → List ℕ
published memory q head =
    let i = available_idx memory q.index in
    written_at (available_idx_start q.index) (little_bytes 2 (next_index i)) (written_at (available_place q i) (little_bytes 2 head) memory)
