-- Guest memory as the driver lays it out: the rings of the two queues (VIRTIO 1.2, 2.7), and a buffer for each descriptor.
use Rattle.std.specs.Prelude.{ℕ, ◌+◌, ◌*◌, ◌%◌, ◌^◌, List, [], ◌++◌, nat_lt, length, take, drop, map, min, replicate, if◌then◌else◌}
use Rattle.std.specs.List.{fold, range_with_len}
use Rattle.byteorder.specs.Endian.{little_bytes}
use Rattle.virtqueue.specs.declared.queue.Queue.{Queue}
use Rattle.virtqueue.specs.Layout.{number_at, written_at, descriptor_start, used_idx_start, used_place, ahead, published}

unfoldable pub memory_size : ℕ
memory_size = 2 ^ 20

unfoldable pub blank_memory : List ℕ
blank_memory = replicate memory_size 0

-- the bytes that stand at a place
unfoldable pub read_at : ℕ → ℕ → List ℕ → List ℕ
read_at at len memory = take len (drop at memory)

-- the driver gives the first of a queue's descriptors a buffer each, 32 at most
abbrev pub buffer_count : ℕ → ℕ
buffer_count size = min size 32

abbrev pub buffer_size : ℕ
buffer_size = 0x2000

-- the buffers of queue 0 stand from 0x40000 on, those of queue 1 from 0x80000 on
abbrev pub buffer_start : ℕ → ℕ → ℕ
buffer_start index place = 0x40000 * (index + 1) + buffer_size * place

-- a descriptor's flag: the device writes its buffer (2.7.5)
abbrev pub write_flag : ℕ
write_flag = 2

-- addr 8, len 4, flags 2, next 2, which is 0
abbrev pub descriptor_bytes : ℕ → ℕ → ℕ → List ℕ
descriptor_bytes addr len flags = little_bytes 8 addr ++ little_bytes 4 len ++ little_bytes 2 flags ++ little_bytes 2 0

abbrev pub with_descriptor : ℕ → ℕ → ℕ → ℕ → List ℕ → List ℕ
with_descriptor index place len flags memory =
    written_at (descriptor_start index place) (descriptor_bytes (buffer_start index place) len flags) memory

-- a queue as the driver sees it, which keeps no place in it
abbrev pub ring : ℕ → ℕ → Queue
ring index size = record { index = index; n = size; position = 0; used = 0 }

-- the memory in which a descriptor of queue 0 is given to the device with its whole buffer
unfoldable pub given : ℕ → List ℕ → ℕ → List ℕ
given size memory place = published (with_descriptor 0 place buffer_size write_flag memory) (ring 0 size) place

-- the memory in which a frame goes out in the buffer of a descriptor of queue 1
unfoldable pub with_frame : ℕ → ℕ → List ℕ → List ℕ → List ℕ
with_frame size place frame memory =
    published (with_descriptor 1 place (length frame) 0 (written_at (buffer_start 1 place) frame memory)) (ring 1 size) place

-- an element of a used ring: the head of a chain, and how many bytes the device wrote into it (2.7.8)
pub record UsedElement : Type 0 where
  pub id : ℕ
  pub len : ℕ

abbrev pub used_idx : List ℕ → ℕ → ℕ
used_idx memory index = number_at 2 (used_idx_start index) memory

abbrev pub used_element : List ℕ → Queue → ℕ → UsedElement
used_element memory q i = record { id = number_at 4 (used_place q i) memory; len = number_at 4 (used_place q i + 4) memory }

-- the elements between the index that was seen and the ring's own; none where that is further ahead than the ring is long
abbrev pub elements_after : List ℕ → Queue → ℕ → ℕ → List UsedElement
elements_after memory q seen count =
    (if nat_lt q.n count then [] else map (λ k. used_element memory q ((seen + k) % 65536)) (range_with_len 0 count))

unfoldable pub new_elements : List ℕ → Queue → ℕ → List UsedElement
new_elements memory q seen = elements_after memory q seen (ahead seen (used_idx memory q.index))

-- the memory as the driver leaves it at its start
unfoldable pub opening_memory : ℕ → List ℕ
opening_memory size = fold (given size) blank_memory (range_with_len 0 (buffer_count size))
