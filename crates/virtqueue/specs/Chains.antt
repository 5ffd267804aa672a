-- Nothing, the chain at the position, or the first fault.
use Rattle.std.specs.Prelude.{ℕ, zero, suc, ◌+◌, ◌^◌, Bool, not, ◌||◌, ◌&&◌, ◌==◌, nat_lt, nat_le, if◌then◌else◌, List, map, Option, Some, None, Result, Ok, Err, bit_and}
use Rattle.std.specs.Option.{is_some}
use Rattle.std.specs.List.{position_or_len, range_with_len}
use Rattle.virtqueue.specs.declared.chain.Chain.{Chain}
use Rattle.virtqueue.specs.declared.parts.Part.{Part}
use Rattle.virtqueue.specs.declared.queue.Queue.{Queue}
use Rattle.virtqueue.specs.declared.queue.RingFault.{RingFault}
use Rattle.virtqueue.specs.declared.queue.RingFault.TheVariants.{IndexJump, HeadOutOfRange, NextOutOfRange, TooLong, RangeOutside, WrongDirection}
use Rattle.virtqueue.specs.declared.walk.Descriptor.{Descriptor}
use Rattle.virtqueue.specs.Layout.{number_at, descriptor_start, available_idx, available_head, ahead}

-- addr 8, len 4, flags 2, next 2 (VIRTIO 1.2, 2.7.5)
unfoldable pub descriptor_at : List ℕ → ℕ → ℕ → Descriptor
descriptor_at memory index place =
    let at = descriptor_start index place in
    record { addr = number_at 8 at memory; len = number_at 4 (at + 8) memory; flags = number_at 2 (at + 12) memory; next = number_at 2 (at + 14) memory }

abbrev pub has_next : Descriptor → Bool
has_next d = bit_and d.flags 1 == 1

abbrev pub is_writable : Descriptor → Bool
is_writable d = bit_and d.flags 2 == 2

-- the buffer ends within the memory
abbrev pub is_inside : Descriptor → Bool
is_inside d = nat_le (d.addr + d.len) (2 ^ 20)

-- the device writes the buffers of queue 0 and reads those of queue 1
abbrev pub is_directed : ℕ → Descriptor → Bool
is_directed index d = if index == 0 then is_writable d else not (is_writable d)

-- the first rule that a descriptor breaks as the one with this number in its chain, counted from 1
unfoldable pub broken : Queue → ℕ → ℕ → Descriptor → Option RingFault
broken q number place d =
    if not (is_inside d) then Some (RangeOutside place)
    else if not (is_directed q.index d) then Some (WrongDirection place)
    else if has_next d && (number == q.n) then Some (TooLong place)
    else if has_next d && nat_le q.n d.next then Some (NextOutOfRange place)
    else None

-- The places of a chain: the head, its `next`, the `next` of that, and so on, counted from 0.
abbrev pub place_of : List ℕ → ℕ → ℕ → ℕ → ℕ
place_of memory index head zero = head
place_of memory index head (suc k) = (descriptor_at memory index (place_of memory index head k)).next

unfoldable pub link_of : List ℕ → ℕ → ℕ → ℕ → Descriptor
link_of memory index head k = descriptor_at memory index (place_of memory index head k)

unfoldable pub fault_of : List ℕ → Queue → ℕ → ℕ → Option RingFault
fault_of memory q head k = broken q (k + 1) (place_of memory q.index head k) (link_of memory q.index head k)

-- the buffer of a descriptor
abbrev pub part_of : Descriptor → Part
part_of d = record { addr = d.addr; len = d.len }

-- a chain stops where a rule is broken and where there is no NEXT
unfoldable pub stops : List ℕ → Queue → ℕ → ℕ → Bool
stops memory q head k = is_some (fault_of memory q head k) || not (has_next (link_of memory q.index head k))

-- the first k at which the chain stops; it does at the last of n
unfoldable pub last_of : List ℕ → Queue → ℕ → ℕ
last_of memory q head = position_or_len (stops memory q head) (range_with_len 0 q.n)

-- the parts up to where the chain stops, unless a rule is broken there
abbrev pub parts_up_to : List ℕ → Queue → ℕ → ℕ → Option RingFault → Result (List Part) RingFault
parts_up_to memory q head last (Some fault) = Err fault
parts_up_to memory q head last None = Ok (map (λ k. part_of (link_of memory q.index head k)) (range_with_len 0 (last + 1)))

unfoldable pub parts_from : List ℕ → Queue → ℕ → Result (List Part) RingFault
parts_from memory q head = parts_up_to memory q head (last_of memory q head) (fault_of memory q head (last_of memory q head))

abbrev pub chain_of : ℕ → Result (List Part) RingFault → Result (Option Chain) RingFault
chain_of head (Ok parts) = Ok (Some (record { head = head; parts = parts }))
chain_of head (Err fault) = Err fault

-- what the available ring has at the queue's position
unfoldable pub chain : List ℕ → Queue → Result (Option Chain) RingFault
chain memory q =
    let idx = available_idx memory q.index in
    let head = available_head memory q q.position in
    if idx == q.position then Ok None
    else if nat_lt q.n (ahead q.position idx) then Err (IndexJump idx)
    else if nat_le q.n head then Err (HeadOutOfRange head)
    else chain_of head (parts_from memory q head)
