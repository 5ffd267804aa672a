-- The rings of the two queues: what stands in them, and how their indexes go round.
use Rattle.std.proofs.Common.{◌≡◌, ◌≢◌, ℕ, suc, ◌+◌, ◌*◌, ◌%◌, ◌<◌, ◌≤◌, List, sym, ap, ◌∙◌, arith}
use Rattle.virtqueue.specs.declared.queue.Queue.{Queue}
use Rattle.virtqueue.specs.Layout.{IsQueue, number_at, ahead, next_index, available_idx, available_head, available_place, used_place}
use Rattle.kernel_types.specs.GuestMemory.{read_at, ring}
use Rattle.kernel_types.specs.Device.{queue_after}
use Rattle.carry_laws.proofs.Lists.{apart_before}
use Rattle.carry_laws.proofs.Regions.{number_read}

-- the sizes of rings: an index that begins anew at 65,536 goes on at the right place
pub record IsRingSize (size : ℕ) : Type 0 where
  pub low : 1 ≤ size
  pub high : size ≤ 256
  pub wraps : (i : ℕ) → i % 65536 % size ≡ i % size

-- a queue of the device that has used so many elements
abbrev pub queue_at : ℕ → ℕ → ℕ → Queue
queue_at index size count = record { index = index; n = size; position = count % 65536; used = count % 65536 }

pub next_of : (count : ℕ) → next_index (count % 65536) ≡ (count + 1) % 65536
next_of count = omega arith

pub queue_goes_on : (index size count : ℕ) → queue_after (queue_at index size count) ≡ queue_at index size (count + 1)
queue_goes_on index size count = ap (λ (at : ℕ). record { index = index; n = size; position = at; used = at }) (next_of count)

pub ahead_by : (count more : ℕ) → more < 65536 → ahead (count % 65536) ((count + more) % 65536) ≡ more
ahead_by count more few = omega arith

pub not_ahead : (count more : ℕ) → 0 < more → more < 65536 → (count + more) % 65536 ≢ count % 65536
not_ahead count more some few same = omega arith

pub available_at : (index size i : ℕ) → IsRingSize size → available_place (ring index size) (i % 65536) ≡ available_place (ring index size) i
available_at index size i is = let e : i % 65536 % size ≡ i % size = is.wraps i in omega arith

pub used_at : (index size i : ℕ) → IsRingSize size → used_place (ring index size) (i % 65536) ≡ used_place (ring index size) i
used_at index size i is = let e : i % 65536 % size ≡ i % size = is.wraps i in omega arith

pub ring_is_queue : (index size : ℕ) → index < 2 → IsRingSize size → IsQueue (ring index size)
ring_is_queue index size two is = record { index = two; low = is.low; high = is.high }

pub queue_is_queue : (index size count : ℕ) → index < 2 → IsRingSize size → IsQueue (queue_at index size count)
queue_is_queue index size count two is = record { index = two; low = is.low; high = is.high }

-- the index after one more element
pub step_over : (at len next : ℕ) → at + 1 ≡ next → at + suc len ≡ next + len
step_over at len next e = omega arith

-- the head that the device finds at its position
pub head_at : (index size count place : ℕ) (memory : List ℕ) → IsRingSize size → number_at 2 (available_place (ring index size) count) memory ≡ place
    → available_head memory (queue_at index size count) (count % 65536) ≡ place
unfolding available_head
head_at index size count place memory is there = ap (λ at. number_at 2 at memory) (available_at index size count is) ∙ there

-- the slot that the driver writes next is none of those that are in use
pub slot_apart : (index size at k len : ℕ) (memory : List ℕ) → IsRingSize size → available_idx memory index ≡ (at + len) % 65536
    → k < at + len → at + len < k + size → available_idx memory index % size ≢ k % size
slot_apart index size at k len memory is idx below few same =
    apart_before size k (at + len) below few (sym same ∙ ap (λ n. n % size) idx ∙ is.wraps (at + len))

-- nothing changed in the rings and the buffers of one queue
pub record SameQueue (index : ℕ) (before after : List ℕ) : Type 0 where
  pub rings : (at len : ℕ) → 0x3000 * index ≤ at → at + len ≤ 0x3000 * (index + 1) → read_at at len after ≡ read_at at len before
  pub buffers : (at len : ℕ) → 0x40000 * (index + 1) ≤ at → at + len ≤ 0x40000 * (index + 2) → read_at at len after ≡ read_at at len before

pub same_number : (index : ℕ) (before after : List ℕ) → SameQueue index before after → (n at : ℕ) → 0x3000 * index ≤ at → at + n ≤ 0x3000 * (index + 1)
    → number_at n at after ≡ number_at n at before
same_number index before after same n at low high = sym (number_read n at after) ∙ ap (number_at n 0) (same.rings at n low high) ∙ number_read n at before

pub same_queue_twice : (index : ℕ) (one two three : List ℕ) → SameQueue index one two → SameQueue index two three → SameQueue index one three
same_queue_twice index one two three first second = record {
  rings = λ at len low high. second.rings at len low high ∙ first.rings at len low high;
  buffers = λ at len low high. second.buffers at len low high ∙ first.buffers at len low high;
}
