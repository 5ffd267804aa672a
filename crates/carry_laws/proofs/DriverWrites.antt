-- What the driver writes when it sends a frame and when it gives a buffer.
use Rattle.std.proofs.Common.{◌≡◌, ℕ, ◌+◌, ◌%◌, ◌<◌, ◌≤◌, List, length, refl, sym, ap, subst, ◌∙◌, arith}
use Rattle.virtqueue.specs.Layout.{number_at, written_at, descriptor_start, available_idx, available_idx_start, available_place, next_index, published}
use Rattle.kernel_types.specs.GuestMemory.{read_at, ring, buffer_start, buffer_size, write_flag, with_descriptor, with_frame, given}
use Rattle.carry_laws.proofs.Regions.{IsApart, read_written}
use Rattle.carry_laws.proofs.Changes.{IsLong, Wrote, wrote, Published, publishes, Describes, Described, describes}
use Rattle.carry_laws.proofs.Rings.{IsRingSize, ring_is_queue}

-- the index is not where a descriptor or a buffer is written
pub index_kept : (index low size : ℕ) (before after : List ℕ) → Wrote before after low size → IsApart (available_idx_start index) 2 low size → available_idx after index ≡ available_idx before index
unfolding available_idx
index_kept index low size before after w apart = w.numbers 2 (available_idx_start index) apart

-- a frame in the buffer of a descriptor of queue 1
pub record Framed (size place : ℕ) (frame before after : List ℕ) : Type 0 where
  pub long : IsLong after
  pub idx_is : available_idx after 1 ≡ next_index (available_idx before 1)
  pub offered : number_at 2 (available_place (ring 1 size) (available_idx before 1)) after ≡ place
  pub described : Describes after 1 place (length frame) 0
  pub written : read_at (buffer_start 1 place) (length frame) after ≡ frame
  pub other : (at n : ℕ) → IsApart at n (buffer_start 1 place) (length frame) → IsApart at n (descriptor_start 1 place) 16 → IsApart at n (available_idx_start 1) 2
      → IsApart at n (available_place (ring 1 size) (available_idx before 1)) 2 → read_at at n after ≡ read_at at n before
  pub numbers : (n at : ℕ) → IsApart at n (buffer_start 1 place) (length frame) → IsApart at n (descriptor_start 1 place) 16 → IsApart at n (available_idx_start 1) 2
      → IsApart at n (available_place (ring 1 size) (available_idx before 1)) 2 → number_at n at after ≡ number_at n at before

-- what was described stays where nothing was written over the descriptor
pub described_kept : (index place len flags : ℕ) (before after : List ℕ) → Describes before index place len flags
    → ((n at : ℕ) → descriptor_start index place ≤ at → at + n ≤ descriptor_start index place + 16 → number_at n at after ≡ number_at n at before) → Describes after index place len flags
described_kept index place len flags before after d kept =
    let at : ℕ = descriptor_start index place in
    record {
      addr_is = kept 8 at (omega arith) (omega arith) ∙ d.addr_is;
      len_is = kept 4 (at + 8) (omega arith) (omega arith) ∙ d.len_is;
      flags_is = kept 2 (at + 12) (omega arith) (omega arith) ∙ d.flags_is;
    }

pub framed : (size place : ℕ) (frame memory : List ℕ) → IsRingSize size → IsLong memory → place < 32 → length frame ≤ buffer_size
    → Framed size place frame memory (with_frame size place frame memory)
unfolding with_frame
framed size place frame memory is long below short =
    let one : List ℕ = written_at (buffer_start 1 place) frame memory in
    let two : List ℕ = with_descriptor 1 place (length frame) 0 one in
    let three : List ℕ = published two (ring 1 size) place in
    let first : Wrote memory one (buffer_start 1 place) (length frame) = wrote (buffer_start 1 place) (length frame) frame memory long refl (omega arith) in
    let second : Described one two 1 place (length frame) 0 = describes 1 place (length frame) 0 one first.long (omega arith) (omega arith) (omega arith) (omega arith) in
    let third : Published two three (ring 1 size) place = publishes (ring 1 size) place two second.wrote.long (ring_is_queue 1 size (omega arith) is) (omega arith) in
    let idx : available_idx two 1 ≡ available_idx memory 1 =
    index_kept 1 (descriptor_start 1 place) 16 one two second.wrote (omega arith) ∙ index_kept 1 (buffer_start 1 place) (length frame) memory one first (omega arith) in
    let slot : available_place (ring 1 size) (available_idx two 1) ≡ available_place (ring 1 size) (available_idx memory 1) = ap (available_place (ring 1 size)) idx in
    let bound : available_idx memory 1 % size < size = omega (arith, is.low) in
    record {
      long = third.long;
      idx_is = third.idx_is ∙ ap next_index idx;
      offered = ap (λ at. number_at 2 at three) (sym slot) ∙ third.head_is;
      described = described_kept 1 place (length frame) 0 two three second.there (λ n at low high. third.numbers n at (omega arith) (omega arith));
      written = third.other (buffer_start 1 place) (length frame) (omega arith) (omega arith)
          ∙ second.wrote.other (buffer_start 1 place) (length frame) (omega arith)
          ∙ read_written (buffer_start 1 place) frame memory (omega arith);
      other = λ at n a b c d. third.other at n c (subst (λ p. IsApart at n p 2) (sym slot) d) ∙ second.wrote.other at n b ∙ first.other at n a;
      numbers = λ n at a b c d. third.numbers n at c (subst (λ p. IsApart at n p 2) (sym slot) d) ∙ second.wrote.numbers n at b ∙ first.numbers n at a;
    }

-- a whole buffer of queue 0, for the device to write
pub record Given (size place : ℕ) (before after : List ℕ) : Type 0 where
  pub long : IsLong after
  pub idx_is : available_idx after 0 ≡ next_index (available_idx before 0)
  pub offered : number_at 2 (available_place (ring 0 size) (available_idx before 0)) after ≡ place
  pub described : Describes after 0 place buffer_size write_flag
  pub other : (at n : ℕ) → IsApart at n (descriptor_start 0 place) 16 → IsApart at n (available_idx_start 0) 2
      → IsApart at n (available_place (ring 0 size) (available_idx before 0)) 2 → read_at at n after ≡ read_at at n before
  pub numbers : (n at : ℕ) → IsApart at n (descriptor_start 0 place) 16 → IsApart at n (available_idx_start 0) 2
      → IsApart at n (available_place (ring 0 size) (available_idx before 0)) 2 → number_at n at after ≡ number_at n at before

pub gives : (size place : ℕ) (memory : List ℕ) → IsRingSize size → IsLong memory → place < 32 → Given size place memory (given size memory place)
unfolding given
gives size place memory is long below =
    let two : List ℕ = with_descriptor 0 place buffer_size write_flag memory in
    let three : List ℕ = published two (ring 0 size) place in
    let second : Described memory two 0 place buffer_size write_flag = describes 0 place buffer_size write_flag memory long (omega arith) (omega arith) (omega arith) (omega arith) in
    let third : Published two three (ring 0 size) place = publishes (ring 0 size) place two second.wrote.long (ring_is_queue 0 size (omega arith) is) (omega arith) in
    let idx : available_idx two 0 ≡ available_idx memory 0 = index_kept 0 (descriptor_start 0 place) 16 memory two second.wrote (omega arith) in
    let slot : available_place (ring 0 size) (available_idx two 0) ≡ available_place (ring 0 size) (available_idx memory 0) = ap (available_place (ring 0 size)) idx in
    let bound : available_idx memory 0 % size < size = omega (arith, is.low) in
    record {
      long = third.long;
      idx_is = third.idx_is ∙ ap next_index idx;
      offered = ap (λ at. number_at 2 at three) (sym slot) ∙ third.head_is;
      described = described_kept 0 place buffer_size write_flag two three second.there (λ n at low high. third.numbers n at (omega arith) (omega arith));
      other = λ at n a b c. third.other at n b (subst (λ p. IsApart at n p 2) (sym slot) c) ∙ second.wrote.other at n a;
      numbers = λ n at a b c. third.numbers n at b (subst (λ p. IsApart at n p 2) (sym slot) c) ∙ second.wrote.numbers n at a;
    }
