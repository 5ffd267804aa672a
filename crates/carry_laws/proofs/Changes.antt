-- What the two sides of a queue write, and what stays of memory.
use Rattle.std.proofs.Common.{◌≡◌, ℕ, ◌+◌, ◌^◌, ◌<◌, ◌≤◌, List, ◌++◌, length, refl, sym, ap, ◌∙◌, arith}
use Rattle.byteorder.specs.Endian.{little_bytes}
use Rattle.byteorder.specs.Numbers.{little_number-reads_back}
use Rattle.virtqueue.specs.declared.queue.Queue.{Queue}
use Rattle.virtqueue.specs.Layout.{IsQueue, number_at, written_at, descriptor_start, available_idx, available_idx_start, available_place, used_idx_start, used_place, next_index, used_pushed, published}
use Rattle.kernel_types.specs.GuestMemory.{read_at, used_idx, buffer_start, descriptor_bytes, with_descriptor}
use Rattle.carry_laws.proofs.Regions.{IsApart, written_length, read_apart, number_apart, number_inside, number_written, bytes_long}

-- all of the memory is there
abbrev pub IsLong : List ℕ → Type 0
IsLong memory = 1048576 ≤ length memory

-- one write
pub record Wrote (before after : List ℕ) (low size : ℕ) : Type 0 where
  pub long : IsLong after
  pub other : (at len : ℕ) → IsApart at len low size → read_at at len after ≡ read_at at len before
  pub numbers : (n at : ℕ) → IsApart at n low size → number_at n at after ≡ number_at n at before

pub wrote : (low size : ℕ) (bytes memory : List ℕ) → IsLong memory → length bytes ≡ size → low + size ≤ 1048576 → Wrote memory (written_at low bytes memory) low size
wrote low size bytes memory long size_is within = record {
  long = omega (arith, written_length low bytes memory (omega arith));
  other = λ at len apart. read_apart at len low bytes memory (omega arith) (omega arith);
  numbers = λ n at apart. number_apart n at low bytes memory (omega arith) (omega arith);
}

-- an element of the used ring
pub record Pushed (before after : List ℕ) (q : Queue) (head len : ℕ) : Type 0 where
  pub long : IsLong after
  pub idx_is : used_idx after q.index ≡ next_index q.used
  pub id_is : number_at 4 (used_place q q.used) after ≡ head
  pub len_is : number_at 4 (used_place q q.used + 4) after ≡ len
  pub other : (at n : ℕ) → IsApart at n (used_idx_start q.index) 2 → IsApart at n (used_place q q.used) 8 → read_at at n after ≡ read_at at n before
  pub numbers : (n at : ℕ) → IsApart at n (used_idx_start q.index) 2 → IsApart at n (used_place q q.used) 8 → number_at n at after ≡ number_at n at before

pub pushed : (q : Queue) (head len : ℕ) (memory : List ℕ) → IsLong memory → IsQueue q → head < 2 ^ 32 → len < 2 ^ 32 → Pushed memory (used_pushed memory q head len) q head len
unfolding used_pushed
pushed q head len memory long is small short =
    let at : ℕ = used_place q q.used in
    let one : List ℕ = written_at at (little_bytes 4 head) memory in
    let two : List ℕ = written_at (at + 4) (little_bytes 4 len) one in
    let first : Wrote memory one at 4 = wrote at 4 (little_bytes 4 head) memory long (bytes_long 4 head) (omega arith) in
    let second : Wrote one two (at + 4) 4 = wrote (at + 4) 4 (little_bytes 4 len) one first.long (bytes_long 4 len) (omega arith) in
    let third : Wrote two (written_at (used_idx_start q.index) (little_bytes 2 (next_index q.used)) two) (used_idx_start q.index) 2 =
    wrote (used_idx_start q.index) 2 (little_bytes 2 (next_index q.used)) two second.long (bytes_long 2 (next_index q.used)) (omega arith) in
    record {
      long = third.long;
      idx_is = number_written 2 (used_idx_start q.index) (next_index q.used) two (omega (arith, second.long)) (omega arith);
      id_is = third.numbers 4 at (omega arith) ∙ second.numbers 4 at (omega arith) ∙ number_written 4 at head memory (omega arith) small;
      len_is = third.numbers 4 (at + 4) (omega arith) ∙ number_written 4 (at + 4) len one (omega (arith, first.long)) short;
      other = λ from n a b. third.other from n a ∙ second.other from n (omega arith) ∙ first.other from n (omega arith);
      numbers = λ n from a b. third.numbers n from a ∙ second.numbers n from (omega arith) ∙ first.numbers n from (omega arith);
    }

-- a head in the available ring
pub record Published (before after : List ℕ) (q : Queue) (head : ℕ) : Type 0 where
  pub long : IsLong after
  pub idx_is : available_idx after q.index ≡ next_index (available_idx before q.index)
  pub head_is : number_at 2 (available_place q (available_idx before q.index)) after ≡ head
  pub other : (at n : ℕ) → IsApart at n (available_idx_start q.index) 2 → IsApart at n (available_place q (available_idx before q.index)) 2
      → read_at at n after ≡ read_at at n before
  pub numbers : (n at : ℕ) → IsApart at n (available_idx_start q.index) 2 → IsApart at n (available_place q (available_idx before q.index)) 2
      → number_at n at after ≡ number_at n at before

pub publishes : (q : Queue) (head : ℕ) (memory : List ℕ) → IsLong memory → IsQueue q → head < 65536 → Published memory (published memory q head) q head
unfolding published available_idx
publishes q head memory long is small =
    let i : ℕ = available_idx memory q.index in
    let at : ℕ = available_place q i in
    let one : List ℕ = written_at at (little_bytes 2 head) memory in
    let first : Wrote memory one at 2 = wrote at 2 (little_bytes 2 head) memory long (bytes_long 2 head) (omega arith) in
    let second : Wrote one (written_at (available_idx_start q.index) (little_bytes 2 (next_index i)) one) (available_idx_start q.index) 2 =
    wrote (available_idx_start q.index) 2 (little_bytes 2 (next_index i)) one first.long (bytes_long 2 (next_index i)) (omega arith) in
    record {
      long = second.long;
      idx_is = number_written 2 (available_idx_start q.index) (next_index i) one (omega (arith, first.long)) (omega arith);
      head_is = second.numbers 2 at (omega arith) ∙ number_written 2 at head memory (omega arith) small;
      other = λ from n a b. second.other from n a ∙ first.other from n b;
      numbers = λ n from a b. second.numbers n from a ∙ first.numbers n from b;
    }

-- a descriptor that names the buffer of its place
pub record Describes (memory : List ℕ) (index place len flags : ℕ) : Type 0 where
  pub addr_is : number_at 8 (descriptor_start index place) memory ≡ buffer_start index place
  pub len_is : number_at 4 (descriptor_start index place + 8) memory ≡ len
  pub flags_is : number_at 2 (descriptor_start index place + 12) memory ≡ flags

pub record Described (before after : List ℕ) (index place len flags : ℕ) : Type 0 where
  pub there : Describes after index place len flags
  pub wrote : Wrote before after (descriptor_start index place) 16

pub describes : (index place len flags : ℕ) (memory : List ℕ) → IsLong memory → index ≤ 1 → place < 256 → len < 2 ^ 32 → flags < 65536
    → Described memory (with_descriptor index place len flags memory) index place len flags
describes index place len flags memory long two below short small =
    let at : ℕ = descriptor_start index place in
    let bytes : List ℕ = descriptor_bytes (buffer_start index place) len flags in
    let rest : List ℕ = little_bytes 4 len ++ little_bytes 2 flags ++ little_bytes 2 0 in
    let zero_off : at + 0 ≡ at = omega arith in
    let size : length bytes ≡ 16 = refl in
    record {
      there = record {
        addr_is = ap (λ a. number_at 8 a (written_at at bytes memory)) (sym zero_off)
            ∙ number_inside 8 at 0 bytes memory (omega arith) (omega arith)
            ∙ little_number-reads_back 8 (buffer_start index place) rest (omega arith);
        len_is = number_inside 4 at 8 bytes memory (omega arith) (omega arith) ∙ little_number-reads_back 4 len (little_bytes 2 flags ++ little_bytes 2 0) short;
        flags_is = number_inside 2 at 12 bytes memory (omega arith) (omega arith) ∙ little_number-reads_back 2 flags (little_bytes 2 0) small;
      };
      wrote = wrote at 16 bytes memory long size (omega arith);
    }
