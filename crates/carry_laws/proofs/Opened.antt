-- At the beginning nothing is on its way, and all the buffers of queue 0 are ready.
use Rattle.std.proofs.Common.{◌≡◌, ℕ, zero, suc, ◌+◌, ◌-◌, ◌%◌, ◌<◌, ◌≤◌, Bool, true, false, ◌||◌, eqb, List, [], ◌∷◌, refl, ap, subst, ◌∙◌, arith}
use Rattle.std.specs.Prelude.{replicate, slice_index}
use Rattle.std.specs.List.{list_any, range_with_len}
use Rattle.std.proofs.lemmas.Bool.{eqb-true}
use Rattle.std.proofs.lemmas.List.{drop-replicate, length-replicate}
use Rattle.std.proofs.lemmas.List.FromFn.{length-range_with_len}
use Rattle.byteorder.specs.Endian.{little_from}
use Rattle.kernel_values.specs.SceneLaw.{SceneValue, is_queue_size}
use Rattle.kernel_types.specs.GuestMemory.{memory_size, blank_memory, opening_memory, ring, buffer_count}
use Rattle.kernel_types.specs.Opening.{opening}
use Rattle.virtqueue.specs.Layout.{number_at, available_idx, available_idx_start, used_idx_start}
use Rattle.carry_laws.proofs.Carrying.{Carrying}
use Rattle.carry_laws.proofs.Changes.{IsLong}
use Rattle.carry_laws.proofs.Giving.{AllGiven, all_given}
use Rattle.carry_laws.proofs.Lists.{AllOf, one_where, times}
use Rattle.carry_laws.proofs.Outgoing.{Outgoing, outgoing_kept}
use Rattle.carry_laws.proofs.Rings.{IsRingSize}

-- The sizes of queues.

size_found : (P : ℕ → Type 0) (size : ℕ) (powers : List ℕ) → AllOf P powers → list_any (λ power. eqb power size) powers ≡ true → P size
size_found P size [] all found = absurd (cc)
size_found P size (power ∷ powers) all found =
    let Q : Bool → Type 0 = λ b. eqb power size ≡ b → (b || list_any (λ other. eqb other size) powers) ≡ true → P size in
    let go : (b : Bool) → Q b = λ b. elim b as (λ v. Q v) [
      | true ↦ (λ is here. subst P (eqb-true power size is) all.0)
      | false ↦ (λ is rest. size_found P size powers all.1 rest)
    ] in
    go (eqb power size) refl found

of_power : (power : ℕ) → 1 ≤ power → power ≤ 256 → ((i : ℕ) → i % 65536 % power ≡ i % power) → IsRingSize power
of_power power low high wraps = record { low = low; high = high; wraps = wraps }

powers_fit : AllOf IsRingSize (1 ∷ 2 ∷ 4 ∷ 8 ∷ 16 ∷ 32 ∷ 64 ∷ 128 ∷ 256 ∷ [])
powers_fit = (
  of_power 1 (omega arith) (omega arith) (λ i. omega arith),
  (
    of_power 2 (omega arith) (omega arith) (λ i. omega arith),
    (
      of_power 4 (omega arith) (omega arith) (λ i. omega arith),
      (
        of_power 8 (omega arith) (omega arith) (λ i. omega arith),
        (
          of_power 16 (omega arith) (omega arith) (λ i. omega arith),
          (
            of_power 32 (omega arith) (omega arith) (λ i. omega arith),
            (
              of_power 64 (omega arith) (omega arith) (λ i. omega arith),
              (
                of_power 128 (omega arith) (omega arith) (λ i. omega arith),
                (of_power 256 (omega arith) (omega arith) (λ i. omega arith), tt),
              ),
            ),
          ),
        ),
      ),
    ),
  ),
)

pub ring_size : (size : ℕ) → is_queue_size size ≡ true → IsRingSize size
ring_size size is = size_found IsRingSize size (1 ∷ 2 ∷ 4 ∷ 8 ∷ 16 ∷ 32 ∷ 64 ∷ 128 ∷ 256 ∷ []) powers_fit is

-- Blank memory.

size_is : memory_size ≡ 1048576
unfolding memory_size
size_is = refl

blank_long : IsLong blank_memory
unfolding blank_memory
blank_long = omega (arith, length-replicate {A = ℕ} memory_size 0, size_is)

zero_byte : (m i : ℕ) → slice_index (replicate m 0) i ≡ 0
zero_byte zero i = refl
zero_byte (suc m) zero = refl
zero_byte (suc m) (suc i) = zero_byte m i

zero_number : (i n m : ℕ) → little_from i n (replicate m 0) ≡ 0
zero_number i zero m = refl
zero_number i (suc n) m =
    let byte : slice_index (replicate m 0) i ≡ 0 = zero_byte m i in
    let rest : little_from (suc i) n (replicate m 0) ≡ 0 = zero_number (suc i) n m in
    rw (byte, rest) refl

blank_number : (n at : ℕ) → number_at n at blank_memory ≡ 0
unfolding blank_memory
blank_number n at = ap (little_from 0 n) (drop-replicate {X = ℕ} at memory_size 0) ∙ zero_number 0 n (memory_size - at)

index_of : (index : ℕ) (memory : List ℕ) → available_idx memory index ≡ number_at 2 (available_idx_start index) memory
unfolding available_idx
index_of index memory = refl

-- The driver's descriptors.

range_below : (at n : ℕ) → AllOf (λ place. place < at + n) (range_with_len at n)
range_below at zero = tt
range_below at (suc n) =
    (omega arith, subst (λ b. AllOf (λ place. place < b) (range_with_len (at + 1) n)) (next at n) (range_below (at + 1) n))
  where
    next : (at n : ℕ) → at + 1 + n ≡ at + suc n
    next at n = omega arith

range_within : (n : ℕ) → AllOf (λ place. place < n) (range_with_len 0 n)
range_within n = let same : 0 + n ≡ n = omega arith in subst (λ b. AllOf (λ place. place < b) (range_with_len 0 n)) same (range_below 0 n)

none_before : (p at n : ℕ) → p < at → times p (range_with_len at n) ≡ 0
none_before p at zero lt = refl
none_before p at (suc n) lt =
    let rest : times p (range_with_len (at + 1) n) ≡ 0 = none_before p (at + 1) n (omega arith) in
    let other : eqb at p ≡ false = grind arith in
    rw (other, rest) refl

once_each : (p at n : ℕ) → times p (range_with_len at n) ≤ 1
once_each p at zero = omega arith
once_each p at (suc n) =
    let rest : times p (range_with_len (at + 1) n) ≤ 1 = once_each p (at + 1) n in
    let Q : Bool → Type 0 = λ b. eqb at p ≡ b → one_where b + times p (range_with_len (at + 1) n) ≤ 1 in
    let go : (b : Bool) → Q b = λ b. elim b as (λ v. Q v) [
      | true ↦ (λ is. let same : at ≡ p = eqb-true at p is in let none : times p (range_with_len (at + 1) n) ≡ 0 = none_before p (at + 1) n (omega arith) in omega arith)
      | false ↦ (λ is. omega arith)
    ] in
    go (eqb at p) refl

-- The opening.

all_ready : (size : ℕ) → IsRingSize size → AllGiven size blank_memory (opening_memory size) 0 (range_with_len 0 (buffer_count size))
unfolding opening_memory
all_ready size is =
    all_given size blank_memory 0 [] (range_with_len 0 (buffer_count size)) is
    (record { long = blank_long; available_is = index_of 0 blank_memory ∙ blank_number 2 (available_idx_start 0); buffers = tt })
    (range_within (buffer_count size)) (λ p. omega (arith, once_each p 0 (buffer_count size))) (omega (arith, length-range_with_len 0 (buffer_count size)))

first_out : (size : ℕ) → IsRingSize size → Outgoing size blank_memory (ring 1 size) 0 (range_with_len 0 (buffer_count size)) []
first_out size is = record {
  seen = 0;
  back = [];
  queue_is = refl;
  seen_is = refl;
  available_is = index_of 1 blank_memory ∙ blank_number 2 (available_idx_start 1);
  used_is = blank_number 2 (used_idx_start 1);
  flying = tt;
  coming = tt;
  lowest = range_within (buffer_count size);
  distinct = λ p. omega (arith, once_each p 0 (buffer_count size));
  count = omega (arith, length-range_with_len 0 (buffer_count size));
}

pub opening_carries : (scene : SceneValue) → is_queue_size scene.queue ≡ true → Carrying (opening scene).world [] []
unfolding opening
opening_carries scene lawful =
    let size : ℕ = scene.queue in
    let is : IsRingSize size = ring_size size lawful in
    let all : AllGiven size blank_memory (opening_memory size) 0 (range_with_len 0 (buffer_count size)) = all_ready size is in
    record {
      out = [];
      back = [];
      ready = range_with_len 0 (buffer_count size);
      sized = is;
      unbroken = refl;
      going = outgoing_kept size blank_memory (opening_memory size) (ring 1 size) 0 (range_with_len 0 (buffer_count size)) [] is all.only.other_queue (first_out size is);
      coming = record {
        seen = 0;
        queue_is = refl;
        seen_is = refl;
        used_is = all.only.used_same ∙ blank_number 2 (used_idx_start 0);
        waiting = tt;
        ready_are = all.ready_are;
        distinct = λ p. omega (arith, once_each p 0 (buffer_count size));
        count = omega (arith, length-range_with_len 0 (buffer_count size));
      };
      sent_are = refl;
      gave_are = refl;
    }
