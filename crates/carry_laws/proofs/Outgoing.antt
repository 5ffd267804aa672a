-- Queue 1: the frames on their way to the device, and where each descriptor of the driver's is.
use Rattle.std.proofs.Common.{◌≡◌, ◌≢◌, ℕ, ◌+◌, ◌%◌, ◌<◌, ◌≤◌, List, [], ◌∷◌, ◌++◌, length, map, sym, ap, ◌∙◌, arith}
use Rattle.std.proofs.lemmas.List.{length-append, map_push}
use Rattle.virtqueue.specs.declared.queue.Queue.{Queue}
use Rattle.virtqueue.specs.Layout.{number_at, available_idx, available_idx_start, available_place, used_idx_start, used_place, next_index}
use Rattle.kernel_types.specs.GuestMemory.{read_at, ring, used_idx, buffer_count, buffer_start, buffer_size, with_frame}
use Rattle.carry_laws.proofs.Changes.{IsLong, Describes}
use Rattle.carry_laws.proofs.DriverWrites.{Framed, framed, described_kept}
use Rattle.carry_laws.proofs.Lists.{AllFrom, AllOf, from_kept, from_mapped, from_append, times, times_append, times_none, once_more}
use Rattle.carry_laws.proofs.Rings.{IsRingSize, SameQueue, same_number, queue_at, next_of, available_at, slot_apart}

-- a frame in the buffer of a descriptor
pub record Flight : Type 0 where
  pub place : ℕ
  pub bytes : List ℕ

abbrev pub places_of : List Flight → List ℕ
places_of flights = map (λ flight. flight.place) flights

-- the available ring offers the frame's descriptor, which tells its length, and the buffer holds it
pub record IsOffered (size : ℕ) (memory : List ℕ) (at : ℕ) (flight : Flight) : Type 0 where
  pub offered : number_at 2 (available_place (ring 1 size) at) memory ≡ flight.place
  pub described : Describes memory 1 flight.place (length flight.bytes) 0
  pub written : read_at (buffer_start 1 flight.place) (length flight.bytes) memory ≡ flight.bytes
  pub below : flight.place < buffer_count size
  pub short : length flight.bytes ≤ buffer_size

-- the used ring has the descriptor
pub record IsBack (size : ℕ) (memory : List ℕ) (at place : ℕ) : Type 0 where
  pub used : number_at 4 (used_place (ring 1 size) at) memory ≡ place
  pub below : place < buffer_count size

-- Each of the driver's descriptors is on its way, or used and not seen by the driver, or free; and none is twice.
pub record Outgoing (size : ℕ) (memory : List ℕ) (queue : Queue) (seen_index : ℕ) (free : List ℕ) (flights : List Flight) : Type 0 where
  pub seen : ℕ
  pub back : List ℕ
  pub queue_is : queue ≡ queue_at 1 size (seen + length back)
  pub seen_is : seen_index ≡ seen % 65536
  pub available_is : available_idx memory 1 ≡ (seen + length back + length flights) % 65536
  pub used_is : used_idx memory 1 ≡ (seen + length back) % 65536
  pub flying : AllFrom (IsOffered size memory) (seen + length back) flights
  pub coming : AllFrom (IsBack size memory) seen back
  pub lowest : AllOf (λ place. place < buffer_count size) free
  pub distinct : (p : ℕ) → times p (places_of flights) + times p back + times p free ≤ 1
  pub count : length flights + length back + length free ≡ buffer_count size

-- What changes elsewhere in memory changes nothing here.

pub same_available : (index : ℕ) (before after : List ℕ) → number_at 2 (available_idx_start index) after ≡ number_at 2 (available_idx_start index) before → available_idx after index ≡ available_idx before index
unfolding available_idx
same_available index before after same = same

pub outgoing_kept : (size : ℕ) (before after : List ℕ) (queue : Queue) (seen_index : ℕ) (free : List ℕ) (flights : List Flight) → IsRingSize size → SameQueue 1 before after
    → Outgoing size before queue seen_index free flights → Outgoing size after queue seen_index free flights
outgoing_kept size before after queue seen_index free flights is same o =
    let number : (n at : ℕ) → 0x3000 ≤ at → at + n ≤ 0x6000 → number_at n at after ≡ number_at n at before = λ n at low high. same_number 1 before after same n at low high in
    record {
      seen = o.seen;
      back = o.back;
      queue_is = o.queue_is;
      seen_is = o.seen_is;
      available_is = same_available 1 before after (number 2 (available_idx_start 1) (omega arith) (omega arith)) ∙ o.available_is;
      used_is = number 2 (used_idx_start 1) (omega arith) (omega arith) ∙ o.used_is;
      flying = from_mapped (IsOffered size before) (IsOffered size after) (o.seen + length o.back) flights o.flying
          (λ k flight low high there. let below : flight.place < buffer_count size = there.below in let short : length flight.bytes ≤ buffer_size = there.short in record {
            offered = number 2 (available_place (ring 1 size) k) (omega arith) (omega (arith, is.high)) ∙ there.offered;
            described = described_kept 1 flight.place (length flight.bytes) 0 before after there.described (λ n at from to. number n at (omega arith) (omega arith));
            written = same.buffers (buffer_start 1 flight.place) (length flight.bytes) (omega arith) (omega arith) ∙ there.written;
            below = there.below;
            short = there.short;
          });
      coming = from_mapped (IsBack size before) (IsBack size after) o.seen o.back o.coming
          (λ k place low high there. record { used = number 4 (used_place (ring 1 size) k) (omega arith) (omega (arith, is.high)) ∙ there.used; below = there.below });
      lowest = o.lowest;
      distinct = o.distinct;
      count = o.count;
    }

-- A frame is sent.

more_by_one : (at : ℕ) (flights : List Flight) (flight : Flight) → at + length flights + 1 ≡ at + length (flights ++ flight ∷ [])
more_by_one at flights flight = omega (arith, length-append flights (flight ∷ []))

sent_apart : (size place : ℕ) (frame memory after : List ℕ) (k : ℕ) (other : Flight) → IsRingSize size → Framed size place frame memory after → place < buffer_count size
    → length frame ≤ buffer_size → other.place ≢ place → available_idx memory 1 % size ≢ k % size → IsOffered size memory k other → IsOffered size after k other
sent_apart size place frame memory after k other is f low few apart slots there =
    let below : other.place < buffer_count size = there.below in
    let short : length other.bytes ≤ buffer_size = there.short in
    let top : size ≤ 256 = is.high in
    let here : available_idx memory 1 % size < size = omega (arith, is.low) in
    let slot : k % size < size = omega (arith, is.low) in
    record {
      offered = f.numbers 2 (available_place (ring 1 size) k) (omega arith) (omega arith) (omega arith) (omega arith) ∙ there.offered;
      described = described_kept 1 other.place (length other.bytes) 0 memory after there.described
          (λ n at from to. f.numbers n at (omega arith) (omega arith) (omega arith) (omega arith));
      written = f.other (buffer_start 1 other.place) (length other.bytes) (omega arith) (omega arith) (omega arith) (omega arith) ∙ there.written;
      below = below;
      short = short;
    }

pub sends : (size place : ℕ) (frame memory : List ℕ) (queue : Queue) (seen_index : ℕ) (rest : List ℕ) (flights : List Flight) → IsRingSize size → IsLong memory → length frame ≤ buffer_size
    → Outgoing size memory queue seen_index (place ∷ rest) flights
    → Outgoing size (with_frame size place frame memory) queue seen_index rest (flights ++ record { place = place; bytes = frame } ∷ [])
sends size place frame memory queue seen_index rest flights is long short o =
    let after : List ℕ = with_frame size place frame memory in
    let flight : Flight = record { place = place; bytes = frame } in
    let at : ℕ = o.seen + length o.back in
    let low : place < buffer_count size = o.lowest.0 in
    let f : Framed size place frame memory after = framed size place frame memory is long (omega arith) short in
    let slot : available_place (ring 1 size) (available_idx memory 1) ≡ available_place (ring 1 size) (at + length flights) =
    ap (available_place (ring 1 size)) o.available_is ∙ available_at 1 size (at + length flights) is in
    let bound : available_idx memory 1 % size < size = omega (arith, is.low) in
    let top : size ≤ 256 = is.high in
    let all : length flights + length o.back + (1 + length rest) ≡ buffer_count size = omega (arith, o.count) in
    let once : times place (place ∷ rest) ≡ 1 + times place rest = once_more place rest in
    let none : times place (places_of flights) ≡ 0 = omega (arith, o.distinct place) in
    record {
      seen = o.seen;
      back = o.back;
      queue_is = o.queue_is;
      seen_is = o.seen_is;
      available_is = f.idx_is ∙ ap next_index o.available_is ∙ next_of (at + length flights)
          ∙ ap (λ n. n % 65536) (more_by_one at flights flight);
      used_is = f.numbers 2 (used_idx_start 1) (omega arith) (omega arith) (omega arith) (omega arith) ∙ o.used_is;
      flying = from_append (IsOffered size after) at flights (flight ∷ [])
          (from_kept (IsOffered size memory) (IsOffered size after) (λ other. other.place ≢ place) at flights o.flying (times_none (λ other. other.place) place flights none)
          (λ k other first last apart there. sent_apart size place frame memory after k other is f low short apart (slot_apart 1 size at k (length flights) memory is o.available_is (omega arith) (omega arith)) there))
          (record { offered = ap (λ n. number_at 2 n after) (sym slot) ∙ f.offered; described = f.described; written = f.written; below = low; short = short }, tt);
      coming = from_mapped (IsBack size memory) (IsBack size after) o.seen o.back o.coming
          (λ k back first last there. record { used = f.numbers 4 (used_place (ring 1 size) k) (omega arith) (omega arith) (omega arith) (omega arith) ∙ there.used; below = there.below });
      lowest = o.lowest.1;
      distinct = λ p.
          let before : times p (places_of flights) + times p o.back + times p (place ∷ rest) ≤ 1 = o.distinct p in
          let moved : times p (places_of (flights ++ flight ∷ [])) ≡ times p (places_of flights) + times p (place ∷ []) =
          ap (times p) (map_push (λ (x : Flight). x.place) flights flight) ∙ times_append p (places_of flights) (place ∷ []) in
          omega arith;
      count = omega (arith, length-append flights (flight ∷ []), o.count);
    }
