-- Queue 0: the buffers that the driver gave to the device.
use Rattle.std.proofs.Common.{◌≡◌, ◌≢◌, ℕ, ◌+◌, ◌%◌, ◌<◌, ◌≤◌, List, [], ◌∷◌, ◌++◌, length, refl, sym, ap, subst, ◌∙◌, arith, append_assoc}
use Rattle.std.specs.List.{fold}
use Rattle.std.proofs.lemmas.List.{length-append, append-nil}
use Rattle.virtqueue.specs.Layout.{number_at, available_idx, available_place, used_idx_start, next_index}
use Rattle.kernel_types.specs.GuestMemory.{ring, used_idx, buffer_count, buffer_size, write_flag, given}
use Rattle.carry_laws.proofs.Changes.{IsLong, Describes}
use Rattle.carry_laws.proofs.DriverWrites.{Given, gives, described_kept}
use Rattle.carry_laws.proofs.Lists.{AllFrom, AllOf, from_kept, from_append, times, times_append, times_none, once_more, map_self}
use Rattle.carry_laws.proofs.Rings.{IsRingSize, SameQueue, same_queue_twice, next_of, available_at, slot_apart}

-- the available ring offers a whole buffer to write into
pub record IsReady (size : ℕ) (memory : List ℕ) (at place : ℕ) : Type 0 where
  pub offered : number_at 2 (available_place (ring 0 size) at) memory ≡ place
  pub described : Describes memory 0 place buffer_size write_flag
  pub below : place < buffer_count size

-- the buffers that were given from a place on
pub record AreReady (size : ℕ) (memory : List ℕ) (at : ℕ) (ready : List ℕ) : Type 0 where
  pub long : IsLong memory
  pub available_is : available_idx memory 0 ≡ (at + length ready) % 65536
  pub buffers : AllFrom (IsReady size memory) at ready

-- nothing but the buffers' offers changed
pub record OnlyGiven (before after : List ℕ) : Type 0 where
  pub other_queue : SameQueue 1 before after
  pub used_same : used_idx after 0 ≡ used_idx before 0

ready_kept : (size place : ℕ) (memory after : List ℕ) (k other : ℕ) → IsRingSize size → Given size place memory after → place < buffer_count size → other ≢ place
    → available_idx memory 0 % size ≢ k % size → IsReady size memory k other → IsReady size after k other
ready_kept size place memory after k other is g low apart slots there =
    let below : other < buffer_count size = there.below in
    let top : size ≤ 256 = is.high in
    let here : available_idx memory 0 % size < size = omega (arith, is.low) in
    let slot : k % size < size = omega (arith, is.low) in
    record {
      offered = g.numbers 2 (available_place (ring 0 size) k) (omega arith) (omega arith) (omega arith) ∙ there.offered;
      described = described_kept 0 other buffer_size write_flag memory after there.described (λ n at from to. g.numbers n at (omega arith) (omega arith) (omega arith));
      below = below;
    }

pub one_given : (size : ℕ) (memory : List ℕ) (at : ℕ) (ready : List ℕ) (place : ℕ) → IsRingSize size → AreReady size memory at ready → place < buffer_count size → times place ready ≡ 0
    → length ready < buffer_count size → AreReady size (given size memory place) at (ready ++ place ∷ [])
one_given size memory at ready place is r low none few =
    let after : List ℕ = given size memory place in
    let g : Given size place memory after = gives size place memory is r.long (omega arith) in
    let slot : available_place (ring 0 size) (available_idx memory 0) ≡ available_place (ring 0 size) (at + length ready) =
    ap (available_place (ring 0 size)) r.available_is ∙ available_at 0 size (at + length ready) is in
    let others : AllOf (λ other. other ≢ place) ready = times_none (λ other. other) place ready (ap (times place) (map_self ready) ∙ none) in
    let next : at + length ready + 1 ≡ at + length (ready ++ place ∷ []) = omega (arith, length-append ready (place ∷ [])) in
    record {
      long = g.long;
      available_is = g.idx_is ∙ ap next_index r.available_is ∙ next_of (at + length ready) ∙ ap (λ n. n % 65536) next;
      buffers = from_append (IsReady size after) at ready (place ∷ [])
          (from_kept (IsReady size memory) (IsReady size after) (λ other. other ≢ place) at ready r.buffers others
          (λ k other first last apart there. ready_kept size place memory after k other is g low apart (slot_apart 0 size at k (length ready) memory is r.available_is (omega arith) (omega arith)) there))
          (record { offered = ap (λ n. number_at 2 n after) (sym slot) ∙ g.offered; described = g.described; below = low }, tt);
    }

pub only_one : (size : ℕ) (memory : List ℕ) (place : ℕ) → IsRingSize size → IsLong memory → place < buffer_count size → OnlyGiven memory (given size memory place)
only_one size memory place is long low =
    let g : Given size place memory (given size memory place) = gives size place memory is long (omega arith) in
    let top : size ≤ 256 = is.high in
    let here : available_idx memory 0 % size < size = omega (arith, is.low) in
    record {
      other_queue = record {
        rings = λ at len from to. g.other at len (omega arith) (omega arith) (omega arith);
        buffers = λ at len from to. g.other at len (omega arith) (omega arith) (omega arith);
      };
      used_same = g.numbers 2 (used_idx_start 0) (omega arith) (omega arith) (omega arith);
    }

pub record AllGiven (size : ℕ) (before after : List ℕ) (at : ℕ) (ready : List ℕ) : Type 0 where
  pub ready_are : AreReady size after at ready
  pub only : OnlyGiven before after

-- several buffers are given, one after the other
pub all_given : (size : ℕ) (memory : List ℕ) (at : ℕ) (ready places : List ℕ) → IsRingSize size → AreReady size memory at ready → AllOf (λ place. place < buffer_count size) places
    → ((p : ℕ) → times p ready + times p places ≤ 1) → length ready + length places ≤ buffer_count size
    → AllGiven size memory (fold (given size) memory places) at (ready ++ places)
all_given size memory at ready [] is r low distinct few = record {
  ready_are = subst (λ ps. AreReady size memory at ps) (sym (append-nil ready)) r;
  only = record { other_queue = record { rings = λ at len low high. refl; buffers = λ at len low high. refl }; used_same = refl };
}
all_given size memory at ready (place ∷ places) is r low distinct few =
    let none : times place ready ≡ 0 = omega (arith, distinct place, once_more place places) in
    let next : AreReady size (given size memory place) at (ready ++ place ∷ []) = one_given size memory at ready place is r low.0 none (omega arith) in
    let rest : AllGiven size (given size memory place) (fold (given size) (given size memory place) places) at ((ready ++ place ∷ []) ++ places) =
    all_given size (given size memory place) at (ready ++ place ∷ []) places is next low.1
    (λ p. omega (arith, distinct p, times_append p ready (place ∷ []))) (omega (arith, length-append ready (place ∷ []))) in
    let one : OnlyGiven memory (given size memory place) = only_one size memory place is r.long low.0 in
    record {
      ready_are = subst (λ ps. AreReady size (fold (given size) (given size memory place) places) at ps) (append_assoc ready (place ∷ []) places) rest.ready_are;
      only = record {
        other_queue = same_queue_twice 1 memory (given size memory place) (fold (given size) (given size memory place) places) one.other_queue rest.only.other_queue;
        used_same = rest.only.used_same ∙ one.used_same;
      };
    }
