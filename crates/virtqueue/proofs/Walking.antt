-- A walk along a chain: what stands before the k-th descriptor, and what the walk answers there.
use Rattle.std.proofs.Common.{◌≡◌, ℕ, suc, ◌+◌, ◌-◌, ◌<◌, Bool, true, false, List, [], ◌∷◌, ◌++◌, length, map, Some, None, Ok, Err, refl, sym, ap, ◌∙◌, arith}
use Rattle.std.specs.List.{All, position_or_len, range_with_len}
use Rattle.std.proofs.lemmas.List.Elements.{All-push}
use Rattle.std.proofs.lemmas.List.FromFn.{map-range_with_len_more, length-map-range_with_len}
use Rattle.virtqueue.specs.declared.parts.Part.{Part}
use Rattle.virtqueue.specs.declared.queue.Queue.{Queue}
use Rattle.virtqueue.specs.declared.queue.RingFault.{RingFault}
use Rattle.virtqueue.specs.Bytes.{IsWithin}
use Rattle.virtqueue.specs.Chains.{descriptor_at, has_next, broken, place_of, link_of, fault_of, part_of, stops, last_of, parts_up_to, parts_from}

passed : (p : ℕ → Bool) (k n : ℕ) → k < n → p k ≡ false → k + position_or_len p (range_with_len k (n - k)) ≡ (k + 1) + position_or_len p (range_with_len (k + 1) (n - (k + 1)))
passed p k n lt e =
    let left : n - k ≡ suc (n - (k + 1)) = omega arith in
    rw (left, e) (omega arith)

found : (p : ℕ → Bool) (k n : ℕ) → k < n → p k ≡ true → k + position_or_len p (range_with_len k (n - k)) ≡ k
found p k n lt e =
    let left : n - k ≡ suc (n - (k + 1)) = omega arith in
    rw (left, e) (omega arith)

pub record Walked (memory : List ℕ) (q : Queue) (head k place : ℕ) (parts : List Part) : Type 0 where
  pub place_is : place ≡ place_of memory q.index head k
  pub below : k < q.n
  pub inside : place < q.n
  pub parts_are : parts ≡ map (λ k. part_of (link_of memory q.index head k)) (range_with_len 0 k)
  pub within : All IsWithin parts
  pub so_far : k + position_or_len (stops memory q head) (range_with_len k (q.n - k)) ≡ last_of memory q head

pub walked_start : (memory : List ℕ) (q : Queue) (head : ℕ) → head < q.n → Walked memory q head 0 head []
unfolding last_of
walked_start memory q head lt = record {
  place_is = refl;
  below = omega arith;
  inside = lt;
  parts_are = refl;
  within = λ k d h. absurd (omega arith);
  so_far = rw (sub_zero q.n) (omega arith);
}
  where
    sub_zero : (n : ℕ) → n - 0 ≡ n
    sub_zero n = omega arith

pub walked_long : (memory : List ℕ) (q : Queue) (head k place : ℕ) (parts : List Part) → Walked memory q head k place parts → length parts ≡ k
walked_long memory q head k place parts w = ap (λ (ps : List Part). length ps) w.parts_are ∙ length-map-range_with_len (λ k. part_of (link_of memory q.index head k)) 0 k

fault_here : (memory : List ℕ) (q : Queue) (head k place : ℕ) (parts : List Part) → Walked memory q head k place parts → fault_of memory q head k ≡ broken q (k + 1) place (descriptor_at memory q.index place)
unfolding fault_of link_of
fault_here memory q head k place parts w = rw (w.place_is) refl

link_here : (memory : List ℕ) (q : Queue) (head k place : ℕ) (parts : List Part) → Walked memory q head k place parts → link_of memory q.index head k ≡ descriptor_at memory q.index place
unfolding link_of
link_here memory q head k place parts w = rw (w.place_is) refl

last_here : (memory : List ℕ) (q : Queue) (head k place : ℕ) (parts : List Part) → Walked memory q head k place parts → stops memory q head k ≡ true → last_of memory q head ≡ k
last_here memory q head k place parts w e = sym w.so_far ∙ found (stops memory q head) k q.n w.below e

answer_here : (memory : List ℕ) (q : Queue) (head k place : ℕ) (parts : List Part) → Walked memory q head k place parts → stops memory q head k ≡ true
    → parts_from memory q head ≡ parts_up_to memory q head k (broken q (k + 1) place (descriptor_at memory q.index place))
unfolding parts_from
answer_here memory q head k place parts w e = rw (last_here memory q head k place parts w e, fault_here memory q head k place parts w) refl

pub walked_fault : (memory : List ℕ) (q : Queue) (head k place : ℕ) (parts : List Part) (fault : RingFault) → Walked memory q head k place parts
    → broken q (k + 1) place (descriptor_at memory q.index place) ≡ Some fault → parts_from memory q head ≡ Err fault
unfolding stops
walked_fault memory q head k place parts fault w e =
    let stop : stops memory q head k ≡ true = rw (fault_here memory q head k place parts w, e) refl in
    answer_here memory q head k place parts w stop ∙ ap (parts_up_to memory q head k) e

parts_more : (memory : List ℕ) (q : Queue) (head k place : ℕ) (parts : List Part) → Walked memory q head k place parts
    → parts ++ part_of (descriptor_at memory q.index place) ∷ [] ≡ map (λ k. part_of (link_of memory q.index head k)) (range_with_len 0 (k + 1))
parts_more memory q head k place parts w =
    ap (λ (ps : List Part). ps ++ part_of (descriptor_at memory q.index place) ∷ []) w.parts_are
    ∙ ap (λ d. map (λ k. part_of (link_of memory q.index head k)) (range_with_len 0 k) ++ part_of d ∷ []) (sym (link_here memory q head k place parts w))
    ∙ sym (map-range_with_len_more (λ k. part_of (link_of memory q.index head k)) 0 k k (omega arith))

pub walked_end : (memory : List ℕ) (q : Queue) (head k place : ℕ) (parts : List Part) → Walked memory q head k place parts
    → broken q (k + 1) place (descriptor_at memory q.index place) ≡ None → has_next (descriptor_at memory q.index place) ≡ false
    → parts_from memory q head ≡ Ok (parts ++ part_of (descriptor_at memory q.index place) ∷ [])
unfolding stops
walked_end memory q head k place parts w e h =
    let stop : stops memory q head k ≡ true = rw (fault_here memory q head k place parts w, e, link_here memory q head k place parts w, h) refl in
    answer_here memory q head k place parts w stop ∙ ap (parts_up_to memory q head k) e ∙ ap (λ (ps : List Part). Ok ps) (sym (parts_more memory q head k place parts w))

pub walked_more : (memory : List ℕ) (q : Queue) (head k place : ℕ) (parts : List Part) → Walked memory q head k place parts
    → broken q (k + 1) place (descriptor_at memory q.index place) ≡ None → has_next (descriptor_at memory q.index place) ≡ true
    → k + 1 < q.n → (descriptor_at memory q.index place).next < q.n → IsWithin (part_of (descriptor_at memory q.index place))
    → Walked memory q head (k + 1) (descriptor_at memory q.index place).next (parts ++ part_of (descriptor_at memory q.index place) ∷ [])
unfolding stops
walked_more memory q head k place parts w e h lt next-lt within =
    let on : stops memory q head k ≡ false = rw (fault_here memory q head k place parts w, e, link_here memory q head k place parts w, h) refl in
    record {
      place_is = next_is;
      below = lt;
      inside = next-lt;
      parts_are = parts_more memory q head k place parts w;
      within = All-push IsWithin parts _ w.within within;
      so_far = sym (passed (stops memory q head) k q.n w.below on) ∙ w.so_far;
    }
  where
    step : (k : ℕ) → (descriptor_at memory q.index (place_of memory q.index head k)).next ≡ place_of memory q.index head (k + 1)
    step k = let s : k + 1 ≡ suc k = omega arith in rw s refl

    next_is : (descriptor_at memory q.index place).next ≡ place_of memory q.index head (k + 1)
    next_is = ap (λ (p : ℕ). (descriptor_at memory q.index p).next) w.place_is ∙ step k
