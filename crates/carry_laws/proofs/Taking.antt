-- Queue 1: what the device finds and takes, and what the driver sees of it.
use Rattle.std.proofs.Common.{◌≡◌, ◌≢◌, ℕ, suc, ◌+◌, ◌%◌, ◌<◌, ◌≤◌, Bool, true, false, cond, eqb, ltb, List, [], ◌∷◌, ◌++◌, Some, None, Ok, length, map, refl, sym, ap, subst, ◌∙◌, arith}
use Rattle.std.specs.List.{filter, fold, insert, list_any, position_or_len, range_with_len}
use Rattle.std.proofs.lemmas.Bool.{lt-ltb}
use Rattle.std.proofs.lemmas.List.{length-append}
use Rattle.virtqueue.specs.declared.queue.Queue.{Queue}
use Rattle.virtqueue.specs.Bytes.{bytes_at}
use Rattle.virtqueue.specs.Chains.{chain}
use Rattle.virtqueue.specs.Layout.{number_at, ahead, available_idx, available_idx_start, available_place, used_place, used_pushed}
use Rattle.kernel_types.specs.Device.{queue_after}
use Rattle.kernel_types.specs.Drains.{with_free}
use Rattle.kernel_types.specs.GuestMemory.{UsedElement, ring, used_idx, used_element, new_elements, elements_after, buffer_count, buffer_start, buffer_size}
use Rattle.carry_laws.proofs.Changes.{IsLong, Pushed, pushed}
use Rattle.carry_laws.proofs.Chains.{buffer_part, no_chain, one_chain, one_read, not_below}
use Rattle.carry_laws.proofs.DriverWrites.{described_kept}
use Rattle.carry_laws.proofs.Lists.{AllFrom, AllOf, one_where, from_mapped, from_append, from_at, from_range, from_moved, from_of, of_mapped, of_inserted, times, times_append, times_inserted, length_inserted, none_any, once_more, apart_before, map_self}
use Rattle.carry_laws.proofs.Outgoing.{Flight, IsOffered, IsBack, Outgoing, places_of, same_available}
use Rattle.carry_laws.proofs.Rings.{IsRingSize, SameQueue, queue_at, queue_goes_on, queue_is_queue, next_of, ahead_by, not_ahead, used_at, head_at, step_over}

pub nothing_out : (size : ℕ) (memory : List ℕ) (queue : Queue) (seen_index : ℕ) (free : List ℕ) → Outgoing size memory queue seen_index free [] → chain memory queue ≡ Ok None
nothing_out size memory queue seen_index free o =
    let at : ℕ = o.seen + length o.back in
    let none : at + 0 ≡ at = omega arith in
    subst (λ (q : Queue). chain memory q ≡ Ok None) (sym o.queue_is) (no_chain memory (queue_at 1 size at) (o.available_is ∙ ap (λ n. n % 65536) none))

pub next_out : (size : ℕ) (memory : List ℕ) (queue : Queue) (seen_index : ℕ) (free : List ℕ) (flight : Flight) (flights : List Flight) → IsRingSize size
    → Outgoing size memory queue seen_index free (flight ∷ flights)
    → chain memory queue ≡ Ok (Some (record { head = flight.place; parts = buffer_part 1 flight.place (length flight.bytes) ∷ [] }))
next_out size memory queue seen_index free flight flights is o =
    let at : ℕ = o.seen + length o.back in
    let q : Queue = queue_at 1 size at in
    let first : IsOffered size memory at flight = o.flying.0 in
    let below : flight.place < buffer_count size = first.below in
    let short : length flight.bytes ≤ buffer_size = first.short in
    let top : size ≤ 256 = is.high in
    let few : suc (length flights) ≤ size = omega (arith, o.count) in
    let more : available_idx memory 1 ≢ at % 65536 = λ same. not_ahead at (suc (length flights)) (omega arith) (omega arith) (sym o.available_is ∙ same) in
    let near : ahead (at % 65536) (available_idx memory 1) ≤ size =
    let is_far : ahead (at % 65536) (available_idx memory 1) ≡ suc (length flights) = ap (ahead (at % 65536)) o.available_is ∙ ahead_by at (suc (length flights)) (omega arith) in
    omega arith in
    subst (λ (queue : Queue). chain memory queue ≡ Ok (Some (record { head = flight.place; parts = buffer_part 1 flight.place (length flight.bytes) ∷ [] }))) (sym o.queue_is)
    (one_chain memory q flight.place (length flight.bytes) 0 more near (head_at 1 size at flight.place memory is first.offered) (omega arith) first.described (omega arith)
    (λ next. refl) (λ next. refl))

pub next_bytes : (size at : ℕ) (memory : List ℕ) (flight : Flight) → IsLong memory → IsOffered size memory at flight
    → bytes_at (buffer_part 1 flight.place (length flight.bytes) ∷ []) memory ≡ flight.bytes
next_bytes size at memory flight long there =
    let below : flight.place < buffer_count size = there.below in
    let short : length flight.bytes ≤ buffer_size = there.short in
    one_read (buffer_part 1 flight.place (length flight.bytes)) memory (omega arith) ∙ there.written

taken_by : (size : ℕ) (memory : List ℕ) (queue : Queue) (seen_index : ℕ) (free : List ℕ) (flight : Flight) (flights : List Flight) → IsRingSize size → IsLong memory
    → (o : Outgoing size memory queue seen_index free (flight ∷ flights))
    → Outgoing size (used_pushed memory (queue_at 1 size (o.seen + length o.back)) flight.place 0) (queue_at 1 size (o.seen + length o.back + 1)) seen_index free flights
taken_by size memory queue seen_index free flight flights is long o =
    let at : ℕ = o.seen + length o.back in
    let q : Queue = queue_at 1 size at in
    let after : List ℕ = used_pushed memory q flight.place 0 in
    let first : IsOffered size memory at flight = o.flying.0 in
    let low : flight.place < buffer_count size = first.below in
    let p : Pushed memory after q flight.place 0 = pushed q flight.place 0 memory long (queue_is_queue 1 size at (omega arith) is) (omega arith) (omega arith) in
    let slot : used_place q (at % 65536) ≡ used_place (ring 1 size) at = used_at 1 size at is in
    let top : size ≤ 256 = is.high in
    let bound : at % 65536 % size < size = omega (arith, is.low) in
    let wrap : at % 65536 % size ≡ at % size = is.wraps at in
    let few : suc (length flights) + length o.back + length free ≡ buffer_count size = omega (arith, o.count) in
    let long_back : length (o.back ++ flight.place ∷ []) ≡ length o.back + 1 = omega (arith, length-append o.back (flight.place ∷ [])) in
    let next : at + 1 ≡ o.seen + length (o.back ++ flight.place ∷ []) = omega arith in
    record {
      seen = o.seen;
      back = o.back ++ flight.place ∷ [];
      queue_is = ap (queue_at 1 size) next;
      seen_is = o.seen_is;
      available_is = same_available 1 memory after (p.numbers 2 (available_idx_start 1) (omega arith) (omega arith)) ∙ o.available_is
          ∙ ap (λ n. n % 65536) (step_over at (length flights) (o.seen + length (o.back ++ flight.place ∷ [])) next);
      used_is = p.idx_is ∙ next_of at ∙ ap (λ n. n % 65536) next;
      flying = from_at (IsOffered size after) (at + 1) (o.seen + length (o.back ++ flight.place ∷ [])) flights next
          (from_mapped (IsOffered size memory) (IsOffered size after) (at + 1) flights o.flying.1
          (λ k other first last there. let below : other.place < buffer_count size = there.below in let short : length other.bytes ≤ buffer_size = there.short in
          let in_ring : k % size < size = omega (arith, is.low) in record {
            offered = p.numbers 2 (available_place (ring 1 size) k) (omega arith) (omega arith) ∙ there.offered;
            described = described_kept 1 other.place (length other.bytes) 0 memory after there.described (λ n from a b. p.numbers n from (omega arith) (omega arith));
            written = p.other (buffer_start 1 other.place) (length other.bytes) (omega arith) (omega arith) ∙ there.written;
            below = below;
            short = short;
          }));
      coming = from_append (IsBack size after) o.seen o.back (flight.place ∷ [])
          (from_mapped (IsBack size memory) (IsBack size after) o.seen o.back o.coming
          (λ k back first last there. let other : k % size ≢ at % size = apart_before size k at (omega arith) (omega arith) in
          let in_ring : k % size < size = omega (arith, is.low) in
          record { used = p.numbers 4 (used_place (ring 1 size) k) (omega arith) (omega arith) ∙ there.used; below = there.below }))
          (record { used = ap (λ n. number_at 4 n after) (sym slot) ∙ p.id_is; below = low }, tt);
      lowest = o.lowest;
      distinct = λ n.
          let before : times n (places_of (flight ∷ flights)) + times n o.back + times n free ≤ 1 = o.distinct n in
          let moved : times n (o.back ++ flight.place ∷ []) ≡ times n o.back + times n (flight.place ∷ []) = times_append n o.back (flight.place ∷ []) in
          omega arith;
      count = omega arith;
    }

-- the device takes the first frame
pub takes : (size : ℕ) (memory : List ℕ) (queue : Queue) (seen_index : ℕ) (free : List ℕ) (flight : Flight) (flights : List Flight) → IsRingSize size → IsLong memory
    → Outgoing size memory queue seen_index free (flight ∷ flights) → Outgoing size (used_pushed memory queue flight.place 0) (queue_after queue) seen_index free flights
takes size memory queue seen_index free flight flights is long o =
    let at : ℕ = o.seen + length o.back in
    let q : Queue = queue_at 1 size at in
    let moved : Outgoing size (used_pushed memory q flight.place 0) (queue_after q) seen_index free flights =
    subst (λ (n : Queue). Outgoing size (used_pushed memory q flight.place 0) n seen_index free flights) (sym (queue_goes_on 1 size at))
    (taken_by size memory queue seen_index free flight flights is long o) in
    subst (λ (n : Queue). Outgoing size (used_pushed memory n flight.place 0) (queue_after n) seen_index free flights) (sym o.queue_is) moved

-- The driver sees what came back.

-- the elements that are new to the driver, as so many as there are
pub new_are : (memory : List ℕ) (q : Queue) (seen_index count : ℕ) → ahead seen_index (used_idx memory q.index) ≡ count → count ≤ q.n
    → new_elements memory q seen_index ≡ map (λ k. used_element memory q ((seen_index + k) % 65536)) (range_with_len 0 count)
unfolding new_elements
new_are memory q seen_index count is few =
    ap (elements_after memory q seen_index) is
    ∙ ap (λ b. cond b [] (map (λ k. used_element memory q ((seen_index + k) % 65536)) (range_with_len 0 count))) (not_below count q.n few)

-- a place behind the seen index
pub seen_on : (seen k : ℕ) → (seen % 65536 + k) % 65536 ≡ (seen + k) % 65536
seen_on seen k = omega arith

map_map : {X Y Z : Type 0} (f : X → Y) (g : Y → Z) (xs : List X) → map g (map f xs) ≡ map (λ x. g (f x)) xs
map_map f g [] = refl
map_map f g (x ∷ xs) = ap (λ ys. g (f x) ∷ ys) (map_map f g xs)

pub filter_whole : {X : Type 0} (p : X → Bool) (xs : List X) → AllOf (λ x. p x ≡ true) xs → filter p xs ≡ xs
filter_whole p [] all = refl
filter_whole p (x ∷ xs) all = ap (λ b. cond b (x ∷ filter p xs) (filter p xs)) all.0 ∙ ap (λ ys. x ∷ ys) (filter_whole p xs all.1)

came_back : (size : ℕ) (memory : List ℕ) (seen : ℕ) (back : List ℕ) → IsRingSize size → AllFrom (IsBack size memory) seen back
    → map (λ element. element.id) (map (λ k. used_element memory (ring 1 size) ((seen % 65536 + k) % 65536)) (range_with_len 0 (length back))) ≡ back
came_back size memory seen back is coming =
    map_map (λ k. used_element memory (ring 1 size) ((seen % 65536 + k) % 65536)) (λ (element : UsedElement). element.id) (range_with_len 0 (length back))
    ∙ from_range (λ k. number_at 4 (used_place (ring 1 size) ((seen % 65536 + k) % 65536)) memory) (λ x. x) 0 back
    (from_mapped (λ k x. IsBack size memory (seen + k) x) (λ k x. number_at 4 (used_place (ring 1 size) ((seen % 65536 + k) % 65536)) memory ≡ x) 0 back
    (from_moved (IsBack size memory) seen 0 back (from_at (IsBack size memory) seen (seen + 0) back (omega arith) coming))
    (λ k x low high there. ap (λ n. number_at 4 (used_place (ring 1 size) n) memory) (seen_on seen k) ∙ ap (λ n. number_at 4 n memory) (used_at 1 size (seen + k) is) ∙ there.used))
    ∙ map_self back

-- what is free after some descriptors came back
pub record Freed (size : ℕ) (back free after : List ℕ) : Type 0 where
  pub lowest : AllOf (λ place. place < buffer_count size) after
  pub times_are : (p : ℕ) → times p after ≡ times p back + times p free
  pub count : length after ≡ length back + length free

-- one more is free, at its place
freed_one : (free : List ℕ) (place : ℕ) → times place free ≡ 0 → with_free free place ≡ insert free (position_or_len (λ other. ltb place other) free) place
freed_one free place none =
    let test : list_any (λ other. eqb other place) free ≡ false = none_any place free none in
    rw test refl

pub freed : (size : ℕ) (back free : List ℕ) → AllOf (λ place. place < buffer_count size) back → AllOf (λ place. place < buffer_count size) free
    → ((p : ℕ) → times p back + times p free ≤ 1) → Freed size back free (fold with_free free back)
freed size [] free low lowest distinct = record { lowest = lowest; times_are = λ p. omega arith; count = omega arith }
freed size (place ∷ back) free low lowest distinct =
    let at : ℕ = position_or_len (λ other. ltb place other) free in
    let next : List ℕ = insert free at place in
    let none : times place free ≡ 0 = omega (arith, distinct place, once_more place back) in
    let more : (p : ℕ) → times p next ≡ one_where (eqb place p) + times p free = λ p. times_inserted p place at free in
    let rest : Freed size back next (fold with_free next back) =
    freed size back next low.1 (of_inserted (λ place. place < buffer_count size) at place free low.0 lowest) (λ p. omega (arith, distinct p, more p)) in
    let whole : Freed size (place ∷ back) free (fold with_free next back) = record {
      lowest = rest.lowest;
      times_are = λ p. omega (arith, rest.times_are p, more p);
      count = omega (arith, rest.count, length_inserted place at free);
    } in
    subst (λ fs. Freed size (place ∷ back) free (fold with_free fs back)) (sym (freed_one free place none)) whole

-- the driver sees what came back, and all of it is free
pub sees : (size : ℕ) (memory : List ℕ) (queue : Queue) (seen_index : ℕ) (free : List ℕ) (flights : List Flight) → IsRingSize size
    → Outgoing size memory queue seen_index free flights
    → Outgoing size memory queue (used_idx memory 1)
    (fold with_free free (filter (λ place. ltb place (buffer_count size)) (map (λ element. element.id) (new_elements memory (ring 1 size) seen_index)))) flights
sees size memory queue seen_index free flights is o =
    let b : ℕ = buffer_count size in
    let back : List ℕ = o.back in
    let top : size ≤ 256 = is.high in
    let few : length back ≤ size = omega (arith, o.count) in
    let far : ahead (seen_index) (used_idx memory 1) ≡ length back = ap (λ s. ahead s (used_idx memory 1)) o.seen_is ∙ ap (ahead (o.seen % 65536)) o.used_is ∙ ahead_by o.seen (length back) (omega arith) in
    let low : AllOf (λ place. place < b) back = from_of (IsBack size memory) (λ place. place < b) o.seen back o.coming (λ k place there. there.below) in
    let ids : map (λ element. element.id) (new_elements memory (ring 1 size) seen_index) ≡ back =
    ap (map (λ (element : UsedElement). element.id)) (new_are memory (ring 1 size) seen_index (length back) far few)
    ∙ ap (λ s. map (λ (element : UsedElement). element.id) (map (λ k. used_element memory (ring 1 size) ((s + k) % 65536)) (range_with_len 0 (length back)))) o.seen_is
    ∙ came_back size memory o.seen back is o.coming in
    let all : filter (λ place. ltb place b) back ≡ back = filter_whole (λ place. ltb place b) back (of_mapped (λ place. place < b) (λ place. ltb place b ≡ true) (λ place lt. lt-ltb place b lt) back low) in
    let freed_are : fold with_free free (filter (λ place. ltb place b) (map (λ element. element.id) (new_elements memory (ring 1 size) seen_index))) ≡ fold with_free free back =
    ap (λ ps. fold with_free free (filter (λ place. ltb place b) ps)) ids ∙ ap (fold with_free free) all in
    let f : Freed size back free (fold with_free free back) = freed size back free low o.lowest (λ p. omega (arith, o.distinct p)) in
    let none : o.seen + length back ≡ o.seen + length back + 0 = omega arith in
    subst (λ fs. Outgoing size memory queue (used_idx memory 1) fs flights) (sym freed_are) (record {
      seen = o.seen + length back;
      back = [];
      queue_is = o.queue_is ∙ ap (queue_at 1 size) none;
      seen_is = o.used_is;
      available_is = o.available_is ∙ ap (λ n. (n + length flights) % 65536) none;
      used_is = o.used_is ∙ ap (λ n. n % 65536) none;
      flying = from_at (IsOffered size memory) (o.seen + length back) (o.seen + length back + 0) flights none o.flying;
      coming = tt;
      lowest = f.lowest;
      distinct = λ p. omega (arith, o.distinct p, f.times_are p);
      count = omega (arith, o.count, f.count);
    })

-- what is written leaves the other queue alone
pub record LeavesOther (index : ℕ) (before after : List ℕ) : Type 0 where
  pub long : IsLong after
  pub same : SameQueue index before after

pub taken_elsewhere : (size : ℕ) (memory : List ℕ) (queue : Queue) (seen_index : ℕ) (free : List ℕ) (flight : Flight) (flights : List Flight) → IsRingSize size → IsLong memory
    → Outgoing size memory queue seen_index free (flight ∷ flights) → LeavesOther 0 memory (used_pushed memory queue flight.place 0)
taken_elsewhere size memory queue seen_index free flight flights is long o =
    let at : ℕ = o.seen + length o.back in
    let q : Queue = queue_at 1 size at in
    let low : flight.place < buffer_count size = o.flying.0.below in
    let p : Pushed memory (used_pushed memory q flight.place 0) q flight.place 0 = pushed q flight.place 0 memory long (queue_is_queue 1 size at (omega arith) is) (omega arith) (omega arith) in
    let top : size ≤ 256 = is.high in
    let bound : at % 65536 % size < size = omega (arith, is.low) in
    let here : LeavesOther 0 memory (used_pushed memory q flight.place 0) = record {
      long = p.long;
      same = record {
        rings = λ from n a b. p.other from n (omega arith) (omega arith);
        buffers = λ from n a b. p.other from n (omega arith) (omega arith);
      };
    } in
    subst (λ (n : Queue). LeavesOther 0 memory (used_pushed memory n flight.place 0)) (sym o.queue_is) here
