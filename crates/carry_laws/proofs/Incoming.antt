-- Queue 0: the frames on their way to the driver, and the buffers that the device has.
use Rattle.std.proofs.Common.{◌≡◌, ◌≢◌, ℕ, suc, ◌+◌, ◌%◌, ◌<◌, ◌≤◌, true, leb, ltb, List, [], ◌∷◌, ◌++◌, Some, None, Ok, length, map, refl, sym, ap, subst, ◌∙◌, arith}
use Rattle.std.specs.List.{filter, fold, range_with_len}
use Rattle.std.proofs.lemmas.Bool.{lt-ltb, le-leb}
use Rattle.std.proofs.lemmas.List.{length-append, map_push, length-map}
use Rattle.virtqueue.specs.declared.queue.Queue.{Queue}
use Rattle.virtqueue.specs.Chains.{chain}
use Rattle.virtqueue.specs.Layout.{number_at, written_at, ahead, available_idx, available_idx_start, available_place, used_idx_start, used_place, used_pushed}
use Rattle.kernel_types.specs.Device.{queue_after}
use Rattle.kernel_types.specs.Drains.{is_readable, frame_at}
use Rattle.kernel_types.specs.GuestMemory.{UsedElement, read_at, ring, used_idx, used_element, new_elements, buffer_count, buffer_start, buffer_size, write_flag, given}
use Rattle.carry_laws.proofs.Changes.{IsLong, Wrote, wrote, Pushed, pushed}
use Rattle.carry_laws.proofs.Chains.{buffer_part, no_chain, one_chain}
use Rattle.carry_laws.proofs.DriverWrites.{described_kept}
use Rattle.carry_laws.proofs.Giving.{IsReady, AreReady, AllGiven, all_given}
use Rattle.carry_laws.proofs.Lists.{AllFrom, AllOf, from_kept, from_mapped, from_append, from_at, from_range, from_moved, times, times_append, times_none, once_more, apart_before}
use Rattle.carry_laws.proofs.Outgoing.{Flight, places_of, same_available}
use Rattle.carry_laws.proofs.Regions.{IsApart, read_written}
use Rattle.carry_laws.proofs.Rings.{IsRingSize, SameQueue, same_number, queue_at, queue_goes_on, queue_is_queue, next_of, ahead_by, not_ahead, used_at, head_at, step_over}
use Rattle.carry_laws.proofs.Taking.{LeavesOther, new_are, seen_on, filter_whole}

-- the used ring has the frame's buffer and length, and the buffer holds it
pub record IsWaiting (size : ℕ) (memory : List ℕ) (at : ℕ) (flight : Flight) : Type 0 where
  pub id_is : number_at 4 (used_place (ring 0 size) at) memory ≡ flight.place
  pub len_is : number_at 4 (used_place (ring 0 size) at + 4) memory ≡ length flight.bytes
  pub written : read_at (buffer_start 0 flight.place) (length flight.bytes) memory ≡ flight.bytes
  pub below : flight.place < buffer_count size
  pub short : length flight.bytes ≤ buffer_size

-- Each of the driver's descriptors has a frame that waits for the driver, or is ready for the device; and none is twice.
pub record Incoming (size : ℕ) (memory : List ℕ) (queue : Queue) (seen_index : ℕ) (ready : List ℕ) (flights : List Flight) : Type 0 where
  pub seen : ℕ
  pub queue_is : queue ≡ queue_at 0 size (seen + length flights)
  pub seen_is : seen_index ≡ seen % 65536
  pub used_is : used_idx memory 0 ≡ (seen + length flights) % 65536
  pub waiting : AllFrom (IsWaiting size memory) seen flights
  pub ready_are : AreReady size memory (seen + length flights) ready
  pub distinct : (p : ℕ) → times p (places_of flights) + times p ready ≤ 1
  pub count : length flights + length ready ≡ buffer_count size

-- What changes elsewhere in memory changes nothing here.
pub incoming_kept : (size : ℕ) (before after : List ℕ) (queue : Queue) (seen_index : ℕ) (ready : List ℕ) (flights : List Flight) → IsRingSize size → IsLong after → SameQueue 0 before after
    → Incoming size before queue seen_index ready flights → Incoming size after queue seen_index ready flights
incoming_kept size before after queue seen_index ready flights is long same o =
    let number : (n at : ℕ) → at + n ≤ 0x3000 → number_at n at after ≡ number_at n at before = λ n at high. same_number 0 before after same n at (omega arith) (omega arith) in
    let top : size ≤ 256 = is.high in
    record {
      seen = o.seen;
      queue_is = o.queue_is;
      seen_is = o.seen_is;
      used_is = number 2 (used_idx_start 0) (omega arith) ∙ o.used_is;
      waiting = from_mapped (IsWaiting size before) (IsWaiting size after) o.seen flights o.waiting
          (λ k flight low high there.
          let below : flight.place < buffer_count size = there.below in
          let short : length flight.bytes ≤ buffer_size = there.short in
          let slot : k % size < size = omega (arith, is.low) in
          record {
            id_is = number 4 (used_place (ring 0 size) k) (omega arith) ∙ there.id_is;
            len_is = number 4 (used_place (ring 0 size) k + 4) (omega arith) ∙ there.len_is;
            written = same.buffers (buffer_start 0 flight.place) (length flight.bytes) (omega arith) (omega arith) ∙ there.written;
            below = below;
            short = short;
          });
      ready_are = record {
        long = long;
        available_is = same_available 0 before after (number 2 (available_idx_start 0) (omega arith)) ∙ o.ready_are.available_is;
        buffers = from_mapped (IsReady size before) (IsReady size after) (o.seen + length flights) ready o.ready_are.buffers
            (λ k place low high there.
            let below : place < buffer_count size = there.below in
            let slot : k % size < size = omega (arith, is.low) in
            record {
              offered = number 2 (available_place (ring 0 size) k) (omega arith) ∙ there.offered;
              described = described_kept 0 place buffer_size write_flag before after there.described (λ n at from to. number n at (omega arith));
              below = below;
            });
      };
      distinct = o.distinct;
      count = o.count;
    }

-- The device gives a frame.

pub nothing_ready : (size : ℕ) (memory : List ℕ) (queue : Queue) (seen_index : ℕ) (flights : List Flight) → Incoming size memory queue seen_index [] flights → chain memory queue ≡ Ok None
nothing_ready size memory queue seen_index flights o =
    let at : ℕ = o.seen + length flights in
    let none : at + 0 ≡ at = omega arith in
    subst (λ (q : Queue). chain memory q ≡ Ok None) (sym o.queue_is) (no_chain memory (queue_at 0 size at) (o.ready_are.available_is ∙ ap (λ n. n % 65536) none))

pub next_ready : (size : ℕ) (memory : List ℕ) (queue : Queue) (seen_index place : ℕ) (rest : List ℕ) (flights : List Flight) → IsRingSize size
    → Incoming size memory queue seen_index (place ∷ rest) flights → chain memory queue ≡ Ok (Some (record { head = place; parts = buffer_part 0 place buffer_size ∷ [] }))
next_ready size memory queue seen_index place rest flights is o =
    let at : ℕ = o.seen + length flights in
    let q : Queue = queue_at 0 size at in
    let first : IsReady size memory at place = o.ready_are.buffers.0 in
    let below : place < buffer_count size = first.below in
    let top : size ≤ 256 = is.high in
    let few : suc (length rest) ≤ size = omega (arith, o.count) in
    let more : available_idx memory 0 ≢ at % 65536 = λ same. not_ahead at (suc (length rest)) (omega arith) (omega arith) (sym o.ready_are.available_is ∙ same) in
    let near : ahead (at % 65536) (available_idx memory 0) ≤ size =
    let is_far : ahead (at % 65536) (available_idx memory 0) ≡ suc (length rest) = ap (ahead (at % 65536)) o.ready_are.available_is ∙ ahead_by at (suc (length rest)) (omega arith) in
    omega arith in
    subst (λ (queue : Queue). chain memory queue ≡ Ok (Some (record { head = place; parts = buffer_part 0 place buffer_size ∷ [] }))) (sym o.queue_is)
    (one_chain memory q place buffer_size write_flag more near (head_at 0 size at place memory is first.offered) (omega arith) first.described (omega arith) (λ next. refl) (λ next. refl))

-- what the device writes: the frame, then its element
abbrev pub given_to : ℕ → List ℕ → Queue → List ℕ → List ℕ
given_to place memory queue frame = used_pushed (written_at (buffer_start 0 place) frame memory) queue place (length frame)

pub record Gave (size place at : ℕ) (frame before after : List ℕ) : Type 0 where
  pub long : IsLong after
  pub used_is : used_idx after 0 ≡ (at + 1) % 65536
  pub id_is : number_at 4 (used_place (ring 0 size) at) after ≡ place
  pub len_is : number_at 4 (used_place (ring 0 size) at + 4) after ≡ length frame
  pub written : read_at (buffer_start 0 place) (length frame) after ≡ frame
  pub other : (from n : ℕ) → IsApart from n (used_idx_start 0) 2 → IsApart from n (used_place (ring 0 size) at) 8 → IsApart from n (buffer_start 0 place) (length frame)
      → read_at from n after ≡ read_at from n before
  pub numbers : (n from : ℕ) → IsApart from n (used_idx_start 0) 2 → IsApart from n (used_place (ring 0 size) at) 8 → IsApart from n (buffer_start 0 place) (length frame)
      → number_at n from after ≡ number_at n from before

pub gave : (size place at : ℕ) (frame memory : List ℕ) → IsRingSize size → IsLong memory → place < 32 → length frame ≤ buffer_size
    → Gave size place at frame memory (given_to place memory (queue_at 0 size at) frame)
gave size place at frame memory is long low short =
    let q : Queue = queue_at 0 size at in
    let one : List ℕ = written_at (buffer_start 0 place) frame memory in
    let after : List ℕ = used_pushed one q place (length frame) in
    let first : Wrote memory one (buffer_start 0 place) (length frame) = wrote (buffer_start 0 place) (length frame) frame memory long refl (omega arith) in
    let second : Pushed one after q place (length frame) = pushed q place (length frame) one first.long (queue_is_queue 0 size at (omega arith) is) (omega arith) (omega arith) in
    let slot : used_place q (at % 65536) ≡ used_place (ring 0 size) at = used_at 0 size at is in
    let top : size ≤ 256 = is.high in
    let bound : at % 65536 % size < size = omega (arith, is.low) in
    record {
      long = second.long;
      used_is = second.idx_is ∙ next_of at;
      id_is = ap (λ n. number_at 4 n after) (sym slot) ∙ second.id_is;
      len_is = ap (λ n. number_at 4 (n + 4) after) (sym slot) ∙ second.len_is;
      written = second.other (buffer_start 0 place) (length frame) (omega arith) (omega arith) ∙ read_written (buffer_start 0 place) frame memory (omega arith);
      other = λ from n a b c. second.other from n a (subst (λ p. IsApart from n p 8) (sym slot) b) ∙ first.other from n c;
      numbers = λ n from a b c. second.numbers n from a (subst (λ p. IsApart from n p 8) (sym slot) b) ∙ first.numbers n from c;
    }

given_by : (size : ℕ) (memory : List ℕ) (queue : Queue) (seen_index place : ℕ) (frame rest : List ℕ) (flights : List Flight) → IsRingSize size → length frame ≤ buffer_size
    → (o : Incoming size memory queue seen_index (place ∷ rest) flights)
    → Incoming size (given_to place memory (queue_at 0 size (o.seen + length flights)) frame) (queue_at 0 size (o.seen + length flights + 1)) seen_index rest
    (flights ++ record { place = place; bytes = frame } ∷ [])
given_by size memory queue seen_index place frame rest flights is short o =
    let at : ℕ = o.seen + length flights in
    let flight : Flight = record { place = place; bytes = frame } in
    let after : List ℕ = given_to place memory (queue_at 0 size at) frame in
    let first : IsReady size memory at place = o.ready_are.buffers.0 in
    let low : place < buffer_count size = first.below in
    let g : Gave size place at frame memory after = gave size place at frame memory is o.ready_are.long (omega arith) short in
    let top : size ≤ 256 = is.high in
    let bound : at % size < size = omega (arith, is.low) in
    let few : length flights + suc (length rest) ≡ buffer_count size = omega (arith, o.count) in
    let next : at + 1 ≡ o.seen + length (flights ++ flight ∷ []) = omega (arith, length-append flights (flight ∷ [])) in
    let once : times place (place ∷ rest) ≡ 1 + times place rest = once_more place rest in
    let none : times place (places_of flights) ≡ 0 = omega (arith, o.distinct place) in
    record {
      seen = o.seen;
      queue_is = ap (queue_at 0 size) next;
      seen_is = o.seen_is;
      used_is = g.used_is ∙ ap (λ n. n % 65536) next;
      waiting = from_append (IsWaiting size after) o.seen flights (flight ∷ [])
          (from_kept (IsWaiting size memory) (IsWaiting size after) (λ other. other.place ≢ place) o.seen flights o.waiting (times_none (λ other. other.place) place flights none)
          (λ k other from to apart there. waits_still size place at frame memory after k other is g low short apart (apart_before size k at (omega arith) (omega arith)) there))
          (record { id_is = g.id_is; len_is = g.len_is; written = g.written; below = low; short = short }, tt);
      ready_are = record {
        long = g.long;
        available_is = same_available 0 memory after (g.numbers 2 (available_idx_start 0) (omega arith) (omega arith) (omega arith)) ∙ o.ready_are.available_is
            ∙ ap (λ n. n % 65536) (step_over at (length rest) (o.seen + length (flights ++ flight ∷ [])) next);
        buffers = from_at (IsReady size after) (at + 1) (o.seen + length (flights ++ flight ∷ [])) rest next
            (from_mapped (IsReady size memory) (IsReady size after) (at + 1) rest o.ready_are.buffers.1
            (λ k other from to there.
            let below : other < buffer_count size = there.below in
            let slot : k % size < size = omega (arith, is.low) in
            record {
              offered = g.numbers 2 (available_place (ring 0 size) k) (omega arith) (omega arith) (omega arith) ∙ there.offered;
              described = described_kept 0 other buffer_size write_flag memory after there.described (λ n from a b. g.numbers n from (omega arith) (omega arith) (omega arith));
              below = below;
            }));
      };
      distinct = λ p.
          let before : times p (places_of flights) + times p (place ∷ rest) ≤ 1 = o.distinct p in
          let moved : times p (places_of (flights ++ flight ∷ [])) ≡ times p (places_of flights) + times p (place ∷ []) =
          ap (times p) (map_push (λ (x : Flight). x.place) flights flight) ∙ times_append p (places_of flights) (place ∷ []) in
          omega arith;
      count = omega (arith, length-append flights (flight ∷ []));
    }
  where
    waits_still : (size place at : ℕ) (frame memory after : List ℕ) (k : ℕ) (other : Flight) → IsRingSize size → Gave size place at frame memory after → place < buffer_count size
        → length frame ≤ buffer_size → other.place ≢ place → k % size ≢ at % size → IsWaiting size memory k other → IsWaiting size after k other
    waits_still size place at frame memory after k other is g low few apart slots there =
        let below : other.place < buffer_count size = there.below in
        let short : length other.bytes ≤ buffer_size = there.short in
        let top : size ≤ 256 = is.high in
        let here : at % size < size = omega (arith, is.low) in
        let slot : k % size < size = omega (arith, is.low) in
        record {
          id_is = g.numbers 4 (used_place (ring 0 size) k) (omega arith) (omega arith) (omega arith) ∙ there.id_is;
          len_is = g.numbers 4 (used_place (ring 0 size) k + 4) (omega arith) (omega arith) (omega arith) ∙ there.len_is;
          written = g.other (buffer_start 0 other.place) (length other.bytes) (omega arith) (omega arith) (omega arith) ∙ there.written;
          below = below;
          short = short;
        }

-- the device gives a frame in the first buffer that is ready
pub gives_frame : (size : ℕ) (memory : List ℕ) (queue : Queue) (seen_index place : ℕ) (frame rest : List ℕ) (flights : List Flight) → IsRingSize size → length frame ≤ buffer_size
    → Incoming size memory queue seen_index (place ∷ rest) flights
    → Incoming size (given_to place memory queue frame) (queue_after queue) seen_index rest (flights ++ record { place = place; bytes = frame } ∷ [])
gives_frame size memory queue seen_index place frame rest flights is short o =
    let at : ℕ = o.seen + length flights in
    let q : Queue = queue_at 0 size at in
    let more : List Flight = flights ++ record { place = place; bytes = frame } ∷ [] in
    let moved : Incoming size (given_to place memory q frame) (queue_after q) seen_index rest more =
    subst (λ (n : Queue). Incoming size (given_to place memory q frame) n seen_index rest more) (sym (queue_goes_on 0 size at))
    (given_by size memory queue seen_index place frame rest flights is short o) in
    subst (λ (n : Queue). Incoming size (given_to place memory n frame) (queue_after n) seen_index rest more) (sym o.queue_is) moved

-- The driver reads what waits.

abbrev pub element_of : Flight → UsedElement
element_of flight = record { id = flight.place; len = length flight.bytes }

new_waiting : (size : ℕ) (memory : List ℕ) (seen : ℕ) (flights : List Flight) → IsRingSize size → AllFrom (IsWaiting size memory) seen flights
    → map (λ k. used_element memory (ring 0 size) ((seen % 65536 + k) % 65536)) (range_with_len 0 (length flights)) ≡ map element_of flights
new_waiting size memory seen flights is waiting =
    from_range (λ k. used_element memory (ring 0 size) ((seen % 65536 + k) % 65536)) element_of 0 flights
    (from_mapped (λ k x. IsWaiting size memory (seen + k) x) (λ k x. used_element memory (ring 0 size) ((seen % 65536 + k) % 65536) ≡ element_of x) 0 flights
    (from_moved (IsWaiting size memory) seen 0 flights (from_at (IsWaiting size memory) seen (seen + 0) flights (omega arith) waiting))
    (λ k x low high there. ap (used_element memory (ring 0 size)) (seen_on seen k) ∙ one size memory (seen + k) x is there))
  where
    one : (size : ℕ) (memory : List ℕ) (at : ℕ) (x : Flight) → IsRingSize size → IsWaiting size memory at x → used_element memory (ring 0 size) (at % 65536) ≡ element_of x
    one size memory at x is there =
        let slot : used_place (ring 0 size) (at % 65536) ≡ used_place (ring 0 size) at = used_at 0 size at is in
        let id : number_at 4 (used_place (ring 0 size) (at % 65536)) memory ≡ x.place = ap (λ n. number_at 4 n memory) slot ∙ there.id_is in
        let len : number_at 4 (used_place (ring 0 size) (at % 65536) + 4) memory ≡ length x.bytes = ap (λ n. number_at 4 (n + 4) memory) slot ∙ there.len_is in
        λ i. record { id = id i; len = len i }

readable : (size : ℕ) (memory : List ℕ) (at : ℕ) (flights : List Flight) → AllFrom (IsWaiting size memory) at flights → AllOf (λ element. is_readable size element ≡ true) (map element_of flights)
readable size memory at [] waiting = tt
readable size memory at (flight ∷ flights) waiting =
    let first : IsWaiting size memory at flight = waiting.0 in
    let low : ltb flight.place (buffer_count size) ≡ true = lt-ltb flight.place (buffer_count size) first.below in
    let few : leb (length flight.bytes) buffer_size ≡ true = le-leb (length flight.bytes) buffer_size first.short in
    (rw (low, few) refl, readable size memory (at + 1) flights waiting.1)

frames_are : (size : ℕ) (memory : List ℕ) (at : ℕ) (flights : List Flight) → AllFrom (IsWaiting size memory) at flights
    → map (frame_at memory) (map element_of flights) ≡ map (λ flight. flight.bytes) flights
frames_are size memory at [] waiting = refl
frames_are size memory at (flight ∷ flights) waiting =
    let first : IsWaiting size memory at flight = waiting.0 in
    ap (λ bytes. bytes ∷ map (frame_at memory) (map element_of flights)) first.written ∙ ap (λ more. flight.bytes ∷ more) (frames_are size memory (at + 1) flights waiting.1)

ids_are : (flights : List Flight) → map (λ element. element.id) (map element_of flights) ≡ places_of flights
ids_are [] = refl
ids_are (flight ∷ flights) = ap (λ ps. flight.place ∷ ps) (ids_are flights)

-- the elements that a drain reads
pub read_are : (size : ℕ) (memory : List ℕ) (queue : Queue) (seen_index : ℕ) (ready : List ℕ) (flights : List Flight) → IsRingSize size
    → Incoming size memory queue seen_index ready flights
    → filter (is_readable size) (new_elements memory (ring 0 size) seen_index) ≡ map element_of flights
read_are size memory queue seen_index ready flights is o =
    let top : size ≤ 256 = is.high in
    let few : length flights ≤ size = omega (arith, o.count) in
    let far : ahead seen_index (used_idx memory 0) ≡ length flights =
    ap (λ s. ahead s (used_idx memory 0)) o.seen_is ∙ ap (ahead (o.seen % 65536)) o.used_is ∙ ahead_by o.seen (length flights) (omega arith) in
    let all : new_elements memory (ring 0 size) seen_index ≡ map element_of flights =
    new_are memory (ring 0 size) seen_index (length flights) far few
    ∙ ap (λ s. map (λ k. used_element memory (ring 0 size) ((s + k) % 65536)) (range_with_len 0 (length flights))) o.seen_is
    ∙ new_waiting size memory o.seen flights is o.waiting in
    ap (filter (is_readable size)) all ∙ filter_whole (is_readable size) (map element_of flights) (readable size memory o.seen flights o.waiting)

pub record Drained (size : ℕ) (memory after : List ℕ) (queue : Queue) (ready : List ℕ) (flights : List Flight) : Type 0 where
  pub frames : map (frame_at memory) (map element_of flights) ≡ map (λ flight. flight.bytes) flights
  pub left : Incoming size after queue (used_idx memory 0) (ready ++ places_of flights) []
  pub other_queue : SameQueue 1 memory after

-- the driver reads all of them, and gives their buffers again
pub drains : (size : ℕ) (memory : List ℕ) (queue : Queue) (seen_index : ℕ) (ready : List ℕ) (flights : List Flight) → IsRingSize size → Incoming size memory queue seen_index ready flights
    → Drained size memory (fold (given size) memory (map (λ element. element.id) (map element_of flights))) queue ready flights
drains size memory queue seen_index ready flights is o =
    let at : ℕ = o.seen + length flights in
    let low : AllOf (λ place. place < buffer_count size) (places_of flights) = low_places size memory o.seen flights o.waiting in
    let long : length (places_of flights) ≡ length flights = length-map flights (λ (flight : Flight). flight.place) in
    let all : AllGiven size memory (fold (given size) memory (places_of flights)) at (ready ++ places_of flights) =
    all_given size memory at ready (places_of flights) is o.ready_are low (λ p. omega (arith, o.distinct p)) (omega (arith, o.count)) in
    let none : at ≡ at + 0 = omega arith in
    subst (λ ps. Drained size memory (fold (given size) memory ps) queue ready flights) (sym (ids_are flights)) (record {
      frames = frames_are size memory o.seen flights o.waiting;
      left = record {
        seen = at;
        queue_is = o.queue_is ∙ ap (queue_at 0 size) none;
        seen_is = o.used_is;
        used_is = all.only.used_same ∙ o.used_is ∙ ap (λ n. n % 65536) none;
        waiting = tt;
        ready_are = subst (λ n. AreReady size (fold (given size) memory (places_of flights)) n (ready ++ places_of flights)) none all.ready_are;
        distinct = λ p. omega (arith, o.distinct p, times_append p ready (places_of flights));
        count = omega (arith, o.count, length-append ready (places_of flights));
      };
      other_queue = all.only.other_queue;
    })
  where
    low_places : (size : ℕ) (memory : List ℕ) (at : ℕ) (flights : List Flight) → AllFrom (IsWaiting size memory) at flights → AllOf (λ place. place < buffer_count size) (places_of flights)
    low_places size memory at [] waiting = tt
    low_places size memory at (flight ∷ flights) waiting = (waiting.0.below, low_places size memory (at + 1) flights waiting.1)

pub gave_elsewhere : (size : ℕ) (memory : List ℕ) (queue : Queue) (seen_index place : ℕ) (frame rest : List ℕ) (flights : List Flight) → IsRingSize size → length frame ≤ buffer_size
    → Incoming size memory queue seen_index (place ∷ rest) flights → LeavesOther 1 memory (given_to place memory queue frame)
gave_elsewhere size memory queue seen_index place frame rest flights is short o =
    let at : ℕ = o.seen + length flights in
    let q : Queue = queue_at 0 size at in
    let low : place < buffer_count size = o.ready_are.buffers.0.below in
    let g : Gave size place at frame memory (given_to place memory q frame) = gave size place at frame memory is o.ready_are.long (omega arith) short in
    let top : size ≤ 256 = is.high in
    let bound : at % size < size = omega (arith, is.low) in
    let here : LeavesOther 1 memory (given_to place memory q frame) = record {
      long = g.long;
      same = record {
        rings = λ from n a b. g.other from n (omega arith) (omega arith) (omega arith);
        buffers = λ from n a b. g.other from n (omega arith) (omega arith) (omega arith);
      };
    } in
    subst (λ (n : Queue). LeavesOther 1 memory (given_to place memory n frame)) (sym o.queue_is) here
