-- A chain of one descriptor, as the device finds it, reads it and writes to it.
use Rattle.std.proofs.Common.{◌≡◌, ◌≢◌, ℕ, ◌+◌, ◌<◌, ◌≤◌, true, false, eqb, ltb, leb, List, [], ◌∷◌, ◌++◌, length, take, drop, Some, None, Ok, refl, ap, ◌∙◌, arith}
use Rattle.std.proofs.lemmas.List.{take_all}
use Rattle.std.proofs.lemmas.Bool.{eq-eqb, le-leb}
use Rattle.virtqueue.specs.declared.parts.Part.{Part}
use Rattle.virtqueue.specs.declared.queue.Queue.{Queue}
use Rattle.virtqueue.specs.declared.walk.Descriptor.{Descriptor}
use Rattle.virtqueue.specs.Bytes.{room, bytes_at, stored}
use Rattle.virtqueue.specs.Chains.{descriptor_at, has_next, is_directed, is_inside, broken, chain, part_of, parts_from}
use Rattle.virtqueue.specs.Layout.{number_at, descriptor_start, available_idx, available_head, ahead, written_at}
use Rattle.virtqueue.proofs.Walking.{walked_start, walked_end}
use Rattle.virtqueue.proofs.Bytes.{bytes_more, bytes_none, room_more, room_none, stored_part, stored_none}
use Rattle.kernel_types.specs.GuestMemory.{buffer_start, read_at}
use Rattle.carry_laws.proofs.Changes.{Describes}

abbrev pub descriptor_of : ℕ → ℕ → ℕ → ℕ → ℕ → Descriptor
descriptor_of index place len flags next = record { addr = buffer_start index place; len = len; flags = flags; next = next }

descriptor_is : (memory : List ℕ) (index place len flags : ℕ) → Describes memory index place len flags
    → descriptor_at memory index place ≡ descriptor_of index place len flags (number_at 2 (descriptor_start index place + 14) memory)
unfolding descriptor_at
descriptor_is memory index place len flags d =
    λ i. record { addr = d.addr_is i; len = d.len_is i; flags = d.flags_is i; next = number_at 2 (descriptor_start index place + 14) memory }

abbrev pub buffer_part : ℕ → ℕ → ℕ → Part
buffer_part index place len = record { addr = buffer_start index place; len = len }

whole : (q : Queue) (place len flags next : ℕ) → buffer_start q.index place + len ≤ 1048576 → is_directed q.index (descriptor_of q.index place len flags next) ≡ true
    → has_next (descriptor_of q.index place len flags next) ≡ false → broken q 1 place (descriptor_of q.index place len flags next) ≡ None
unfolding broken
whole q place len flags next within directed last =
    let inside : is_inside (descriptor_of q.index place len flags next) ≡ true = le-leb (buffer_start q.index place + len) 1048576 within in
    rw (inside, directed, last) refl

parts_of_one : (memory : List ℕ) (q : Queue) (place len flags : ℕ) → place < q.n → Describes memory q.index place len flags → buffer_start q.index place + len ≤ 1048576
    → ((next : ℕ) → is_directed q.index (descriptor_of q.index place len flags next) ≡ true) → ((next : ℕ) → has_next (descriptor_of q.index place len flags next) ≡ false)
    → parts_from memory q place ≡ Ok (buffer_part q.index place len ∷ [])
parts_of_one memory q place len flags below d within directed last =
    let next : ℕ = number_at 2 (descriptor_start q.index place + 14) memory in
    let is : descriptor_at memory q.index place ≡ descriptor_of q.index place len flags next = descriptor_is memory q.index place len flags d in
    walked_end memory q place 0 place [] (walked_start memory q place below)
    (ap (broken q 1 place) is ∙ whole q place len flags next within (directed next) (last next))
    (ap has_next is ∙ last next)
    ∙ ap (λ (x : Descriptor). Ok (part_of x ∷ [])) is

-- nothing is there
pub no_chain : (memory : List ℕ) (q : Queue) → available_idx memory q.index ≡ q.position → chain memory q ≡ Ok None
unfolding chain
no_chain memory q same =
    let test : eqb (available_idx memory q.index) q.position ≡ true = eq-eqb (available_idx memory q.index) q.position same in
    rw test refl

not_equal : (a b : ℕ) → a ≢ b → eqb a b ≡ false
not_equal a b other = grind arith

pub not_below : (a b : ℕ) → a ≤ b → ltb b a ≡ false
not_below a b le = grind arith

not_over : (a b : ℕ) → a < b → leb b a ≡ false
not_over a b lt = grind arith

-- the chain of one descriptor
pub one_chain : (memory : List ℕ) (q : Queue) (place len flags : ℕ) → available_idx memory q.index ≢ q.position → ahead q.position (available_idx memory q.index) ≤ q.n
    → available_head memory q q.position ≡ place → place < q.n → Describes memory q.index place len flags → buffer_start q.index place + len ≤ 1048576
    → ((next : ℕ) → is_directed q.index (descriptor_of q.index place len flags next) ≡ true) → ((next : ℕ) → has_next (descriptor_of q.index place len flags next) ≡ false)
    → chain memory q ≡ Ok (Some (record { head = place; parts = buffer_part q.index place len ∷ [] }))
unfolding chain
one_chain memory q place len flags more few head below d within directed last =
    let one : eqb (available_idx memory q.index) q.position ≡ false = not_equal (available_idx memory q.index) q.position more in
    let two : ltb q.n (ahead q.position (available_idx memory q.index)) ≡ false = not_below (ahead q.position (available_idx memory q.index)) q.n few in
    let three : leb q.n place ≡ false = not_over place q.n below in
    rw (one, two, head, three, parts_of_one memory q place len flags below d within directed last) refl

-- What stands in a buffer, and how much room it has.

pub one_room : (part : Part) → room (part ∷ []) ≡ part.len
one_room part = room_more [] part ∙ ap (λ n. n + part.len) room_none ∙ zero_more part.len
  where
    zero_more : (n : ℕ) → 0 + n ≡ n
    zero_more n = omega arith

pub one_read : (part : Part) (memory : List ℕ) → part.addr + part.len ≤ length memory → bytes_at (part ∷ []) memory ≡ read_at part.addr part.len memory
unfolding read_at
one_read part memory within = bytes_more [] part memory within ∙ ap (λ (bytes : List ℕ). bytes ++ take part.len (drop part.addr memory)) (bytes_none memory)

pub one_stored : (part : Part) (bytes memory : List ℕ) → part.addr + part.len ≤ length memory → length bytes ≤ part.len → stored (part ∷ []) bytes memory ≡ written_at part.addr bytes memory
one_stored part bytes memory within short =
    stored_part part [] bytes memory within
    ∙ stored_none (drop part.len bytes) (written_at part.addr (take part.len bytes) memory)
    ∙ ap (λ (bs : List ℕ). written_at part.addr bs memory) (take_all part.len bytes short)
