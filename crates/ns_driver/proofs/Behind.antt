-- What the driver writes to queue 0 leaves the used ring of queue 1 as it is.
use Rattle.std.proofs.Common.{◌≡◌, ℕ, ◌+◌, ◌-◌, ◌%◌, ◌^◌, ◌<◌, ◌≤◌, cond, ltb, List, [], ◌∷◌, ◌++◌, length, take, drop, map, refl, sym, ap, ◌∙◌, append_assoc, arith}
use Rattle.std.specs.List.{All, fold, range_with_len}
use Rattle.std.proofs.lemmas.List.{length-append, length-take, length-drop, drop-drop}
use Rattle.std.proofs.lemmas.List.Elements.{All-head, All-tail}
use Rattle.std.proofs.lemmas.Slice.{drop-append-drop}
use Rattle.byteorder.specs.Endian.{little_bytes, little_number}
use Rattle.virtqueue.specs.Layout.{number_at, written_at, published, available_idx, available_idx_start, available_place, next_index, ahead, used_place, used_idx_start, descriptor_start}
use Rattle.kernel_types.specs.GuestMemory.{UsedElement, ring, given, descriptor_bytes, buffer_start, new_elements, elements_after, used_element, used_idx}

-- ---- a write in front of a place

drop-written : (n at : ℕ) (bytes memory : List ℕ) → at + length bytes ≤ n → at ≤ length memory → drop n (written_at at bytes memory) ≡ drop n memory
unfolding written_at
drop-written n at bytes memory before inside =
    ap (drop n) (sym (append_assoc (take at memory) bytes (drop (at + length bytes) memory)))
    ∙ drop-append-drop (at + length bytes) memory (take at memory ++ bytes) n before
    (omega (arith, length-append (take at memory) bytes, length-take at memory))

length-written : (at : ℕ) (bytes memory : List ℕ) → at + length bytes ≤ length memory → length (written_at at bytes memory) ≡ length memory
unfolding written_at
length-written at bytes memory inside =
    omega (arith, length-append (take at memory) (bytes ++ drop (at + length bytes) memory), length-append bytes (drop (at + length bytes) memory), length-take at memory, length-drop (at + length bytes) memory)

-- ---- a buffer that is given

pub record Sized (size : ℕ) (memory : List ℕ) : Type 0 where
  pub low : 1 ≤ size
  pub high : size ≤ 256
  pub long : length memory ≡ 2 ^ 20

drop-published : (n size head : ℕ) (memory : List ℕ) → Sized size memory → 0x2000 ≤ n → drop n (published memory (ring 0 size) head) ≡ drop n memory
unfolding published
drop-published n size head memory sized behind =
    let i = available_idx memory 0 in
    let low : 1 ≤ size = sized.low in
    let high : size ≤ 256 = sized.high in
    let long : length memory ≡ 2 ^ 20 = sized.long in
    let at = available_place (ring 0 size) i in
    let inner = written_at at (little_bytes 2 head) memory in
    let inner_long : length inner ≡ length memory = length-written at (little_bytes 2 head) memory (omega arith) in
    drop-written n (available_idx_start 0) (little_bytes 2 (next_index i)) inner (omega arith) (omega arith)
    ∙ drop-written n at (little_bytes 2 head) memory (omega arith) (omega arith)

length-published : (size head : ℕ) (memory : List ℕ) → Sized size memory → length (published memory (ring 0 size) head) ≡ length memory
unfolding published
length-published size head memory sized =
    let i = available_idx memory 0 in
    let low : 1 ≤ size = sized.low in
    let high : size ≤ 256 = sized.high in
    let long : length memory ≡ 2 ^ 20 = sized.long in
    let at = available_place (ring 0 size) i in
    let inner = written_at at (little_bytes 2 head) memory in
    let inner_long : length inner ≡ length memory = length-written at (little_bytes 2 head) memory (omega arith) in
    length-written (available_idx_start 0) (little_bytes 2 (next_index i)) inner (omega arith) ∙ inner_long

length-given : (size place : ℕ) (memory : List ℕ) → Sized size memory → place < 32 → length (given size memory place) ≡ length memory
unfolding given
length-given size place memory sized few =
    let low : 1 ≤ size = sized.low in
    let high : size ≤ 256 = sized.high in
    let long : length memory ≡ 2 ^ 20 = sized.long in
    let bytes = descriptor_bytes (buffer_start 0 place) 0x2000 2 in
    let inner = written_at (descriptor_start 0 place) bytes memory in
    let inner_long : length inner ≡ length memory = length-written (descriptor_start 0 place) bytes memory (omega arith) in
    let inner_sized : Sized size inner = record { low = low; high = high; long = omega arith } in
    length-published size place inner inner_sized ∙ inner_long

drop-given : (n size place : ℕ) (memory : List ℕ) → Sized size memory → place < 32 → 0x2000 ≤ n → drop n (given size memory place) ≡ drop n memory
unfolding given
drop-given n size place memory sized few behind =
    let low : 1 ≤ size = sized.low in
    let high : size ≤ 256 = sized.high in
    let long : length memory ≡ 2 ^ 20 = sized.long in
    let bytes = descriptor_bytes (buffer_start 0 place) 0x2000 2 in
    let inner = written_at (descriptor_start 0 place) bytes memory in
    let inner_long : length inner ≡ length memory = length-written (descriptor_start 0 place) bytes memory (omega arith) in
    let inner_sized : Sized size inner = record { low = low; high = high; long = omega arith } in
    drop-published n size place inner inner_sized behind
    ∙ drop-written n (descriptor_start 0 place) bytes memory (omega arith) (omega arith)

-- ---- all that are given

resized : (size place : ℕ) (memory : List ℕ) → Sized size memory → place < 32 → Sized size (given size memory place)
resized size place memory sized few = record {
  low = sized.low;
  high = sized.high;
  long = length-given size place memory sized few ∙ sized.long;
}

pub drop-given_all : (n size : ℕ) (places memory : List ℕ) → Sized size memory → All (λ place. place < 32) places → 0x2000 ≤ n → drop n (fold (given size) memory places) ≡ drop n memory
drop-given_all n size [] memory sized few behind = refl
drop-given_all n size (place ∷ places) memory sized few behind =
    let first : place < 32 = All-head (λ place. place < 32) place places few in
    drop-given_all n size places (given size memory place) (resized size place memory sized first) (All-tail (λ place. place < 32) place places few) behind
    ∙ drop-given n size place memory sized first behind

-- ---- the used ring of queue 1

same_behind : (n at : ℕ) (xs ys : List ℕ) → drop n xs ≡ drop n ys → n ≤ at → drop at xs ≡ drop at ys
same_behind n at xs ys e le =
    let at-is : n + (at - n) ≡ at = omega arith in
    ap (λ k. drop k xs) (sym at-is)
    ∙ sym (drop-drop (at - n) n xs)
    ∙ ap (drop (at - n)) e
    ∙ drop-drop (at - n) n ys
    ∙ ap (λ k. drop k ys) at-is

pub same_idx : (xs ys : List ℕ) → drop 0x5000 xs ≡ drop 0x5000 ys → used_idx xs 1 ≡ used_idx ys 1
same_idx xs ys e = ap (little_number 2) (same_behind 0x5000 (used_idx_start 1) xs ys e (omega arith))

abbrev element : ℕ → ℕ → UsedElement
element id len = record { id = id; len = len }

same_element : (size i : ℕ) (xs ys : List ℕ) → drop 0x5000 xs ≡ drop 0x5000 ys → used_element xs (ring 1 size) i ≡ used_element ys (ring 1 size) i
same_element size i xs ys e =
    let at = used_place (ring 1 size) i in
    ap (λ id. element id (number_at 4 (at + 4) xs)) (ap (little_number 4) (same_behind 0x5000 at xs ys e (omega arith)))
    ∙ ap (λ len. element (number_at 4 at ys) len) (ap (little_number 4) (same_behind 0x5000 (at + 4) xs ys e (omega arith)))

map_same : {X : Type 0} (f g : ℕ → X) → ((k : ℕ) → f k ≡ g k) → (ks : List ℕ) → map f ks ≡ map g ks
map_same f g same [] = refl
map_same f g same (k ∷ ks) = ap (λ x. x ∷ map f ks) (same k) ∙ ap (λ xs. g k ∷ xs) (map_same f g same ks)

pub same_elements : (size seen : ℕ) (xs ys : List ℕ) → drop 0x5000 xs ≡ drop 0x5000 ys → new_elements xs (ring 1 size) seen ≡ new_elements ys (ring 1 size) seen
unfolding new_elements
same_elements size seen xs ys e =
    let q = ring 1 size in
    ap (λ idx. elements_after xs q seen (ahead seen idx)) (same_idx xs ys e)
    ∙ (let count = ahead seen (used_idx ys 1) in
    ap (λ (es : List UsedElement). cond (ltb size count) [] es)
    (map_same (λ k. used_element xs q ((seen + k) % 65536)) (λ k. used_element ys q ((seen + k) % 65536)) (λ k. same_element size ((seen + k) % 65536) xs ys e) (range_with_len 0 count)))
