-- The bytes of a chain, part by part.
use Rattle.std.proofs.Common.{◌≡◌, ℕ, zero, suc, ◌+◌, ◌-◌, ◌<◌, ◌≤◌, List, [], ◌∷◌, ◌++◌, length, get_or, set, take, drop, map, refl, sym, ap, ◌∙◌, append_assoc, min, arith}
use Rattle.std.specs.List.{flat_map, fold, range_with_len, zip}
use Rattle.std.proofs.lemmas.List.{append-nil, drop_more, map-append, length-map, length-set, length-take, length-append, take_more_set, drop-set-lt, drop-drop, take_at, drop_at, take-append-drop, take_min}
use Rattle.std.proofs.lemmas.List.FromFn.{length-range_with_len}
use Rattle.std.proofs.lemmas.List.Sums.{fold-append, sum_by_push}
use Rattle.std.proofs.lemmas.List.Concat.{length-flat_map}
use Rattle.std.proofs.lemmas.Grind.{flat_map-append}
use Rattle.virtqueue.specs.declared.parts.Part.{Part}
use Rattle.virtqueue.specs.Layout.{written_at}
use Rattle.virtqueue.specs.Bytes.{addresses, room, bytes_at, put_byte, stored}

-- ---- reading

range_bytes : (a n : ℕ) (memory : List ℕ) → a + n ≤ length memory → map (λ at. get_or memory at 0) (range_with_len a n) ≡ take n (drop a memory)
range_bytes a zero memory le = refl
range_bytes a (suc n) memory le =
    let first : drop a memory ≡ get_or memory a 0 ∷ drop (a + 1) memory = drop_more memory a 0 (omega arith) in
    rw first (ap (λ (bs : List ℕ). get_or memory a 0 ∷ bs) (range_bytes (a + 1) n memory (omega arith)))

addresses_more : (parts : List Part) (part : Part) → addresses (parts ++ part ∷ []) ≡ addresses parts ++ range_with_len part.addr part.len
unfolding addresses
addresses_more parts part =
    flat_map-append (λ part. range_with_len part.addr part.len) parts (part ∷ [])
    ∙ ap (λ (more : List ℕ). flat_map (λ part. range_with_len part.addr part.len) parts ++ more) (append-nil (range_with_len part.addr part.len))

pub bytes_more : (parts : List Part) (part : Part) (memory : List ℕ) → part.addr + part.len ≤ length memory
    → bytes_at (parts ++ part ∷ []) memory ≡ bytes_at parts memory ++ take part.len (drop part.addr memory)
unfolding bytes_at
bytes_more parts part memory le =
    ap (map (λ at. get_or memory at 0)) (addresses_more parts part)
    ∙ map-append (λ at. get_or memory at 0) (addresses parts) (range_with_len part.addr part.len)
    ∙ ap (λ (bs : List ℕ). map (λ at. get_or memory at 0) (addresses parts) ++ bs) (range_bytes part.addr part.len memory le)

pub room_more : (parts : List Part) (part : Part) → room (parts ++ part ∷ []) ≡ room parts + part.len
unfolding room
room_more parts part = sum_by_push (λ part. part.len) parts part

-- a write behind a write at the front
pub written_behind : (front more xs : List ℕ) → written_at (length front) more (written_at 0 front xs) ≡ written_at 0 (front ++ more) xs
unfolding written_at
written_behind front more xs =
    let zero_front : 0 + length front ≡ length front = omega arith in
    let long : 0 + length (front ++ more) ≡ length front + length more = omega (arith, length-append front more) in
    let kept : take (length front) (front ++ drop (length front) xs) ≡ front = take_at front (drop (length front) xs) (length front) refl in
    let rest : drop (length front + length more) (front ++ drop (length front) xs) ≡ drop (length front + length more) xs =
    sym (drop-drop (length more) (length front) (front ++ drop (length front) xs))
    ∙ ap (drop (length more)) (drop_at front (drop (length front) xs) (length front) refl)
    ∙ drop-drop (length more) (length front) xs in
    rw (zero_front, kept, rest, long) (sym (append_assoc front more (drop (length front + length more) xs)))

-- as many bytes of two lists as there is room for
pub take_both : (n : ℕ) (xs ys : List ℕ) → take n (xs ++ ys) ≡ take n xs ++ take (n - length (take n xs)) ys
take_both zero xs ys = refl
take_both (suc n) [] ys = let e : suc n - 0 ≡ suc n = omega arith in rw e refl
take_both (suc n) (x ∷ xs) ys =
    let e : suc n - suc (length (take n xs)) ≡ n - length (take n xs) = omega arith in
    rw e (ap (λ (zs : List ℕ). x ∷ zs) (take_both n xs ys))

-- One part more is copied to the front of what holds n bytes.
pub read_more : (bytes part before now : List ℕ) (n done len : ℕ) → done ≡ length (take n bytes) → now ≡ written_at 0 (take n bytes) before → len ≡ min (n - done) (length part)
    → (done + len ≡ length (take n (bytes ++ part))) × (written_at done (take len part) now ≡ written_at 0 (take n (bytes ++ part)) before)
read_more bytes part before now n done len done-is now-is len-is =
    let both = take_both n bytes part in
    let copied : take len part ≡ take (n - length (take n bytes)) part = rw (len-is, done-is) (take_min (n - length (take n bytes)) part) in (
      rw (both, ← copied) (omega (arith, length-append (take n bytes) (take len part), length-take len part)),
      rw (both, ← copied, now-is, done-is) (written_behind (take n bytes) (take len part) before),
    )

-- ---- writing

no_values : (xs : List ℕ) → zip {K = ℕ} {X = ℕ} xs [] ≡ []
no_values [] = refl
no_values (x ∷ xs) = refl

zip_parts : (xs ys vs : List ℕ) (n : ℕ) → length xs ≡ n → zip (xs ++ ys) vs ≡ zip xs (take n vs) ++ zip ys (drop n vs)
zip_parts [] ys vs zero e = refl
zip_parts [] ys vs (suc n) e = absurd (omega arith)
zip_parts (x ∷ xs) ys vs zero e = absurd (omega arith)
zip_parts (x ∷ xs) ys [] (suc n) e = sym (no_values ys)
zip_parts (x ∷ xs) ys (v ∷ vs) (suc n) e = ap (λ (ps : List (ℕ × ℕ)). (x, v) ∷ ps) (zip_parts xs ys vs n (omega arith))

written_nothing : (a : ℕ) (memory : List ℕ) → written_at a [] memory ≡ memory
unfolding written_at
written_nothing a memory =
    let e : a + 0 ≡ a = omega arith in
    rw e (take-append-drop a memory)

written_first : (a v : ℕ) (vs memory : List ℕ) → a < length memory → written_at (a + 1) vs (set memory a v) ≡ written_at a (v ∷ vs) memory
unfolding written_at
written_first a v vs memory lt =
    let front : take (a + 1) (set memory a v) ≡ take a memory ++ v ∷ [] = take_more_set memory a v lt in
    let rest : drop (a + 1 + length vs) (set memory a v) ≡ drop (a + 1 + length vs) memory = drop-set-lt (a + 1 + length vs) memory a v (omega arith) in
    let e : a + suc (length vs) ≡ a + 1 + length vs = omega arith in
    rw (front, rest, e) (append_assoc (take a memory) (v ∷ []) (vs ++ drop (a + 1 + length vs) memory))

range_stored : (a n : ℕ) (vs memory : List ℕ) → a + n ≤ length memory → length vs ≤ n → fold put_byte memory (zip (range_with_len a n) vs) ≡ written_at a vs memory
range_stored a n [] memory le short = rw (no_values (range_with_len a n)) (sym (written_nothing a memory))
range_stored a zero (v ∷ vs) memory le short = absurd (omega arith)
range_stored a (suc n) (v ∷ vs) memory le short =
    range_stored (a + 1) n vs (set memory a v) (omega (arith, length-set memory a v)) (omega arith) ∙ written_first a v vs memory (omega arith)

pub stored_part : (part : Part) (parts : List Part) (bytes memory : List ℕ) → part.addr + part.len ≤ length memory
    → stored (part ∷ parts) bytes memory ≡ stored parts (drop part.len bytes) (written_at part.addr (take part.len bytes) memory)
unfolding stored addresses
stored_part part parts bytes memory le =
    let range = range_with_len part.addr part.len in
    ap (fold put_byte memory) (zip_parts range (addresses parts) bytes part.len (length-range_with_len part.addr part.len))
    ∙ fold-append put_byte memory (zip range (take part.len bytes)) (zip (addresses parts) (drop part.len bytes))
    ∙ ap (λ (m : List ℕ). fold put_byte m (zip (addresses parts) (drop part.len bytes))) (range_stored part.addr part.len (take part.len bytes) memory le (omega (arith, length-take part.len bytes)))

pub stored_none : (bytes memory : List ℕ) → stored [] bytes memory ≡ memory
unfolding stored addresses
stored_none bytes memory = refl

pub room_none : room [] ≡ 0
unfolding room
room_none = refl

pub bytes_none : (memory : List ℕ) → bytes_at [] memory ≡ []
unfolding bytes_at addresses
bytes_none memory = refl

-- nothing is copied before the first part
pub read_none : (n : ℕ) (memory out : List ℕ) → (0 ≡ length (take n (bytes_at [] memory))) × (out ≡ written_at 0 (take n (bytes_at [] memory)) out)
read_none n memory out =
    let e : take n (bytes_at [] memory) ≡ [] = ap (take n) (bytes_none memory) ∙ take_none n in
    (rw e refl, rw e (sym (written_nothing 0 out)))
  where
    take_none : (n : ℕ) → take {A = ℕ} n [] ≡ []
    take_none zero = refl
    take_none (suc n) = refl

-- one part more is stored, and the rest is still to be stored
pub store_more : (parts : List Part) (i : ℕ) (d : Part) (rest memory whole : List ℕ) → i < length parts → (get_or parts i d).addr + (get_or parts i d).len ≤ length memory
    → stored (drop i parts) rest memory ≡ whole → stored (drop (i + 1) parts) (drop (get_or parts i d).len rest) (written_at (get_or parts i d).addr (take (get_or parts i d).len rest) memory) ≡ whole
store_more parts i d rest memory whole lt within so_far =
    sym (stored_part (get_or parts i d) (drop (i + 1) parts) rest memory within)
    ∙ ap (λ (ps : List Part). stored ps rest memory) (sym (drop_more parts i d lt))
    ∙ so_far

-- as many bytes stand at the addresses as the parts hold
pub bytes_long : (parts : List Part) (memory : List ℕ) → length (bytes_at parts memory) ≡ room parts
unfolding bytes_at addresses room
bytes_long parts memory =
    length-map (addresses parts) (λ at. get_or memory at 0)
    ∙ length-flat_map (λ part. range_with_len part.addr part.len) parts
    ∙ simp length-range_with_len
