-- What the front of a frame says, where only the front was read.
use Rattle.std.proofs.Common.{◌≡◌, ◌≤◌, ◌<◌, ℕ, ◌+◌, ◌-◌, ◌==◌, ◌&&◌, Bool, true, false, cond, List, ◌++◌, length, min, take, drop, Option, Some, None, refl, sym, ap, ◌∙◌, arith, tests, length-take, length-drop}
use Rattle.std.specs.Prelude.{nat_lt, Ok, Err}
use Rattle.std.proofs.lemmas.List.{append-nil, drop-append-le, drop-take, drop_all, take-append-le, take_all}
use Rattle.byteorder.specs.Endian.{little_number}
use Rattle.byteorder.specs.Numbers.{little_from-take}
use Rattle.virtqueue.specs.Layout.{written_at}
use Rattle.tipc_proto.specs.declared.faults.FrameFault.{FrameFault}
use Rattle.tipc_proto.specs.declared.faults.FrameFault.TheVariants.{Short, Length, UnknownType, BodyLength}
use Rattle.tipc_proto.specs.declared.frames.Frame.{Frame}
use Rattle.tipc_proto.specs.Frames.{fields_of, frame_in}
use Rattle.tipc_proto.specs.Controls.{body_in, body_length, control_in, four_at, sized}

-- a number that stands within the first m bytes
number_front : (n k m : ℕ) (bytes : List ℕ) → little_number n (drop k (take (k + m) bytes)) ≡ little_number n (take m (drop k bytes))
number_front n k m bytes = ap (little_number n) (drop-take k m bytes)

field_front : (n k m : ℕ) (bytes : List ℕ) → n ≤ m → little_number n (drop k (take (k + m) bytes)) ≡ little_number n (drop k bytes)
field_front n k m bytes le = number_front n k m bytes ∙ little_from-take 0 n m (drop k bytes) (omega (arith, le))

header_front : (bytes : List ℕ) → fields_of (take 16 bytes) ≡ fields_of bytes
header_front bytes =
    let src : little_number 4 (take 16 bytes) ≡ little_number 4 bytes = little_from-take 0 4 16 bytes (omega arith) in
    let dst : little_number 4 (drop 4 (take 16 bytes)) ≡ little_number 4 (drop 4 bytes) = field_front 4 4 12 bytes (omega arith) in
    let reserved : little_number 4 (drop 8 (take 16 bytes)) ≡ little_number 4 (drop 8 bytes) = field_front 4 8 8 bytes (omega arith) in
    let len : little_number 2 (drop 12 (take 16 bytes)) ≡ little_number 2 (drop 12 bytes) = field_front 2 12 4 bytes (omega arith) in
    let flags : little_number 2 (drop 14 (take 16 bytes)) ≡ little_number 2 (drop 14 bytes) = field_front 2 14 2 bytes (omega arith) in
    rw (src, dst, reserved, len, flags) refl

written_whole : (bytes old : List ℕ) → length old ≤ length bytes → written_at 0 bytes old ≡ bytes
unfolding written_at
written_whole bytes old long = ap (λ (rest : List ℕ). bytes ++ rest) (drop_all (0 + length bytes) old (omega (arith, long))) ∙ append-nil bytes

-- the fields that were read from the first bytes, of which there are enough
pub head_read : (bytes old new : List ℕ) (n count : ℕ) (f : Frame) → n ≡ 16 → length old ≡ n → count ≡ length (take n bytes) → 16 ≤ count
    → new ≡ written_at 0 (take n bytes) old → f ≡ fields_of new → f ≡ fields_of bytes
head_read bytes old new n count f n-is old-is count-is enough new-is f-is =
    let whole : written_at 0 (take n bytes) old ≡ take n bytes = written_whole (take n bytes) old (omega (arith, n-is, old-is, count-is, enough)) in
    f-is ∙ ap fields_of (new-is ∙ whole ∙ ap (λ (m : ℕ). take m bytes) n-is) ∙ header_front bytes

pub front_count : (n : ℕ) (bytes : List ℕ) → length (take n bytes) ≡ min n (length bytes)
front_count n bytes = length-take n bytes

-- a frame is as long as its header says, or it is none
pub frame_whole : (bytes : List ℕ) (f : Frame) → f ≡ fields_of bytes → 16 ≤ length bytes → length bytes ≡ 16 + f.len → frame_in bytes ≡ Ok f
unfolding frame_in
frame_whole bytes f is enough long =
    let len : f.len ≡ little_number 2 (drop 12 bytes) = ap (λ (g : Frame). g.len) is in
    let more : nat_lt (length bytes) 16 ≡ false = grind (arith, tests) in
    let same : (length bytes == 16 + little_number 2 (drop 12 bytes)) ≡ true = grind (arith, tests) in
    rw (more, same) (ap (λ (g : Frame). Ok g) (sym is))

pub frame_broken : (bytes : List ℕ) (f : Frame) → f ≡ fields_of bytes → 16 ≤ length bytes → (length bytes == 16 + f.len) ≡ false → frame_in bytes ≡ Err Length
unfolding frame_in
frame_broken bytes f is enough long =
    let len : f.len ≡ little_number 2 (drop 12 bytes) = ap (λ (g : Frame). g.len) is in
    let more : nat_lt (length bytes) 16 ≡ false = grind (arith, tests) in
    let other : (length bytes == 16 + little_number 2 (drop 12 bytes)) ≡ false = grind (arith, tests) in
    rw (more, other) refl

-- the bytes from place k on, of those that were read
behind : (k n : ℕ) (bytes old : List ℕ) → n ≡ length bytes → k ≤ n → take (n - k) (drop k (written_at 0 bytes old)) ≡ drop k bytes
unfolding written_at
behind k n bytes old is le =
    let rest : List ℕ = drop (0 + length bytes) old in
    ap (λ (xs : List ℕ). take (n - k) xs) (drop-append-le k bytes rest (omega (arith, is, le)))
    ∙ take-append-le (n - k) (drop k bytes) rest (omega (arith, is, le, length-drop k bytes))
    ∙ take_all (n - k) (drop k bytes) (omega (arith, is, le, length-drop k bytes))

pub payload_read : (bytes old front part : List ℕ) (n count : ℕ) → n ≡ 281 → count ≡ length (take n bytes) → 16 ≤ count → front ≡ written_at 0 (take n bytes) old
    → part ≡ take (count - 16) (drop 16 front) → part ≡ take 265 (drop 16 bytes)
payload_read bytes old front part n count n-is count-is enough front-is part-is =
    part-is
    ∙ ap (λ (xs : List ℕ). take (count - 16) (drop 16 xs)) front-is
    ∙ behind 16 count (take n bytes) old count-is enough
    ∙ ap (λ (m : ℕ). drop 16 (take m bytes)) n-is
    ∙ drop-take 16 265 bytes

-- a frame that was read as a whole, into a vector that was as long
pub frame_read : (bytes old out items : List ℕ) (len : ℕ) → length old ≡ length bytes → out ≡ written_at 0 (take (length old) bytes) old → len ≡ length bytes
    → take len (out ++ drop (length out) items) ≡ bytes
frame_read bytes old out items len long is len-is =
    let all : take (length old) bytes ≡ bytes = take_all (length old) bytes (omega (arith, long)) in
    let whole : out ≡ bytes = is ∙ ap (λ (xs : List ℕ). written_at 0 xs old) all ∙ written_whole bytes old (omega (arith, long)) in
    ap (λ (xs : List ℕ). take len (xs ++ drop (length xs) items)) whole
    ∙ take-append-le len bytes (drop (length bytes) items) (omega (arith, len-is))
    ∙ take_all len bytes (omega (arith, len-is))

-- where there is no header nothing is behind it
pub behind_header : (bytes : List ℕ) → drop (min (length bytes) 16) bytes ≡ drop 16 bytes
behind_header bytes =
    let P : Bool → Type 0 = λ b. nat_lt (length bytes) 16 ≡ b → drop (min (length bytes) 16) bytes ≡ drop 16 bytes in
    let short : P true = λ is.
    let few : length bytes < 16 = grind (arith, tests) in
    drop_all (min (length bytes) 16) bytes (omega (arith, few)) ∙ sym (drop_all 16 bytes (omega (arith, few))) in
    let enough : P false = λ is.
    let many : 16 ≤ length bytes = grind (arith, tests) in
    let same : min (length bytes) 16 ≡ 16 = omega (arith, many) in
    ap (λ (n : ℕ). drop n bytes) same in
    let go : (b : Bool) → P b = λ b. elim b as (λ v. P v) [ true ↦ short | false ↦ enough ] in
    go (nat_lt (length bytes) 16) refl

-- No control message is longer than 264 bytes, so one byte more tells as much as all.

abbrev IsSmall : Option ℕ → Type 0
IsSmall None = Unit {0}
IsSmall (Some n) = n ≤ 256

small_if : (b : Bool) (one other : Option ℕ) → IsSmall one → IsSmall other → IsSmall (cond b one other)
small_if b one other f g = elim b as (λ v. IsSmall (cond v one other)) [ true ↦ f | false ↦ g ]

bodies_small : (kind : ℕ) → IsSmall (body_length kind)
bodies_small kind =
    small_if (kind == 1) (Some 0) _ (omega arith)
    (small_if (kind == 2) (Some 0) _ (omega arith)
    (small_if (kind == 3) (Some 256) _ (omega arith)
    (small_if (kind == 4) (Some 20) _ (omega arith)
    (small_if (kind == 5) (Some 4) None (omega arith) tt))))

abbrev long_fault : Option ℕ → FrameFault
long_fault None = UnknownType
long_fault (Some n) = BodyLength

too_long : (kind len : ℕ) (body : List ℕ) (o : Option ℕ) → IsSmall o → 256 < length body → sized kind len body o ≡ Err (long_fault o)
too_long kind len body None small long = refl
too_long kind len body (Some wanted) small long =
    let no : ((len == length body) && (len == wanted)) ≡ false = grind (arith, tests) in
    ap (λ b. cond b (body_in kind body) (Err BodyLength)) no

long_message : (payload : List ℕ) → 264 < length payload → control_in payload ≡ Err (long_fault (body_length (four_at 0 payload)))
unfolding control_in
long_message payload long =
    let body : List ℕ = drop 8 payload in
    let kind : ℕ = four_at 0 payload in
    let enough : nat_lt (length payload) 8 ≡ false = grind (arith, tests) in
    ap (λ b. cond b (Err Short) (sized kind (four_at 4 payload) body (body_length kind))) enough
    ∙ too_long kind (four_at 4 payload) body (body_length kind) (bodies_small kind) (omega (arith, long, length-drop 8 payload))

long_front : (payload : List ℕ) → 264 < length payload → control_in (take 265 payload) ≡ control_in payload
long_front payload long =
    let kind : four_at 0 (take 265 payload) ≡ four_at 0 payload = little_from-take 0 4 265 payload (omega arith) in
    long_message (take 265 payload) (omega (arith, long, length-take 265 payload))
    ∙ ap (λ k. Err (long_fault (body_length k))) kind
    ∙ sym (long_message payload long)

pub control_front : (payload : List ℕ) → control_in (take 265 payload) ≡ control_in payload
control_front payload =
    let P : Bool → Type 0 = λ b. nat_lt 264 (length payload) ≡ b → control_in (take 265 payload) ≡ control_in payload in
    let whole : P false = λ is. ap control_in (take_all 265 payload (grind (arith, tests))) in
    let front : P true = λ is. long_front payload (grind (arith, tests)) in
    let go : (b : Bool) → P b = λ b. elim b as (λ v. P v) [ true ↦ front | false ↦ whole ] in
    go (nat_lt 264 (length payload)) refl
