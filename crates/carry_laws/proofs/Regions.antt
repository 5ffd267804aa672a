-- What is read of memory after a write to it.
use Rattle.std.proofs.Common.{◌≡◌, ℕ, ◌+◌, ◌-◌, ◌<◌, ◌≤◌, List, ◌++◌, length, take, drop, refl, sym, ap, ◌∙◌, ◌^◌, [], arith, inl, inr, append_assoc}
use Rattle.std.proofs.lemmas.Bool.{cases_lt}
use Rattle.std.proofs.lemmas.List.{length-take, length-drop, length-append, length-take-le, take-append-le, drop-append-le, drop-drop, drop_at, take_at, take-take, drop-take, append-nil}
use Rattle.byteorder.specs.Numbers.{little_from-take, little_from-append, little_number-reads_back, length-bytes_low_first}
use Rattle.byteorder.specs.Endian.{little_bytes}
use Rattle.virtqueue.specs.Layout.{number_at, written_at}
use Rattle.kernel_types.specs.GuestMemory.{read_at}

-- a part and another that begins at `low` have no byte in common
abbrev pub IsApart : ℕ → ℕ → ℕ → ℕ → Type 0
IsApart at len low size = low < at + len → low + size ≤ at

pub written_length : (low : ℕ) (bytes memory : List ℕ) → low + length bytes ≤ length memory → length (written_at low bytes memory) ≡ length memory
unfolding written_at
written_length low bytes memory within =
    omega (
      arith,
      length-append (take low memory) (bytes ++ drop (low + length bytes) memory),
      length-append bytes (drop (low + length bytes) memory),
      length-take low memory,
      length-drop (low + length bytes) memory,
    )

before : (at len low : ℕ) (rest memory : List ℕ) → low ≤ length memory → at + len ≤ low → take len (drop at (take low memory ++ rest)) ≡ take len (drop at memory)
before at len low rest memory within first =
    let long : length (take low memory) ≡ low = length-take-le low memory within in
    let cut : drop at (take low memory ++ rest) ≡ drop at (take low memory) ++ rest = drop-append-le at (take low memory) rest (omega arith) in
    let sum : at + (low - at) ≡ low = omega arith in
    let part : drop at (take low memory) ≡ take (low - at) (drop at memory) = ap (λ n. drop at (take n memory)) (sym sum) ∙ drop-take at (low - at) memory in
    ap (take len) cut
    ∙ take-append-le len (drop at (take low memory)) rest (omega (arith, length-drop at (take low memory)))
    ∙ ap (take len) part
    ∙ take-take len (low - at) (drop at memory) (omega arith)

behind : (at low : ℕ) (bytes memory : List ℕ) → low ≤ length memory → low + length bytes ≤ at → drop at (take low memory ++ (bytes ++ drop (low + length bytes) memory)) ≡ drop at memory
behind at low bytes memory within last =
    let long : length (take low memory ++ bytes) ≡ low + length bytes = omega (arith, length-append (take low memory) bytes, length-take-le low memory within) in
    let sum : low + length bytes + (at - (low + length bytes)) ≡ at = omega arith in
    let rest : List ℕ = drop (low + length bytes) memory in
    ap (drop at) (sym (append_assoc (take low memory) bytes rest))
    ∙ ap (λ n. drop n ((take low memory ++ bytes) ++ rest)) (sym sum)
    ∙ sym (drop-drop (at - (low + length bytes)) (low + length bytes) ((take low memory ++ bytes) ++ rest))
    ∙ ap (drop (at - (low + length bytes))) (drop_at (take low memory ++ bytes) rest (low + length bytes) long)
    ∙ drop-drop (at - (low + length bytes)) (low + length bytes) memory
    ∙ ap (λ n. drop n memory) sum

-- a part that the write does not touch stays
pub read_apart : (at len low : ℕ) (bytes memory : List ℕ) → low ≤ length memory → IsApart at len low (length bytes) → read_at at len (written_at low bytes memory) ≡ read_at at len memory
unfolding read_at written_at
read_apart at len low bytes memory within apart = elim (cases_lt low (at + len)) [
  | inl over ↦ ap (take len) (behind at low bytes memory within (apart over))
  | inr first ↦ before at len low (bytes ++ drop (low + length bytes) memory) memory within (omega arith)
]

-- the part that was written is read again
pub read_written : (low : ℕ) (bytes memory : List ℕ) → low ≤ length memory → read_at low (length bytes) (written_at low bytes memory) ≡ bytes
unfolding read_at written_at
read_written low bytes memory within =
    ap (take (length bytes)) (drop_at (take low memory) (bytes ++ drop (low + length bytes) memory) low (length-take-le low memory within))
    ∙ take_at bytes (drop (low + length bytes) memory) (length bytes) refl

-- a number is what its bytes say
pub number_read : (n at : ℕ) (memory : List ℕ) → number_at n 0 (read_at at n memory) ≡ number_at n at memory
unfolding read_at
number_read n at memory = little_from-take 0 n n (drop at memory) (omega arith)

pub number_apart : (n at low : ℕ) (bytes memory : List ℕ) → low ≤ length memory → IsApart at n low (length bytes) → number_at n at (written_at low bytes memory) ≡ number_at n at memory
number_apart n at low bytes memory within apart =
    sym (number_read n at (written_at low bytes memory)) ∙ ap (number_at n 0) (read_apart at n low bytes memory within apart) ∙ number_read n at memory

-- a number inside of what was written
pub number_inside : (n low off : ℕ) (bytes memory : List ℕ) → low ≤ length memory → off + n ≤ length bytes → number_at n (low + off) (written_at low bytes memory) ≡ number_at n off bytes
unfolding written_at
number_inside n low off bytes memory within inside =
    let rest : List ℕ = drop (low + length bytes) memory in
    let cut : drop (low + off) (take low memory ++ (bytes ++ rest)) ≡ drop off bytes ++ rest =
    sym (drop-drop off low (take low memory ++ (bytes ++ rest)))
    ∙ ap (drop off) (drop_at (take low memory) (bytes ++ rest) low (length-take-le low memory within))
    ∙ drop-append-le off bytes rest (omega arith) in
    ap (number_at n 0) cut ∙ little_from-append n (drop off bytes) rest (omega (arith, length-drop off bytes))

pub bytes_long : (n x : ℕ) → length (little_bytes n x) ≡ n
bytes_long n x = length-bytes_low_first 0 n x

-- a number that was written is read again
pub number_written : (n low x : ℕ) (memory : List ℕ) → low ≤ length memory → x < 256 ^ n → number_at n low (written_at low (little_bytes n x) memory) ≡ x
number_written n low x memory within small =
    let zero_off : low + 0 ≡ low = omega arith in
    ap (λ at. number_at n at (written_at low (little_bytes n x) memory)) (sym zero_off)
    ∙ number_inside n low 0 (little_bytes n x) memory within (omega (arith, bytes_long n x))
    ∙ ap (number_at n 0) (sym (append-nil (little_bytes n x)))
    ∙ little_number-reads_back n x [] small
