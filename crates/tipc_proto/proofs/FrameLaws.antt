-- A frame that is read is spelled by its bytes, and what is spelled is read again.
use Rattle.std.proofs.Common.{◌≡◌, ℕ, ◌+◌, ◌≤◌, true, false, cond, eqb, ltb, List, ◌++◌, length, drop, Result, Ok, Err, refl, sym, ap, ◌∙◌, subst, arith}
use Rattle.std.specs.Prelude.{IfOk}
use Rattle.std.proofs.lemmas.Bool.{eqb-true, ltb-false, le-ltb, eq-eqb}
use Rattle.std.proofs.lemmas.List.{length-append, length-drop}
use Rattle.byteorder.specs.Endian.{little_bytes, little_number}
use Rattle.byteorder.specs.Numbers.{little_number-reads_back}
use Rattle.tipc_proto.specs.declared.faults.FrameFault.{FrameFault}
use Rattle.tipc_proto.specs.declared.faults.FrameFault.TheVariants.{Short, Length}
use Rattle.tipc_proto.specs.declared.frames.Frame.{Frame}
use Rattle.tipc_proto.specs.Frames.{header, IsFrame, fields_of, frame_in}
use Rattle.tipc_proto.proofs.Cases.{passed, held, same_value}
use Rattle.tipc_proto.proofs.Numbers.{IsBytes, IsBytes-drop, two_at, four_at_place, two_below, four_below}

header_taken : (bytes : List ℕ) → IsBytes bytes → 16 ≤ length bytes → header (fields_of bytes) ++ drop 16 bytes ≡ bytes
unfolding header
header_taken bytes fits le =
    let flags = two_at 14 bytes fits (omega arith) in
    let len = ap (λ (r : List ℕ). little_bytes 2 (little_number 2 (drop 12 bytes)) ++ r) flags ∙ two_at 12 bytes fits (omega arith) in
    let reserved = ap (λ (r : List ℕ). little_bytes 4 (little_number 4 (drop 8 bytes)) ++ r) len ∙ four_at_place 8 bytes fits (omega arith) in
    let dst = ap (λ (r : List ℕ). little_bytes 4 (little_number 4 (drop 4 bytes)) ++ r) reserved ∙ four_at_place 4 bytes fits (omega arith) in
    ap (λ (r : List ℕ). little_bytes 4 (little_number 4 bytes) ++ r) dst ∙ four_at_place 0 bytes fits (omega arith)

pub frame_takes : (bytes : List ℕ) (f : Frame) → IsBytes bytes → frame_in bytes ≡ Ok f → IsFrame bytes f (drop 16 bytes)
unfolding frame_in
frame_takes bytes f fits e =
    let len = little_number 2 (drop 12 bytes) in
    let first = passed (ltb (length bytes) 16) Short (cond (eqb (length bytes) (16 + len)) (Ok (fields_of bytes)) (Err Length)) f e in
    let second = held (eqb (length bytes) (16 + len)) (Ok (fields_of bytes)) Length f first.1 in
    let enough : 16 ≤ length bytes = ltb-false (length bytes) 16 first.0 in
    let whole : length bytes ≡ 16 + len = eqb-true (length bytes) (16 + len) second.0 in
    subst (λ (f : Frame). IsFrame bytes f (drop 16 bytes)) (same_value (fields_of bytes) f second.1) (record {
      spelled = sym (header_taken bytes fits enough);
      long = omega (arith, length-drop 16 bytes);
      src = four_below bytes fits;
      dst = four_below (drop 4 bytes) (IsBytes-drop 4 bytes fits);
      reserved = four_below (drop 8 bytes) (IsBytes-drop 8 bytes fits);
      len = two_below (drop 12 bytes) (IsBytes-drop 12 bytes fits);
      flags = two_below (drop 14 bytes) (IsBytes-drop 14 bytes fits);
    })

header_long : (f : Frame) → length (header f) ≡ 16
unfolding header
header_long f = refl

same_frame : (f : Frame) (src dst reserved len flags : ℕ) → src ≡ f.src → dst ≡ f.dst → reserved ≡ f.reserved → len ≡ f.len → flags ≡ f.flags
    → record { src = src; dst = dst; reserved = reserved; len = len; flags = flags } ≡ f
same_frame f src dst reserved len flags a b c d e = rw (a, b, c, d, e) refl

header_fields : (bytes : List ℕ) (f : Frame) (payload : List ℕ) → IsFrame bytes f payload → fields_of (header f ++ payload) ≡ f
unfolding header
header_fields bytes f payload h =
    let src : little_number 4 (header f ++ payload) ≡ f.src = little_number-reads_back 4 f.src (drop 4 (header f ++ payload)) h.src in
    let dst : little_number 4 (drop 4 (header f ++ payload)) ≡ f.dst = little_number-reads_back 4 f.dst (drop 8 (header f ++ payload)) h.dst in
    let reserved : little_number 4 (drop 8 (header f ++ payload)) ≡ f.reserved = little_number-reads_back 4 f.reserved (drop 12 (header f ++ payload)) h.reserved in
    let len : little_number 2 (drop 12 (header f ++ payload)) ≡ f.len = little_number-reads_back 2 f.len (drop 14 (header f ++ payload)) h.len in
    let flags : little_number 2 (drop 14 (header f ++ payload)) ≡ f.flags = little_number-reads_back 2 f.flags (drop 16 (header f ++ payload)) h.flags in
    same_frame f (little_number 4 (header f ++ payload)) (little_number 4 (drop 4 (header f ++ payload))) (little_number 4 (drop 8 (header f ++ payload))) (little_number 2 (drop 12 (header f ++ payload))) (little_number 2 (drop 14 (header f ++ payload))) src dst reserved len flags

pub frame_again : (bytes : List ℕ) (f : Frame) (payload : List ℕ) → IsFrame bytes f payload → frame_in bytes ≡ Ok f
unfolding frame_in
frame_again bytes f payload h =
    let fields = header_fields bytes f payload h in
    let len : little_number 2 (drop 12 (header f ++ payload)) ≡ f.len = ap (λ (g : Frame). g.len) fields in
    let long : length (header f ++ payload) ≡ 16 + f.len = omega (arith, length-append (header f) payload, header_long f, h.long) in
    let enough : ltb (length (header f ++ payload)) 16 ≡ false = le-ltb (length (header f ++ payload)) 16 (omega arith) in
    let whole : eqb (length (header f ++ payload)) (16 + little_number 2 (drop 12 (header f ++ payload))) ≡ true = eq-eqb _ _ (long ∙ ap (λ (n : ℕ). 16 + n) (sym len)) in
    ap frame_in h.spelled ∙ rw (enough, whole, fields) refl

pub frame_found : (bytes : List ℕ) (r : Result Frame FrameFault) → IsBytes bytes → r ≡ frame_in bytes → IfOk r (λ f. IsFrame bytes f (drop 16 bytes))
frame_found bytes (Ok f) fits e = frame_takes bytes f fits (sym e)
frame_found bytes (Err fault) fits e = tt
