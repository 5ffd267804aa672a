-- How long frames are.
use Rattle.std.proofs.Common.{◌≡◌, ℕ, ◌+◌, ◌-◌, ◌<◌, ◌≤◌, Bool, true, false, ◌&&◌, ltb, List, [], ◌++◌, length, refl, arith}
use Rattle.std.specs.Prelude.{replicate}
use Rattle.std.proofs.lemmas.Bool.{ltb-true}
use Rattle.std.proofs.lemmas.List.{length-append, length-replicate}
use Rattle.byteorder.specs.Endian.{little_bytes}
use Rattle.kernel_values.specs.Words.{is_path, is_word}
use Rattle.kernel_types.specs.GuestMemory.{buffer_size}
use Rattle.kernel_types.specs.Sending.{control_address, frame_header, frame, online_frame, request_frame, answer_frame, leave_frame}
use Rattle.tipc_proto.specs.declared.frames.Frame.{Frame}
use Rattle.tipc_proto.specs.Controls.{message, answer_body, leave_body}
use Rattle.tipc_proto.specs.Frames.{header}
use Rattle.tipc_proto.specs.Names.{name_field}

header_long : (f : Frame) → length (header f) ≡ 16
unfolding header
header_long f = refl

pub frame_long : (src dst : ℕ) (payload : List ℕ) → length (frame src dst payload) ≡ 16 + length payload
unfolding frame
frame_long src dst payload = omega (arith, length-append (header (frame_header src dst (length payload))) payload, header_long (frame_header src dst (length payload)))

message_long : (kind : ℕ) (body : List ℕ) → length (message kind body) ≡ 8 + length body
unfolding message
message_long kind body = length-append (little_bytes 4 kind ++ little_bytes 4 (length body)) body

field_long : (path : List ℕ) → length path ≤ 63 → length (name_field path) ≡ 256
unfolding name_field
field_long path short = omega (arith, length-append path (replicate (256 - length path) 0), length-replicate {A = ℕ} (256 - length path) 0)

answer_long : (target status remote size count : ℕ) → length (answer_body target status remote size count) ≡ 20
unfolding answer_body
answer_long target status remote size count = refl

leave_long : (target : ℕ) → length (leave_body target) ≡ 4
unfolding leave_body
leave_long target = refl

both_true : (a b : Bool) → (a && b) ≡ true → b ≡ true
both_true true b e = e
both_true false b e = absurd (cc)

path_short : (path : List ℕ) → is_path path ≡ true → length path ≤ 63
path_short path is = let few : length path < 64 = ltb-true (length path) 64 (both_true (is_word path) (ltb (length path) 64) is) in omega arith

pub online_short : length online_frame ≤ buffer_size
online_short = omega (arith, frame_long control_address control_address (message 1 []), message_long 1 [])

pub request_short : (src : ℕ) (path : List ℕ) → is_path path ≡ true → length (request_frame src path) ≤ buffer_size
request_short src path is =
    omega (arith, frame_long src control_address (message 3 (name_field path)), message_long 3 (name_field path), field_long path (path_short path is))

pub answer_short : (target status remote size count : ℕ) → length (answer_frame target status remote size count) ≤ buffer_size
answer_short target status remote size count =
    let body : List ℕ = answer_body target status remote size count in
    omega (arith, frame_long control_address control_address (message 4 body), message_long 4 body, answer_long target status remote size count)

pub leave_short : (src target : ℕ) → length (leave_frame src target) ≤ buffer_size
leave_short src target = omega (arith, frame_long src control_address (message 5 (leave_body target)), message_long 5 (leave_body target), leave_long target)
