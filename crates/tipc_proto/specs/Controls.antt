-- A control message: type 4, body_len 4, then the body, all little endian.
use Rattle.std.specs.Prelude.{◌≡◌, ℕ, ◌^◌, ◌<◌, ◌==◌, ◌&&◌, if◌then◌else◌, nat_lt, List, [], ◌++◌, length, drop, Option, Some, None, Result, Ok, Err, IsTrue}
use Rattle.byteorder.specs.Endian.{little_bytes, little_number}
use Rattle.kernel_values.specs.Words.{is_path}
use Rattle.tipc_proto.specs.declared.controls.Control.{Control}
use Rattle.tipc_proto.specs.declared.controls.Control.TheVariants.{GoOnline, GoOffline, ConnReq, ConnRsp, DiscReq}
use Rattle.tipc_proto.specs.declared.faults.FrameFault.{FrameFault}
use Rattle.tipc_proto.specs.declared.faults.FrameFault.TheVariants.{Short, UnknownType, BodyLength}
use Rattle.tipc_proto.specs.Names.{name_field, name_in}

-- the number in the four bytes at a place
abbrev pub four_at : ℕ → List ℕ → ℕ
four_at at bytes = little_number 4 (drop at bytes)

-- a message of a type, with its body
unfoldable pub message : ℕ → List ℕ → List ℕ
message kind body = little_bytes 4 kind ++ little_bytes 4 (length body) ++ body

-- the bytes of the answer to a request for a connection
unfoldable pub answer_body : ℕ → ℕ → ℕ → ℕ → ℕ → List ℕ
answer_body target status remote size count = little_bytes 4 target ++ little_bytes 4 status ++ little_bytes 4 remote ++ little_bytes 4 size ++ little_bytes 4 count

unfoldable pub leave_body : ℕ → List ℕ
leave_body target = little_bytes 4 target

-- the payload spells the control message: a case for each type
abbrev pub IsControl : List ℕ → Control → Type 0
IsControl payload GoOnline = payload ≡ message 1 []
IsControl payload GoOffline = payload ≡ message 2 []
IsControl payload (ConnReq path) = (payload ≡ message 3 (name_field path)) × IsTrue (is_path path)
IsControl payload (ConnRsp target status remote size count) =
    (payload ≡ message 4 (answer_body target status remote size count)) × (target < 2 ^ 32) × (status < 2 ^ 32) × (remote < 2 ^ 32) × (size < 2 ^ 32) × (count < 2 ^ 32)
IsControl payload (DiscReq target) = (payload ≡ message 5 (leave_body target)) × (target < 2 ^ 32)

-- the length of the body of each type
abbrev pub body_length : ℕ → Option ℕ
body_length kind =
    if kind == 1 then Some 0
    else if kind == 2 then Some 0
    else if kind == 3 then Some 256
    else if kind == 4 then Some 20
    else if kind == 5 then Some 4
    else None

abbrev pub request : Result (List ℕ) FrameFault → Result Control FrameFault
request (Ok path) = Ok (ConnReq path)
request (Err fault) = Err fault

unfoldable pub body_in : ℕ → List ℕ → Result Control FrameFault
body_in kind body =
    if kind == 1 then Ok GoOnline
    else if kind == 2 then Ok GoOffline
    else if kind == 3 then request (name_in body)
    else if kind == 4 then Ok (ConnRsp (four_at 0 body) (four_at 4 body) (four_at 8 body) (four_at 12 body) (four_at 16 body))
    else Ok (DiscReq (four_at 0 body))

-- a body whose type has this length
abbrev pub sized : ℕ → ℕ → List ℕ → Option ℕ → Result Control FrameFault
sized kind body_len body None = Err UnknownType
sized kind body_len body (Some wanted) = if (body_len == length body) && (body_len == wanted) then body_in kind body else Err BodyLength

-- the control message, or the first fault
unfoldable pub control_in : List ℕ → Result Control FrameFault
control_in payload =
    if nat_lt (length payload) 8 then Err Short
    else sized (four_at 0 payload) (four_at 4 payload) (drop 8 payload) (body_length (four_at 0 payload))
