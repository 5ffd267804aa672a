-- A frame: src 4, dst 4, reserved 4, len 2, flags 2, all little endian, then exactly len bytes.
use Rattle.std.specs.Prelude.{◌≡◌, ℕ, ◌+◌, ◌^◌, ◌<◌, ◌==◌, if◌then◌else◌, nat_lt, List, ◌++◌, length, drop, Result, Ok, Err}
use Rattle.byteorder.specs.Endian.{little_bytes, little_number}
use Rattle.tipc_proto.specs.declared.faults.FrameFault.{FrameFault}
use Rattle.tipc_proto.specs.declared.faults.FrameFault.TheVariants.{Short, Length}
use Rattle.tipc_proto.specs.declared.frames.Frame.{Frame}

unfoldable pub header : Frame → List ℕ
header f = little_bytes 4 f.src ++ little_bytes 4 f.dst ++ little_bytes 4 f.reserved ++ little_bytes 2 f.len ++ little_bytes 2 f.flags

-- the bytes spell the frame with this payload
pub record IsFrame (bytes : List ℕ) (f : Frame) (payload : List ℕ) : Type 0 where
  pub spelled : bytes ≡ header f ++ payload
  pub long : length payload ≡ f.len
  pub src : f.src < 2 ^ 32
  pub dst : f.dst < 2 ^ 32
  pub reserved : f.reserved < 2 ^ 32
  pub len : f.len < 2 ^ 16
  pub flags : f.flags < 2 ^ 16

-- the numbers of the header in front
abbrev pub fields_of : List ℕ → Frame
fields_of bytes = record {
  src = little_number 4 bytes;
  dst = little_number 4 (drop 4 bytes);
  reserved = little_number 4 (drop 8 bytes);
  len = little_number 2 (drop 12 bytes);
  flags = little_number 2 (drop 14 bytes);
}

-- the frame, or the first fault
unfoldable pub frame_in : List ℕ → Result Frame FrameFault
frame_in bytes =
    if nat_lt (length bytes) 16 then Err Short
    else if length bytes == 16 + little_number 2 (drop 12 bytes) then Ok (fields_of bytes)
    else Err Length
