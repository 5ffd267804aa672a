-- The frames that the two sides write: reserved and flags are 0.
use Rattle.std.specs.Prelude.{ℕ, List, [], ◌++◌, length}
use Rattle.tipc_proto.specs.declared.frames.Frame.{Frame}
use Rattle.tipc_proto.specs.Frames.{header}
use Rattle.tipc_proto.specs.Names.{name_field}
use Rattle.tipc_proto.specs.Controls.{message, answer_body, leave_body}

-- the address of control messages, on both sides
abbrev pub control_address : ℕ
control_address = 53

abbrev pub frame_header : ℕ → ℕ → ℕ → Frame
frame_header src dst len = record { src = src; dst = dst; reserved = 0; len = len; flags = 0 }

unfoldable pub frame : ℕ → ℕ → List ℕ → List ℕ
frame src dst payload = header (frame_header src dst (length payload)) ++ payload

abbrev pub online_frame : List ℕ
online_frame = frame control_address control_address (message 1 [])

-- a request for a connection, from the driver's address of it
abbrev pub request_frame : ℕ → List ℕ → List ℕ
request_frame src path = frame src control_address (message 3 (name_field path))

-- the answer to a request, from the device
abbrev pub answer_frame : ℕ → ℕ → ℕ → ℕ → ℕ → List ℕ
answer_frame target status remote size count = frame control_address control_address (message 4 (answer_body target status remote size count))

-- the end of a connection, to the receiver's address of it
abbrev pub leave_frame : ℕ → ℕ → List ℕ
leave_frame src target = frame src control_address (message 5 (leave_body target))
