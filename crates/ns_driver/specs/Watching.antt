-- What frames make of one connection, as far as a wait looks at it: its status, and whether its inbox has a message. Frames
-- for other connections leave it as it is.
use Rattle.std.specs.Prelude.{ℕ, Bool, true, false, ◌==◌, ◌||◌, not, List, [], ◌∷◌, drop, Result, Ok, Err, if◌then◌else◌}
use Rattle.tipc_proto.specs.declared.frames.Frame.{Frame}
use Rattle.tipc_proto.specs.declared.faults.FrameFault.{FrameFault}
use Rattle.tipc_proto.specs.declared.controls.Control.{Control}
use Rattle.tipc_proto.specs.declared.controls.Control.TheVariants.{ConnRsp, DiscReq}
use Rattle.tipc_proto.specs.Frames.{frame_in}
use Rattle.tipc_proto.specs.Controls.{control_in}
use Rattle.kernel_values.specs.declared.world.Connection.{Connection}
use Rattle.kernel_values.specs.declared.world.ConnectionStatus.{ConnectionStatus}
use Rattle.kernel_values.specs.declared.world.ConnectionStatus.TheVariants as connection_status
use Rattle.kernel_types.specs.Drains.{answered_status, left_status}
use Rattle.kernel_types.specs.Sending.{control_address}
use Rattle.ns_driver.specs.declared.watching.Glimpse.{Glimpse}

abbrev pub is_empty : List (List ℕ) → Bool
is_empty [] = true
is_empty (bytes ∷ rest) = false

abbrev pub glimpse_of : Connection → Glimpse
glimpse_of connection = record { status = connection.status; has_message = not (is_empty connection.inbox) }

abbrev pub is_established : ConnectionStatus → Bool
is_established (connection_status.Established remote size) = true
is_established other = false

abbrev pub answer_seen : ℕ → ℕ → ℕ → Glimpse → Glimpse
answer_seen number remote size g = record g { status = answered_status number remote size g.status }

abbrev pub end_seen : Glimpse → Glimpse
end_seen g = record g { status = left_status g.status }

abbrev pub message_seen : Glimpse → Glimpse
message_seen g = record g { has_message = g.has_message || is_established g.status }

-- a change of what is seen where the frame is for this connection
abbrev pub seen_if : Bool → (Glimpse → Glimpse) → Glimpse → Glimpse
seen_if own change g = (if own then change g else g)

abbrev pub control_seen : ℕ → Result Control FrameFault → Glimpse → Glimpse
control_seen address (Ok (ConnRsp target status remote size count)) g = seen_if (target == address) (answer_seen status remote size) g
control_seen address (Ok (DiscReq target)) g = seen_if (target == address) end_seen g
control_seen address other g = g

abbrev pub frame_seen : ℕ → List ℕ → Result Frame FrameFault → Glimpse → Glimpse
frame_seen address payload (Ok f) g =
    (if f.dst == control_address then control_seen address (control_in payload) g
    else seen_if (f.dst == address) message_seen g)
frame_seen address payload (Err fault) g = g

unfoldable pub seen : ℕ → Glimpse → List ℕ → Glimpse
seen address g bytes = frame_seen address (drop 16 bytes) (frame_in bytes) g
