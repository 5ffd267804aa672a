-- What the driver makes of frames, one after the other, without rings: answers to its requests, bytes, ends, and what is
-- dropped; and what the waits of clients then have for an answer.
use Rattle.std.specs.Prelude.{◌≡◌, ℕ, List, [], ◌∷◌, Option, Some, None, refl, map, replicate}
use Rattle.std.specs.List.{fold}
use Rattle.kernel_values.specs.declared.errno.Errno.TheVariants as errno
use Rattle.kernel_values.specs.declared.reply.Answer.{Answer}
use Rattle.kernel_values.specs.declared.reply.Answer.TheVariants as answer
use Rattle.kernel_values.specs.declared.reply.Reply.TheVariants as reply
use Rattle.kernel_values.specs.declared.world.ClientWaitOn.{ClientWaitOn}
use Rattle.kernel_values.specs.declared.world.ClientWaitOn.TheVariants as wait_on
use Rattle.kernel_values.specs.declared.world.Connection.{Connection}
use Rattle.kernel_values.specs.declared.world.ConnectionStatus.{ConnectionStatus}
use Rattle.kernel_values.specs.declared.world.ConnectionStatus.TheVariants as connection_status
use Rattle.kernel_values.specs.declared.world.World.{World}
use Rattle.kernel_types.specs.Clients.{Acted, asked_connection, answer_of_wait}
use Rattle.kernel_types.specs.Drains.{delivered}
use Rattle.kernel_types.specs.OnLiterals.{world_on_literals}
use Rattle.kernel_types.specs.Opening.{opening_device, opening_driver}
use Rattle.kernel_types.specs.Sending.{frame, online_frame, answer_frame, leave_frame}

-- five connections of client 0 that were asked for
abbrev asked : List Connection
asked = asked_connection 1024 0 ∷ asked_connection 1025 0 ∷ asked_connection 1026 0 ∷ asked_connection 1027 0 ∷ asked_connection 1028 0 ∷ []

abbrev frames : List (List ℕ)
frames =
    online_frame ∷
    answer_frame 1024 0 1000 16 2 ∷
    answer_frame 1025 3 0 0 0 ∷
    answer_frame 1026 0 1001 16 2 ∷
    answer_frame 1027 0 1002 16 2 ∷
    -- bytes come in their order, one after the other
    frame 1000 1024 (5 ∷ 6 ∷ []) ∷
    frame 1000 1024 [] ∷
    frame 1001 1026 (7 ∷ []) ∷
    -- an end, and what comes after it
    leave_frame 53 1026 ∷
    frame 1001 1026 (8 ∷ []) ∷
    leave_frame 53 1027 ∷
    -- a second answer, and an end for what is not established
    answer_frame 1024 4 0 0 0 ∷
    leave_frame 53 1025 ∷
    leave_frame 53 1028 ∷
    -- for nobody, and no frames
    frame 1000 1030 (9 ∷ []) ∷
    frame 1000 1028 (9 ∷ []) ∷
    frame 1000 53 (9 ∷ []) ∷
    replicate 15 0 ∷ []

abbrev connection : ℕ → ConnectionStatus → List (List ℕ) → Connection
connection address status inbox = record { address = address; client = 0; status = status; inbox = inbox }

read : fold delivered asked frames ≡
    connection 1024 (connection_status.Established 1000 16) ((5 ∷ 6 ∷ []) ∷ [] ∷ []) ∷
    connection 1025 (connection_status.Denied 3) [] ∷
    connection 1026 connection_status.Shut ((7 ∷ []) ∷ []) ∷
    connection 1027 connection_status.Shut [] ∷
    connection 1028 connection_status.Asked [] ∷ []
unfolding world_on_literals
read = refl

abbrev world : World
world = record {
  memory = [];
  device = opening_device 16;
  driver = record (opening_driver 16) { connections = fold delivered asked frames };
  clients = [];
}

abbrev answer_in : Option Acted → Option Answer
answer_in None = None
answer_in (Some acted) = Some acted.answer

abbrev waits : List ClientWaitOn
waits =
    wait_on.Connect 1024 ∷ wait_on.Connect 1025 ∷ wait_on.Connect 1026 ∷ wait_on.Connect 1028 ∷
    wait_on.Receive 1024 ∷ wait_on.Receive 1025 ∷ wait_on.Receive 1026 ∷ wait_on.Receive 1027 ∷ wait_on.Receive 1028 ∷ []

answered : map (λ on. answer_in (answer_of_wait on world)) waits ≡
    Some (answer.Gives (reply.Conn 1024)) ∷
    Some (answer.Refuses errno.NotFound) ∷
    Some (answer.Gives (reply.Conn 1026)) ∷
    None ∷
    Some (answer.Gives (reply.Bytes (5 ∷ 6 ∷ []) [])) ∷
    Some (answer.Refuses errno.ChannelClosed) ∷
    Some (answer.Gives (reply.Bytes (7 ∷ []) [])) ∷
    Some (answer.Refuses errno.ChannelClosed) ∷
    None ∷ []
unfolding world_on_literals
answered = refl
