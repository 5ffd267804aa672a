-- Queues of messages: filled ones, and ones that were opened under an id and are not retired yet, in
-- the order in which they were sent.
use Rattle.std.specs.Prelude.{ℕ, ◌+◌, ◌-◌, Bool, not, nat_lt, List, [], ◌∷◌, ◌++◌, length, min, filter, find, take, drop, Option, Some, None, if◌then◌else◌}
use Rattle.std.specs.List.{position_or_len}
use Rattle.kernel_values.specs.declared.state.Message.{Message}
use Rattle.kernel_types.specs.Objects.{map_at}
use Rattle.msg_queue.specs.declared.queue.Opened.{Opened}
use Rattle.msg_queue.specs.declared.queue.Retired.{Retired}
-- Filled messages, opened ones and their ids, and a message that is sent or opened are said with the calls, in kernel_types.
pub use Rattle.kernel_types.specs.Events.{is_unopened, is_filled}
pub use Rattle.kernel_types.specs.Messages.{has_id, is_opened_as, is_free_id, new_message, opened_as}
unfoldable pub use Rattle.kernel_types.specs.Messages.{free_id}

-- how many slots of how many bytes there are, the number that the next message gets, and the messages
pub record Queued : Type 0 where
  pub slots : ℕ
  pub size : ℕ
  pub next : ℕ
  pub messages : List Message

-- the oldest filled message, and the message that was opened under an id
abbrev pub first_filled : List Message → Option Message
first_filled messages = find is_filled messages

abbrev pub opened_at : List Message → ℕ → Option Message
opened_at messages id = find (is_opened_as id) messages

-- a message is sent
abbrev pub pushed : Queued → List ℕ → List ℕ → Queued
pushed queue bytes parts = record queue {
  messages = queue.messages ++ new_message queue.next bytes parts ∷ [];
  next = queue.next + 1;
}

-- the oldest filled message is opened
abbrev pub with_opened : List Message → List Message
with_opened messages = map_at (opened_as (free_id messages)) messages (position_or_len is_filled messages)

abbrev pub opened_answer : ℕ → Message → Opened
opened_answer id message = record { id = id; len = length message.bytes; parts = length message.parts; seq = message.seq }

-- a message is retired
abbrev pub is_other : ℕ → Message → Bool
is_other id message = not (is_opened_as id message)

abbrev pub without_opened : ℕ → List Message → List Message
without_opened id messages = filter (is_other id) messages

abbrev pub retired_answer : Message → Retired
retired_answer message = record { seq = message.seq; parts = message.parts }

-- what reading some bytes writes over the beginning of a buffer, as much as it holds
abbrev pub overwritten : List ℕ → List ℕ → List ℕ
overwritten out bytes = take (length out) bytes ++ drop (length bytes) out

-- reading a message from an offset: how many bytes, and the buffer after; nothing past its length
abbrev pub read_count : ℕ → ℕ → Option Message → Option ℕ
read_count offset room None = None
read_count offset room (Some message) =
    if nat_lt (length message.bytes) offset then None else Some (min room (length message.bytes - offset))

abbrev pub read_out : ℕ → List ℕ → Option Message → List ℕ
read_out offset out None = out
read_out offset out (Some message) =
    if nat_lt (length message.bytes) offset then out else overwritten out (drop offset message.bytes)

abbrev pub length_of : Message → ℕ
length_of message = length message.bytes

abbrev pub parts_of : Message → List ℕ
parts_of message = message.parts
