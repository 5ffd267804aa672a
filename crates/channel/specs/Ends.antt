-- Changes and answers of one end of a channel, beside those that are said with the calls in kernel_types.
use Rattle.std.specs.Prelude.{ℕ, Bool, false, ◌||◌, nat_lt, count_by, Option, Some, None, Result, Ok, Err, ⊤, if◌then◌else◌}
use Rattle.kernel_values.specs.declared.errno.Errno.{Errno}
use Rattle.kernel_values.specs.declared.errno.Errno.TheVariants as errno
use Rattle.kernel_values.specs.declared.state.ChannelEnd.{ChannelEnd}
use Rattle.kernel_values.specs.declared.state.EndState.TheVariants as end_state
use Rattle.kernel_values.specs.declared.state.Message.{Message}
use Rattle.kernel_types.specs.declared.bridge.EndView.{EndView}
use Rattle.kernel_types.specs.Events.{is_disconnected, is_filled}
use Rattle.kernel_types.specs.Messages.{is_unconnected}
use Rattle.msg_queue.specs.declared.queue.Opened.{Opened}
use Rattle.msg_queue.specs.Messages.{first_filled, free_id, opened_answer}

-- whether a message of this length may be sent from the end
abbrev pub send_checked : ChannelEnd → ℕ → Result ⊤ Errno
send_checked end len =
    (if is_unconnected end.state then Err errno.NotReady
    else if is_disconnected end.state then Err errno.ChannelClosed
    else if nat_lt end.size len then Err errno.TooBig
    else Ok tt)

-- why there is no message to open: no more can come, or none has come yet
abbrev pub nothing_filled : ChannelEnd → Errno
nothing_filled end = (if is_disconnected end.state then errno.ChannelClosed else errno.NoMsg)

-- the answer where the oldest filled message is asked for
abbrev pub got_first : ChannelEnd → Option Message → Result Opened Errno
got_first end None = Err (nothing_filled end)
got_first end (Some message) = Ok (opened_answer (free_id end.messages) message)

abbrev pub got : ChannelEnd → Result Opened Errno
got end = (if is_unconnected end.state then Err errno.NotReady else got_first end (first_filled end.messages))

-- a waiting end that is let in, before its peer is set
abbrev pub let_in : ℕ → ℕ → ChannelEnd → ChannelEnd
let_in slots size end = record end { state = end_state.Connecting; path = None; slots = slots; size = size }

-- an end whose peer is gone, or whose connection broke
abbrev pub disconnected : Bool → ChannelEnd → ChannelEnd
disconnected broken end = record end { state = end_state.Disconnected; error = broken || end.error }

-- what the bridge sees of it, but for its peer
abbrev pub viewed : ChannelEnd → EndView
viewed end = record {
  state = end.state;
  accepted = end.accepted;
  filled = count_by is_filled end.messages;
  size = end.size;
  slots = end.slots;
  peer_full = false;
}
