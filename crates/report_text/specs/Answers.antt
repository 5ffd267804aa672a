-- The words of an answer.
use Rattle.std.specs.Prelude.{ℕ, List, [], ◌∷◌, codes, decimal}
use Rattle.kernel_values.specs.declared.errno.Errno.{Errno}
use Rattle.kernel_values.specs.declared.errno.Errno.TheVariants as errno
use Rattle.kernel_values.specs.declared.reply.Reply.{Reply}
use Rattle.kernel_values.specs.declared.reply.Reply.TheVariants as reply
use Rattle.kernel_values.specs.declared.reply.Answer.{Answer}
use Rattle.kernel_values.specs.declared.reply.Answer.TheVariants as answer
use Rattle.kernel_values.specs.declared.reply.DeviceReply.{DeviceReply}
use Rattle.kernel_values.specs.declared.reply.DeviceReply.TheVariants as device
use Rattle.kernel_values.specs.declared.reply.IgnoreCause.{IgnoreCause}
use Rattle.kernel_values.specs.declared.reply.IgnoreCause.TheVariants as ignored
use Rattle.kernel_values.specs.declared.reply.BreakCause.{BreakCause}
use Rattle.kernel_values.specs.declared.reply.BreakCause.TheVariants as broken
use Rattle.report_text.specs.Lines.{hex_word, uuid_word, handle_words}

-- LK's names, without their prefix
abbrev pub errno_word : Errno → List ℕ
errno_word errno.BadHandle = codes "BAD_HANDLE"
errno_word errno.InvalidArgs = codes "INVALID_ARGS"
errno_word errno.NotFound = codes "NOT_FOUND"
errno_word errno.AccessDenied = codes "ACCESS_DENIED"
errno_word errno.AlreadyExists = codes "ALREADY_EXISTS"
errno_word errno.NoResources = codes "NO_RESOURCES"
errno_word errno.NoMsg = codes "NO_MSG"
errno_word errno.NotReady = codes "NOT_READY"
errno_word errno.ChannelClosed = codes "CHANNEL_CLOSED"
errno_word errno.TooBig = codes "TOO_BIG"
errno_word errno.NotEnoughBuffer = codes "NOT_ENOUGH_BUFFER"
errno_word errno.NotSupported = codes "NOT_SUPPORTED"
errno_word errno.RecurseTooDeep = codes "RECURSE_TOO_DEEP"
errno_word errno.TimedOut = codes "TIMED_OUT"
errno_word errno.Cancelled = codes "CANCELLED"

abbrev pub ignored_word : IgnoreCause → List ℕ
ignored_word ignored.Short = codes "short"
ignored_word ignored.Length = codes "length"
ignored_word ignored.UnknownType = codes "unknown_type"
ignored_word ignored.BodyLength = codes "body_length"
ignored_word ignored.Name = codes "name"
ignored_word ignored.NoEntry = codes "no_entry"
ignored_word ignored.NotServed = codes "not_served"
ignored_word ignored.NotAnswered = codes "not_answered"
ignored_word ignored.PeerGone = codes "peer_gone"
ignored_word ignored.TooBig = codes "too_big"

abbrev pub broken_word : BreakCause → List ℕ
broken_word broken.IndexJump = codes "index_jump"
broken_word broken.HeadOutOfRange = codes "head_out_of_range"
broken_word broken.NextOutOfRange = codes "next_out_of_range"
broken_word broken.TooLong = codes "too_long"
broken_word broken.RangeOutside = codes "range_outside"
broken_word broken.WrongDirection = codes "wrong_direction"
broken_word broken.SmallBuffer = codes "small_buffer"

unfoldable pub reply_words : Reply → List (List ℕ)
reply_words reply.Done = codes "done" ∷ []
reply_words (reply.Handle handle) = codes "handle" ∷ decimal handle ∷ []
reply_words (reply.Accepted handle uuid) = codes "handle" ∷ decimal handle ∷ codes "uuid" ∷ uuid_word uuid ∷ []
reply_words (reply.Count count) = codes "count" ∷ decimal count ∷ []
reply_words (reply.Message id len parts) = codes "message" ∷ decimal id ∷ decimal len ∷ decimal parts ∷ []
reply_words (reply.Bytes bytes parts) = codes "bytes" ∷ hex_word bytes ∷ handle_words (codes "handles") parts
reply_words (reply.Event handle events cookie) = codes "event" ∷ decimal handle ∷ decimal events.0 ∷ decimal cookie ∷ []
reply_words (reply.Conn address) = codes "conn" ∷ decimal address ∷ []

unfoldable pub device_words : DeviceReply → List (List ℕ)
device_words device.SentOnline = codes "sent" ∷ codes "go_online" ∷ []
device_words (device.SentRsp target status remote size count) = codes "sent" ∷ codes "conn_rsp" ∷ decimal target ∷ decimal status ∷ decimal remote ∷ decimal size ∷ decimal count ∷ []
device_words (device.SentDisc target) = codes "sent" ∷ codes "disc_req" ∷ decimal target ∷ []
device_words (device.SentMessage src dst len) = codes "sent" ∷ codes "data" ∷ decimal src ∷ decimal dst ∷ decimal len ∷ []
device_words (device.TookReq src path) = codes "took" ∷ codes "conn_req" ∷ decimal src ∷ path ∷ []
device_words (device.TookDisc src target) = codes "took" ∷ codes "disc_req" ∷ decimal src ∷ decimal target ∷ []
device_words (device.TookMessage src dst len) = codes "took" ∷ codes "data" ∷ decimal src ∷ decimal dst ∷ decimal len ∷ []
device_words (device.Ignored cause) = codes "ignored" ∷ ignored_word cause ∷ []
device_words (device.Broke queue cause place) = codes "broke" ∷ decimal queue ∷ broken_word cause ∷ decimal place ∷ []

unfoldable pub answer_words : Answer → List (List ℕ)
answer_words answer.Waits = codes "waits" ∷ []
answer_words (answer.Gives reply) = reply_words reply
answer_words (answer.Refuses errno) = codes "refused" ∷ errno_word errno ∷ []
answer_words (answer.Device did) = device_words did
answer_words (answer.Clock time) = codes "clock" ∷ decimal time ∷ []
answer_words answer.CancelAll = codes "cancel" ∷ []
