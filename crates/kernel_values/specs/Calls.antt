-- What can be said of a call before it is made: its kind, the handles and ids that its line writes, its payload, and
-- whether a line can spell it. A new call has its clauses here.
use Rattle.std.specs.Prelude.{ℕ, Bool, true, false, zero, suc, List, ◌+◌, ◌==◌, ◌&&◌, length, nat_lt, slice_set, if◌then◌else◌}
use Rattle.kernel_values.specs.declared.call.Call.{Call}
use Rattle.kernel_values.specs.declared.call.Call.TheVariants as call
use Rattle.kernel_values.specs.declared.call.CallKind.{CallKind}
use Rattle.kernel_values.specs.declared.call.CallKind.TheVariants as kind
use Rattle.kernel_values.specs.Words.{is_word}

-- who makes the call, and whether the driver takes part in it
abbrev pub kind_of : Call → CallKind
kind_of call.Finish = kind.Finish
kind_of (call.NsConnect path) = kind.Driver
kind_of (call.NsSend conn bytes) = kind.Driver
kind_of (call.NsRecv conn timeout) = kind.Driver
kind_of (call.NsClose conn) = kind.Driver
kind_of (call.NsPoke addr bytes) = kind.Direct
kind_of (call.NsKick queue head) = kind.Direct
kind_of _ = kind.Thread

-- how many handles and ids a call's line writes, each of which may be read from a register
abbrev pub handle_count : Call → ℕ
handle_count (call.Accept port) = 1
handle_count (call.Send chan bytes parts) = length parts + 1
handle_count (call.Get chan) = 1
handle_count (call.Read chan id offset room parts) = 2
handle_count (call.Put chan id) = 2
handle_count (call.SetCookie handle cookie) = 1
handle_count (call.Close handle) = 1
handle_count (call.Dup handle) = 1
handle_count (call.SetAdd set handle mask cookie) = 2
handle_count (call.SetDel set label) = 2
handle_count (call.SetMod set label mask cookie) = 2
handle_count (call.MemRead handle offset len) = 1
handle_count (call.MemWrite handle offset bytes) = 1
handle_count (call.Wait handle timeout) = 1
handle_count (call.NsSend conn bytes) = 1
handle_count (call.NsRecv conn timeout) = 1
handle_count (call.NsClose conn) = 1
handle_count _ = 0

-- a call with one of its handles and ids, by its place among them, replaced

-- the parts of a send come after its channel
abbrev pub part_replaced : ℕ → ℕ → List ℕ → List ℕ
part_replaced zero value parts = parts
part_replaced (suc place) value parts = slice_set parts place value

abbrev pub one_of : ℕ → ℕ → ℕ → ℕ → ℕ
one_of wanted place value old = (if place == wanted then value else old)

abbrev pub with_number : ℕ → ℕ → Call → Call
with_number place value (call.Accept port) = call.Accept (one_of 0 place value port)
with_number place value (call.Send chan bytes parts) = call.Send (one_of 0 place value chan) bytes (part_replaced place value parts)
with_number place value (call.Get chan) = call.Get (one_of 0 place value chan)
with_number place value (call.Read chan id offset room parts) = call.Read (one_of 0 place value chan) (one_of 1 place value id) offset room parts
with_number place value (call.Put chan id) = call.Put (one_of 0 place value chan) (one_of 1 place value id)
with_number place value (call.SetCookie handle cookie) = call.SetCookie (one_of 0 place value handle) cookie
with_number place value (call.Close handle) = call.Close (one_of 0 place value handle)
with_number place value (call.Dup handle) = call.Dup (one_of 0 place value handle)
with_number place value (call.SetAdd set handle mask cookie) = call.SetAdd (one_of 0 place value set) (one_of 1 place value handle) mask cookie
with_number place value (call.SetDel set label) = call.SetDel (one_of 0 place value set) (one_of 1 place value label)
with_number place value (call.SetMod set label mask cookie) = call.SetMod (one_of 0 place value set) (one_of 1 place value label) mask cookie
with_number place value (call.MemRead handle offset len) = call.MemRead (one_of 0 place value handle) offset len
with_number place value (call.MemWrite handle offset bytes) = call.MemWrite (one_of 0 place value handle) offset bytes
with_number place value (call.Wait handle timeout) = call.Wait (one_of 0 place value handle) timeout
with_number place value (call.NsSend conn bytes) = call.NsSend (one_of 0 place value conn) bytes
with_number place value (call.NsRecv conn timeout) = call.NsRecv (one_of 0 place value conn) timeout
with_number place value (call.NsClose conn) = call.NsClose (one_of 0 place value conn)
with_number place value other = other

-- the bytes that a call writes or asks to read, which count towards a scene's payload
abbrev pub payload_of : Call → ℕ
payload_of (call.Send chan bytes parts) = length bytes
payload_of (call.Read chan id offset room parts) = room
payload_of (call.MemRead handle offset len) = len
payload_of (call.MemWrite handle offset bytes) = length bytes
payload_of (call.NsSend conn bytes) = length bytes
payload_of (call.NsPoke addr bytes) = length bytes
payload_of _ = 0

-- a line can spell the call: a path is one word, and flags and masks have no bits without a name
abbrev pub can_be_spelled : Call → Bool
can_be_spelled (call.PortCreate path bufs size flags) = is_word path && nat_lt flags.0 4
can_be_spelled (call.Connect path flags) = is_word path && nat_lt flags.0 4
can_be_spelled (call.SetAdd set handle mask cookie) = nat_lt mask.0 32
can_be_spelled (call.SetMod set label mask cookie) = nat_lt mask.0 32
can_be_spelled (call.MemCreate size flags) = nat_lt flags.0 2
can_be_spelled (call.NsConnect path) = is_word path
can_be_spelled _ = true

-- a thread makes system calls, and finishes

abbrev pub is_kind_of_thread : CallKind → Bool
is_kind_of_thread kind.Thread = true
is_kind_of_thread kind.Finish = true
is_kind_of_thread other = false

-- a client makes calls of the driver and calls past it, and finishes

abbrev pub is_kind_of_client : CallKind → Bool
is_kind_of_client kind.Thread = false
is_kind_of_client other = true

-- a call of the driver begins with what the device gave back

abbrev pub is_kind_of_driver : CallKind → Bool
is_kind_of_driver kind.Driver = true
is_kind_of_driver other = false

-- what a thread's script may hold: the call that finishes comes by itself

abbrev pub is_kind_in_thread : CallKind → Bool
is_kind_in_thread kind.Thread = true
is_kind_in_thread other = false

-- what a client's script may hold

abbrev pub is_kind_in_client : CallKind → Bool
is_kind_in_client kind.Driver = true
is_kind_in_client kind.Direct = true
is_kind_in_client other = false

-- an honest client leaves memory and rings to the driver

abbrev pub is_honest_kind : CallKind → Bool
is_honest_kind kind.Direct = false
is_honest_kind other = true

-- The same of a call.

abbrev pub is_of_thread : Call → Bool
is_of_thread asked = is_kind_of_thread (kind_of asked)

abbrev pub is_of_client : Call → Bool
is_of_client asked = is_kind_of_client (kind_of asked)

abbrev pub drains : Call → Bool
drains asked = is_kind_of_driver (kind_of asked)

abbrev pub is_thread_call : Call → Bool
is_thread_call asked = is_kind_in_thread (kind_of asked)

abbrev pub is_client_call : Call → Bool
is_client_call asked = is_kind_in_client (kind_of asked)

abbrev pub is_honest_call : Call → Bool
is_honest_call asked = is_honest_kind (kind_of asked)
