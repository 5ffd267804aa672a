-- The lines of a thread's script: the words that begin them, and what each of them calls.
use Rattle.std.specs.Prelude.{ℕ, Bool, ◌&&◌, List, [], ◌∷◌, bytes_eq, codes, length, nat_le, Option, Some, None, Result, Ok, Err, if◌then◌else◌}
use Rattle.kernel_values.specs.Calls.{can_be_spelled, is_thread_call}
use Rattle.kernel_values.specs.declared.call.Call.{Call}
use Rattle.kernel_values.specs.declared.call.Call.TheVariants as call
use Rattle.kernel_values.specs.declared.flags.Events.{Events}
use Rattle.kernel_values.specs.declared.script.Command.{Command}
use Rattle.script_lines.specs.declared.fault.SceneKind.{SceneKind}
use Rattle.script_lines.specs.declared.fault.SceneKind.TheVariants.{BadWords}
use Rattle.script_lines.specs.declared.registers.Registers.{Registers}
use Rattle.script_lines.specs.declared.command_lines.PortWord.{PortWord}
use Rattle.script_lines.specs.declared.command_lines.PortWord.TheVariants as for_port
use Rattle.script_lines.specs.declared.message_lines.MessageWord.{MessageWord}
use Rattle.script_lines.specs.declared.message_lines.MessageWord.TheVariants as for_message
use Rattle.script_lines.specs.declared.handle_lines.HandleWord.{HandleWord}
use Rattle.script_lines.specs.declared.handle_lines.HandleWord.TheVariants as for_handle
use Rattle.script_lines.specs.declared.memory_lines.MemoryWord.{MemoryWord}
use Rattle.script_lines.specs.declared.memory_lines.MemoryWord.TheVariants as for_memory
use Rattle.script_lines.specs.declared.words.CallWord.{CallWord}
use Rattle.script_lines.specs.declared.words.CallWord.TheVariants as word
use Rattle.script_lines.specs.Gives.{◌>>=◌}
use Rattle.script_lines.specs.Numbers.{number, cookie, number_within, mask, timeout_word, path_word, port_flags, connect_flags, mem_flags}
use Rattle.script_lines.specs.Payloads.{bytes_word, most_bytes}
use Rattle.script_lines.specs.Registers.{hand, as_one, as_some, parts}

-- a thread may make the call, and a line can spell it
abbrev pub is_thread_line : Call → Bool
is_thread_line call = is_thread_call call && can_be_spelled call

abbrev pub Spelled : Type 0
Spelled = Result (Registers × Call) SceneKind

-- ---- ports, waits, and the end of an application

unfoldable pub port_word : List ℕ → Option PortWord
port_word word = if bytes_eq word (codes "port") then Some for_port.Port
    else if bytes_eq word (codes "connect") then Some for_port.Connect
    else if bytes_eq word (codes "accept") then Some for_port.Accept
    else if bytes_eq word (codes "wait") then Some for_port.Wait
    else if bytes_eq word (codes "waitany") then Some for_port.WaitAny
    else if bytes_eq word (codes "exit") then Some for_port.Exit
    else None

-- `port PATH BUFS SIZE FLAGS [as REG]`
unfoldable pub port_line : Registers → List (List ℕ) → Spelled
port_line r (path ∷ bufs ∷ size ∷ flags ∷ rest) = do
  path ← path_word path
  bufs ← number bufs
  size ← number size
  flags ← port_flags flags
  r ← as_one r rest
  Ok (r, call.PortCreate path bufs size flags)
port_line r words = Err BadWords

-- `connect PATH FLAGS [as REG]`
unfoldable pub connect_line : Registers → List (List ℕ) → Spelled
connect_line r (path ∷ flags ∷ rest) = do
  path ← path_word path
  flags ← connect_flags flags
  r ← as_one r rest
  Ok (r, call.Connect path flags)
connect_line r words = Err BadWords

-- `accept H [as REG]`
unfoldable pub accept_line : Registers → List (List ℕ) → Spelled
accept_line r (port ∷ rest) = do
  port ← hand r 0 port
  r ← as_one port.0 rest
  Ok (r, call.Accept port.1)
accept_line r words = Err BadWords

-- `wait H TIMEOUT [as REG]`
unfoldable pub wait_line : Registers → List (List ℕ) → Spelled
wait_line r (handle ∷ timeout ∷ rest) = do
  handle ← hand r 0 handle
  timeout ← timeout_word timeout
  r ← as_one handle.0 rest
  Ok (r, call.Wait handle.1 timeout)
wait_line r words = Err BadWords

-- `waitany TIMEOUT [as REG]`
unfoldable pub waitany_line : Registers → List (List ℕ) → Spelled
waitany_line r (timeout ∷ rest) = do
  timeout ← timeout_word timeout
  r ← as_one r rest
  Ok (r, call.WaitAny timeout)
waitany_line r words = Err BadWords

-- `exit CODE`
unfoldable pub exit_line : Registers → List (List ℕ) → Spelled
exit_line r (code ∷ []) = do
  code ← number code
  Ok (r, call.Exit code)
exit_line r words = Err BadWords

unfoldable pub any_port_line : Registers → PortWord → List (List ℕ) → Spelled
any_port_line r for_port.Port words = port_line r words
any_port_line r for_port.Connect words = connect_line r words
any_port_line r for_port.Accept words = accept_line r words
any_port_line r for_port.Wait words = wait_line r words
any_port_line r for_port.WaitAny words = waitany_line r words
any_port_line r for_port.Exit words = exit_line r words

-- ---- messages

unfoldable pub message_word : List ℕ → Option MessageWord
message_word word = if bytes_eq word (codes "send") then Some for_message.Send
    else if bytes_eq word (codes "get") then Some for_message.Get
    else if bytes_eq word (codes "read") then Some for_message.Read
    else if bytes_eq word (codes "put") then Some for_message.Put
    else None

-- `send H BYTES [H, up to 16 times]`
unfoldable pub send_line : Registers → List (List ℕ) → Spelled
send_line r (chan ∷ bytes ∷ handles) = if nat_le (length handles) 16 then (do
  chan ← hand r 0 chan
  bytes ← bytes_word bytes
  sent ← parts chan.0 [] handles
  Ok (sent.0, call.Send chan.1 bytes sent.1))
    else Err BadWords
send_line r words = Err BadWords

-- `get H [as REG]`
unfoldable pub get_line : Registers → List (List ℕ) → Spelled
get_line r (chan ∷ rest) = do
  chan ← hand r 0 chan
  r ← as_one chan.0 rest
  Ok (r, call.Get chan.1)
get_line r words = Err BadWords

-- `OFFSET ROOM HANDLES`
unfoldable pub asked : List ℕ → List ℕ → List ℕ → Result (ℕ × ℕ × ℕ) SceneKind
asked offset room handles = do
  offset ← number offset
  room ← number_within 0 4096 room
  handles ← number handles
  Ok (offset, room, handles)

-- `read H ID OFFSET ROOM HANDLES [as REG, up to 8 times]`
unfoldable pub read_line : Registers → List (List ℕ) → Spelled
read_line r (chan ∷ id ∷ offset ∷ room ∷ handles ∷ rest) = do
  chan ← hand r 0 chan
  id ← hand chan.0 1 id
  asked ← asked offset room handles
  r ← as_some id.0 rest
  Ok (r, call.Read chan.1 id.1 asked.0 asked.1 asked.2)
read_line r words = Err BadWords

-- `put H ID`
unfoldable pub put_line : Registers → List (List ℕ) → Spelled
put_line r (chan ∷ id ∷ []) = do
  chan ← hand r 0 chan
  id ← hand chan.0 1 id
  Ok (id.0, call.Put chan.1 id.1)
put_line r words = Err BadWords

unfoldable pub any_message_line : Registers → MessageWord → List (List ℕ) → Spelled
any_message_line r for_message.Send words = send_line r words
any_message_line r for_message.Get words = get_line r words
any_message_line r for_message.Read words = read_line r words
any_message_line r for_message.Put words = put_line r words

-- ---- handles and their sets

unfoldable pub handle_word : List ℕ → Option HandleWord
handle_word word = if bytes_eq word (codes "cookie") then Some for_handle.Cookie
    else if bytes_eq word (codes "close") then Some for_handle.Close
    else if bytes_eq word (codes "dup") then Some for_handle.Dup
    else if bytes_eq word (codes "set") then Some for_handle.Set
    else if bytes_eq word (codes "add") then Some for_handle.Add
    else if bytes_eq word (codes "del") then Some for_handle.Del
    else if bytes_eq word (codes "mod") then Some for_handle.Mod
    else None

-- `cookie H COOKIE`
unfoldable pub cookie_line : Registers → List (List ℕ) → Spelled
cookie_line r (handle ∷ value ∷ []) = do
  handle ← hand r 0 handle
  value ← cookie value
  Ok (handle.0, call.SetCookie handle.1 value)
cookie_line r words = Err BadWords

-- `close H`
unfoldable pub close_line : Registers → List (List ℕ) → Spelled
close_line r (handle ∷ []) = do
  handle ← hand r 0 handle
  Ok (handle.0, call.Close handle.1)
close_line r words = Err BadWords

-- `dup H [as REG]`
unfoldable pub dup_line : Registers → List (List ℕ) → Spelled
dup_line r (handle ∷ rest) = do
  handle ← hand r 0 handle
  r ← as_one handle.0 rest
  Ok (r, call.Dup handle.1)
dup_line r words = Err BadWords

-- `set [as REG]`
unfoldable pub set_line : Registers → List (List ℕ) → Spelled
set_line r rest = do
  r ← as_one r rest
  Ok (r, call.SetCreate)

-- `MASK COOKIE`
unfoldable pub watched : List (List ℕ) → Result (Events × ℕ) SceneKind
watched (bits ∷ value ∷ []) = do
  bits ← mask bits
  value ← cookie value
  Ok (bits, value)
watched words = Err BadWords

-- `add H H MASK COOKIE`
unfoldable pub add_line : Registers → List (List ℕ) → Spelled
add_line r (set ∷ handle ∷ rest) = do
  set ← hand r 0 set
  handle ← hand set.0 1 handle
  watched ← watched rest
  Ok (handle.0, call.SetAdd set.1 handle.1 watched.0 watched.1)
add_line r words = Err BadWords

-- `del H H`
unfoldable pub del_line : Registers → List (List ℕ) → Spelled
del_line r (set ∷ label ∷ []) = do
  set ← hand r 0 set
  label ← hand set.0 1 label
  Ok (label.0, call.SetDel set.1 label.1)
del_line r words = Err BadWords

-- `mod H H MASK COOKIE`
unfoldable pub mod_line : Registers → List (List ℕ) → Spelled
mod_line r (set ∷ label ∷ rest) = do
  set ← hand r 0 set
  label ← hand set.0 1 label
  watched ← watched rest
  Ok (label.0, call.SetMod set.1 label.1 watched.0 watched.1)
mod_line r words = Err BadWords

unfoldable pub any_handle_line : Registers → HandleWord → List (List ℕ) → Spelled
any_handle_line r for_handle.Cookie words = cookie_line r words
any_handle_line r for_handle.Close words = close_line r words
any_handle_line r for_handle.Dup words = dup_line r words
any_handle_line r for_handle.Set words = set_line r words
any_handle_line r for_handle.Add words = add_line r words
any_handle_line r for_handle.Del words = del_line r words
any_handle_line r for_handle.Mod words = mod_line r words

-- ---- memory references

unfoldable pub memory_word : List ℕ → Option MemoryWord
memory_word word = if bytes_eq word (codes "memref") then Some for_memory.Create
    else if bytes_eq word (codes "mread") then Some for_memory.Read
    else if bytes_eq word (codes "mwrite") then Some for_memory.Write
    else None

-- `memref SIZE FLAGS [as REG]`
unfoldable pub memref_line : Registers → List (List ℕ) → Spelled
memref_line r (size ∷ flags ∷ rest) = do
  size ← number size
  flags ← mem_flags flags
  r ← as_one r rest
  Ok (r, call.MemCreate size flags)
memref_line r words = Err BadWords

-- `mread H OFFSET LEN`
unfoldable pub mread_line : Registers → List (List ℕ) → Spelled
mread_line r (handle ∷ offset ∷ len ∷ []) = do
  handle ← hand r 0 handle
  offset ← number offset
  len ← number_within 0 most_bytes len
  Ok (handle.0, call.MemRead handle.1 offset len)
mread_line r words = Err BadWords

-- `mwrite H OFFSET BYTES`
unfoldable pub mwrite_line : Registers → List (List ℕ) → Spelled
mwrite_line r (handle ∷ offset ∷ bytes ∷ []) = do
  handle ← hand r 0 handle
  offset ← number offset
  bytes ← bytes_word bytes
  Ok (handle.0, call.MemWrite handle.1 offset bytes)
mwrite_line r words = Err BadWords

unfoldable pub any_memory_line : Registers → MemoryWord → List (List ℕ) → Spelled
any_memory_line r for_memory.Create words = memref_line r words
any_memory_line r for_memory.Read words = mread_line r words
any_memory_line r for_memory.Write words = mwrite_line r words

-- ---- any of them

unfoldable pub call_line : Registers → CallWord → List (List ℕ) → Spelled
call_line r (word.Port of) words = any_port_line r of words
call_line r (word.Message of) words = any_message_line r of words
call_line r (word.Handle of) words = any_handle_line r of words
call_line r (word.Memory of) words = any_memory_line r of words

-- the line's command, and the names of the script's registers after it
unfoldable pub command_line : List (List ℕ) → CallWord → List (List ℕ) → Result (List (List ℕ) × Command) SceneKind
command_line names word words = do
  spelled ← call_line (record { names = names; reads = []; sets = [] }) word words
  Ok (spelled.0.names, record { call = spelled.1; reads = spelled.0.reads; sets = spelled.0.sets })
