-- The lines of a client's script: what each of them calls.
use Rattle.std.specs.Prelude.{ℕ, Bool, ◌&&◌, List, [], ◌∷◌, Result, Ok, Err}
use Rattle.kernel_values.specs.Calls.{can_be_spelled, is_client_call}
use Rattle.kernel_values.specs.declared.call.Call.{Call}
use Rattle.kernel_values.specs.declared.call.Call.TheVariants as call
use Rattle.kernel_values.specs.declared.script.Command.{Command}
use Rattle.script_lines.specs.declared.fault.SceneKind.{SceneKind}
use Rattle.script_lines.specs.declared.fault.SceneKind.TheVariants.{BadWords}
use Rattle.script_lines.specs.declared.registers.Registers.{Registers}
use Rattle.script_lines.specs.declared.words.ClientWord.{ClientWord}
use Rattle.script_lines.specs.declared.words.ClientWord.TheVariants as word
use Rattle.script_lines.specs.Gives.{◌>>=◌}
use Rattle.script_lines.specs.Numbers.{number, timeout_word, path_word}
use Rattle.script_lines.specs.Payloads.{bytes_word}
use Rattle.script_lines.specs.Registers.{hand, as_one}
use Rattle.script_lines.specs.Calls.{Spelled}

-- a client may make the call, and a line can spell it
abbrev pub is_client_line : Call → Bool
is_client_line call = is_client_call call && can_be_spelled call

-- `nconnect PATH [as REG]`
unfoldable pub nconnect_line : Registers → List (List ℕ) → Spelled
nconnect_line r (path ∷ rest) = do
  path ← path_word path
  r ← as_one r rest
  Ok (r, call.NsConnect path)
nconnect_line r words = Err BadWords

-- `nsend H BYTES`
unfoldable pub nsend_line : Registers → List (List ℕ) → Spelled
nsend_line r (conn ∷ bytes ∷ []) = do
  conn ← hand r 0 conn
  bytes ← bytes_word bytes
  Ok (conn.0, call.NsSend conn.1 bytes)
nsend_line r words = Err BadWords

-- `nrecv H TIMEOUT`
unfoldable pub nrecv_line : Registers → List (List ℕ) → Spelled
nrecv_line r (conn ∷ timeout ∷ []) = do
  conn ← hand r 0 conn
  timeout ← timeout_word timeout
  Ok (conn.0, call.NsRecv conn.1 timeout)
nrecv_line r words = Err BadWords

-- `nclose H`
unfoldable pub nclose_line : Registers → List (List ℕ) → Spelled
nclose_line r (conn ∷ []) = do
  conn ← hand r 0 conn
  Ok (conn.0, call.NsClose conn.1)
nclose_line r words = Err BadWords

-- `npoke ADDR BYTES`
unfoldable pub npoke_line : Registers → List (List ℕ) → Spelled
npoke_line r (addr ∷ bytes ∷ []) = do
  addr ← number addr
  bytes ← bytes_word bytes
  Ok (r, call.NsPoke addr bytes)
npoke_line r words = Err BadWords

-- `nkick QUEUE HEAD`
unfoldable pub nkick_line : Registers → List (List ℕ) → Spelled
nkick_line r (queue ∷ head ∷ []) = do
  queue ← number queue
  head ← number head
  Ok (r, call.NsKick queue head)
nkick_line r words = Err BadWords

unfoldable pub client_call_line : Registers → ClientWord → List (List ℕ) → Spelled
client_call_line r word.Connect words = nconnect_line r words
client_call_line r word.Send words = nsend_line r words
client_call_line r word.Recv words = nrecv_line r words
client_call_line r word.Close words = nclose_line r words
client_call_line r word.Poke words = npoke_line r words
client_call_line r word.Kick words = nkick_line r words

-- the line's command, and the names of the script's registers after it
unfoldable pub client_command_line : List (List ℕ) → ClientWord → List (List ℕ) → Result (List (List ℕ) × Command) SceneKind
client_command_line names word words = do
  spelled ← client_call_line (record { names = names; reads = []; sets = [] }) word words
  Ok (spelled.0.names, record { call = spelled.1; reads = spelled.0.reads; sets = spelled.0.sets })
