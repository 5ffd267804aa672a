-- The words that begin a line.
use Rattle.std.specs.Prelude.{ℕ, List, bytes_eq, codes, Option, Some, None, if◌then◌else◌}
use Rattle.script_lines.specs.declared.command_lines.PortWord.{PortWord}
use Rattle.script_lines.specs.declared.message_lines.MessageWord.{MessageWord}
use Rattle.script_lines.specs.declared.handle_lines.HandleWord.{HandleWord}
use Rattle.script_lines.specs.declared.memory_lines.MemoryWord.{MemoryWord}
use Rattle.script_lines.specs.declared.words.LineWord.{LineWord}
use Rattle.script_lines.specs.declared.words.LineWord.TheVariants as line
use Rattle.script_lines.specs.declared.words.CallWord.{CallWord}
use Rattle.script_lines.specs.declared.words.CallWord.TheVariants as call
use Rattle.script_lines.specs.declared.words.ClientWord.{ClientWord}
use Rattle.script_lines.specs.declared.words.ClientWord.TheVariants as client
use Rattle.script_lines.specs.declared.words.PartWord.{PartWord}
use Rattle.script_lines.specs.declared.words.PartWord.TheVariants as part
use Rattle.script_lines.specs.declared.words.ScriptWord.{ScriptWord}
use Rattle.script_lines.specs.declared.words.ScriptWord.TheVariants as script
use Rattle.script_lines.specs.Calls.{port_word, message_word, handle_word, memory_word}

-- what a scene is made of
unfoldable pub part_word : List ℕ → Option PartWord
part_word word = if bytes_eq word (codes "queues") then Some part.Queues
    else if bytes_eq word (codes "app") then Some part.App
    else if bytes_eq word (codes "client") then Some part.Client
    else if bytes_eq word (codes "turns") then Some part.Turns
    else None

-- what scripts are made of
unfoldable pub structure_word : List ℕ → Option ScriptWord
structure_word word = if bytes_eq word (codes "thread") then Some script.Thread
    else if bytes_eq word (codes "repeat") then Some script.Repeat
    else if bytes_eq word (codes "end") then Some script.End
    else None

abbrev pub on_subject : Option PortWord → Option MessageWord → Option HandleWord → Option MemoryWord → Option CallWord
on_subject (Some word) message handle memory = Some (call.Port word)
on_subject None (Some word) handle memory = Some (call.Message word)
on_subject None None (Some word) memory = Some (call.Handle word)
on_subject None None None (Some word) = Some (call.Memory word)
on_subject None None None None = None

-- the lines of a thread's script
unfoldable pub thread_word : List ℕ → Option CallWord
thread_word word = on_subject (port_word word) (message_word word) (handle_word word) (memory_word word)

-- the lines of a client's script
unfoldable pub client_word : List ℕ → Option ClientWord
client_word word = if bytes_eq word (codes "nconnect") then Some client.Connect
    else if bytes_eq word (codes "nsend") then Some client.Send
    else if bytes_eq word (codes "nrecv") then Some client.Recv
    else if bytes_eq word (codes "nclose") then Some client.Close
    else if bytes_eq word (codes "npoke") then Some client.Poke
    else if bytes_eq word (codes "nkick") then Some client.Kick
    else None

abbrev pub or_calls : Option ScriptWord → Option CallWord → Option ClientWord → Option ScriptWord
or_calls (Some word) thread client = Some word
or_calls None (Some word) client = Some (script.Call word)
or_calls None None (Some word) = Some (script.ClientCall word)
or_calls None None None = None

unfoldable pub script_word : List ℕ → Option ScriptWord
script_word word = or_calls (structure_word word) (thread_word word) (client_word word)

abbrev pub or_script : Option PartWord → Option ScriptWord → Option LineWord
or_script (Some word) other = Some (line.Part word)
or_script None (Some word) = Some (line.Script word)
or_script None None = None

unfoldable pub line_word : List ℕ → Option LineWord
line_word word = if bytes_eq word (codes "scene") then Some line.Scene else or_script (part_word word) (script_word word)
