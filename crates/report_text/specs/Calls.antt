-- The words of a call: those of its script line, with numbers for its registers.
use Rattle.std.specs.Prelude.{ℕ, List, [], ◌∷◌, ◌==◌, codes, decimal, if◌then◌else◌}
use Rattle.kernel_values.specs.declared.call.Call.{Call}
use Rattle.kernel_values.specs.declared.call.Call.TheVariants as call
use Rattle.kernel_values.specs.declared.call.Timeout.{Timeout}
use Rattle.kernel_values.specs.declared.call.Timeout.TheVariants.{Forever, Millis}
use Rattle.report_text.specs.Lines.{hex_word, handle_words}

abbrev pub port_flags_word : ℕ → List ℕ
port_flags_word flags = (if flags == 0 then codes "none" else
    (if flags == 1 then codes "ta" else
    (if flags == 2 then codes "ns" else codes "ta+ns")))

abbrev pub connect_flags_word : ℕ → List ℕ
connect_flags_word flags = (if flags == 0 then codes "sync" else
    (if flags == 1 then codes "sync+wait" else
    (if flags == 2 then codes "async" else codes "async+wait")))

abbrev pub memory_flags_word : ℕ → List ℕ
memory_flags_word flags = (if flags == 0 then codes "r" else codes "rw")

abbrev pub timeout_word : Timeout → List ℕ
timeout_word Forever = codes "-1"
timeout_word (Millis time) = decimal time

unfoldable pub call_words : Call → List (List ℕ)
call_words (call.PortCreate path bufs size flags) = codes "port" ∷ path ∷ decimal bufs ∷ decimal size ∷ port_flags_word flags.0 ∷ []
call_words (call.Connect path flags) = codes "connect" ∷ path ∷ connect_flags_word flags.0 ∷ []
call_words (call.Accept port) = codes "accept" ∷ decimal port ∷ []
call_words (call.Send chan bytes parts) = codes "send" ∷ decimal chan ∷ hex_word bytes ∷ handle_words (codes "with") parts
call_words (call.Get chan) = codes "get" ∷ decimal chan ∷ []
call_words (call.Read chan id offset room parts) = codes "read" ∷ decimal chan ∷ decimal id ∷ decimal offset ∷ decimal room ∷ decimal parts ∷ []
call_words (call.Put chan id) = codes "put" ∷ decimal chan ∷ decimal id ∷ []
call_words (call.SetCookie handle cookie) = codes "cookie" ∷ decimal handle ∷ decimal cookie ∷ []
call_words (call.Close handle) = codes "close" ∷ decimal handle ∷ []
call_words (call.Dup handle) = codes "dup" ∷ decimal handle ∷ []
call_words call.SetCreate = codes "set" ∷ []
call_words (call.SetAdd set handle mask cookie) = codes "add" ∷ decimal set ∷ decimal handle ∷ decimal mask.0 ∷ decimal cookie ∷ []
call_words (call.SetDel set label) = codes "del" ∷ decimal set ∷ decimal label ∷ []
call_words (call.SetMod set label mask cookie) = codes "mod" ∷ decimal set ∷ decimal label ∷ decimal mask.0 ∷ decimal cookie ∷ []
call_words (call.MemCreate size flags) = codes "memref" ∷ decimal size ∷ memory_flags_word flags.0 ∷ []
call_words (call.MemRead handle offset len) = codes "mread" ∷ decimal handle ∷ decimal offset ∷ decimal len ∷ []
call_words (call.MemWrite handle offset bytes) = codes "mwrite" ∷ decimal handle ∷ decimal offset ∷ hex_word bytes ∷ []
call_words (call.Wait handle timeout) = codes "wait" ∷ decimal handle ∷ timeout_word timeout ∷ []
call_words (call.WaitAny timeout) = codes "waitany" ∷ timeout_word timeout ∷ []
call_words (call.Exit code) = codes "exit" ∷ decimal code ∷ []
call_words call.Finish = codes "finish" ∷ []
call_words (call.NsConnect path) = codes "nconnect" ∷ path ∷ []
call_words (call.NsSend conn bytes) = codes "nsend" ∷ decimal conn ∷ hex_word bytes ∷ []
call_words (call.NsRecv conn timeout) = codes "nrecv" ∷ decimal conn ∷ timeout_word timeout ∷ []
call_words (call.NsClose conn) = codes "nclose" ∷ decimal conn ∷ []
call_words (call.NsPoke addr bytes) = codes "npoke" ∷ decimal addr ∷ hex_word bytes ∷ []
call_words (call.NsKick queue head) = codes "nkick" ∷ decimal queue ∷ decimal head ∷ []
