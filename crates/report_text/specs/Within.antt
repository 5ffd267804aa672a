-- The numbers of calls, within their types: no number has more than 64 bits, and no byte more than 8.
use Rattle.std.specs.Prelude.{ℕ, ◌<◌, ◌^◌, List, [], ◌∷◌}
use Rattle.std.specs.List.{AllByRecursion}
use Rattle.kernel_values.specs.declared.call.Call.{Call}
use Rattle.kernel_values.specs.declared.call.Call.TheVariants as call
use Rattle.kernel_values.specs.declared.call.Timeout.{Timeout}
use Rattle.kernel_values.specs.declared.call.Timeout.TheVariants.{Forever, Millis}
use Rattle.kernel_values.specs.declared.entry.Event.{Event}
use Rattle.kernel_values.specs.declared.entry.Event.TheVariants as event
use Rattle.kernel_values.specs.declared.entry.Entry.{Entry}

abbrev pub AreNumbers : List ℕ → Type 0
AreNumbers numbers = AllByRecursion (λ number. number < 2 ^ 64) numbers

abbrev pub AreBytes : List ℕ → Type 0
AreBytes bytes = AllByRecursion (λ byte. byte < 2 ^ 8) bytes

abbrev pub numbers_of_timeout : Timeout → List ℕ
numbers_of_timeout Forever = []
numbers_of_timeout (Millis time) = time ∷ []

-- the numbers of a call; its flags and its path aside
abbrev pub numbers_of : Call → List ℕ
numbers_of (call.PortCreate path bufs size flags) = bufs ∷ size ∷ []
numbers_of (call.Accept port) = port ∷ []
numbers_of (call.Send chan bytes parts) = chan ∷ parts
numbers_of (call.Get chan) = chan ∷ []
numbers_of (call.Read chan id offset room parts) = chan ∷ id ∷ offset ∷ room ∷ parts ∷ []
numbers_of (call.Put chan id) = chan ∷ id ∷ []
numbers_of (call.SetCookie handle cookie) = handle ∷ cookie ∷ []
numbers_of (call.Close handle) = handle ∷ []
numbers_of (call.Dup handle) = handle ∷ []
numbers_of (call.SetAdd set handle mask cookie) = set ∷ handle ∷ mask.0 ∷ cookie ∷ []
numbers_of (call.SetDel set label) = set ∷ label ∷ []
numbers_of (call.SetMod set label mask cookie) = set ∷ label ∷ mask.0 ∷ cookie ∷ []
numbers_of (call.MemCreate size flags) = size ∷ []
numbers_of (call.MemRead handle offset len) = handle ∷ offset ∷ len ∷ []
numbers_of (call.MemWrite handle offset bytes) = handle ∷ offset ∷ []
numbers_of (call.Wait handle timeout) = handle ∷ numbers_of_timeout timeout
numbers_of (call.WaitAny timeout) = numbers_of_timeout timeout
numbers_of (call.Exit code) = code ∷ []
numbers_of (call.NsSend conn bytes) = conn ∷ []
numbers_of (call.NsRecv conn timeout) = conn ∷ numbers_of_timeout timeout
numbers_of (call.NsClose conn) = conn ∷ []
numbers_of (call.NsPoke addr bytes) = addr ∷ []
numbers_of (call.NsKick queue head) = queue ∷ head ∷ []
numbers_of _ = []

abbrev pub bytes_of : Call → List ℕ
bytes_of (call.Send chan bytes parts) = bytes
bytes_of (call.MemWrite handle offset bytes) = bytes
bytes_of (call.NsSend conn bytes) = bytes
bytes_of (call.NsPoke addr bytes) = bytes
bytes_of _ = []

pub record IsCallWithin (asked : Call) : Type 0 where
  pub numbers : AreNumbers (numbers_of asked)
  pub bytes : AreBytes (bytes_of asked)

-- an event that begins no call has none of these
abbrev pub IsEventWithin : Event → Type 0
IsEventWithin (event.Begin actor start asked) = IsCallWithin asked
IsEventWithin _ = Unit {0}

abbrev pub AreWithin : List Entry → Type 0
AreWithin entries = AllByRecursion (λ entry. IsEventWithin entry.event) entries
