-- The scene that a seed and a number of commands give.
use Rattle.std.specs.Prelude.{ℕ, ◌+◌, ◌-◌, ◌*◌, ◌/◌, ◌%◌, ◌^◌, ◌==◌, Bool, false, List, [], ◌∷◌, zero, suc, map, nat_lt, replicate, if◌then◌else◌}
use Rattle.std.specs.List.{filter, range_with_len}
use Rattle.kernel_values.specs.SceneLaw.{SceneValue}
use Rattle.kernel_values.specs.declared.call.Call.{Call}
use Rattle.kernel_values.specs.declared.call.Call.TheVariants as call
use Rattle.kernel_values.specs.declared.call.Timeout.TheVariants as timeout
use Rattle.kernel_values.specs.declared.scene.App.{App}
use Rattle.kernel_values.specs.declared.script.Command.{Command}

-- ---- the numbers that commands are drawn from

-- a linear congruential sequence modulo 2^64, from the seed on
unfoldable pub stepped : ℕ → ℕ
stepped x = (x * 6364136223846793005 + 1442695040888963407) % 2 ^ 64

unfoldable pub number_after : ℕ → ℕ → ℕ
number_after seed zero = seed
number_after seed (suc steps) = stepped (number_after seed steps)

-- ---- the commands

-- the applications are `g0` to `g3`
abbrev pub name_of : ℕ → List ℕ
name_of app = 0x67 ∷ (0x30 + app) ∷ []

abbrev pub connected : ℕ → Call
connected app = call.Connect (name_of app) (record { 0 = 2 })

-- the last kind of drawn call has four kinds of its own
abbrev pub seldom : ℕ → ℕ → Call
seldom handle v = if (v / 8192) % 4 == 0 then connected ((v / 128) % 4)
    else if (v / 8192) % 4 == 1 then call.Accept 0
    else if (v / 8192) % 4 == 2 then call.Close (handle + 1)
    else call.Dup handle

-- of ten drawn calls three send 1 to 64 equal bytes, two get, one reads, two put, and one waits for 3 ms
abbrev pub drawn_on : ℕ → ℕ → ℕ → Call
drawn_on at handle v = if nat_lt (v % 10) 3 then call.Send handle (replicate (1 + (v / 128) % 64) (at % 256)) []
    else if nat_lt (v % 10) 5 then call.Get handle
    else if nat_lt (v % 10) 6 then call.Read handle 1 0 64 0
    else if nat_lt (v % 10) 8 then call.Put handle 1
    else if nat_lt (v % 10) 9 then call.Wait handle (timeout.Millis 3)
    else seldom handle v

unfoldable pub drawn : ℕ → ℕ → Call
drawn at v = drawn_on at ((v / 16) % 8) v

-- each application publishes a port by its own name, connects to the next one's, and accepts; all later calls are drawn
unfoldable pub call_by : ℕ → ℕ → Call
call_by at x = if nat_lt at 4 then call.PortCreate (name_of (at % 4)) 4 64 (record { 0 = 1 })
    else if nat_lt at 8 then connected ((at + 1) % 4)
    else if nat_lt at 12 then call.Accept 0
    else drawn at (x / 2 ^ 33)

abbrev pub command_by : ℕ → ℕ → Command
command_by at x = record { call = call_by at x; reads = []; sets = [] }

-- before each command but the first twelve the sequence takes a step
abbrev pub command_at : ℕ → ℕ → Command
command_at seed at = command_by at (number_after seed (at + 1 - 12))

-- ---- the scene

-- commands go to the applications in turn
unfoldable pub is_of : ℕ → ℕ → Bool
is_of app at = at % 4 == app

abbrev pub script_of : ℕ → ℕ → ℕ → List Command
script_of seed count app = map (command_at seed) (filter (is_of app) (range_with_len 0 count))

-- without a manifest: its number and 1 is its UUID
abbrev pub app_of : ℕ → ℕ → ℕ → App
app_of seed count app = record { name = name_of app; manifest = record { uuid = app + 1; restart = false; deferred = false; ports = [] }; threads = script_of seed count app ∷ [] }

abbrev pub generated : ℕ → ℕ → SceneValue
generated seed count = record { apps = map (app_of seed count) (range_with_len 0 4); clients = []; queue = 16; turns = [] }
