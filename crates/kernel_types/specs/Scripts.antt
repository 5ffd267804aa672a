-- The calls of a script: each command's call with its registers as the answers before it left them, then
-- `finish`. A register is empty at first, and reads as the number that no handle has.
use Rattle.std.specs.Prelude.{ℕ, Bool, true, false, List, [], ◌∷◌, ◌+◌, ◌==◌, length, replicate, Option, Some, None, slice_get, slice_set, slice_index_or, if◌then◌else◌}
use Rattle.std.specs.List.{fold, zip}
use Rattle.kernel_values.specs.declared.call.Call.{Call}
use Rattle.kernel_values.specs.declared.call.Call.TheVariants as call
use Rattle.kernel_values.specs.declared.reply.Answer.{Answer}
use Rattle.kernel_values.specs.declared.reply.Answer.TheVariants as answer
use Rattle.kernel_values.specs.declared.reply.Reply.{Reply}
use Rattle.kernel_values.specs.declared.reply.Reply.TheVariants as reply
use Rattle.kernel_values.specs.declared.script.Command.{Command}
use Rattle.kernel_values.specs.declared.script.RegRead.{RegRead}
use Rattle.kernel_values.specs.Calls.{with_number}

-- a script has 64 registers, all empty at first
abbrev pub empty_register : ℕ
empty_register = 4294967295

unfoldable pub empty_registers : List ℕ
empty_registers = replicate 64 empty_register

abbrev pub value_in : List ℕ → ℕ → ℕ
value_in registers number = slice_index_or registers number empty_register

abbrev pub read_register : List ℕ → Call → RegRead → Call
read_register registers call read = with_number read.place (value_in registers read.reg) call

-- a command's call, with the registers that it reads
unfoldable pub call_of : List ℕ → Command → Call
call_of registers command = fold (read_register registers) command.call command.reads

-- what an answer sets: a reply that names a value sets the first register after `as`, and one with handles a
-- register for each; a refusal sets none

abbrev pub values_of : Reply → List ℕ
values_of (reply.Handle handle) = handle ∷ []
values_of (reply.Accepted handle uuid) = handle ∷ []
values_of (reply.Message id len parts) = id ∷ []
values_of (reply.Bytes bytes parts) = parts
values_of (reply.Event handle events cookie) = handle ∷ []
values_of (reply.Conn address) = address ∷ []
values_of other = []

abbrev pub answered_values : Answer → List ℕ
answered_values (answer.Gives reply) = values_of reply
answered_values other = []

abbrev pub with_register : List ℕ → ℕ × ℕ → List ℕ
with_register registers (number, value) = slice_set registers number value

unfoldable pub registers_after : List ℕ → Command → Answer → List ℕ
registers_after registers command answer = fold with_register registers (zip command.sets (answered_values answer))

-- where an actor stands in its script: how many answers it had, or past the end, and what its registers hold
pub record Stand : Type 0 where
  pub position : ℕ
  pub registers : List ℕ

unfoldable pub script_begin : Stand
script_begin = record { position = 0; registers = empty_registers }

abbrev pub is_exit : Call → Bool
is_exit (call.Exit code) = true
is_exit other = false

-- the next call: a command's, or after the last one `finish`, or none

abbrev pub call_at : Stand → ℕ → Option Command → Option Call
call_at stand len (Some command) = Some (call_of stand.registers command)
call_at stand len None = (if stand.position == len then Some call.Finish else None)

unfoldable pub next_call : List Command → Stand → Option Call
next_call script stand = call_at stand (length script) (slice_get script stand.position)

-- after the answer to it; after an exit, nothing comes, and where no call is left an answer changes nothing

abbrev pub stand_after : List Command → Stand → Answer → Option Command → Stand
stand_after script stand answer (Some command) =
    (if is_exit command.call then record stand { position = length script + 1 }
    else record { position = stand.position + 1; registers = registers_after stand.registers command answer })
stand_after script stand answer None = (if stand.position == length script then record stand { position = stand.position + 1 } else stand)

unfoldable pub answered : List Command → Stand → Answer → Stand
answered script stand answer = stand_after script stand answer (slice_get script stand.position)

abbrev pub stand_on : List Command → Stand → List Answer → Stand
stand_on script stand [] = stand
stand_on script stand (answer ∷ answers) = stand_on script (answered script stand answer) answers

-- the calls that a script makes on these answers; with k answers there are at most k + 1

abbrev pub one_if : Option Call → List Call
one_if None = []
one_if (Some call) = call ∷ []

abbrev pub led_by : Option Call → List Call → List Call
led_by None calls = []
led_by (Some call) calls = call ∷ calls

abbrev pub calls_from : List Command → Stand → List Answer → List Call
calls_from script stand [] = one_if (next_call script stand)
calls_from script stand (answer ∷ answers) = led_by (next_call script stand) (calls_from script (answered script stand answer) answers)

unfoldable pub calls_of : List Command → List Answer → List Call
calls_of script answers = calls_from script script_begin answers
