-- What an outcome comes of: changes of tables and objects, then of threads and applications; and what its answer lists.
use Rattle.std.specs.Prelude.{◌≡◌, ℕ, Bool, true, false, [], take, drop, Option, Some}
use Rattle.std.specs.List.{find}
use Rattle.kernel_values.specs.declared.call.Call.{Call}
use Rattle.kernel_values.specs.declared.call.Call.TheVariants as call
use Rattle.kernel_values.specs.declared.errno.Errno.TheVariants as errno
use Rattle.kernel_values.specs.declared.reply.Answer.{Answer}
use Rattle.kernel_values.specs.declared.reply.Answer.TheVariants as answer
use Rattle.kernel_values.specs.declared.reply.Reply.TheVariants as reply
use Rattle.kernel_values.specs.declared.state.ChannelEnd.{ChannelEnd}
use Rattle.kernel_values.specs.declared.state.CoreState.{CoreState}
use Rattle.kernel_values.specs.declared.state.MemoryRef.{MemoryRef}
use Rattle.kernel_values.specs.declared.state.Message.{Message}
use Rattle.kernel_types.specs.Messages.{all_handles, is_opened_as}
use Rattle.kernel_types.specs.Objects.{end_of, memory_of}
use Rattle.kernel_types.specs.Outcome.{Outcome}
use Rattle.kernel_types.specs.Tables.{table_of}
use Rattle.step_laws.specs.Walks.{Row, SmallRow, SmallWalk, ThreadChange, after_thread, moves_of}

-- a call that may answer a list
abbrev pub may_list : Call → Bool
may_list (call.Read chan id offset room parts) = true
may_list (call.MemRead handle offset len) = true
may_list _ = false

abbrev pub lists : Answer → Bool
lists (answer.Gives (reply.Bytes bytes handles)) = true
lists (answer.Device reply) = true
lists _ = false

-- what an answer lists, and where it found it
pub data Said (by : Option ℕ) (reads : Bool) (s : CoreState) (said : Answer) : Type 0 where
  says_no_list : lists said ≡ false → Said by reads s said
  says_message : reads ≡ true → (c : CoreState) → SmallRow by s c → (id number : ℕ) (end : ChannelEnd) (message : Message) → end_of c.objects id ≡ Some end
      → find (is_opened_as number) end.messages ≡ Some message → (app offset room count : ℕ)
      → said ≡ answer.Gives (reply.Bytes (take room (drop offset message.bytes)) (all_handles (table_of c app) (take count message.parts))) → Said by reads s said
  says_memory : reads ≡ true → (c : CoreState) → SmallRow by s c → (id : ℕ) (memory : MemoryRef) → memory_of c.objects id ≡ Some memory → (offset len : ℕ)
      → said ≡ answer.Gives (reply.Bytes (take len (drop offset memory.bytes)) []) → Said by reads s said

-- it gives or refuses; CANCELLED is left to the end of a wait
abbrev pub is_answered : Bool → Answer → Bool
is_answered ends (answer.Gives reply) = true
is_answered ends (answer.Refuses errno.Cancelled) = ends
is_answered ends (answer.Refuses other) = true
is_answered ends other = false

-- so does a call, or its wait begins
abbrev pub is_begun : Answer → Bool
is_begun answer.Waits = true
is_begun other = is_answered false other

-- an outcome that comes of changes of tables and objects alone; `ends` where it ends a wait
pub record Comes (by : Option ℕ) (reads ends : Bool) (s : CoreState) (outcome : Outcome) : Type 0 where
  pub walk : SmallWalk by s (moves_of outcome.seqs) outcome.core
  pub says : Said by reads s outcome.answer
  pub answers : is_answered ends outcome.answer ≡ true

-- one that comes of these, and then of changes of threads and applications
pub record Acts (app thread : ℕ) (asked : Call) (s : CoreState) (outcome : Outcome) : Type 0 where
  pub middle : CoreState
  pub walk : SmallWalk (Some app) s (moves_of outcome.seqs) middle
  pub changes : Row (ThreadChange app thread asked outcome.answer) (after_thread app thread asked outcome.answer) middle outcome.core
  pub says : Said (Some app) (may_list asked) s outcome.answer
  pub answers : is_begun outcome.answer ≡ true
