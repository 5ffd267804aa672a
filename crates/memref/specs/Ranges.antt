-- Why a range of a memory reference may not be read or written. What a lawful size and a range are, and what a write leaves,
-- is said with the calls of memory references, in kernel_types.
use Rattle.std.specs.Prelude.{ℕ, Option, None, Some, Result, Ok, Err, if◌then◌else◌}
use Rattle.kernel_values.specs.declared.state.MemoryRef.{MemoryRef}
use Rattle.kernel_values.specs.declared.errno.Errno.{Errno}
use Rattle.kernel_values.specs.declared.errno.Errno.TheVariants as errno
use Rattle.kernel_types.specs.Memories.{is_range, is_writable}

-- why a range may not be read
abbrev pub read_refusal : MemoryRef → ℕ → ℕ → Option Errno
read_refusal memory offset len = if is_range memory offset len then None else Some errno.InvalidArgs

-- why a range may not be written: the range is looked at first, and then the flag
abbrev pub write_refusal : MemoryRef → ℕ → ℕ → Option Errno
write_refusal memory offset len = if is_range memory offset len
    then (if is_writable memory.flags then None else Some errno.AccessDenied)
    else Some errno.InvalidArgs

-- Ok where nothing refuses
abbrev pub answer_of : Option Errno → Result (Unit {0}) Errno
answer_of None = Ok tt
answer_of (Some refusal) = Err refusal
