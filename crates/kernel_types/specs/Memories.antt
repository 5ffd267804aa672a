-- `memref`, `mread` and `mwrite`: memory references.
use Rattle.std.specs.Prelude.{ℕ, Bool, List, [], ◌++◌, ◌+◌, ◌==◌, ◌&&◌, not, nat_le, length, take, drop, replicate, Option, Some, None, bit_and, if◌then◌else◌}
use Rattle.kernel_values.specs.declared.flags.MemFlags.{MemFlags}
use Rattle.kernel_values.specs.declared.reply.Reply.TheVariants as reply
use Rattle.kernel_values.specs.declared.errno.Errno.TheVariants as errno
use Rattle.kernel_values.specs.declared.state.Body.TheVariants as body
use Rattle.kernel_values.specs.declared.state.MemoryRef.{MemoryRef}
use Rattle.kernel_values.specs.declared.state.TableEntry.{TableEntry}
use Rattle.kernel_values.specs.declared.state.CoreState.{CoreState}
use Rattle.kernel_types.specs.Objects.{memory_of, added, memory_changed}
use Rattle.kernel_types.specs.Tables.{table_of, entry_at, is_full, free_handle, install}
use Rattle.kernel_types.specs.Outcome.{Outcome, gives, refuses}

-- a memory reference has 1 to 65,536 bytes

abbrev pub memory_limit : ℕ
memory_limit = 65536

abbrev pub is_lawful_size : ℕ → Bool
is_lawful_size size = nat_le 1 size && nat_le size memory_limit

-- new memory is zero
unfoldable pub new_memory : ℕ → MemFlags → MemoryRef
new_memory size flags = record { bytes = replicate size 0; flags = flags }

unfoldable pub mem_create : CoreState → ℕ → ℕ → MemFlags → Outcome
mem_create c app size flags =
    (if not (is_lawful_size size) then refuses errno.InvalidArgs c
    else if is_full (table_of c app) then refuses errno.NoResources c
    else gives (reply.Handle (free_handle (table_of c app))) (install app c.next (added (body.Memory (new_memory size flags)) c)))

-- whether `len` bytes from `offset` on are within the memory
abbrev pub is_range : MemoryRef → ℕ → ℕ → Bool
is_range memory offset len = nat_le (offset + len) (length memory.bytes)

abbrev pub mem_read_of : CoreState → Option MemoryRef → ℕ → ℕ → Outcome
mem_read_of c None offset len = refuses errno.InvalidArgs c
mem_read_of c (Some memory) offset len =
    (if is_range memory offset len then gives (reply.Bytes (take len (drop offset memory.bytes)) []) c
    else refuses errno.InvalidArgs c)

abbrev pub mem_read_entry : CoreState → Option TableEntry → ℕ → ℕ → Outcome
mem_read_entry c None offset len = refuses errno.BadHandle c
mem_read_entry c (Some entry) offset len = mem_read_of c (memory_of c.objects entry.object) offset len

unfoldable pub mem_read : CoreState → ℕ → ℕ → ℕ → ℕ → Outcome
mem_read c app handle offset len = mem_read_entry c (entry_at (table_of c app) handle) offset len

abbrev pub is_writable : MemFlags → Bool
is_writable flags = not (bit_and flags.0 1 == 0)

-- the bytes in place of as many from `offset` on
abbrev pub overwritten : ℕ → List ℕ → List ℕ → List ℕ
overwritten offset bytes old = take offset old ++ bytes ++ drop (offset + length bytes) old

abbrev pub written : ℕ → List ℕ → MemoryRef → MemoryRef
written offset bytes memory = record memory { bytes = overwritten offset bytes memory.bytes }

abbrev pub mem_write_of : CoreState → ℕ → Option MemoryRef → ℕ → List ℕ → Outcome
mem_write_of c id None offset bytes = refuses errno.InvalidArgs c
mem_write_of c id (Some memory) offset bytes =
    (if not (is_range memory offset (length bytes)) then refuses errno.InvalidArgs c
    else if not (is_writable memory.flags) then refuses errno.AccessDenied c
    else gives reply.Done (memory_changed (written offset bytes) id c))

abbrev pub mem_write_entry : CoreState → Option TableEntry → ℕ → List ℕ → Outcome
mem_write_entry c None offset bytes = refuses errno.BadHandle c
mem_write_entry c (Some entry) offset bytes = mem_write_of c entry.object (memory_of c.objects entry.object) offset bytes

unfoldable pub mem_write : CoreState → ℕ → ℕ → ℕ → List ℕ → Outcome
mem_write c app handle offset bytes = mem_write_entry c (entry_at (table_of c app) handle) offset bytes
