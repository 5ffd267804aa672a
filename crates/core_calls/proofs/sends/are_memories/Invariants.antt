use Rattle.std.proofs.Common.{◌≡◌, ℕ, Bool, drop}
use Rattle.std.specs.List.{list_all}
use Rattle.kernel_types.specs.Messages.{is_memory_entry}
use Rattle.kernel_types.specs.Tables.{entry_at, table_of}
use Rattle.core_calls.proofs.sends.are_memories.Given as goal

abbrev pub invariant-loop-handle : goal.invariant-loop-handle
invariant-loop-handle g l =
    let is_memory : ℕ → Bool = λ handle. is_memory_entry (g.C.CoreChanges.state l.core).objects (entry_at (table_of (g.C.CoreChanges.state l.core) l.app) handle) in
    list_all is_memory (drop l.handle-index l.parts) ≡ list_all is_memory l.parts
