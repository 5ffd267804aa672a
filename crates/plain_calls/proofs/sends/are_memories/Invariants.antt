use Rattle.std.specs.List.{list_all}
use Rattle.kernel_types.specs.Messages.{is_memory_entry}
use Rattle.kernel_types.specs.Tables.{entry_at}
use Rattle.std.proofs.Common.{drop, ◌≡◌}
use Rattle.plain_calls.proofs.sends.are_memories.Given as goal

abbrev pub invariant-loop-handle : goal.invariant-loop-handle
invariant-loop-handle l = list_all (λ handle. is_memory_entry l.objects (entry_at l.table handle)) (drop l.handle-index l.parts) ≡ list_all (λ handle. is_memory_entry l.objects (entry_at l.table handle)) l.parts
