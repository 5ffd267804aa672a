use Rattle.std.proofs.Common.{◌≡◌, drop}
use Rattle.std.specs.List.{fold}
use Rattle.kernel_types.specs.Names.{message_objects}
use Rattle.object_store.specs.Stock.{unnamed}
use Rattle.counted_core.proofs.sweep.unname_messages.Given as goal

abbrev pub invariant-loop-message : goal.invariant-loop-message
invariant-loop-message l = (fold unnamed l.store.items (message_objects (drop l.message-index l.messages)) ≡ fold unnamed l.initial.store.items (message_objects l.messages)) × (l.store.next ≡ l.initial.store.next)
