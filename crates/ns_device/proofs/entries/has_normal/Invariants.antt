use Rattle.std.proofs.Common.{◌≡◌, ◌==◌, drop}
use Rattle.std.specs.List.{list_any}
use Rattle.ns_device.proofs.entries.has_normal.Given as goal

abbrev pub invariant-loop-entry : goal.invariant-loop-entry
invariant-loop-entry l = list_any (λ entry. entry.normal == l.normal) (drop l.entry-index l.entries) ≡ list_any (λ entry. entry.normal == l.normal) l.entries
