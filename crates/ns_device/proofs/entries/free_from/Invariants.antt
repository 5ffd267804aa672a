use Rattle.std.proofs.Common.{◌≡◌, ◌+◌, ◌-◌}
use Rattle.std.specs.List.{find, range_with_len}
use Rattle.ns_device.specs.Entries.{is_free}
use Rattle.ns_device.proofs.entries.free_from.Given as goal

abbrev pub invariant-loop-secure : goal.invariant-loop-secure
invariant-loop-secure l = find (is_free l.entries) (range_with_len l.secure ((l.first + l.count) - l.secure)) ≡ find (is_free l.entries) (range_with_len l.first l.count)
