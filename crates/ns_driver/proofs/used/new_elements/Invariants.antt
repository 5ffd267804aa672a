-- proofs/used/new_elements/Invariants.antt
use Rattle.std.proofs.Common.{◌+◌, ◌-◌, ◌%◌, ◌++◌, ◌≡◌, map}
use Rattle.std.specs.List.{range_with_len}
use Rattle.kernel_types.specs.GuestMemory.{used_element, new_elements}
use Rattle.ns_driver.proofs.used.new_elements.Given as goal

abbrev pub invariant-loop-k : goal.invariant-loop-k
invariant-loop-k l = l.elements ++ map (λ k. used_element l.mem l.q ((l.seen + k) % 65536)) (range_with_len l.k (l.k-end - l.k)) ≡ new_elements l.mem l.q l.seen
