-- proofs/watching/seen_after/Invariants.antt
use Rattle.std.proofs.Common.{◌≡◌, ◌+◌, ◌-◌, ◌%◌, map}
use Rattle.std.specs.List.{fold, filter, range_with_len}
use Rattle.kernel_types.specs.GuestMemory.{used_element}
use Rattle.kernel_types.specs.Drains.{is_readable, frame_at, readable_elements}
use Rattle.ns_driver.specs.Acts.{bare}
use Rattle.ns_driver.specs.Watching.{seen}
use Rattle.ns_driver.proofs.watching.seen_after.Given as goal

abbrev pub invariant-loop-k : goal.invariant-loop-k
invariant-loop-k l =
    fold (seen l.address) l.now (map (frame_at l.mem) (filter (is_readable l.driver.size) (map (λ k. used_element l.mem l.q ((l.driver.seen_to_normal + k) % 65536)) (range_with_len l.k (l.k-end - l.k)))))
    ≡ fold (seen l.address) l.fn.before (map (frame_at l.mem) (readable_elements (bare l.mem l.driver)))
