-- proofs/watching/seen_after/Answers.antt
use Rattle.std.proofs.Common.{◌+◌, ◌%◌, rules}
use Rattle.kernel_types.specs.GuestMemory.{used_element}
use Rattle.kernel_types.specs.Drains.{is_readable, frame_at}
use Rattle.ns_driver.specs.Watching.{seen}
use Rattle.ns_driver.proofs.Ranges.{one_folded}
use Rattle.ns_driver.proofs.watching.seen_after.Goals as goal

pub loop-k-preserved : goal.loop-k-preserved
loop-k-preserved c =
    one_folded (seen c.args.address) (frame_at c.args.mem.now) (is_readable c.args.driver.now.size)
    (λ k. used_element c.args.mem.now c.ring-q.result ((c.args.driver.now.seen_to_normal + k) % 65536)) c.loop-k.now _ _ c.loop-k.k c.new_count-k-end.result
    c.loop-k-test.true (search rules) c.loop-k.invariant
