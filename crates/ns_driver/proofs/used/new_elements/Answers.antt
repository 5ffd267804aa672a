-- proofs/used/new_elements/Answers.antt
use Rattle.std.proofs.Common.{◌+◌, ◌%◌}
use Rattle.kernel_types.specs.GuestMemory.{used_element}
use Rattle.ns_driver.proofs.Ranges.{one_more}
use Rattle.ns_driver.proofs.used.new_elements.Goals as goal

pub loop-k-preserved : goal.loop-k-preserved
loop-k-preserved c =
    one_more (λ k. used_element c.args.mem.now c.args.q.now ((c.args.seen + k) % 65536)) c.loop-k.elements _ _ _ c.loop-k.k c.new_count-k-end.result
    c.loop-k-test.true c.in_ok-push.ensures.ok c.used_element.ensures c.loop-k.invariant
