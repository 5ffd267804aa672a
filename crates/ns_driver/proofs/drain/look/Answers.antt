-- proofs/drain/look/Answers.antt
use Rattle.std.proofs.Common.{map, ◌∙◌, ap}
use Rattle.std.specs.List.{fold}
use Rattle.virtqueue.specs.declared.queue.Queue.{Queue}
use Rattle.kernel_types.specs.GuestMemory.{used_idx}
use Rattle.kernel_types.specs.Drains.{with_free, delivered, frame_at}
use Rattle.ns_driver.proofs.Draining.{driver_is}
use Rattle.ns_driver.proofs.drain.look.Goals as goal

pub returns-clause-driver : goal.returns-clause-driver
returns-clause-driver c =
    driver_is c.args.mem.now c.args.driver.now _ _ _ _ c.requires.memory c.requires.sound
    (c.used_idx.ensures ∙ ap (λ (q : Queue). used_idx c.args.mem.now q.index) c.ring.ensures)
    (c.used_idx-2.ensures ∙ ap (λ (q : Queue). used_idx c.args.mem.now q.index) c.ring-2.ensures)
    (c.in_ok-freed.ensures.free ∙ ap (fold with_free c.args.driver.now.free) (c.as_slice.ensures ∙ c.in_ok-places.ensures.places))
    (c.in_ok-delivered_from.ensures
    ∙ ap (λ elements. fold delivered c.args.driver.now.connections (map (frame_at c.args.mem.now) elements)) (c.as_slice-2.ensures ∙ c.in_ok-elements.ensures.elements))
