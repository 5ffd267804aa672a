-- proofs/memory/write_descriptor/Answers.antt
use Rattle.std.proofs.Common.{◌∙◌, ap}
use Rattle.virtqueue.specs.Layout.{written_at, descriptor_start}
use Rattle.kernel_types.specs.GuestMemory.{descriptor_bytes}
use Rattle.ns_driver.proofs.memory.write_descriptor.Goals as goal

pub returns : goal.returns
returns c =
    c.write.ensures
    ∙ ap (λ bytes. written_at (descriptor_start c.args.queue c.args.place) bytes c.args.mem.now)
    (c.descriptor-bytes.ensures ∙ ap (λ addr. descriptor_bytes addr c.args.len c.args.flags) c.buffer_place.ensures)
