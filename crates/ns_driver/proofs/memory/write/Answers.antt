-- proofs/memory/write/Answers.antt
use Rattle.std.proofs.Common.{arith}
use Rattle.virtqueue.proofs.Writes.{put_there}
use Rattle.ns_driver.proofs.memory.write.Goals as goal

pub returns : goal.returns
returns c = put_there c.args.at _ _ _ _ c.copy_from_slice.ensures.after (omega arith)
