use Rattle.std.proofs.Common.{refl, arith}
use Rattle.virtqueue.proofs.Writes.{put_number}
use Rattle.virtqueue.proofs.memory.write_u32.Goals as goal

pub returns : goal.returns
returns c = put_number c.args.at 4 _ _ _ _ (omega arith) (omega arith) refl c.write_u32.ensures
