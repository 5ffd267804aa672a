use Rattle.std.proofs.Common.{arith}
use Rattle.scene_reader.proofs.Stepping.{none_closes}
use Rattle.scene_reader.proofs.scene.is_closed_in.Goals as goal

pub returns : goal.returns
returns c = none_closes c.args.bytes.now c.loop-rest.rest.now (omega arith) c.loop-rest.invariant
