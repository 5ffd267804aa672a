use Rattle.tipc_proto.proofs.ControlLaws.{written_short}
use Rattle.tipc_proto.proofs.controls.write_control.Goals as goal

pub returns-clause-short : goal.returns-clause-short
returns-clause-short c = written_short c.write_any.result c.args.control.now c.write_any.ensures
