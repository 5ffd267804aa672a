-- The path that a control message asks a connection to.
use Rattle.std.specs.Prelude.{ℕ, List, Option, Some, None, Result, Ok}
use Rattle.tipc_proto.specs.declared.controls.Control.{Control}
use Rattle.tipc_proto.specs.declared.controls.Control.TheVariants.{ConnReq}
use Rattle.tipc_proto.specs.declared.faults.FrameFault.{FrameFault}

abbrev pub path_asked : Result Control FrameFault → Option (List ℕ)
path_asked (Ok (ConnReq path)) = Some path
path_asked _ = None
