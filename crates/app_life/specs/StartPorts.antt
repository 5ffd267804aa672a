-- Start ports: the paths at which a connect starts an application.
use Rattle.std.specs.Prelude.{ℕ, List, Option, option_map, option_and_then}
use Rattle.std.specs.List.{find, position}
use Rattle.kernel_values.specs.declared.flags.PortFlags.{PortFlags}
use Rattle.kernel_values.specs.declared.scene.StartPort.{StartPort}
use Rattle.kernel_values.specs.declared.state.Application.{Application}
use Rattle.kernel_types.specs.Applications.{has_start_port}
use Rattle.kernel_types.specs.Connects.{start_flags}

-- the number of the first application that has it
abbrev pub serving : List ℕ → List Application → Option ℕ
serving path apps = position (has_start_port path) apps

abbrev pub flags_of : StartPort → PortFlags
flags_of port = port.flags

-- who may connect to it
abbrev pub serving_flags : List ℕ → List Application → Option PortFlags
serving_flags path apps = option_map flags_of (option_and_then (start_flags path) (find (has_start_port path) apps))
