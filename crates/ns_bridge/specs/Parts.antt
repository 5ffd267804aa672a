-- What the whole kernel is made of: a core, a device, and the normal world behind it.
use Rattle.std.specs.Prelude.{ℕ, List, map, Option, Some, None}
use Rattle.kernel_types.specs.Clients.{client_cancelled, client_changed}
use Rattle.kernel_values.specs.declared.state.CoreState.{CoreState}
use Rattle.kernel_values.specs.declared.state.State.{State}
use Rattle.kernel_values.specs.declared.world.ClientState.{ClientState}
use Rattle.kernel_values.specs.declared.world.Device.{Device}
use Rattle.kernel_values.specs.declared.world.Driver.{Driver}
use Rattle.kernel_values.specs.declared.world.World.{World}

-- guest memory, the driver and its clients
pub record Normal : Type 0 where
  pub memory : List ℕ
  pub driver : Driver
  pub clients : List ClientState

abbrev pub world_of : Device → Normal → World
world_of d n = record { memory = n.memory; device = d; driver = n.driver; clients = n.clients }

abbrev pub state_of : CoreState → Device → Normal → State
state_of c d n = record { core = c; world = world_of d n }

abbrev pub normal_of : World → Normal
normal_of w = record { memory = w.memory; driver = w.driver; clients = w.clients }

abbrev pub parts : List ℕ → Driver → List ClientState → Normal
parts memory driver clients = record { memory = memory; driver = driver; clients = clients }

abbrev pub with_clients : List ClientState → Normal → Normal
with_clients clients n = record n { clients = clients }

-- where no wait has a deadline, every wait is cancelled
abbrev pub idled : Option ℕ → Normal → Normal
idled None n = with_clients (map (client_changed client_cancelled) n.clients) n
idled (Some deadline) n = n
