-- The state in which a scene begins.
use Rattle.std.specs.Prelude.{ℕ, false, List, [], map, None, if◌then◌else◌, not}
use Rattle.std.specs.List.{flat_map, enumerate_from, range_with_len}
use Rattle.kernel_values.specs.declared.scene.App.{App}
use Rattle.kernel_values.specs.declared.scene.Client.{Client}
use Rattle.kernel_values.specs.declared.scene.Manifest.{Manifest}
use Rattle.kernel_values.specs.declared.state.Application.{Application}
use Rattle.kernel_values.specs.declared.state.Thread.{Thread}
use Rattle.kernel_values.specs.declared.state.Activity.{Activity}
use Rattle.kernel_values.specs.declared.state.Activity.TheVariants as activity
use Rattle.kernel_values.specs.declared.state.CoreState.{CoreState}
use Rattle.kernel_values.specs.declared.state.State.{State}
use Rattle.kernel_values.specs.declared.world.ClientActivity.TheVariants as client_activity
use Rattle.kernel_values.specs.declared.world.ClientState.{ClientState}
use Rattle.kernel_values.specs.declared.world.Device.{Device}
use Rattle.kernel_values.specs.declared.world.Driver.{Driver}
use Rattle.kernel_values.specs.declared.world.World.{World}
use Rattle.kernel_values.specs.SceneLaw.{SceneValue}
use Rattle.kernel_types.specs.GuestMemory.{ring, buffer_count, opening_memory}

-- an application starts with the scene unless its manifest defers it
abbrev pub opening_starts : Manifest → ℕ
opening_starts manifest = (if manifest.deferred then 0 else 1)

abbrev pub opening_app : App → Application
opening_app app = record { manifest = app.manifest; starts = opening_starts app.manifest; running = not app.manifest.deferred; table = []; last = None }

abbrev pub opening_activity : Manifest → Activity
opening_activity manifest = (if manifest.deferred then activity.Off else activity.Running 1)

-- a thread for each script of the application
abbrev pub opening_threads : ℕ × App → List Thread
opening_threads (place, app) = map (λ script. record { app = place; activity = opening_activity app.manifest }) app.threads

abbrev pub opening_core : List App → CoreState
opening_core apps = record {
  apps = map opening_app apps;
  threads = flat_map opening_threads (enumerate_from 0 apps);
  objects = [];
  next = 0;
  clock = 0;
  bridged = [];
}

abbrev pub opening_device : ℕ → Device
opening_device size = record {
  to_normal = ring 0 size;
  from_normal = ring 1 size;
  entries = [];
  refusals = [];
  online = false;
  broken = false;
}

-- the driver gave the buffers of queue 0, and those of queue 1 are free
abbrev pub opening_driver : ℕ → Driver
opening_driver size = record {
  size = size;
  seen_to_normal = 0;
  seen_from_normal = 0;
  free = range_with_len 0 (buffer_count size);
  connections = [];
}

-- every client runs from the beginning
abbrev pub opening_client : Client → ClientState
opening_client client = record { activity = client_activity.Running 1 }

-- the normal world before anything happens, with no client
abbrev pub world_without_clients : ℕ → World
world_without_clients size = record {
  memory = opening_memory size;
  device = opening_device size;
  driver = opening_driver size;
  clients = [];
}

abbrev pub opening_world : SceneValue → World
opening_world scene = record (world_without_clients scene.queue) { clients = map opening_client scene.clients }

-- the clock is 0, and there are no objects
unfoldable pub opening : SceneValue → State
opening scene = record { core = opening_core scene.apps; world = opening_world scene }

-- the scene without its clients
abbrev pub without_clients : SceneValue → SceneValue
without_clients scene = record scene { clients = [] }
