-- An origin that stands in a view which is no longer used: of a state with nothing in it.
use Rattle.std.specs.Prelude.{[], false}
use Rattle.virtqueue.specs.declared.queue.Queue.{Queue}
use Rattle.kernel_values.specs.Origin.{Origin}

abbrev no_queue : Queue
no_queue = record { index = 0; n = 0; position = 0; used = 0 }

abbrev pub nowhere : Origin
nowhere = record {
  state = record {
    core = record { apps = []; threads = []; objects = []; next = 0; clock = 0; bridged = [] };
    world = record {
      memory = [];
      device = record { to_normal = no_queue; from_normal = no_queue; entries = []; refusals = []; online = false; broken = false };
      driver = record { size = 0; seen_to_normal = 0; seen_from_normal = 0; free = []; connections = [] };
      clients = [];
    };
  };
  scripts = [];
  made = 0;
}
