-- A state without actors, in which nothing can happen.
use Rattle.std.specs.Prelude.{[]}
use Rattle.kernel_values.specs.declared.state.State.{State}
use Rattle.kernel_types.specs.Opening.{world_without_clients}

abbrev pub quiet : State
quiet = record {
  core = record { apps = []; threads = []; objects = []; next = 0; clock = 0; bridged = [] };
  world = world_without_clients 16;
}
