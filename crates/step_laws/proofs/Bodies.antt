-- Which calls have a body: threads make system calls, clients those of their driver and past it, and both finish.
use Rattle.std.proofs.Common.{◌≡◌, ℕ, refl}
use Rattle.std.specs.Option.{is_some}
use Rattle.kernel_values.specs.Calls.{is_of_client, is_of_thread}
use Rattle.kernel_values.specs.declared.call.Call.{Call}
use Rattle.kernel_values.specs.declared.call.Call.TheVariants as call
use Rattle.kernel_values.specs.declared.state.CoreState.{CoreState}
use Rattle.kernel_values.specs.declared.world.World.{World}
use Rattle.kernel_types.specs.Clients.{ns_act}
use Rattle.kernel_types.specs.CoreStep.{act}

pub thread_kind : (c : CoreState) (thread app : ℕ) (asked : Call) → is_some (act c thread app asked) ≡ is_of_thread asked
unfolding act
thread_kind c thread app call.Finish = refl
thread_kind c thread app _ = refl

pub client_kind : (clock client : ℕ) (asked : Call) (w : World) → is_some (ns_act clock client asked w) ≡ is_of_client asked
unfolding ns_act
client_kind clock client call.Finish w = refl
client_kind clock client _ w = refl
