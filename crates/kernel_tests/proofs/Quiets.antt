-- In a state without actors no event is lawful.
use Rattle.std.proofs.Common.{◌≡◌, ℕ, Bool, true, false, cond, None, refl}
use Rattle.std.specs.Option.{option_map}
use Rattle.kernel_values.specs.declared.call.Call.{Call}
use Rattle.kernel_values.specs.declared.entry.Event.{Event}
use Rattle.kernel_values.specs.declared.entry.Event.TheVariants as event
use Rattle.kernel_types.specs.CoreStep.{core_begin, core_resume}
use Rattle.kernel_types.specs.Device.{device_step}
use Rattle.kernel_types.specs.Step.{in_world, beside_core, is_thread, client_number, begin, step, client_begin, client_resume, client_movable, movable, statuses, idle_lawful, device_has_work}
use Rattle.kernel_types.specs.Kernel.{status_for}
use Rattle.kernel_types.specs.Waits.{thread_movable}
use Rattle.kernel_tests.specs.Quiet.{quiet}

-- nobody is a thread, and nobody a client

no_begin : (thread : Bool) (actor start : ℕ) (call : Call)
    → cond thread (option_map (in_world quiet.world) (core_begin quiet.core actor start call)) (option_map (beside_core quiet.core) (client_begin quiet (client_number quiet actor) start call)) ≡ None
unfolding core_begin client_begin
no_begin true actor start call = refl
no_begin false actor start call = refl

no_resume : (thread : Bool) (actor start : ℕ)
    → cond thread (option_map (in_world quiet.world) (core_resume quiet.core actor start)) (option_map (beside_core quiet.core) (client_resume quiet (client_number quiet actor) start)) ≡ None
unfolding core_resume client_resume
no_resume true actor start = refl
no_resume false actor start = refl

pub nothing_moves : (e : Event) → step quiet e ≡ None
unfolding step device_step idle_lawful statuses device_has_work
nothing_moves (event.Begin actor start call) = no_begin (is_thread quiet actor.0) actor.0 start call
nothing_moves (event.Resume actor start) = no_resume (is_thread quiet actor.0) actor.0 start
nothing_moves event.Device = refl
nothing_moves event.Idle = refl

pub nobody : (e : Event) → status_for quiet e ≡ None
unfolding statuses
nobody (event.Begin actor start call) = refl
nobody (event.Resume actor start) = refl
nobody event.Device = refl
nobody event.Idle = refl

moves_if : (thread : Bool) (actor : ℕ) → cond thread (thread_movable quiet.core actor) (client_movable quiet (client_number quiet actor)) ≡ false
unfolding thread_movable client_movable
moves_if true actor = refl
moves_if false actor = refl

pub nobody_moves : (actor : ℕ) → movable quiet actor ≡ false
unfolding movable
nobody_moves actor = moves_if (is_thread quiet actor) actor
