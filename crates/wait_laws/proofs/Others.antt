-- Only the end of a wait answers CANCELLED.
use Rattle.std.proofs.Common.{◌≡◌, ℕ, Bool, true, false, cond, Option, Some, None, refl, ap, ◌∙◌}
use Rattle.std.specs.Option.{option_map}
use Rattle.kernel_values.specs.declared.call.Call.{Call}
use Rattle.kernel_values.specs.declared.entry.Event.{Event}
use Rattle.kernel_values.specs.declared.entry.Event.TheVariants as event
use Rattle.kernel_values.specs.declared.errno.Errno.TheVariants as errno
use Rattle.kernel_values.specs.declared.reply.Answer.{Answer}
use Rattle.kernel_values.specs.declared.reply.Answer.TheVariants as answer
use Rattle.kernel_values.specs.declared.state.State.{State}
use Rattle.kernel_values.specs.declared.world.World.{World}
use Rattle.kernel_types.specs.Clients.{Acted}
use Rattle.kernel_types.specs.CoreStep.{core_begin, idle_answer}
use Rattle.kernel_types.specs.Device.{DeviceStep, device_step}
use Rattle.kernel_types.specs.Outcome.{Outcome}
use Rattle.kernel_types.specs.Step.{Stepped, beside_core, client_begin, client_number, device_stepped, step, idle, idle_lawful, in_world, is_thread, next_deadline}
use Rattle.step_laws.proofs.Outcomes.{is_answered, is_begun}
use Rattle.step_laws.proofs.Turns.{Begun, begun_by}
use Rattle.wait_laws.specs.Cancelling.{is_cancelled, is_end_of_wait}
use Rattle.run_laws.proofs.ClientCalling.{Calls, act_calls}
use Rattle.run_laws.proofs.ClientCalling.Calls.{over, stays, waits}
use Rattle.wait_laws.proofs.Turning.{ClientCalled, client_called, mapped, only_if}

answered_other : (said : Answer) → is_answered false said ≡ true → is_cancelled said ≡ false
answered_other (answer.Refuses errno.Cancelled) answers = absurd (cc)
answered_other (answer.Refuses _) answers = refl
answered_other _ answers = refl

begun_other : (said : Answer) → is_begun said ≡ true → is_cancelled said ≡ false
begun_other answer.Waits begins = refl
begun_other said begins = answered_other said begins

thread_other : (s : State) (k start : ℕ) (asked : Call) (outcome : Outcome) → core_begin s.core k start asked ≡ Some outcome → is_cancelled outcome.answer ≡ false
thread_other s k start asked outcome is =
    let b : Begun s.core k start asked outcome = begun_by s.core k start asked outcome is in
    ap (λ (o : Outcome). is_cancelled o.answer) b.ends ∙ begun_other b.inner.answer b.acts.answers

calls_other : (k : ℕ) (w : World) (acted : Acted) → Calls k w acted → is_cancelled acted.answer ≡ false
calls_other k w acted (stays is answers) = answered_other acted.answer answers
calls_other k w acted (waits wait unmarked is said) = ap is_cancelled said
calls_other k w acted (over is answers) = answered_other acted.answer answers

client_other : (s : State) (k start : ℕ) (asked : Call) (acted : Acted) → client_begin s k start asked ≡ Some acted → is_cancelled acted.answer ≡ false
client_other s k start asked acted is =
    let b : ClientCalled s k start asked acted = client_called s k start asked acted is in
    calls_other k s.world acted (act_calls k s.core.clock s.world asked acted b.done)

begin_other : (s : State) (k start : ℕ) (asked : Call) (r : Stepped) (b : Bool)
    → cond b (option_map (in_world s.world) (core_begin s.core k start asked)) (option_map (beside_core s.core) (client_begin s (client_number s k) start asked)) ≡ Some r
    → is_cancelled r.answer ≡ false
begin_other s k start asked r true is =
    let out : (o : Outcome) × (core_begin s.core k start asked ≡ Some o) × (r ≡ in_world s.world o) = mapped (in_world s.world) (core_begin s.core k start asked) r is in
    ap (λ (x : Stepped). is_cancelled x.answer) out.2 ∙ thread_other s k start asked out.0 out.1
begin_other s k start asked r false is =
    let out : (o : Acted) × (client_begin s (client_number s k) start asked ≡ Some o) × (r ≡ beside_core s.core o) =
    mapped (beside_core s.core) (client_begin s (client_number s k) start asked) r is in
    ap (λ (x : Stepped). is_cancelled x.answer) out.2 ∙ client_other s (client_number s k) start asked out.0 out.1

idle_other : (deadline : Option ℕ) → is_cancelled (idle_answer deadline) ≡ false
idle_other None = refl
idle_other (Some deadline) = refl

pub step_other : (s : State) (e : Event) (r : Stepped) → step s e ≡ Some r → is_end_of_wait e ≡ false → is_cancelled r.answer ≡ false
unfolding step
step_other s (event.Begin actor start asked) r is other =
    begin_other s actor.0 start asked r (is_thread s actor.0) is
step_other s (event.Resume actor start) r is other = absurd (cc)
step_other s event.Device r is other =
    let out : (done : DeviceStep) × (device_step s ≡ Some done) × (r ≡ device_stepped done) = mapped device_stepped (device_step s) r is in
    ap (λ (x : Stepped). is_cancelled x.answer) out.2
step_other s event.Idle r is other =
    let lawful : (idle_lawful s ≡ true) × (Some (idle s) ≡ Some r) = only_if (idle_lawful s) (Some (idle s)) r is in
    let same : r ≡ idle s = let both : Some (idle s) ≡ Some r = lawful.1 in cc in
    ap (λ (x : Stepped). is_cancelled x.answer) same ∙ idle_other (next_deadline s)
