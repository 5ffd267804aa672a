-- A step of the device in any world, by the core, the memory and the device alone.
use Rattle.std.proofs.Common.{◌≡◌, ℕ, ◌&&◌, Bool, true, false, cond, not, List, length, Option, Some, None, refl, sym, ap, ◌∙◌, subst}
use Rattle.std.specs.Prelude.{nat_lt, Result, Ok, Err, IsTrue}
use Rattle.std.specs.Option.{is_some, option_map}
use Rattle.kernel_values.specs.declared.reply.BreakCause.TheVariants as broken
use Rattle.kernel_values.specs.declared.reply.DeviceReply.{DeviceReply}
use Rattle.kernel_values.specs.declared.reply.DeviceReply.TheVariants as device
use Rattle.kernel_values.specs.declared.state.State.{State}
use Rattle.virtqueue.specs.declared.chain.Chain.{Chain}
use Rattle.virtqueue.specs.declared.queue.RingFault.{RingFault}
use Rattle.virtqueue.specs.Bytes.{bytes_at, room}
use Rattle.virtqueue.specs.Chains.{chain}
use Rattle.kernel_types.specs.Device.{Due, DeviceStep, Taken, broke, device_step, due_frame, due_of, has_device, ring_broke, send_due, sent_by_device, step_by_due, take_frame, take_next, take_step, taken_by_device}
use Rattle.kernel_types.specs.Step.{Stepped, device_has_work, device_stepped, step}
use Rattle.ns_device.specs.Worlds.{DeviceStepsAnywhere, DeviceWorksAnywhere, Left, bare, device_left, left, left_in}

module _ (s : State) where
  abbrev alone : State
  alone = bare s.core s.world.memory s.world.device

  -- the one step is the other's, in this world
  abbrev Same : Option DeviceStep → Option DeviceStep → Type 0
  Same o p = option_map device_stepped o ≡ option_map (left_in s.world) (option_map left p)

  same_if : (b : Bool) (o p q r : Option DeviceStep) → Same o q → Same p r → Same (cond b o p) (cond b q r)
  same_if b o p q r f g = elim b as (λ v. Same (cond v o p) (cond v q r)) [ true ↦ f | false ↦ g ]

  broke_same : (reply : DeviceReply) → Same (Some (broke s reply)) (Some (broke alone reply))
  broke_same reply = refl

  taken_same : (found : Chain) (bytes : List ℕ) (o : Option Taken) → Same (option_map (taken_by_device s found bytes) o) (option_map (taken_by_device alone found bytes) o)
  taken_same found bytes None = refl
  taken_same found bytes (Some taken) = refl

  next_same : (r : Result (Option Chain) RingFault) → Same (take_next s r) (take_next alone r)
  next_same (Err fault) = broke_same (ring_broke 1 fault)
  next_same (Ok None) = refl
  next_same (Ok (Some found)) =
      let bytes : List ℕ = bytes_at found.parts s.world.memory in
      taken_same found bytes (take_frame s.core s.world.device bytes)

  take_same : Same (take_step s) (take_step alone)
  unfolding take_step
  take_same = next_same (chain s.world.memory s.world.device.from_normal)

  send_same : (due : Due) (r : Result (Option Chain) RingFault) → Same (send_due s due r) (send_due alone due r)
  send_same due (Err fault) = broke_same (ring_broke 0 fault)
  send_same due (Ok None) = take_same
  send_same due (Ok (Some found)) =
      let small : DeviceReply = device.Broke 0 broken.SmallBuffer found.head in
      same_if (nat_lt (room found.parts) (length (due_frame due))) (Some (broke s small)) (Some (sent_by_device s due found)) (Some (broke alone small)) (Some (sent_by_device alone due found))
      (broke_same small) refl

  due_same : (o : Option Due) → Same (step_by_due s o) (step_by_due alone o)
  due_same None = take_same
  due_same (Some due) = send_same due (chain s.world.memory s.world.device.to_normal)

  step_same : IsTrue (has_device s.world.clients) → Same (device_step s) (device_step alone)
  unfolding device_step
  step_same there =
      let due : Option Due = due_of s.core s.world.device in
      subst (λ b. Same (cond (b && not s.world.device.broken) (step_by_due s due) None) (cond (not s.world.device.broken) (step_by_due alone due) None)) (sym there)
      (same_if (not s.world.device.broken) (step_by_due s due) None (step_by_due alone due) None (due_same due) refl)

pub device_anywhere : DeviceStepsAnywhere
unfolding step device_left
device_anywhere s there = step_same s there

-- which states have work

abbrev steps_of : Option DeviceStep → Option Stepped
steps_of o = option_map device_stepped o

stepped_is_some : (o : Option DeviceStep) → is_some (steps_of o) ≡ is_some o
stepped_is_some None = refl
stepped_is_some (Some done) = refl

left_in_is_some : (s : State) (o : Option Left) → is_some (option_map (left_in s.world) o) ≡ is_some o
left_in_is_some s None = refl
left_in_is_some s (Some l) = refl

no_client : (s : State) → has_device s.world.clients ≡ false → is_some (device_step s) ≡ false
unfolding device_step
no_client s none =
    subst (λ b. is_some (cond (b && not s.world.device.broken) (step_by_due s (due_of s.core s.world.device)) None) ≡ false) (sym none) refl

pub works_anywhere : DeviceWorksAnywhere
unfolding device_has_work step
works_anywhere s =
    let l : Option Left = device_left s.core s.world.memory s.world.device in
    let P : Bool → Type 0 = λ b. has_device s.world.clients ≡ b → is_some (device_step s) ≡ (b && is_some l) in
    let there : P true = λ is. sym (stepped_is_some (device_step s)) ∙ ap is_some (device_anywhere s is) ∙ left_in_is_some s l in
    let go : (b : Bool) → P b = λ b. elim b as (λ v. P v) [ true ↦ there | false ↦ no_client s ] in
    go (has_device s.world.clients) refl
