-- A step of the device in the whole kernel.
use Rattle.std.proofs.Common.{◌≡◌, ◌≤◌, ◌<◌, ℕ, ◌+◌, ◌&&◌, Bool, true, false, List, [], ◌∷◌, length, Option, Some, None, refl, sym, ◌∙◌, ap, subst, arith}
use Rattle.std.specs.Option.{option_map, is_some}
use Rattle.kernel_values.specs.declared.entry.Event.TheVariants as event
use Rattle.kernel_values.specs.declared.reply.Answer.TheVariants as answer
use Rattle.kernel_values.specs.declared.state.CoreState.{CoreState}
use Rattle.kernel_values.specs.declared.state.State.{State}
use Rattle.kernel_values.specs.declared.world.ClientState.{ClientState}
use Rattle.kernel_values.specs.declared.world.Device.{Device}
use Rattle.kernel_types.specs.Device.{DeviceStep, device_step, has_device}
use Rattle.kernel_types.specs.History.{entry_of, state_or}
use Rattle.kernel_types.specs.Kernel.{Did, Refused, step_limit}
use Rattle.kernel_types.specs.Limits.{FitsIn, path_room}
use Rattle.kernel_types.specs.Step.{Stepped, device_has_work, device_stepped, step}
use Rattle.kernel_types.specs.declared.kernel.StepCause.TheVariants.{NotMovable}
use Rattle.step_laws.proofs.Bridged.{DeviceKeepsIf, any_change, device_keeps}
use Rattle.kernel_laws.proofs.SameActors.{steps_keep}
use Rattle.ns_device.specs.declared.told.DeviceOutcome.{DeviceOutcome}
use Rattle.ns_device.specs.Steps.{Stepped as DeviceStepped}
use Rattle.ns_device.specs.Worlds.{DeviceStepsAnywhere, DeviceWorksAnywhere, device_left, left_in, told_of}
use Rattle.ns_bridge.specs.Parts.{Normal, parts, state_of, world_of}
use Rattle.ns_bridge.specs.Timely.{IsOnTime}
use Rattle.ns_bridge.specs.Wholes.{IsWhole}
use Rattle.ns_bridge.proofs.IdleSteps.{core_device}
use Rattle.ns_bridge.proofs.OnTime.{device_leaves}
use Rattle.ns_bridge.proofs.Threads.{threads_stay}

-- the step that was told
abbrev told_stepped : State → Device → Normal → DeviceOutcome → Stepped
told_stepped t d n told = record { answer = answer.Device told.reply; seqs = told.seqs; state = state_of t.core d n }

there_is_device : (clients : List ClientState) → 0 < length clients → has_device clients ≡ true
there_is_device [] h = absurd (omega arith)
there_is_device (client ∷ clients) h = refl

no_device : (clients : List ClientState) → length clients ≡ 0 → has_device clients ≡ false
no_device [] h = refl
no_device (client ∷ clients) h = absurd (omega arith)

device_is : DeviceStepsAnywhere → (s t : State) (d e : Device) (n after : Normal) (o : Option DeviceOutcome) → 0 < length n.clients
    → DeviceStepped o s t n.memory after.memory d e → after.driver ≡ n.driver → after.clients ≡ n.clients
    → step (state_of s.core d n) event.Device ≡ option_map (told_stepped t e after) o
device_is anywhere s t d e n after o some stepped driver clients =
    let left : option_map (left_in (world_of d n)) (device_left s.core n.memory d) ≡ option_map (left_in (world_of d n)) (option_map (told_of t.core after.memory e) o) =
    ap (option_map (left_in (world_of d n))) (sym stepped.left_is) in
    let here : (told : Option DeviceOutcome) → option_map (left_in (world_of d n)) (option_map (told_of t.core after.memory e) told)
    ≡ option_map (told_stepped t e (record { memory = after.memory; driver = n.driver; clients = n.clients })) told =
    λ told. elim told as (λ v. option_map (left_in (world_of d n)) (option_map (told_of t.core after.memory e) v)
    ≡ option_map (told_stepped t e (record { memory = after.memory; driver = n.driver; clients = n.clients })) v) [ None ↦ refl | Some x ↦ refl ] in
    anywhere (state_of s.core d n) (there_is_device n.clients some) ∙ (left ∙ (here o
    ∙ (ap (λ x. option_map (told_stepped t e (record { memory = after.memory; driver = x; clients = n.clients })) o) (sym driver)
    ∙ ap (λ x. option_map (told_stepped t e (record { memory = after.memory; driver = after.driver; clients = x })) o) (sym clients))))

pub device_did : DeviceStepsAnywhere → (s t : State) (d e : Device) (n after : Normal) (told : DeviceOutcome) (made : ℕ) → 0 < length n.clients → made < step_limit
    → DeviceStepped (Some told) s t n.memory after.memory d e → after.driver ≡ n.driver → after.clients ≡ n.clients
    → Did event.Device (state_of s.core d n) (state_of t.core e after) made (made + 1) (record { event = event.Device; answer = answer.Device told.reply; seqs = told.seqs })
unfolding step
device_did anywhere s t d e n after told made some below stepped driver clients =
    let is : step (state_of s.core d n) event.Device ≡ Some (told_stepped t e after told) = device_is anywhere s t d e n after (Some told) some stepped driver clients in
    record {
      event_is = refl;
      entry_is = ap (option_map (entry_of event.Device)) is;
      state_is = sym (ap (state_or (state_of s.core d n)) is);
      made_is = refl;
      below = below;
    }

-- where it has no work there is no step

no_step : (o : Option DeviceStep) → is_some o ≡ false → option_map device_stepped o ≡ None
no_step None work = refl
no_step (Some done) work = absurd (cc)

no_work : (s : State) (clients : List ClientState) → s.world.clients ≡ clients → length clients ≡ 0 → device_has_work s ≡ false
no_work s [] there none = core_device s there
no_work s (client ∷ clients) there none = absurd (omega arith)

pub lone_device_refused : (s : State) (made : ℕ) → length s.world.clients ≡ 0 → Refused event.Device s s made made (record { event = event.Device; cause = NotMovable None })
unfolding step device_has_work
lone_device_refused s made none = record { event_is = refl; state_is = refl; made_is = refl; cause = (no_step (device_step s) (no_work s s.world.clients refl none), refl) }

normal_stays : (n after : Normal) → after.memory ≡ n.memory → after.driver ≡ n.driver → after.clients ≡ n.clients → after ≡ n
normal_stays n after memory driver clients =
    ap (λ x. parts x after.driver after.clients) memory ∙ (ap (λ x. parts n.memory x after.clients) driver ∙ ap (λ x. parts n.memory n.driver x) clients)

pub idle_device_refused : DeviceStepsAnywhere → (s t : State) (d e : Device) (n after : Normal) (made : ℕ) → 0 < length n.clients
    → DeviceStepped None s t n.memory after.memory d e → after.driver ≡ n.driver → after.clients ≡ n.clients
    → Refused event.Device (state_of s.core d n) (state_of t.core e after) made made (record { event = event.Device; cause = NotMovable None })
unfolding step
idle_device_refused anywhere s t d e n after made some stepped driver clients = record {
  event_is = refl;
  state_is = ap (λ (x : State). state_of x.core e after) stepped.stays.0
      ∙ (ap (λ x. state_of s.core x after) stepped.stays.2 ∙ ap (λ x. state_of s.core d x) (normal_stays n after stepped.stays.1 driver clients));
  made_is = refl;
  cause = (device_is anywhere s t d e n after None some stepped driver clients, refl);
}

-- what it tells is a path at most

done_fits : (s : State) (o : Option DeviceStep) → DeviceKeepsIf s (any_change s.core) o → (r : Stepped) → option_map device_stepped o ≡ Some r → FitsIn path_room r.answer
done_fits s None keeps r is = absurd (cc)
done_fits s (Some done) keeps r is =
    let same : device_stepped done ≡ r = cc in
    subst (λ (x : Stepped). FitsIn path_room x.answer) same keeps.fits

pub device_fits : DeviceStepsAnywhere → (s t : State) (d e : Device) (n after : Normal) (told : DeviceOutcome) → 0 < length n.clients
    → DeviceStepped (Some told) s t n.memory after.memory d e → after.driver ≡ n.driver → after.clients ≡ n.clients → FitsIn path_room (answer.Device told.reply)
unfolding step
device_fits anywhere s t d e n after told some stepped driver clients =
    let w : State = state_of s.core d n in
    done_fits w (device_step w) (device_keeps w (any_change w.core)) (told_stepped t e after told)
    (device_is anywhere s t d e n after (Some told) some stepped driver clients)

pub device_whole : DeviceStepsAnywhere → (s t : State) (d e : Device) (n after : Normal) (told : DeviceOutcome) (core_made core_remade threads made : ℕ) → 0 < length n.clients
    → DeviceStepped (Some told) s t n.memory after.memory d e → after.driver ≡ n.driver → after.clients ≡ n.clients → core_remade ≤ core_made + 1
    → IsWhole s.core core_made threads made → IsWhole t.core core_remade threads (made + 1)
unfolding step
device_whole anywhere s t d e n after told core_made core_remade threads made some stepped driver clients more whole =
    let is : step (state_of s.core d n) event.Device ≡ Some (told_stepped t e after told) = device_is anywhere s t d e n after (Some told) some stepped driver clients in
    record {
      fewer = omega (arith, more, whole.fewer);
      count = threads_stay (state_of s.core d n) (state_of t.core e after) (steps_keep (state_of s.core d n) event.Device (told_stepped t e after told) is) (ap length clients) ∙ whole.count;
    }

pub device_on_time : DeviceStepsAnywhere → (s t : State) (d e : Device) (n after : Normal) (told : DeviceOutcome) → 0 < length n.clients
    → DeviceStepped (Some told) s t n.memory after.memory d e → after.driver ≡ n.driver → after.clients ≡ n.clients → IsOnTime s.core n.clients → IsOnTime t.core after.clients
device_on_time anywhere s t d e n after told some stepped driver clients time =
    subst (λ (cs : List ClientState). IsOnTime t.core cs) (sym clients)
    (device_leaves (state_of s.core d n) (told_stepped t e after told) n.clients time (device_is anywhere s t d e n after (Some told) some stepped driver clients))

-- whether it has work

pub work_is : DeviceWorksAnywhere → (c : CoreState) (d : Device) (n : Normal) (some work : Bool) → has_device n.clients ≡ some → work ≡ is_some (device_left c n.memory d)
    → device_has_work (state_of c d n) ≡ (some && work)
work_is anywhere c d n some work there is =
    anywhere (state_of c d n) ∙ (ap (λ b. b && is_some (device_left c n.memory d)) there ∙ ap (λ b. some && b) (sym is))

pub device_there : (clients : List ClientState) (b : Bool) → (b ≡ true → 0 < length clients) → (b ≡ false → length clients ≡ 0) → has_device clients ≡ b
device_there clients true some none = there_is_device clients (some refl)
device_there clients false some none = no_device clients (none refl)
