-- At every point of every history: what a break leaves.
use Rattle.std.proofs.Common.{◌≡◌, ℕ, true, List, Option, Some, None, refl, sym, ◌∙◌, ap, subst}
use Rattle.std.specs.Option.{option_map}
use Rattle.kernel_values.specs.SceneLaw.{SceneValue}
use Rattle.kernel_values.specs.declared.entry.Entry.{Entry}
use Rattle.kernel_values.specs.declared.entry.Event.TheVariants as event
use Rattle.kernel_values.specs.declared.reply.Answer.TheVariants as answer
use Rattle.kernel_values.specs.declared.reply.BreakCause.{BreakCause}
use Rattle.kernel_values.specs.declared.reply.DeviceReply.TheVariants as device
use Rattle.kernel_values.specs.declared.state.State.{State}
use Rattle.kernel_types.specs.Device.{DeviceStep, device_step}
use Rattle.kernel_types.specs.History.{Legal, state_after}
use Rattle.kernel_types.specs.Opening.{opening}
use Rattle.kernel_types.specs.Step.{Stepped, device_stepped, step}
use Rattle.step_laws.proofs.Invariants.{swept_along}
use Rattle.set_laws.specs.Soundness.{IsSound}
use Rattle.set_laws.proofs.Soundness.{apart, given_numbers, opened_histories_sound}
use Rattle.count_laws.specs.Dropping.{AllNamed}
use Rattle.name_laws.proofs.There.{histories_there}
use Rattle.fit_laws.proofs.Ready.{histories_countable}
use Rattle.fit_laws.proofs.Steps.{histories_fit}
use Rattle.bridge_laws.specs.Bridged.{NamesItsEntries}
use Rattle.bridge_laws.proofs.Steps.{histories_bridged}
use Rattle.break_laws.specs.Breaks.{IsBreak, IsReachable}
use Rattle.break_laws.proofs.Apart.{histories_apart}
use Rattle.break_laws.proofs.Answering.{BreaksSo, all_dropped, device_so, is_break}
use Rattle.break_laws.proofs.Breaking.{Stands, all_named_swept}
use Rattle.break_laws.proofs.Folding.{AllCutOff, AreEndsOf, all_drop}

nothing_there : (scene : SceneValue) → AllNamed (opening scene).core
unfolding opening
nothing_there scene object there = absurd (cc)

all_named : (scene : SceneValue) (entries : List Entry) → AllNamed (state_after (opening scene) entries).core
all_named scene entries = swept_along AllNamed all_named_swept (opening scene) entries (nothing_there scene)

-- a step of the device that breaks it
breaks_by : (s : State) (o : Option DeviceStep) → device_step s ≡ o → (r : Stepped) → option_map device_stepped o ≡ Some r → (queue : ℕ) (cause : BreakCause) (place : ℕ)
    → r.answer ≡ answer.Device (device.Broke queue cause place) → r.state ≡ all_dropped s
breaks_by s None at r is queue cause place says = absurd (cc)
breaks_by s (Some done) at r is queue cause place says =
    let same : device_stepped done ≡ r = cc in
    let answers : answer.Device done.reply ≡ answer.Device (device.Broke queue cause place) = ap (λ (x : Stepped). x.answer) same ∙ says in
    let replies : done.reply ≡ device.Broke queue cause place = cc in
    let so : is_break done.reply ≡ true → done.state ≡ all_dropped s =
    subst (λ (v : Option DeviceStep). BreaksSo s v) at (device_so s) in
    sym (ap (λ (x : Stepped). x.state) same) ∙ so (ap is_break replies)

broken_so : (s : State) → Stands s.core → NamesItsEntries s → IsBreak s (all_dropped s)
broken_so s stands names =
    let ends : AreEndsOf s.core.bridged s.world.device.entries = record { same = names.same; once = names.once } in
    let all : AllCutOff s.core _ = all_drop s.world.device.entries s.core stands ends in
    record { cut_off = all.cut; none_bridged = all.none; device_is_broken = refl }

step_breaks : (s : State) (r : Stepped) → step s event.Device ≡ Some r → (queue : ℕ) (cause : BreakCause) (place : ℕ) → r.answer ≡ answer.Device (device.Broke queue cause place) → r.state ≡ all_dropped s
unfolding step
step_breaks s r is queue cause place says = breaks_by s (device_step s) refl r is queue cause place says

histories_break : (scene : SceneValue) (entries : List Entry) → Legal (opening scene) entries → (r : Stepped) (queue : ℕ) (cause : BreakCause) (place : ℕ)
    → step (state_after (opening scene) entries) event.Device ≡ Some r → r.answer ≡ answer.Device (device.Broke queue cause place) → IsBreak (state_after (opening scene) entries) r.state
histories_break scene entries legal r queue cause place is says =
    let s : State = state_after (opening scene) entries in
    let stands : Stands s.core = record { well = histories_countable scene entries; named = all_named scene entries; keeps = histories_apart scene entries } in
    subst (λ (t : State). IsBreak s t) (sym (step_breaks s r is queue cause place says)) (broken_so s stands (histories_bridged scene entries))

pub reached_break : (s : State) (r : Stepped) (queue : ℕ) (cause : BreakCause) (place : ℕ) → IsReachable s → step s event.Device ≡ Some r
    → r.answer ≡ answer.Device (device.Broke queue cause place) → IsBreak s r.state
reached_break s r queue cause place k is says =
    subst (λ (t : State). step t event.Device ≡ Some r → IsBreak t r.state) k.is (λ at. histories_break k.scene k.entries k.legal r queue cause place at says) is
