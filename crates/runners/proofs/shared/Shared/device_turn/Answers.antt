use Rattle.std.proofs.Common.{Option, None, refl, subst, ap, sym, ◌∙◌}
use Rattle.kernel_log.specs.Logs.{Wrote}
use Rattle.kernel_log.specs.declared.logged.Receipt.{Receipt}
use Rattle.kernel_values.specs.declared.entry.Event.TheVariants as event
use Rattle.kernel_values.specs.declared.scene.Turn.TheVariants as turn
use Rattle.runners.specs.Runs.{ScriptedRun, run_logged}
use Rattle.runners.specs.Steps.{Made}
use Rattle.runners.proofs.Counts.{counted_free}
use Rattle.runners.proofs.Stepping.{sound_free, device_not_by}
use Rattle.runners.proofs.Turning.{may_step, room_is, took_turn, unlawful_turn, device_means}
use Rattle.runners.proofs.shared.Shared.device_turn.Goals as goal

pub step_once-requires : goal.step_once-requires
step_once-requires g c = may_step c.args.self.now c.self.inside.scripts c.self.inside.places.items c.self.inside.logged (sym c.self.view_is) c.self.invariant.sound c.requires

pub returns-in_default-clause-taken : goal.returns-in_default-clause-taken
returns-in_default-clause-taken g c =
    let made : Made event.Device c.self.inside.logged c.step_once.new.logged None =
    subst (λ (r : Option Receipt). Made event.Device c.self.inside.logged c.step_once.new.logged r) c.in_default.is c.in_ok-_receipt.ensures.made in (
      unlawful_turn turn.Device c.args.self.now c.self.inside.scripts c.self.inside.logged event.Device (sym c.self.view_is) (device_means c.self.inside.scripts (run_logged c.self.inside.logged)) made.0,
      made.1.1 ∙ ap (λ (t : ScriptedRun). t.history) c.self.view_is,
    )

pub invariant_of-self-2 : goal.invariant_of-self-2
invariant_of-self-2 g c =
    let wrote : Wrote event.Device c.self.inside.logged c.step_once.new.logged c.in-Some._receipt.place =
    subst (λ (r : Option Receipt). Made event.Device c.self.inside.logged c.step_once.new.logged r) c.in-Some.is c.in_ok-_receipt.ensures.made in
    record {
      sound = sound_free c.self.inside.scripts c.self.inside.places.items c.self.inside.logged c.step_once.new.logged event.Device c.in-Some._receipt.place c.self.invariant.sound
          (turn.Device, device_means c.self.inside.scripts (run_logged c.self.inside.logged)) wrote
          (room_is c.args.self.now c.self.inside.scripts c.self.inside.logged (sym c.self.view_is) c.requires) device_not_by;
      counted = counted_free c.self.inside.scripts c.self.inside.counts.items c.self.inside.logged c.step_once.new.logged event.Device c.in-Some._receipt.place c.self.invariant.counted wrote (λ other. refl);
    }

pub returns-clause-taken : goal.returns-clause-taken
returns-clause-taken g c =
    let wrote : Wrote event.Device c.self.inside.logged c.step_once.new.logged c.in-Some._receipt.place =
    subst (λ (r : Option Receipt). Made event.Device c.self.inside.logged c.step_once.new.logged r) c.in-Some.is c.in_ok-_receipt.ensures.made in
    took_turn turn.Device c.args.self.now c.self.inside.scripts c.self.inside.logged c.step_once.new.logged event.Device c.in-Some._receipt.place (sym c.self.view_is)
    (device_means c.self.inside.scripts (run_logged c.self.inside.logged)) wrote
