use Rattle.std.proofs.Common.{◌≡◌, ◌-◌, length}
use Rattle.kernel_types.specs.Step.{step}
use Rattle.kernel_types.specs.Turns.{run_from, serial_from, history_limit}
use Rattle.run_laws.specs.Order.{IsBelow}
use Rattle.runners.specs.Runs.{run_told}
use Rattle.runners.proofs.serial_order.run_serially.Given as goal

-- what is left to take comes to what the whole would
abbrev pub invariant-loop-made : goal.invariant-loop-made
invariant-loop-made g l = record {
  origin : l.shared.origin ≡ l.initial.shared.origin;
  count : length l.shared.history ≡ l._made;
  last : IsBelow (length l.shared.origin.scripts) l.last;
  left : run_from step l.shared.origin.scripts l._made (run_told l.shared) (serial_from step l.shared.origin.scripts (history_limit - l._made) l.last (run_told l.shared))
      ≡ run_from step l.initial.shared.origin.scripts 0 (run_told l.initial.shared) (serial_from step l.initial.shared.origin.scripts history_limit l.initial.last (run_told l.initial.shared));
}
