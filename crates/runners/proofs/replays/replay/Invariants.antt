use Rattle.std.proofs.Common.{◌≡◌, drop, length}
use Rattle.kernel_types.specs.Step.{step}
use Rattle.kernel_types.specs.Turns.{run_from}
use Rattle.runners.specs.Runs.{run_told}
use Rattle.runners.proofs.replays.replay.Given as goal

-- the turns that are left come to what all would
abbrev pub invariant-loop-at : goal.invariant-loop-at
invariant-loop-at g l = record {
  origin : l.shared.origin ≡ l.initial.shared.origin;
  count : length l.shared.history ≡ l.at;
  left : run_from step l.shared.origin.scripts l.at (run_told l.shared) (drop l.at l.turns) ≡ run_from step l.initial.shared.origin.scripts 0 (run_told l.initial.shared) l.turns;
}
