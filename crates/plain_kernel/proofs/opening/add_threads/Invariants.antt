use Rattle.std.proofs.Common.{◌≡◌, ◌++◌, map, take}
use Rattle.kernel_types.specs.Opening.{opening_activity}
use Rattle.plain_kernel.proofs.opening.add_threads.Given as goal

abbrev pub invariant-loop-script : goal.invariant-loop-script
invariant-loop-script l = l.threads ≡ l.initial.threads ++ map (λ script. record { app = l.place; activity = opening_activity l.app.manifest }) (take l._script-index l._script-items)
