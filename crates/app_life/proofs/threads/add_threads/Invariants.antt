use Rattle.std.proofs.Common.{◌≡◌, ◌++◌, map, take}
use Rattle.app_life.specs.Lives.{opening_thread}
use Rattle.app_life.proofs.threads.add_threads.Given as goal

abbrev pub invariant-loop-script : goal.invariant-loop-script
invariant-loop-script l = l.threads ≡ l.initial.threads ++ map (λ script. opening_thread l.number l.app.manifest) (take l._script-index l._script-items)
