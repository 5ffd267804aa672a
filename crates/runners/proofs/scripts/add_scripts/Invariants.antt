use Rattle.std.proofs.Common.{◌≡◌, ◌++◌, take}
use Rattle.runners.proofs.scripts.add_scripts.Given as goal

abbrev pub invariant-loop-script : goal.invariant-loop-script
invariant-loop-script l = l.scripts ≡ l.initial.scripts ++ take l.script-index l.threads
