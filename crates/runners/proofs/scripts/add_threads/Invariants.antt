use Rattle.std.proofs.Common.{◌≡◌, ◌++◌, drop}
use Rattle.std.specs.List.{flat_map}
use Rattle.runners.proofs.scripts.add_threads.Given as goal

abbrev pub invariant-loop-app : goal.invariant-loop-app
invariant-loop-app l = l.scripts ++ flat_map (λ app. app.threads) (drop l.app-index l.apps) ≡ l.initial.scripts ++ flat_map (λ app. app.threads) l.apps
