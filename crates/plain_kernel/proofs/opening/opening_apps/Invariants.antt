use Rattle.std.proofs.Common.{◌≡◌, map, take}
use Rattle.kernel_types.specs.Opening.{opening_app}
use Rattle.plain_kernel.proofs.opening.opening_apps.Given as goal

abbrev pub invariant-loop-app : goal.invariant-loop-app
invariant-loop-app l = l.others ≡ map opening_app (take l.app-index l.apps)
