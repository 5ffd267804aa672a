use Rattle.std.proofs.Common.{refl}
use Rattle.app_life.specs.Lives.{opening_lives}
use Rattle.app_life.proofs.Joined.{opening-applications}
use Rattle.app_life.proofs.Within.{opening_is_lives}
use Rattle.app_life.proofs.apps.Apps.new.Goals as goal

pub invariant_of-result : goal.invariant_of-result
invariant_of-result c = rw (c.in_ok-new.ensures, c.in_ok-opening_lives.ensures, c.in_ok-opening_threads.ensures) (opening_is_lives c.as_slice-registered.result.now)

pub returns : goal.returns
unfolding opening_lives
returns c = rw (← c.scene.view_is, c.in_ok-new.ensures, c.in_ok-opening_lives.ensures, c.in_ok-opening_threads.ensures, c.as_slice-registered.ensures, opening-applications) refl
