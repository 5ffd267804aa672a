use Rattle.std.proofs.Common.{sym}
use Rattle.object_store.proofs.Dead.{dead_names, if_none, none_dead}
use Rattle.object_store.proofs.store.Store.find_dead.Goals as goal

pub returns-in_err-slot-clause-none : goal.returns-in_err-slot-clause-none
returns-in_err-slot-clause-none g c = if_none c.from_residual.result _ (rw (← c.self.view_is) (none_dead _ _ _ c.self.invariant.stock c.in_err-slot.ensures.none))

pub returns-clause-some : goal.returns-clause-some
returns-clause-some g c =
    rw (← c.self.view_is, c.serial.ensures) (dead_names _ _ _ c.self.invariant.stock c.in_ok-slot.slot c.in_ok-kept.kept.now (sym c.in_ok-kept.ensures) c.in_ok-slot.ensures.some)
