-- A kernel with all that a run shares may go to another thread where the kernel may.
use denote.Builtin.{u64}
use denote.RattleType.{RattleType}
use denote.Param.Send.{IsSend, view_send}
use denote.Param.SendFields.{declared_send, as_row_send}
use denote.Struct.Field.{row_field}
use Rattle.std.proofs.Common.{rules}
use Rattle.kernel_types.specs.declared.kernel.IpcKernel.{Ghosts}
use Rattle.kernel_log.specs.contracts.logged.Logged as logged
use Rattle.kernel_log.specs.contracts.logged.Logged.TheInside as logged_inside
use Rattle.kernel_log.proofs.journal.Journal.TheSendSync as journal
use Rattle.kernel_values.proofs.items.Items.TheSendSync as items
use Rattle.kernel_values.proofs.script.Script.TheSendSync as script
use Rattle.std.proofs.vec.Vec.TheSendSync as vec
use Rattle.std.proofs.alloc.Global.TheSendSync as global
use Rattle.std.proofs.Crossing.{frees}
use Rattle.std.specs.contracts.alloc.Global.{the_row as global_row}
use Rattle.std.specs.contracts.impls.GlobalAllocator.TheImpl.{ghosts}
use Rattle.runners.proofs.bell.Bell.TheSendSync as bell
use Rattle.runners.proofs.place.Place.TheSendSync as place
use Rattle.kernel_log.specs.contracts.journal.Journal.{the_field as journal_field}
use Rattle.kernel_values.specs.contracts.items.Items.{the_field as items_field}
use Rattle.kernel_values.specs.contracts.script.Script.{the_row as script_row}
use Rattle.runners.specs.contracts.place.Place.{the_row as place_row}
use Rattle.runners.specs.contracts.shared.Shared.{the_row}
use Rattle.runners.specs.contracts.shared.Shared.TheInside as inside

logged_send : (K : RattleType) (g : Ghosts K.Denot) → IsSend K → IsSend (logged.the_row K g)
logged_send K g s =
    view_send (logged_inside.the_row K g) _ _ _ _
    (declared_send (logged_inside.the_type K g) (as_row_send (row_field K) s, (as_row_send journal_field journal.the_send, (search rules, (search rules, tt)))))

pub shared_send : (K : RattleType) (g : Ghosts K.Denot) → IsSend K → IsSend (the_row K g)
shared_send K g s =
    view_send (inside.the_row K g) _ _ _ _
    (declared_send (inside.the_type K g) (
      as_row_send (logged.the_field K g) (logged_send K g s),
      (
        as_row_send (items_field script_row) (items.the_send script_row script.the_send),
        (vec.the_send place_row global_row ghosts place.the_send global.the_send frees, (vec.the_send u64 global_row ghosts (search rules) global.the_send frees, (bell.the_send, (search rules, tt)))),
      ),
    ))
