use Rattle.std.proofs.Common.{sym, ◌∙◌}
use Rattle.kernel_types.specs.Turns.{serial_turns}
use Rattle.runners.specs.Runs.{IsRunBy, RanSerially}
use Rattle.runners.proofs.Ending.{run_is_by, serial_is, told_carries, whole_run, end_is, cut_short}
use Rattle.runners.proofs.serial_order.serial.Goals as goal

pub returns-then-is_over-clause-whole : goal.returns-then-is_over-clause-whole
returns-then-is_over-clause-whole g c =
    let ran : RanSerially c.in_ok-shared.shared c.run_serially.new.shared = c.in-Ok.ensures in
    let run : IsRunBy c.args.scene.now (serial_turns c.args.scene.now) c.into_logged.result =
    run_is_by c.args.scene.now c.in_ok-shared.shared c.run_serially.new.shared c.into_logged.result (serial_turns c.args.scene.now) c.in_ok-shared.ensures.origin c.in_ok-shared.ensures.history
    ran.origin_is (serial_is c.args.scene.now c.in_ok-shared.shared c.run_serially.new.shared c.in_ok-shared.ensures.origin c.in_ok-shared.ensures.history ran.run_is)
    c.into_logged.ensures.state c.into_logged.ensures.entries c.legal.ensures.legal c.legal.ensures.follows in
    whole_run c.args.scene.now c.into_logged.result (serial_turns c.args.scene.now) run
    (end_is c.run_serially.new.shared c.into_logged.result _ c.into_logged.ensures.state c.into_logged.ensures.entries (sym c.is_over.ensures ∙ c.if-is_over.true))

pub returns-else-is_over-clause-refused : goal.returns-else-is_over-clause-refused
returns-else-is_over-clause-refused g c =
    let ran : RanSerially c.in_ok-shared.shared c.run_serially.new.shared = c.in-Ok.ensures in
    let run : IsRunBy c.args.scene.now (serial_turns c.args.scene.now) c.into_logged-else-is_over.result =
    run_is_by c.args.scene.now c.in_ok-shared.shared c.run_serially.new.shared c.into_logged-else-is_over.result (serial_turns c.args.scene.now) c.in_ok-shared.ensures.origin c.in_ok-shared.ensures.history
    ran.origin_is (serial_is c.args.scene.now c.in_ok-shared.shared c.run_serially.new.shared c.in_ok-shared.ensures.origin c.in_ok-shared.ensures.history ran.run_is)
    c.into_logged-else-is_over.ensures.state c.into_logged-else-is_over.ensures.entries c.legal.ensures.legal c.legal.ensures.follows in
    cut_short c.args.scene.now c.run_serially.new.shared c.into_logged-else-is_over.result run c.into_logged-else-is_over.ensures.entries
    (ran.full (sym c.is_over.ensures ∙ c.if-is_over.false))
    (end_is c.run_serially.new.shared c.into_logged-else-is_over.result _ c.into_logged-else-is_over.ensures.state c.into_logged-else-is_over.ensures.entries (sym c.is_over.ensures ∙ c.if-is_over.false))

pub returns-then-is_over-clause-carried : goal.returns-then-is_over-clause-carried
returns-then-is_over-clause-carried g c =
    let ran : RanSerially c.in_ok-shared.shared c.run_serially.new.shared = c.in-Ok.ensures in
    told_carries c.frames_are_carried_in_order.ensures c.args.scene.now c.in_ok-shared.shared c.run_serially.new.shared c.into_logged.result c.is_lawful.ensures c.in_ok-shared.ensures.origin
    ran.origin_is c.into_logged.ensures.entries c.legal.ensures.legal c.legal.ensures.follows

pub returns-else-is_over-clause-cut_carried : goal.returns-else-is_over-clause-cut_carried
returns-else-is_over-clause-cut_carried g c =
    let ran : RanSerially c.in_ok-shared.shared c.run_serially.new.shared = c.in-Ok.ensures in
    told_carries c.frames_are_carried_in_order.ensures c.args.scene.now c.in_ok-shared.shared c.run_serially.new.shared c.into_logged-else-is_over.result c.is_lawful.ensures c.in_ok-shared.ensures.origin
    ran.origin_is c.into_logged-else-is_over.ensures.entries c.legal.ensures.legal c.legal.ensures.follows
