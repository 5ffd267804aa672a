use Rattle.std.proofs.Common.{◌∙◌, sym, ap}
use Rattle.handle_set.proofs.Places.{got, get_past}
use Rattle.wait_events.specs.Waits.{told_in_turn}
use Rattle.wait_events.proofs.waits.first_told.Goals as goal

pub returns-then-tables-at : goal.returns-then-tables-at
returns-then-tables-at c = ap (told_in_turn c.args.last) (sym (get_past c.args.tables.now c.args.app.0 c.if-tables-at.true))

pub returns : goal.returns
returns c =
    let here = got c.args.tables.now c.args.app.0 c.index-tables-at.result c.if-tables-at.false c.index-tables-at.is in
    c.first_told.ensures ∙ ap (told_in_turn c.args.last) (sym here)
