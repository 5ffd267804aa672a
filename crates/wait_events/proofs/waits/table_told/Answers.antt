use Rattle.std.proofs.Common.{◌∙◌, sym, ap}
use Rattle.handle_set.proofs.Places.{got, get_past}
use Rattle.wait_events.specs.Waits.{table_told}
use Rattle.wait_events.proofs.waits.table_told.Goals as goal

pub returns-then-tables-at : goal.returns-then-tables-at
returns-then-tables-at c = ap table_told (sym (get_past c.args.tables.now c.args.app.0 c.if-tables-at.true))

pub returns : goal.returns
returns c =
    let here = got c.args.tables.now c.args.app.0 c.index-tables-at.result c.if-tables-at.false c.index-tables-at.is in
    c.is_told.ensures ∙ ap table_told (sym here)
