use Rattle.std.proofs.Common.{◌∙◌, List, set, sym, ap}
use Rattle.handle_set.proofs.Places.{got, map_at_is}
use Rattle.wait_events.specs.declared.watch.Watch.{Watch}
use Rattle.wait_events.proofs.waits.place_in.Goals as goal

pub returns : goal.returns
returns c =
    let here = got c.args.tables.now c.args.app c.index-tables-app.result c.requires.app c.index-tables-app.is in
    ap (λ x. set c.args.tables.now c.args.app x) c.set.ensures
    ∙ ap (λ (x : List Watch). set c.args.tables.now c.args.app (set x c.args.at c.args.watch)) (sym c.index-tables-app.is)
    ∙ sym (map_at_is (λ table. set table c.args.at c.args.watch) c.args.tables.now c.args.app c.index-tables-app.result here)
