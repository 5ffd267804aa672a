-- proofs/watching/is_connected/Answers.antt
use Rattle.std.proofs.Common.{not, map, sym, ap, ◌∙◌}
use Rattle.std.specs.List.{fold}
use Rattle.kernel_types.specs.Drains.{frame_at, readable_elements}
use Rattle.ns_driver.specs.Acts.{bare}
use Rattle.ns_driver.specs.Watching.{seen}
use Rattle.ns_driver.proofs.Glimpses.{connect_waits, connect_of_none}
use Rattle.ns_driver.proofs.watching.is_connected.Goals as goal

pub returns-in-Some : goal.returns-in-Some
returns-in-Some c =
    let frames = map (frame_at c.args.mem.now) (readable_elements (bare c.args.mem.now c.args.driver.now)) in
    ap not c.is_asked.ensures
    ∙ connect_waits c.args.mem.now c.args.driver.now c.args.conn c.in-Some.asked.now c.seen_after-now.result (sym c.in-Some.ensures)
    (c.seen_after-now.ensures ∙ ap (λ g. fold (seen c.args.conn) g frames) c.glimpse_of.ensures)

pub returns-in-None : goal.returns-in-None
returns-in-None c = connect_of_none c.args.mem.now c.args.driver.now c.args.conn (sym c.in-None.ensures)
