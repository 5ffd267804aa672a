-- proofs/watching/has_received/Answers.antt
use Rattle.std.proofs.Common.{◌||◌, map, sym, ap, ◌∙◌}
use Rattle.std.specs.List.{fold}
use Rattle.kernel_types.specs.Clients.{is_closed}
use Rattle.kernel_types.specs.Drains.{frame_at, readable_elements}
use Rattle.ns_driver.specs.Acts.{bare}
use Rattle.ns_driver.specs.Watching.{seen}
use Rattle.ns_driver.proofs.Glimpses.{receive_waits, receive_of_none}
use Rattle.ns_driver.proofs.watching.has_received.Goals as goal

pub returns-then-now : goal.returns-then-now
returns-then-now c =
    let frames = map (frame_at c.args.mem.now) (readable_elements (bare c.args.mem.now c.args.driver.now)) in
    let g = c.seen_after-now.result in
    c.if-now.true ∙ ap (λ b. b || is_closed g.status) (sym c.if-now.true)
    ∙ receive_waits c.args.mem.now c.args.driver.now c.args.conn c.in-Some.connection.now g (sym c.in-Some.ensures)
    (c.seen_after-now.ensures ∙ ap (λ g. fold (seen c.args.conn) g frames) c.glimpse_of.ensures)

pub returns-else-now : goal.returns-else-now
returns-else-now c =
    let frames = map (frame_at c.args.mem.now) (readable_elements (bare c.args.mem.now c.args.driver.now)) in
    let g = c.seen_after-now.result in
    c.is_closed.ensures ∙ ap (λ b. b || is_closed g.status) (sym c.if-now.false)
    ∙ receive_waits c.args.mem.now c.args.driver.now c.args.conn c.in-Some.connection.now g (sym c.in-Some.ensures)
    (c.seen_after-now.ensures ∙ ap (λ g. fold (seen c.args.conn) g frames) c.glimpse_of.ensures)

pub returns-in-None : goal.returns-in-None
returns-in-None c = receive_of_none c.args.mem.now c.args.driver.now c.args.conn (sym c.in-None.ensures)
