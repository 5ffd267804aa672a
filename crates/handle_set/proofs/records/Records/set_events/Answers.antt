use Rattle.std.proofs.Common.{◌∙◌, ◌<◌, length, take, get_or, sym, ap, arith}
use Rattle.handle_set.specs.Members.{with_events, with_events_at}
use Rattle.handle_set.specs.Slots.{in_order}
use Rattle.handle_set.proofs.Ordering.{place_within, row_within, record_at, record_set}
use Rattle.handle_set.proofs.Places.{got, got_or, map_at_is}
use Rattle.handle_set.proofs.records.Records.set_events.Goals as goal

pub index_mut-requires : goal.index_mut-requires
index_mut-requires c =
    let rows = c.self.inside.rows.items in
    let order = c.self.inside.order in
    let len = c.self.inside.len in
    let at = c.args.at in
    let within : at < length (in_order rows (take len order)) = rw c.self.view_is c.requires in
    let here = got_or order at 0 (place_within rows order len c.self.invariant at within) in
    let there = row_within rows order len c.self.invariant at (get_or order at 0) here in
    let size = c.self.inside.rows.ok.0 in
    omega arith

pub returns : goal.returns
returns c =
    let rows = c.self.inside.rows.items in
    let order = c.self.inside.order in
    let len = c.self.inside.len in
    let at = c.args.at in
    let within : at < length (in_order rows (take len order)) = rw c.self.view_is c.requires in
    let here = got_or order at 0 (place_within rows order len c.self.invariant at within) in
    let there = row_within rows order len c.self.invariant at (get_or order at 0) here in
    let size = c.self.inside.rows.ok.0 in
    let row = got rows (get_or order at 0) c.index_mut.result.now there c.index_mut.ensures.value in
    let before = record_at rows order len c.self.invariant at (get_or order at 0) c.index_mut.result.now within here row in
    record_set rows order len c.self.invariant at (get_or order at 0) (with_events c.args.events c.index_mut.result.now) within here
    ∙ sym (map_at_is (with_events c.args.events) (in_order rows (take len order)) at c.index_mut.result.now before)
    ∙ ap (with_events_at at c.args.events) c.self.view_is
