use Rattle.std.proofs.Common.{◌<◌, length, take, get_or, add-one, arith}
use Rattle.handle_set.specs.Slots.{in_order}
use Rattle.handle_set.proofs.Ordering.{long_as, row_within, record_more}
use Rattle.handle_set.proofs.Places.{got_or}
use Rattle.handle_set.proofs.records.Records.push.Goals as goal

pub index_mut-requires : goal.index_mut-requires
index_mut-requires c =
    let rows = c.self.inside.rows.items in
    let order = c.self.inside.order in
    let len = c.self.inside.len in
    let room : length (in_order rows (take len order)) < 64 = rw c.self.view_is c.requires in
    let same = long_as rows order len c.self.invariant in
    let long = c.self.invariant.long in
    let here = got_or order len 0 (omega arith) in
    let there = row_within rows order len c.self.invariant len (get_or order len 0) here in
    let size = c.self.inside.rows.ok.0 in
    omega arith

pub returns : goal.returns
returns c =
    let rows = c.self.inside.rows.items in
    let order = c.self.inside.order in
    let len = c.self.inside.len in
    let room : length (in_order rows (take len order)) < 64 = rw c.self.view_is c.requires in
    let same = long_as rows order len c.self.invariant in
    let long = c.self.invariant.long in
    let here = got_or order len 0 (omega arith) in
    let there = row_within rows order len c.self.invariant len (get_or order len 0) here in
    let size = c.self.inside.rows.ok.0 in
    rw (add-one len, ← c.self.view_is) (record_more rows order len c.self.invariant (get_or order len 0) c.args.told here)
