use Rattle.std.proofs.Common.{◌<◌, length, take, get_or, arith}
use Rattle.handle_set.specs.Slots.{in_order}
use Rattle.handle_set.proofs.Ordering.{place_within, row_within, record_at}
use Rattle.handle_set.proofs.Places.{got, got_or}
use Rattle.handle_set.proofs.records.Records.look.Goals as goal

pub index-requires : goal.index-requires
index-requires g c =
    let rows = c.self.inside.rows.items in
    let order = c.self.inside.order in
    let len = c.self.inside.len in
    let at = c.args.at in
    let within : at < length (in_order rows (take len order)) = rw c.self.view_is c.requires.within in
    let here = got_or order at 0 (place_within rows order len c.self.invariant at within) in
    let there = row_within rows order len c.self.invariant at (get_or order at 0) here in
    let size = c.self.inside.rows.ok.0 in
    omega arith

pub returns-clause-record : goal.returns-clause-record
returns-clause-record g c =
    let rows = c.self.inside.rows.items in
    let order = c.self.inside.order in
    let len = c.self.inside.len in
    let at = c.args.at in
    let within : at < length (in_order rows (take len order)) = rw c.self.view_is c.requires.within in
    let here = got_or order at 0 (place_within rows order len c.self.invariant at within) in
    let there = row_within rows order len c.self.invariant at (get_or order at 0) here in
    let size = c.self.inside.rows.ok.0 in
    rw (← c.self.view_is) (record_at rows order len c.self.invariant at (get_or order at 0) c.index.result.now within here (got rows (get_or order at 0) c.index.result.now there c.index.ensures))
