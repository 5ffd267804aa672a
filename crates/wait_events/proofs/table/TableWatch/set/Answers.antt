use Rattle.std.proofs.Common.{◌∙◌, map, set, arith, ap}
use Rattle.std.proofs.lemmas.List.{length-map}
use lib.Lanes.{mask_l}
use Rattle.wait_events.specs.Watches.{is_told}
use Rattle.wait_events.proofs.Tables.{set_table}
use Rattle.wait_events.proofs.table.TableWatch.set.Goals as goal

pub invariant_of-self : goal.invariant_of-self
invariant_of-self c =
    let places = c.self.inside.places.items in
    let size = c.self.invariant.size in
    let long = length-map places is_told in
    let all = c.with_bit_at-self-inside.ensures (map is_told places) (omega arith) (omega arith) c.self.invariant.marked in
    set_table places _ c.self.invariant c.args.at c.args.watch _ (all ∙ ap (λ b. mask_l (set (map is_told places) c.args.at b)) c.has_told.ensures)
