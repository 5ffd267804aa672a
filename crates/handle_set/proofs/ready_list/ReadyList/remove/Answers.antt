use Rattle.std.proofs.Common.{◌<◌, length, map, arith}
use Rattle.std.proofs.lemmas.List.{length-map}
use Rattle.handle_set.specs.Members.{is_ready, is_inner}
use Rattle.handle_set.proofs.Places.{get_some}
use Rattle.handle_set.proofs.ReadyLists.{remove_list}
use Rattle.handle_set.proofs.ready_list.ReadyList.remove.Goals as goal

pub invariant_of-self : goal.invariant_of-self
invariant_of-self c =
    let members = c.self.inside.records in
    let within : c.args.at < length members = rw c.self.view_is c.requires in
    let found = get_some members c.args.at within in
    let long = length-map members is_ready in
    let wide = length-map members is_inner in
    let later = c.without_bit-self-inside.ensures (map is_ready members) (omega arith) c.self.invariant.marked in
    let deeper = c.without_bit-self-inside-2.ensures (map is_inner members) (omega arith) c.self.invariant.nested in
    rw c.remove.ensures (remove_list members _ _ c.self.invariant c.args.at found.0 found.1 within _ _ later deeper)
