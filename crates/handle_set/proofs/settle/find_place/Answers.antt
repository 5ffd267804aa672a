use Rattle.std.proofs.Common.{◌∙◌, sym, ap}
use Rattle.std.specs.List.{position_or_len}
use Rattle.handle_set.specs.Sets.{has_id}
use Rattle.handle_set.proofs.Places.{get_some}
use Rattle.handle_set.proofs.Spreading.{place_once}
use Rattle.handle_set.proofs.settle.find_place.Goals as goal

pub returns-then-id_at-id : goal.returns-then-id_at-id
returns-then-id_at-id c =
    let found = get_some c.args.sets.now c.place_in_order-place.result c.if-place-sets.true in
    let id = rw found.1 at c.id_at.ensures in
    sym (place_once c.args.sets.now c.place_in_order-place.result found.0 c.requires found.1)
    ∙ ap (λ n. position_or_len (has_id n) c.args.sets.now) (sym id ∙ c.if-id_at-id.true)
