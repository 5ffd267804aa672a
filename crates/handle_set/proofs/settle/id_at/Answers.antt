use Rattle.std.proofs.Common.{sym, ap}
use Rattle.handle_set.specs.declared.settle.OpenSet.{OpenSet}
use Rattle.handle_set.proofs.Places.{got}
use Rattle.handle_set.proofs.settle.id_at.Goals as goal

pub returns : goal.returns
returns c =
    let here = got c.args.sets.now c.args.place c.index-sets-place.result c.requires c.index-sets-place.is in
    rw here (ap (λ (x : OpenSet). x.id) (sym c.index-sets-place.is))
