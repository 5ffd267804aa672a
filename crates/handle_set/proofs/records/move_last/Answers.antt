use Rattle.std.proofs.Common.{◌∙◌, ◌-◌, ◌++◌, length, get_or, sym, ap, arith}
use Rattle.std.specs.List.{remove}
use Rattle.std.proofs.lemmas.Slice.{put_mid-rotated}
use Rattle.handle_set.proofs.Orders.{taken_one}
use Rattle.handle_set.proofs.Places.{got_or}
use Rattle.handle_set.proofs.records.move_last.Goals as goal

pub returns : goal.returns
returns c =
    let order = c.args.order.now in
    let at = c.args.at in
    put_mid-rotated at (length order - at) order _ 0 c.requires (omega arith) c.rotate_left.ensures.after
    ∙ ap (λ last. remove order at ++ last) (sym (taken_one order at (get_or order at 0) (got_or order at 0 c.requires)))
