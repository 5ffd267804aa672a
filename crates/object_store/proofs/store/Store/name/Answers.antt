use Rattle.std.proofs.Common.{refl, ◌∙◌, arith}
use Rattle.slab.specs.Slab.{get}
use Rattle.object_store.specs.Stock.{one_more}
use Rattle.object_store.proofs.Dead.{changed_is}
use Rattle.object_store.proofs.Rising.{order_written}
use Rattle.object_store.proofs.Slots.{is_at_held}
use Rattle.object_store.proofs.Stock.{slab_len-with_slot, none_here, names-le-total, absent_changed, write_stock, write_changed}
use Rattle.object_store.proofs.store.Store.name.Goals as goal

pub returns-in_default : goal.returns-in_default
returns-in_default g c =
    let none = none_here c.self.inside.slab _ c.in_default.ensures.absent in
    rw (← c.self.view_is, absent_changed _ _ _ c.self.invariant.stock.slots none one_more) refl

pub add_name-requires : goal.add_name-requires
add_name-requires g c = λ h was.
    let most = names-le-total _ _ _ c.in-Some.slot h c.self.invariant.stock was in
    let summed = c.self.invariant.stock.summed in
    let bound = rw (← c.self.view_is) at c.requires in
    (omega (arith, most), omega (arith, most, summed, bound))

pub invariant_of-self : goal.invariant_of-self
invariant_of-self g c =
    let there = is_at_held (get c.self.inside.slab c.in-Some.slot) c.args.key.serial c.in-Some.ensures.found in
    let h = there.0 in
    let same = c.add_name.ensures ∙ changed_is c.self.inside.slab c.in-Some.slot h one_more there.1 in
    rw same (record {
      stock = write_stock _ _ _ _ _ c.self.invariant.stock c.in-Some.ensures.found h there.1 (one_more h) refl (omega arith) _ (omega arith);
      ordered = order_written _ _ c.self.invariant.ordered _ h (one_more h) there.1 refl;
    })

pub returns : goal.returns
returns g c =
    let there = is_at_held (get c.self.inside.slab c.in-Some.slot) c.args.key.serial c.in-Some.ensures.found in
    let h = there.0 in
    let items = write_changed _ _ _ _ _ c.self.invariant.stock c.in-Some.ensures.found h there.1 (one_more h) refl (omega arith) one_more refl in
    let len = slab_len-with_slot c.self.inside.slab c.in-Some.slot (one_more h) h there.1 in
    let same = c.add_name.ensures ∙ changed_is c.self.inside.slab c.in-Some.slot h one_more there.1 in
    rw (← c.self.view_is, same, items, len) refl
