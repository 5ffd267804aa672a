use Rattle.std.proofs.Common.{◌≡◌, true, false, Some, refl, sym, ap, ◌∙◌}
use Rattle.slab.specs.Slab.{get}
use Rattle.object_store.specs.Stock.{with_value}
use Rattle.object_store.specs.Slots.{is_at}
use Rattle.object_store.proofs.Changes.{held_listed}
use Rattle.object_store.proofs.Dead.{changed_is}
use Rattle.object_store.proofs.Rising.{order_written}
use Rattle.object_store.proofs.Slots.{is_at_held}
use Rattle.object_store.proofs.Stock.{slab_len-with_slot, none_here, names-le-total, value_here, write_stock, write_changed, some_since, since_some}
use Rattle.object_store.proofs.store.Store.value_mut.Goals as goal

pub unwrap-slot-requires : goal.unwrap-slot-requires
unwrap-slot-requires g c =
    let there = rw (← c.self.view_is) at c.requires in
    some_since c.slot_of.result _ c.slot_of.ensures.absent (λ nowhere.
    let none = held_listed c.self.inside.slab _ _ c.self.invariant.stock.slots ∙ none_here c.self.inside.slab c.args.key.serial nowhere in
    let absurdly : false ≡ true = rw none at there in
    cc absurdly)

pub value_mut-requires : goal.value_mut-requires
value_mut-requires g c =
    let slot = c.unwrap-slot.result in
    let at = since_some c.slot_of.result (λ s. is_at c.self.inside.slab s c.args.key.serial ≡ true) slot c.unwrap-slot.ensures c.slot_of.ensures.found in
    let there = is_at_held (get c.self.inside.slab slot) c.args.key.serial at in
    rw there.1 refl

pub invariant_of-self-lent : goal.invariant_of-self-lent
invariant_of-self-lent g c = λ w.
    let slot = c.unwrap-slot.result in
    let at = since_some c.slot_of.result (λ s. is_at c.self.inside.slab s c.args.key.serial ≡ true) slot c.unwrap-slot.ensures c.slot_of.ensures.found in
    let there = is_at_held (get c.self.inside.slab slot) c.args.key.serial at in
    let h = there.0 in
    let most = names-le-total _ _ _ slot h c.self.invariant.stock there.1 in
    rw (changed_is c.self.inside.slab slot h (with_value w) there.1) (record {
      stock = write_stock _ _ _ _ _ c.self.invariant.stock at h there.1 (with_value w h) refl most.0 _ refl;
      ordered = order_written _ _ c.self.invariant.ordered _ h (with_value w h) there.1 refl;
    })

pub returns : goal.returns
returns g c =
    let slot = c.unwrap-slot.result in
    let at = since_some c.slot_of.result (λ s. is_at c.self.inside.slab s c.args.key.serial ≡ true) slot c.unwrap-slot.ensures c.slot_of.ensures.found in
    let there = is_at_held (get c.self.inside.slab slot) c.args.key.serial at in
    let h = there.0 in
    let most = names-le-total _ _ _ slot h c.self.invariant.stock there.1 in
    let value = since_some (get c.self.inside.slab slot) (λ held. c.value_mut.result.now ≡ held.value) h there.1 c.value_mut.ensures.value in (
      (
        refl,
        λ w.
            let items = write_changed _ _ _ _ _ c.self.invariant.stock at h there.1 (with_value w h) refl most.0 (with_value w) refl in
            let len = slab_len-with_slot c.self.inside.slab slot (with_value w h) h there.1 in
            rw (← c.self.view_is, changed_is c.self.inside.slab slot h (with_value w) there.1, items, len) refl,
      ),
      record {
        writes_back = tt;
        value = rw (← c.self.view_is) (value_here _ _ _ _ _ c.self.invariant.stock at h there.1 ∙ ap (λ (x : g.row.T.Denot). Some x) (sym value));
      },
    )
