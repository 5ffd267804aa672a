use Rattle.std.proofs.Common.{refl, arith}
use Rattle.object_store.specs.Stock.{new_held}
use Rattle.object_store.proofs.Rising.{order_put, order_under}
use Rattle.object_store.proofs.Stock.{put_listed, put_stock}
use Rattle.object_store.proofs.store.Store.put_reserved.Goals as goal

pub push-requires-clause-rises : goal.push-requires-clause-rises
push-requires-clause-rises g c = order_under _ _ c.self.invariant.ordered _ c.self.invariant.stock.slots

pub invariant_of-self : goal.invariant_of-self
invariant_of-self g c =
    let h = new_held c.self.inside.next c.args.value in
    let insert = c.insert-slot.ensures in
    let room = rw (← c.self.view_is) at c.requires.room in
    record {
      stock = put_stock _ _ _ _ _ c.self.invariant.stock h refl refl insert.updates insert.was_vacant insert.len;
      ordered = order_put _ _ c.self.invariant.ordered _ _ _ h insert.was_vacant insert.updates insert.len c.push.ensures.entries (omega (arith, insert.len, c.push.ensures.capacity, room));
    }

pub returns-clause-items : goal.returns-clause-items
returns-clause-items g c = rw (← c.self.view_is) (put_listed _ _ _ _ _ c.self.invariant.stock (new_held c.self.inside.next c.args.value) refl refl c.insert-slot.ensures.updates c.insert-slot.ensures.was_vacant)
