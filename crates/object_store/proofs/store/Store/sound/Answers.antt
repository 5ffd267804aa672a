use Rattle.object_store.proofs.Stock.{listed_sound}
use Rattle.object_store.proofs.store.Store.sound.Goals as goal

pub returns : goal.returns
returns g c = rw (← c.self.view_is) (listed_sound _ _ c.self.invariant.stock.slots)
