use Rattle.counted_core.proofs.Publishing.{published_object, searched}
use Rattle.counted_core.proofs.counts.CountedCore.find_published.Goals as goal

pub returns-clause-id : goal.returns-clause-id
returns-clause-id c =
    rw (← c.self.view_is) (searched c.args.path.now c.self.inside.store.next c.self.inside.store.items c.first_with_path.result c.sound.ensures c.first_with_path.ensures.some c.first_with_path.ensures.least c.first_with_path.ensures.none)

pub returns-clause-object : goal.returns-clause-object
returns-clause-object c =
    let id = searched c.args.path.now c.self.inside.store.next c.self.inside.store.items c.first_with_path.result c.sound.ensures c.first_with_path.ensures.some c.first_with_path.ensures.least c.first_with_path.ensures.none in
    rw (← c.self.view_is) (published_object c.args.path.now c.self.inside.store.next c.self.inside.store.items c.first_with_path.result c.sound.ensures id)
