use Rattle.std.proofs.Common.{◌≡◌, ◌∙◌, length, map, drop, sym, ap, arith, refl}
use Rattle.std.specs.Option.{option_map}
use Rattle.std.proofs.lemmas.List.{take_at}
use Rattle.wait_events.specs.Waits.{least_deadline, retold_wait}
use Rattle.wait_events.proofs.Deadlines.{least_kept, mapped_deadline}
use Rattle.wait_events.proofs.waits.Waits.changed.Goals as goal

pub invariant_of-self : goal.invariant_of-self
invariant_of-self c =
    let change = retold_wait c.tell.new.self.sets c.args.object.serial c.args.events in
    let long : length c.tell_actors.new.actors ≡ c.self.inside.actors.len = omega (arith, c.deref_mut.ensures.len, c.tell_actors.auto.actors) in
    let wide : length c.tell_tables.new.tables ≡ c.self.inside.tables.len = omega (arith, c.deref_mut-2.ensures.len, c.tell_tables.auto.tables) in
    let all : length c.tell_tables.new.tables ≡ length c.self.inside.tables.items = c.tell_tables.auto.tables ∙ ap length c.deref_mut-2.ensures.value in
    let same = c.tell_actors.ensures ∙ ap (map (option_map change)) c.deref_mut.ensures.value in
    rw (take_at c.tell_tables.new.tables (drop (length c.tell_tables.new.tables) c.self.inside.tables.items) c.self.inside.tables.len wide, take_at c.tell_actors.new.actors (drop (length c.tell_actors.new.actors) c.self.inside.actors.items) c.self.inside.actors.len long)
    (all ∙ c.self.invariant.0, c.self.invariant.1 ∙ sym (ap least_deadline same ∙ least_kept (option_map change) (mapped_deadline change (λ w. refl)) c.self.inside.actors.items))
