use Rattle.std.proofs.Common.{◌≡◌, ◌∙◌, length, map, drop, sym, ap, arith, refl}
use Rattle.std.specs.Option.{option_map}
use Rattle.std.proofs.lemmas.List.{take_at}
use Rattle.wait_events.specs.Waits.{least_deadline, with_cancelled}
use Rattle.wait_events.proofs.Deadlines.{least_kept, mapped_deadline}
use Rattle.wait_events.proofs.waits.Waits.idle.Goals as goal

pub invariant_of-self-in-None : goal.invariant_of-self-in-None
invariant_of-self-in-None c =
    let long : length c.cancel_all.new.actors ≡ c.self.inside.actors.len = omega (arith, c.deref_mut.ensures.len, c.cancel_all.auto.actors) in
    let same = c.cancel_all.ensures ∙ ap (map (option_map with_cancelled)) c.deref_mut.ensures.value in
    rw (take_at c.cancel_all.new.actors (drop (length c.cancel_all.new.actors) c.self.inside.actors.items) c.self.inside.actors.len long)
    (c.self.invariant.0, c.self.invariant.1 ∙ sym (ap least_deadline same ∙ least_kept (option_map with_cancelled) (mapped_deadline with_cancelled (λ w. refl)) c.self.inside.actors.items))
