use Rattle.std.proofs.Common.{◌≡◌, ◌∙◌, List, length, map, drop, ap, subst, arith}
use Rattle.std.proofs.lemmas.List.{take_at}
use Rattle.handle_set.specs.declared.settle.OpenSet.{OpenSet}
use Rattle.handle_set.specs.Sets.{IsUpToDate, Memberships, set_told}
use Rattle.handle_set.proofs.sets.Sets.tell.Goals as goal

pub invariant_of-self : goal.invariant_of-self
invariant_of-self c =
    let long : length c.tell_in.new.sets ≡ c.self.inside.sets.len = omega (arith, c.deref_mut.ensures.len, c.tell_in.auto.sets) in
    rw (take_at c.tell_in.new.sets (drop (length c.tell_in.new.sets) c.self.inside.sets.items) c.self.inside.sets.len long) (c.tell_in.ensures.settled, c.self.invariant.1, c.tell_in.ensures.held)

pub returns-clause-told : goal.returns-clause-told
returns-clause-told c =
    let long : length c.tell_in.new.sets ≡ c.self.inside.sets.len = omega (arith, c.deref_mut.ensures.len, c.tell_in.auto.sets) in
    let same = c.deref_mut.ensures.value ∙ ap (λ (m : Memberships). m.sets) c.self.view_is in
    rw (take_at c.tell_in.new.sets (drop (length c.tell_in.new.sets) c.self.inside.sets.items) c.self.inside.sets.len long)
    (subst (λ (xs : List OpenSet). IsUpToDate (map (set_told c.args.object.serial c.args.events) xs) c.tell_in.new.sets) same c.tell_in.ensures.told)
