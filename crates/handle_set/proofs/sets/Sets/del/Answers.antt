use Rattle.std.proofs.Common.{◌≡◌, ◌∙◌, List, length, drop, ap, subst, arith}
use Rattle.std.proofs.lemmas.List.{take_at}
use Rattle.handle_set.specs.declared.settle.OpenSet.{OpenSet}
use Rattle.handle_set.specs.Sets.{IsUpToDate, Memberships, members_changed, without_label}
use Rattle.handle_set.proofs.sets.Sets.del.Goals as goal

pub invariant_of-self : goal.invariant_of-self
invariant_of-self c =
    let long : length c.del_in.new.sets ≡ c.self.inside.sets.len = omega (arith, c.deref_mut.ensures.len, c.del_in.auto.sets) in
    rw (take_at c.del_in.new.sets (drop (length c.del_in.new.sets) c.self.inside.sets.items) c.self.inside.sets.len long) (c.del_in.ensures.settled, c.self.invariant.1, c.del_in.ensures.held)

pub returns-clause-members : goal.returns-clause-members
returns-clause-members c =
    let long : length c.del_in.new.sets ≡ c.self.inside.sets.len = omega (arith, c.deref_mut.ensures.len, c.del_in.auto.sets) in
    let same = c.deref_mut.ensures.value ∙ ap (λ (m : Memberships). m.sets) c.self.view_is in
    rw (take_at c.del_in.new.sets (drop (length c.del_in.new.sets) c.self.inside.sets.items) c.self.inside.sets.len long)
    (subst (λ (xs : List OpenSet). IsUpToDate (members_changed (without_label c.args.label) c.args.set.serial xs) c.del_in.new.sets) same c.del_in.ensures.members)
