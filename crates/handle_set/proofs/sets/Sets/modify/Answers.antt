use Rattle.std.proofs.Common.{◌≡◌, ◌∙◌, List, length, drop, ap, subst, arith}
use Rattle.std.proofs.lemmas.List.{take_at}
use Rattle.handle_set.specs.declared.settle.OpenSet.{OpenSet}
use Rattle.handle_set.specs.Sets.{IsUpToDate, Memberships, members_changed, remasked_at}
use Rattle.handle_set.proofs.sets.Sets.modify.Goals as goal

pub invariant_of-self : goal.invariant_of-self
invariant_of-self c =
    let long : length c.modify_in.new.sets ≡ c.self.inside.sets.len = omega (arith, c.deref_mut.ensures.len, c.modify_in.auto.sets) in
    rw (take_at c.modify_in.new.sets (drop (length c.modify_in.new.sets) c.self.inside.sets.items) c.self.inside.sets.len long) (c.modify_in.ensures.settled, c.self.invariant.1, c.modify_in.ensures.held)

pub returns-clause-members : goal.returns-clause-members
returns-clause-members c =
    let long : length c.modify_in.new.sets ≡ c.self.inside.sets.len = omega (arith, c.deref_mut.ensures.len, c.modify_in.auto.sets) in
    let same = c.deref_mut.ensures.value ∙ ap (λ (m : Memberships). m.sets) c.self.view_is in
    rw (take_at c.modify_in.new.sets (drop (length c.modify_in.new.sets) c.self.inside.sets.items) c.self.inside.sets.len long)
    (subst (λ (xs : List OpenSet). IsUpToDate (members_changed (remasked_at c.args.label c.args.mask c.args.cookie) c.args.set.serial xs) c.modify_in.new.sets) same c.modify_in.ensures.members)
