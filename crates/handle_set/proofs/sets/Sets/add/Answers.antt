use Rattle.std.proofs.Common.{◌≡◌, ◌∙◌, List, length, drop, inr, sym, ap, subst, arith}
use Rattle.std.proofs.lemmas.List.{take_at}
use Rattle.handle_set.specs.declared.settle.OpenSet.{OpenSet}
use Rattle.handle_set.specs.Adding.{add_refusal, with_added}
use Rattle.handle_set.specs.Sets.{IsUpToDate, Memberships}
use Rattle.handle_set.proofs.sets.Sets.add.Goals as goal

pub returns-in-Some-clause-cause : goal.returns-in-Some-clause-cause
returns-in-Some-clause-cause c =
    let same = c.deref.ensures.value ∙ ap (λ (m : Memberships). m.sets) c.self.view_is in
    inr (sym (ap (λ xs. add_refusal xs c.args.set.serial c.args.member) same) ∙ sym c.refusal.ensures ∙ c.in-Some.is)

pub returns-in-Ok-clause-added : goal.returns-in-Ok-clause-added
returns-in-Ok-clause-added c =
    let long : length c.add_in.new.sets ≡ c.self.inside.sets.len = omega (arith, c.deref_mut.ensures.len, c.add_in.auto.sets) in
    let same = c.deref_mut.ensures.value ∙ ap (λ (m : Memberships). m.sets) c.self.view_is in
    let added = rw c.in-Ok.is at c.add_in.ensures.added in
    rw (take_at c.add_in.new.sets (drop (length c.add_in.new.sets) c.self.inside.sets.items) c.self.inside.sets.len long)
    (subst (λ (xs : List OpenSet). IsUpToDate (with_added c.args.set.serial c.args.member c.args.events xs) c.add_in.new.sets) same added)
