use Rattle.std.proofs.Common.{◌≡◌, ◌∙◌, ◌++◌, ◌∷◌, [], List, Some, sym, ap, subst}
use Rattle.std.proofs.lemmas.Bool.{false≢true}
use Rattle.handle_set.specs.declared.records.TrackedMember.{TrackedMember}
use Rattle.handle_set.specs.Holders.{IsHeld}
use Rattle.handle_set.specs.Sets.{IsSettled, Memberships, is_member, is_open}
use Rattle.handle_set.proofs.Opening.{opened_held, opened_settled}
use Rattle.handle_set.proofs.sets.Sets.open_set.Goals as goal

pub returns-in_err-reserve-clause-ready : goal.returns-in_err-reserve-clause-ready
returns-in_err-reserve-clause-ready c = λ spare. absurd (false≢true (c.in_err-reserve.ensures.ready spare))

pub invariant_of-self-2 : goal.invariant_of-self-2
invariant_of-self-2 c =
    let here : c.self.inside.spare ≡ Some c.in-Some.members = sym c.take.ensures.value ∙ c.in-Some.is in
    let empty = rw here at c.self.invariant.1 in
    let same = ap (λ (m : Memberships). m.sets) c.self.view_is ∙ c.reserve.ensures.sets in
    let opened = opened_settled c.self.inside.sets.items c.args.set.serial c.self.invariant.0 (ap (λ xs. is_open xs c.args.set.serial) same ∙ c.requires.new) (ap (λ xs. is_member xs c.args.set.serial) same ∙ c.requires.alone) in
    (rw c.push_reserved.ensures.items (subst (λ (ms : List TrackedMember). IsSettled (c.self.inside.sets.items ++ (record { id = c.args.set.serial; members = ms }) ∷ [])) (sym empty.0) opened), rw c.take.ensures.after tt, rw c.push_reserved.ensures.items (subst (λ (ms : List TrackedMember). IsHeld c.self.inside.holders (c.self.inside.sets.items ++ (record { id = c.args.set.serial; members = ms }) ∷ [])) (sym empty.0) (opened_held c.self.inside.holders c.self.inside.sets.items c.args.set.serial c.self.invariant.2)))
