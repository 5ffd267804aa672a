use Rattle.std.proofs.Common.{◌≡◌, ◌∙◌, ◌≤◌, ℕ, List, Option, Some, None, ap, arith}
use Rattle.handle_set.specs.declared.records.TrackedMember.{TrackedMember}
use Rattle.handle_set.specs.Sets.{Memberships, is_member}
use Rattle.handle_set.specs.Spares.{IsSpare}
use Rattle.handle_set.proofs.Opening.{closed_held, closed_settled}
use Rattle.handle_set.proofs.sets.Sets.clear.Goals as goal

still : (len capacity len_2 capacity_2 : ℕ) (spare : Option (List TrackedMember)) → len_2 ≤ len → capacity_2 ≡ capacity → IsSpare len capacity spare → IsSpare len_2 capacity_2 spare
still len capacity len_2 capacity_2 None less same was = tt
still len capacity len_2 capacity_2 (Some members) less same was = let room = was.1 in (was.0, omega arith)

pub invariant_of-self : goal.invariant_of-self
invariant_of-self c =
    let same = ap (λ (m : Memberships). m.sets) c.self.view_is in
    let alone = ap (λ xs. is_member xs c.args.set.serial) same ∙ c.requires in
    (rw c.close.ensures.sets (closed_settled c.self.inside.sets.items c.args.set.serial c.self.invariant.0 alone), still _ _ _ _ c.self.inside.spare c.close.ensures.len c.close.ensures.capacity c.self.invariant.1, rw c.close.ensures.sets (closed_held c.self.inside.holders c.self.inside.sets.items c.args.set.serial c.self.invariant.2))
