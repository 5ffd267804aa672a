use Rattle.std.proofs.Common.{◌≡◌, length, drop, sym, subst, arith}
use Rattle.std.proofs.lemmas.List.{take_at}
use Rattle.handle_set.specs.Holders.{IsHeld}
use Rattle.handle_set.specs.Sets.{reported}
use Rattle.handle_set.proofs.Changing.{picking_fewer}
use Rattle.handle_set.proofs.Holding.{changed_held}
use Rattle.handle_set.proofs.sets.Sets.pick.Goals as goal

pub invariant_of-self : goal.invariant_of-self
invariant_of-self g c =
    let long : length c.pick_in.new.sets ≡ c.self.inside.sets.len = omega (arith, c.deref_mut.ensures.len, c.pick_in.auto.sets) in
    let was = subst (IsHeld c.self.inside.holders) (sym c.deref_mut.ensures.value) c.self.invariant.2 in
    let held = subst (IsHeld c.self.inside.holders) (sym c.pick_in.ensures.members) (changed_held c.self.inside.holders reported picking_fewer _ c.args.set.serial was) in
    rw (take_at c.pick_in.new.sets (drop (length c.pick_in.new.sets) c.self.inside.sets.items) c.self.inside.sets.len long) (c.pick_in.ensures.settled, c.self.invariant.1, held)
