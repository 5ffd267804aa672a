use Rattle.std.proofs.Common.{◌≡◌, ◌≢◌, ◌∙◌, sym, ap, arith}
use Rattle.std.proofs.lemmas.Bool.Decides.{nat_tests}
use Rattle.object_store.proofs.Dead.{dead-lt, dies, lives_on}
use Rattle.object_store.proofs.kept.KeptSlots.take_name.Goals as goal

pub push_reserved-requires : goal.push_reserved-requires
push_reserved-requires g c =
    let h = c.in-Some.kept.now in
    let was = sym c.in-Some.ensures.value in
    let names = rw (← c.self.view_is) at c.requires.names in
    let two = names h was in
    let few = dead-lt c.self.inside.slab c.self.inside.dead c.self.invariant c.args.slot h was (λ e. omega (arith, two, e)) in
    let room = c.self.invariant.room in
    omega (arith, few, room)

pub invariant_of-self-then-dies : goal.invariant_of-self-then-dies
invariant_of-self-then-dies g c =
    let h = c.in-Some.kept.now in
    let was = sym c.in-Some.ensures.value in
    let tests = rw (← c.self.view_is) at c.requires.dies in
    let test = sym (tests h was) ∙ c.if-dies.true in
    let two : h.names ≡ 2 = grind (arith, nat_tests) in
    dies c.self.inside.slab c.self.inside.dead c.self.invariant c.args.slot h was c.push_reserved.new.self c.set_place.new.self two (c.set_place.ensures ∙ c.drop_name.ensures) c.push_reserved.ensures.items c.push_reserved.ensures.capacity

pub invariant_of-self-else-dies : goal.invariant_of-self-else-dies
invariant_of-self-else-dies g c =
    let h = c.in-Some.kept.now in
    let was = sym c.in-Some.ensures.value in
    let tests = rw (← c.self.view_is) at c.requires.dies in
    let names = rw (← c.self.view_is) at c.requires.names in
    let two = names h was in
    let test = sym (tests h was) ∙ c.if-dies.false in
    let more : h.names ≢ 2 = grind (arith, nat_tests) in
    let fewer = ap (λ x. x.names) (c.set_place.ensures ∙ c.drop_name.ensures) in
    lives_on c.self.inside.slab c.self.inside.dead c.self.invariant c.args.slot h was c.set_place.new.self (λ e. omega (arith, two, e)) (λ e. omega (arith, two, more, fewer, e))
