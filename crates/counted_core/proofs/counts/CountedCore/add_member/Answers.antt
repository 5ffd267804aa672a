use Rattle.std.proofs.Common.{◌≡◌, true, refl, sym, ◌∙◌, ap, subst, ℕ, List}
use Rattle.kernel_values.specs.declared.state.CoreState.{CoreState}
use Rattle.kernel_values.specs.declared.state.Object.{Object}
use Rattle.kernel_types.specs.Objects.{is_there, on_set, set_changed, with_objects}
use Rattle.kernel_types.specs.Sets.{new_member, with_member}
use Rattle.counted_core.specs.Sending.{held_object}
use Rattle.counted_core.specs.Sweeping.{core_of}
use Rattle.counted_core.proofs.Joins.{adds_member, no_member, one_waitable}
use Rattle.counted_core.proofs.counts.CountedCore.add_member.Goals as goal

pub returns-then-not-is_set-clause-ok : goal.returns-then-not-is_set-clause-ok
unfolding held_object
returns-then-not-is_set-clause-ok c =
    let k = core_of c.self.inside.apps c.self.inside.threads c.self.inside.store.items c.self.inside.store.next c.self.inside.clock c.self.inside.bridged in
    let member = new_member c.args.handle (held_object c.args.self.now c.args.app c.args.handle) c.args.mask c.args.cookie in
    let none = rw (← c.self.view_is) at (sym c.is_set-is_set.ensures ∙ c.if-not-is_set.true) in
    let r = no_member k member c.self.inside.store.next c.args.id c.self.inside.store.items c.sound-2.ensures c.self.invariant.counted none in
    sym c.self.view_is ∙ (ap (λ (l : List Object). with_objects l k) r.same ∙ ap (λ (s : CoreState). set_changed (with_member member) c.args.id s) c.self.view_is)

pub invariant_of-self-2 : goal.invariant_of-self-2
unfolding held_object
invariant_of-self-2 c =
    let k = core_of c.self.inside.apps c.self.inside.threads c.self.inside.store.items c.self.inside.store.next c.self.inside.clock c.self.inside.bridged in
    let member = new_member c.args.handle c.held_object-object.result c.args.mask c.args.cookie in
    let some = rw (← c.self.view_is) at (sym c.is_set-is_set.ensures ∙ c.if-not-is_set.false) in
    let there = rw (← c.self.view_is) at (subst (λ (n : ℕ). is_there c.args.self.now.objects n ≡ true) (sym c.held_object-object.ensures) (c.sound.ensures c.args.app c.args.handle c.requires.held)) in
    let r = adds_member k member c.self.inside.store.next c.args.id c.self.inside.store.items c.sound-2.ensures c.self.invariant.counted some there in
    rw (c.name.ensures, c.in_ok-push_member.ensures.ok, c.key_of.ensures) (record {
      counted = r.counted;
      waitable = one_waitable c.self.inside.threads (on_set (with_member member)) c.self.inside.store.next c.args.id c.held_object-object.result c.self.inside.store.items c.sound-2.ensures c.in_ok-reserve_names.ensures;
    })

pub returns-clause-ok : goal.returns-clause-ok
unfolding held_object
returns-clause-ok c =
    let k = core_of c.self.inside.apps c.self.inside.threads c.self.inside.store.items c.self.inside.store.next c.self.inside.clock c.self.inside.bridged in
    let member = new_member c.args.handle c.held_object-object.result c.args.mask c.args.cookie in
    let some = rw (← c.self.view_is) at (sym c.is_set-is_set.ensures ∙ c.if-not-is_set.false) in
    let there = rw (← c.self.view_is) at (subst (λ (n : ℕ). is_there c.args.self.now.objects n ≡ true) (sym c.held_object-object.ensures) (c.sound.ensures c.args.app c.args.handle c.requires.held)) in
    let r = adds_member k member c.self.inside.store.next c.args.id c.self.inside.store.items c.sound-2.ensures c.self.invariant.counted some there in
    rw (c.name.ensures, c.in_ok-push_member.ensures.ok, c.key_of.ensures, c.push_member.ensures.next, ← c.held_object-object.ensures, ← c.self.view_is, r.same) refl
