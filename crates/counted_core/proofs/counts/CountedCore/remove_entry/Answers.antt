use Rattle.std.proofs.Common.{◌≡◌, None, map, refl, sym, ◌∙◌, ap, Some}
use Rattle.std.specs.Prelude.{slice_get}
use Rattle.std.specs.Option.{option_copied_mut, option_map}
use Rattle.handle_table.specs.Places.{slot_entry}
use Rattle.kernel_types.specs.Names.{root}
use Rattle.kernel_types.specs.Tables.{entry_at, without}
use Rattle.object_store.specs.Stock.{unnamed}
use Rattle.counted_core.proofs.Roots.{removed_none, same_roots, takes}
use Rattle.counted_core.proofs.Totals.{less_total, still_waitable}
use Rattle.counted_core.proofs.counts.CountedCore.remove_entry.Goals as goal

pub invariant_of-self-2 : goal.invariant_of-self-2
invariant_of-self-2 c =
    let a = c.in-Some.state.now in
    let is : slice_get c.self.inside.apps c.args.app ≡ Some a = sym c.get_mut.ensures.value ∙ ap option_copied_mut c.in-Some.is in
    let found : entry_at a.table c.args.handle ≡ Some (slot_entry c.args.handle c.in-Some-take.slot) = sym c.take.ensures.slot ∙ ap (option_map (slot_entry c.args.handle)) c.in-Some-take.is in
    let r = takes c.self.inside.apps c.self.inside.threads c.self.inside.store.items c.self.inside.store.next c.self.inside.clock c.self.inside.bridged c.args.app c.args.handle a
    (slot_entry c.args.handle c.in-Some-take.slot) is c.sound-2.ensures found c.sound.ensures c.self.invariant.counted in
    rw (c.take.ensures.rest, c.unname.ensures.items, c.unname.ensures.next) (record { counted = r.counted; waitable = still_waitable c.self.inside.threads c.self.inside.store.items (unnamed c.self.inside.store.items c.in-Some-take.slot.key.serial) (less_total c.self.inside.store.items c.in-Some-take.slot.key.serial) c.self.invariant.waitable })

pub invariant_of-self-in_default-take : goal.invariant_of-self-in_default-take
invariant_of-self-in_default-take c =
    let a = c.in-Some.state.now in
    let is : slice_get c.self.inside.apps c.args.app ≡ Some a = sym c.get_mut.ensures.value ∙ ap option_copied_mut c.in-Some.is in
    let none : entry_at a.table c.args.handle ≡ None = sym c.take.ensures.slot ∙ ap (option_map (slot_entry c.args.handle)) c.in_default-take.is in
    rw c.take.ensures.rest (record {
      counted = same_roots c.self.inside.apps c.self.inside.threads c.self.inside.store.items c.self.inside.store.next c.self.inside.clock c.self.inside.bridged c.args.app a
          (record a { table = without a.table c.args.handle }) is (ap (map (λ entry. root entry.object)) (removed_none a.table c.args.handle none).1) c.self.invariant.counted;
      waitable = c.self.invariant.waitable;
    })

pub returns : goal.returns
returns c =
    let a = c.in-Some.state.now in
    let is : slice_get c.self.inside.apps c.args.app ≡ Some a = sym c.get_mut.ensures.value ∙ ap option_copied_mut c.in-Some.is in
    let found : entry_at a.table c.args.handle ≡ Some (slot_entry c.args.handle c.in-Some-take.slot) = sym c.take.ensures.slot ∙ ap (option_map (slot_entry c.args.handle)) c.in-Some-take.is in
    let r = takes c.self.inside.apps c.self.inside.threads c.self.inside.store.items c.self.inside.store.next c.self.inside.clock c.self.inside.bridged c.args.app c.args.handle a
    (slot_entry c.args.handle c.in-Some-take.slot) is c.sound-2.ensures found c.sound.ensures c.self.invariant.counted in
    rw (← c.self.view_is, c.take.ensures.rest, c.unname.ensures.items, c.unname.ensures.next, r.same, is) refl
