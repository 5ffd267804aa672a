use Rattle.std.proofs.Common.{◌≡◌, true, Some, refl, sym, ◌∙◌, ap}
use Rattle.std.specs.Prelude.{slice_get}
use Rattle.std.specs.Option.{option_map}
use Rattle.handle_table.specs.Places.{slot_entry}
use Rattle.kernel_types.specs.Objects.{is_there}
use Rattle.kernel_types.specs.Tables.{entry_at, table_in}
use Rattle.counted_core.specs.Held.{objects_of}
use Rattle.counted_core.proofs.Installs.{installs}
use Rattle.counted_core.proofs.Roots.{held_there}
use Rattle.counted_core.proofs.counts.CountedCore.copy_entry.Goals as goal

pub invariant_of-self : goal.invariant_of-self
invariant_of-self c =
    let entry = slot_entry c.args.handle c.in-Some.slot in
    let got = rw (← c.self.view_is) at c.get.ensures in
    let found : entry_at (table_in (slice_get c.self.inside.apps c.args.app)) c.args.handle ≡ Some entry = sym got ∙ ap (option_map (slot_entry c.args.handle)) c.in-Some.is in
    let there : is_there (objects_of c.self.inside.store.items) entry.object ≡ true = held_there c.self.inside.apps c.self.inside.threads c.self.inside.store.items c.self.inside.store.next c.self.inside.clock c.self.inside.bridged c.args.app c.args.handle entry c.self.invariant.counted found in
    let r = installs c.self.inside.apps c.self.inside.threads c.self.inside.store.items c.self.inside.store.next c.self.inside.clock c.self.inside.bridged c.args.app entry.object there c.sound.ensures c.in_ok-reserve_names.ensures c.self.invariant in
    rw (c.install.ensures.apps, c.install.ensures.items, c.install.ensures.next) r.exact

pub returns-clause-copied : goal.returns-clause-copied
returns-clause-copied c =
    let entry = slot_entry c.args.handle c.in-Some.slot in
    let got = rw (← c.self.view_is) at c.get.ensures in
    let found : entry_at (table_in (slice_get c.self.inside.apps c.args.app)) c.args.handle ≡ Some entry = sym got ∙ ap (option_map (slot_entry c.args.handle)) c.in-Some.is in
    let there : is_there (objects_of c.self.inside.store.items) entry.object ≡ true = held_there c.self.inside.apps c.self.inside.threads c.self.inside.store.items c.self.inside.store.next c.self.inside.clock c.self.inside.bridged c.args.app c.args.handle entry c.self.invariant.counted found in
    let r = installs c.self.inside.apps c.self.inside.threads c.self.inside.store.items c.self.inside.store.next c.self.inside.clock c.self.inside.bridged c.args.app entry.object there c.sound.ensures c.in_ok-reserve_names.ensures c.self.invariant in
    rw (← c.self.view_is, c.install.ensures.apps, c.install.ensures.items, c.install.ensures.next, r.same, found) refl
