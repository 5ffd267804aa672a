use Rattle.std.proofs.Common.{◌≡◌, ℕ, ◌+◌, ◌≤◌, true, List, length, min, take, Some, refl, sym, ◌∙◌, ap, subst, arith}
use Rattle.std.specs.Prelude.{slice_get}
use Rattle.std.specs.List.{find}
use Rattle.std.specs.Option.{option_copied_mut}
use Rattle.core_changes.specs.Looks.{message_parts, messages_in}
use Rattle.kernel_types.specs.Messages.{is_opened_as}
use Rattle.kernel_types.specs.Objects.{end_of, is_there}
use Rattle.kernel_types.specs.Reach.{is_in}
use Rattle.kernel_types.specs.Tables.{has_room, table_in}
use Rattle.counted_core.specs.Held.{objects_of}
use Rattle.counted_core.specs.Sweeping.{core_of}
use Rattle.counted_core.proofs.Carried.{carried_there, parts_fit}
use Rattle.counted_core.proofs.Installs.{gives}
use Rattle.counted_core.proofs.counts.CountedCore.install_parts.Goals as goal

pub give_all-requires-clause-room : goal.give_all-requires-clause-room
give_all-requires-clause-room c =
    let a = c.in-Some.state.now in
    let carried : List ℕ = message_parts (find (is_opened_as c.args.number) (messages_in (end_of (objects_of c.self.inside.store.items) c.args.id))) in
    let is : slice_get c.self.inside.apps c.args.app ≡ Some a = sym c.get_mut.ensures.value ∙ ap option_copied_mut c.in-Some.is in
    let got = rw (← c.self.view_is) at c.in_ok-parts.ensures in
    let parts : c.in_ok-parts.parts ≡ take c.args.count carried = got in
    let room = rw (← c.self.view_is) at c.requires.room in
    let fit : length a.table + length (take c.args.count carried) ≤ 64 = parts_fit c.args.count carried a.table (subst (λ o. has_room (min c.args.count (length carried)) (table_in o) ≡ true) is room) in
    subst (λ l. length a.table + length l ≤ 64) (sym (c.as_slice.ensures ∙ parts)) fit

pub invariant_of-self-2 : goal.invariant_of-self-2
invariant_of-self-2 c =
    let a = c.in-Some.state.now in
    let carried : List ℕ = message_parts (find (is_opened_as c.args.number) (messages_in (end_of (objects_of c.self.inside.store.items) c.args.id))) in
    let is : slice_get c.self.inside.apps c.args.app ≡ Some a = sym c.get_mut.ensures.value ∙ ap option_copied_mut c.in-Some.is in
    let got = rw (← c.self.view_is) at c.in_ok-parts.ensures in
    let parts : c.in_ok-parts.parts ≡ take c.args.count carried = got in
    let there : (o : ℕ) → is_in c.in_ok-parts.parts o ≡ true → is_there (objects_of c.self.inside.store.items) o ≡ true =
    λ o h. carried_there (core_of c.self.inside.apps c.self.inside.threads c.self.inside.store.items c.self.inside.store.next c.self.inside.clock c.self.inside.bridged) c.self.inside.store.items c.args.id c.args.number c.args.count c.self.invariant.counted o (subst (λ l. is_in l o ≡ true) parts h) in
    let r = gives c.self.inside.apps c.self.inside.threads c.self.inside.store.items c.self.inside.store.next c.self.inside.clock c.self.inside.bridged c.args.app c.in_ok-parts.parts a is there c.sound.ensures (omega (arith, c.in_ok-reserve_names.ensures, c.len.ensures)) c.self.invariant in
    rw (c.give_all.ensures.table, c.as_slice.ensures, c.name_all.ensures.items, c.as_slice-2.ensures, c.name_all.ensures.next) r.exact

pub returns-clause-installed : goal.returns-clause-installed
returns-clause-installed c =
    let a = c.in-Some.state.now in
    let carried : List ℕ = message_parts (find (is_opened_as c.args.number) (messages_in (end_of (objects_of c.self.inside.store.items) c.args.id))) in
    let is : slice_get c.self.inside.apps c.args.app ≡ Some a = sym c.get_mut.ensures.value ∙ ap option_copied_mut c.in-Some.is in
    let got = rw (← c.self.view_is) at c.in_ok-parts.ensures in
    let parts : c.in_ok-parts.parts ≡ take c.args.count carried = got in
    let there : (o : ℕ) → is_in c.in_ok-parts.parts o ≡ true → is_there (objects_of c.self.inside.store.items) o ≡ true =
    λ o h. carried_there (core_of c.self.inside.apps c.self.inside.threads c.self.inside.store.items c.self.inside.store.next c.self.inside.clock c.self.inside.bridged) c.self.inside.store.items c.args.id c.args.number c.args.count c.self.invariant.counted o (subst (λ l. is_in l o ≡ true) parts h) in
    let r = gives c.self.inside.apps c.self.inside.threads c.self.inside.store.items c.self.inside.store.next c.self.inside.clock c.self.inside.bridged c.args.app c.in_ok-parts.parts a is there c.sound.ensures (omega (arith, c.in_ok-reserve_names.ensures, c.len.ensures)) c.self.invariant in
    rw (← c.self.view_is, c.give_all.ensures.table, c.as_slice.ensures, c.name_all.ensures.items, c.as_slice-2.ensures, c.name_all.ensures.next, r.same, is, parts) refl
