use Rattle.std.proofs.Common.{arith, ◌≡◌, ◌≤◌, ◌+◌, length, refl, ◌∙◌, ap, subst}
use Rattle.std.specs.List.{fold}
use Rattle.kernel_types.specs.Messages.{with_message}
use Rattle.kernel_types.specs.Objects.{on_end}
use Rattle.object_store.specs.Stock.{changed, total_names}
use Rattle.counted_core.specs.Held.{on_value}
use Rattle.counted_core.specs.Sending.{named_more}
use Rattle.counted_core.specs.Sweeping.{core_of}
use Rattle.counted_core.proofs.Drops.{changed_sound}
use Rattle.counted_core.proofs.Naming.{changed_total, pushes}
use Rattle.counted_core.proofs.Totals.{more_total, named_waitable}
use Rattle.counted_core.proofs.counts.CountedCore.add_message.Goals as goal

pub invariant_of-self-2 : goal.invariant_of-self-2
invariant_of-self-2 c =
    let k = core_of c.self.inside.apps c.self.inside.threads c.self.inside.store.items c.self.inside.store.next c.self.inside.clock c.self.inside.bridged in
    let end = rw (← c.self.view_is) at c.requires.end in
    let parts = rw (← c.self.view_is) at c.requires.parts in
    let r = pushes k c.args.bytes.now c.args.parts.now c.self.inside.store.next c.args.id c.self.inside.store.items c.sound.ensures c.self.invariant.counted end parts in
    let items : c.name_all.new.store.items ≡ fold named_more (changed c.self.inside.store.items c.args.id (on_value (on_end (with_message c.args.bytes.now c.args.parts.now)))) c.args.parts.now =
    c.name_all.ensures.items ∙ (ap (λ p. fold named_more c.push_message.new.store.items p) c.as_slice.ensures ∙ ap (λ l. fold named_more l c.args.parts.now) c.in_ok-push_message.ensures.ok) in
    let f = on_end (with_message c.args.bytes.now c.args.parts.now) in
    rw items (record {
      counted = r.counted;
      waitable = named_waitable c.self.inside.threads (length c.args.parts.now) c.self.inside.store.items (fold named_more (changed c.self.inside.store.items c.args.id (on_value f)) c.args.parts.now)
          (subst (λ n. total_names (fold named_more (changed c.self.inside.store.items c.args.id (on_value f)) c.args.parts.now) ≤ n + length c.args.parts.now) (changed_total f c.args.id c.self.inside.store.items)
          (more_total c.args.parts.now c.self.inside.store.next (changed c.self.inside.store.items c.args.id (on_value f)) (changed_sound f 0 c.self.inside.store.next c.args.id c.self.inside.store.items c.sound.ensures)))
          (omega (arith, c.in_ok-reserve_names.ensures, c.len.ensures));
    })

pub returns-clause-ok : goal.returns-clause-ok
returns-clause-ok c =
    let k = core_of c.self.inside.apps c.self.inside.threads c.self.inside.store.items c.self.inside.store.next c.self.inside.clock c.self.inside.bridged in
    let end = rw (← c.self.view_is) at c.requires.end in
    let parts = rw (← c.self.view_is) at c.requires.parts in
    let r = pushes k c.args.bytes.now c.args.parts.now c.self.inside.store.next c.args.id c.self.inside.store.items c.sound.ensures c.self.invariant.counted end parts in
    let items : c.name_all.new.store.items ≡ fold named_more (changed c.self.inside.store.items c.args.id (on_value (on_end (with_message c.args.bytes.now c.args.parts.now)))) c.args.parts.now =
    c.name_all.ensures.items ∙ (ap (λ p. fold named_more c.push_message.new.store.items p) c.as_slice.ensures ∙ ap (λ l. fold named_more l c.args.parts.now) c.in_ok-push_message.ensures.ok) in
    let next = c.name_all.ensures.next ∙ c.push_message.ensures.next in
    rw (← c.self.view_is, items, next, r.same) refl
