use Rattle.std.proofs.Common.{refl, ap, ◌∙◌}
use Rattle.std.specs.List.{flat_map, fold}
use Rattle.object_store.specs.Stock.{unnamed}
use Rattle.counted_core.specs.Bridged.{bridged_entry}
use Rattle.counted_core.proofs.Bridges.{unbridges}
use Rattle.counted_core.proofs.Totals.{all_less_total, still_waitable}
use Rattle.counted_core.proofs.counts.CountedCore.unbridge.Goals as goal

pub invariant_of-self : goal.invariant_of-self
invariant_of-self c =
    let i = c.self.inside in
    let r = unbridges i.apps i.threads i.store.items i.store.next i.clock i.bridged c.args.id c.sound.ensures c.self.invariant.counted in
    let items = c.unname_bridged.ensures.items ∙ ap (λ l. fold unnamed i.store.items (flat_map (bridged_entry c.args.id) l)) c.as_slice.ensures in
    rw (items, c.drop_bridged.ensures, c.unname_bridged.ensures.next) (record {
      counted = r.counted;
      waitable = still_waitable i.threads i.store.items (fold unnamed i.store.items (flat_map (bridged_entry c.args.id) i.bridged)) (all_less_total (flat_map (bridged_entry c.args.id) i.bridged) i.store.items) c.self.invariant.waitable;
    })

pub returns : goal.returns
returns c =
    let i = c.self.inside in
    let r = unbridges i.apps i.threads i.store.items i.store.next i.clock i.bridged c.args.id c.sound.ensures c.self.invariant.counted in
    let items = c.unname_bridged.ensures.items ∙ ap (λ l. fold unnamed i.store.items (flat_map (bridged_entry c.args.id) l)) c.as_slice.ensures in
    rw (← c.self.view_is, items, c.unname_bridged.ensures.next, c.drop_bridged.ensures, r.same) refl
