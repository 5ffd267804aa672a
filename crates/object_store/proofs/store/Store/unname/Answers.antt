use Rattle.std.proofs.Common.{◌≡◌, ◌==◌, false, refl, sym, ap, ◌∙◌, arith}
use Rattle.std.proofs.lemmas.Bool.Decides.{nat_tests}
use Rattle.std.specs.Option.{option_and_then}
use Rattle.slab.specs.Slab.{get}
use Rattle.object_store.specs.Stock.{one_fewer, last_named}
use Rattle.object_store.proofs.Changes.{held_listed}
use Rattle.object_store.proofs.Dead.{changed_is}
use Rattle.object_store.proofs.Rising.{order_gone, order_written}
use Rattle.object_store.proofs.Slots.{is_at_held}
use Rattle.object_store.proofs.Stock.{slab_len-with_slot, none_here, names-le-total, gone_stock, absent_unnamed, held_here, gone_here, write_stock, write_less, goes, stays}
use Rattle.object_store.proofs.store.Store.unname.Goals as goal

pub returns-in_default-clause-value : goal.returns-in_default-clause-value
returns-in_default-clause-value g c =
    rw (← c.self.view_is) (sym (ap (option_and_then last_named) (held_listed _ _ _ c.self.invariant.stock.slots ∙ none_here c.self.inside.slab _ c.in_default.ensures.absent)))

pub returns-in_default-clause-items : goal.returns-in_default-clause-items
returns-in_default-clause-items g c =
    rw (← c.self.view_is) (sym (absent_unnamed _ _ _ c.self.invariant.stock.slots (none_here c.self.inside.slab _ c.in_default.ensures.absent)))

pub overflow_sub-self : goal.overflow_sub-self
overflow_sub-self g c =
    let there = is_at_held (get c.self.inside.slab c.in-Some.slot) c.args.key.serial c.in-Some.ensures.found in
    let most = names-le-total _ _ _ c.in-Some.slot there.0 c.self.invariant.stock there.1 in
    omega arith

pub drop_name-requires : goal.drop_name-requires
drop_name-requires g c = λ h was. let most = names-le-total _ _ _ c.in-Some.slot h c.self.invariant.stock was in omega arith

-- the value has more names
pub returns-in_err-value-clause-value : goal.returns-in_err-value-clause-value
returns-in_err-value-clause-value g c =
    let there = is_at_held (get c.self.inside.slab c.in-Some.slot) c.args.key.serial c.in-Some.ensures.found in
    let held = held_here _ _ _ _ _ c.self.invariant.stock c.in-Some.ensures.found there.0 there.1 in
    rw (← c.self.view_is) (c.from_residual.ensures ∙ sym c.in_err-value.was ∙ c.drop_name.ensures.value ∙ ap (option_and_then last_named) (there.1 ∙ sym held))

pub returns-in_err-value-clause-items : goal.returns-in_err-value-clause-items
returns-in_err-value-clause-items g c =
    let there = is_at_held (get c.self.inside.slab c.in-Some.slot) c.args.key.serial c.in-Some.ensures.found in
    let h = there.0 in
    let more = stays h (sym (c.drop_name.ensures.value ∙ ap (option_and_then last_named) there.1) ∙ c.in_err-value.was) in
    let most = names-le-total _ _ _ c.in-Some.slot h c.self.invariant.stock there.1 in
    let test : (h.names == 1) ≡ false = grind (arith, nat_tests) in
    let same = c.drop_name.ensures.fewer h there.1 more ∙ changed_is c.self.inside.slab c.in-Some.slot h one_fewer there.1 in
    rw (← c.self.view_is, same) (write_less _ _ _ _ _ c.self.invariant.stock c.in-Some.ensures.found h there.1 (one_fewer h) refl (omega (arith, more, most)) (rw test refl))

pub returns-in_err-value-clause-room : goal.returns-in_err-value-clause-room
returns-in_err-value-clause-room g c =
    let there = is_at_held (get c.self.inside.slab c.in-Some.slot) c.args.key.serial c.in-Some.ensures.found in
    let h = there.0 in
    let more = stays h (sym (c.drop_name.ensures.value ∙ ap (option_and_then last_named) there.1) ∙ c.in_err-value.was) in
    let len = slab_len-with_slot c.self.inside.slab c.in-Some.slot (one_fewer h) h there.1 in
    let same = c.drop_name.ensures.fewer h there.1 more ∙ changed_is c.self.inside.slab c.in-Some.slot h one_fewer there.1 in
    rw (← c.self.view_is, c.from_residual.ensures, same, len) (omega arith)

pub invariant_of-self : goal.invariant_of-self
invariant_of-self g c =
    let there = is_at_held (get c.self.inside.slab c.in-Some.slot) c.args.key.serial c.in-Some.ensures.found in
    let h = there.0 in
    let more = stays h (sym (c.drop_name.ensures.value ∙ ap (option_and_then last_named) there.1) ∙ c.in_err-value.was) in
    let most = names-le-total _ _ _ c.in-Some.slot h c.self.invariant.stock there.1 in
    let same = c.drop_name.ensures.fewer h there.1 more ∙ changed_is c.self.inside.slab c.in-Some.slot h one_fewer there.1 in
    rw same (record {
      stock = write_stock _ _ _ _ _ c.self.invariant.stock c.in-Some.ensures.found h there.1 (one_fewer h) refl (omega (arith, more, most)) _ (omega (arith, more, most));
      ordered = order_written _ _ c.self.invariant.ordered _ h (one_fewer h) there.1 refl;
    })

-- that was its last name
pub invariant_of-self-2 : goal.invariant_of-self-2
invariant_of-self-2 g c =
    let there = is_at_held (get c.self.inside.slab c.in-Some.slot) c.args.key.serial c.in-Some.ensures.found in
    let h = there.0 in
    let one = goes h _ (sym (c.drop_name.ensures.value ∙ ap (option_and_then last_named) there.1) ∙ c.in_ok-value.was) in
    let most = names-le-total _ _ _ c.in-Some.slot h c.self.invariant.stock there.1 in
    let gone = c.drop_name.ensures.gone h there.1 one in
    let without = rw (← there.2) at c.remove.ensures.entries in
    record {
      stock = gone_stock _ _ _ _ _ c.self.invariant.stock h there.1 gone.updates _ gone.len (omega (arith, one, most));
      ordered = order_gone _ _ c.self.invariant.ordered _ _ _ h c.self.invariant.stock.slots there.1 gone.updates _ gone.len without c.remove.ensures.capacity;
    }

pub returns-clause-value : goal.returns-clause-value
returns-clause-value g c =
    let there = is_at_held (get c.self.inside.slab c.in-Some.slot) c.args.key.serial c.in-Some.ensures.found in
    let held = held_here _ _ _ _ _ c.self.invariant.stock c.in-Some.ensures.found there.0 there.1 in
    rw (← c.self.view_is) (sym c.in_ok-value.was ∙ c.drop_name.ensures.value ∙ ap (option_and_then last_named) (there.1 ∙ sym held))

pub returns-clause-items : goal.returns-clause-items
returns-clause-items g c =
    let there = is_at_held (get c.self.inside.slab c.in-Some.slot) c.args.key.serial c.in-Some.ensures.found in
    let h = there.0 in
    let one = goes h _ (sym (c.drop_name.ensures.value ∙ ap (option_and_then last_named) there.1) ∙ c.in_ok-value.was) in
    rw (← c.self.view_is) (gone_here _ _ _ _ _ c.self.invariant.stock c.in-Some.ensures.found h there.1 c.drop_name.new.self one (c.drop_name.ensures.gone h there.1 one).updates)

pub returns-clause-room : goal.returns-clause-room
returns-clause-room g c =
    let there = is_at_held (get c.self.inside.slab c.in-Some.slot) c.args.key.serial c.in-Some.ensures.found in
    let h = there.0 in
    let one = goes h _ (sym (c.drop_name.ensures.value ∙ ap (option_and_then last_named) there.1) ∙ c.in_ok-value.was) in
    let gone = c.drop_name.ensures.gone h there.1 one in
    let fits = c.self.invariant.ordered.room in
    rw (← c.self.view_is) (omega (arith, gone.len, gone.capacity, gone.room, fits, c.remove.ensures.capacity))
