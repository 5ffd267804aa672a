use Rattle.std.proofs.Common.{◌≡◌, ◌∙◌, ◌≤◌, length, arith, sym, ap, ℕ, List}
use Rattle.std.specs.Option.{option_map}
use Rattle.std.specs.List.{position_or_len}
use Rattle.kernel_values.specs.declared.flags.Events.{Events}
use Rattle.handle_set.specs.declared.records.TrackedMember.{TrackedMember}
use Rattle.handle_set.specs.Members.{has_label, remasked, set_if, with_mask, with_mask_at}
use Rattle.handle_set.proofs.Orders.{none_at, found_label, label_found}
use Rattle.handle_set.proofs.ReadyLists.{labelled_at, label_past}
use Rattle.handle_set.proofs.members.modify.Goals as goal

unmasked : (members : List TrackedMember) (label at : ℕ) (mask : Events) (cookie : ℕ) → at ≡ position_or_len (has_label label) members → length members ≤ at → members ≡ remasked label mask cookie members
unmasked members label at mask cookie is past =
    ap (λ o. set_if members at (option_map (with_mask mask cookie) o)) (sym (none_at members at past)) ∙ ap (λ k. with_mask_at k mask cookie members) is

pub returns-then-len-at-clause-there : goal.returns-then-len-at-clause-there
returns-then-len-at-clause-there c = sym (found_label c.args.list.now c.args.label (label_past c.args.list.now c.args.label c.place_of-at.result c.place_of-at.ensures (omega (arith, c.len.ensures.value))))

pub returns-then-len-at-clause-members : goal.returns-then-len-at-clause-members
returns-then-len-at-clause-members c = unmasked c.args.list.now c.args.label c.place_of-at.result c.args.mask c.args.cookie c.place_of-at.ensures (omega (arith, c.len.ensures.value))

pub returns-clause-there : goal.returns-clause-there
returns-clause-there c = sym (label_found c.args.list.now c.args.label c.member-told.result (labelled_at c.args.list.now c.args.label c.place_of-at.result c.member-told.result c.place_of-at.ensures c.member-told.ensures).0)

pub returns-clause-members : goal.returns-clause-members
returns-clause-members c = c.set_mask.ensures ∙ ap (λ k. with_mask_at k c.args.mask c.args.cookie c.args.list.now) c.place_of-at.ensures
