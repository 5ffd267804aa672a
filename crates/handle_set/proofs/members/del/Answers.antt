use Rattle.std.proofs.Common.{◌≡◌, ◌∙◌, List, slice_get, Some, arith, sym, ap, ℕ}
use Rattle.std.specs.Option.{option_map}
use Rattle.std.specs.List.{filter, remove, position_or_len}
use Rattle.handle_set.specs.declared.records.TrackedMember.{TrackedMember}
use Rattle.handle_set.specs.Members.{AreDifferent, has_label, is_other, object_of}
use Rattle.handle_set.proofs.Orders.{found_label, all_other, others_removed}
use Rattle.handle_set.proofs.ReadyLists.{labelled_at, label_past}
use Rattle.handle_set.proofs.members.del.Goals as goal

gone : (members : List TrackedMember) (label at : ℕ) (told : TrackedMember) → AreDifferent members → at ≡ position_or_len (has_label label) members → slice_get members at ≡ Some told → remove members at ≡ filter (is_other label) members
gone members label at told different is here =
    let found = labelled_at members label at told is here in
    sym (others_removed members at told different here) ∙ ap (λ l. filter (is_other l) members) found.1

pub returns-then-len-at-clause-object : goal.returns-then-len-at-clause-object
returns-then-len-at-clause-object c = ap (option_map object_of) (sym (label_past c.args.list.now c.args.label c.place_of-at.result c.place_of-at.ensures (omega (arith, c.len.ensures.value))))

pub returns-then-len-at-clause-members : goal.returns-then-len-at-clause-members
returns-then-len-at-clause-members c = sym (all_other c.args.list.now c.args.label (found_label c.args.list.now c.args.label (label_past c.args.list.now c.args.label c.place_of-at.result c.place_of-at.ensures (omega (arith, c.len.ensures.value)))))

pub returns-clause-object : goal.returns-clause-object
returns-clause-object c = ap (option_map object_of) (sym (labelled_at c.args.list.now c.args.label c.place_of-at.result c.member-told.result c.place_of-at.ensures c.member-told.ensures).0)

pub returns-clause-members : goal.returns-clause-members
returns-clause-members c =
    c.remove.ensures ∙ gone c.args.list.now c.args.label c.place_of-at.result c.member-told.result c.sound.ensures.different c.place_of-at.ensures c.member-told.ensures
