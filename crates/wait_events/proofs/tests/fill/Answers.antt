use Rattle.std.proofs.Common.{◌∙◌, sym, ap, subst}
use Rattle.handle_set.specs.declared.adding.Member.{Member}
use Rattle.handle_set.specs.Adding.{told_as, with_pushed}
use Rattle.handle_set.specs.Sets.{CanHave, is_open}
use Rattle.wait_events.proofs.Filling.{can_have, ids_after, open_alone}
use Rattle.wait_events.proofs.tests.fill.Goals as goal

pub add-requires-clause-is_set : goal.add-requires-clause-is_set
add-requires-clause-is_set c = ap (is_open c.loop-label.sets.sets) c.key-set.ensures ∙ open_alone c.loop-label.sets.sets c.loop-label.invariant

pub add-requires-clause-events : goal.add-requires-clause-events
add-requires-clause-events c = subst (λ n. CanHave c.loop-label.sets.sets n (record { 0 = 0 })) (sym c.key-object.ensures) (can_have c.loop-label.sets.sets c.loop-label.label (record { 0 = 0 }) c.loop-label.invariant)

pub loop-label-preserved : goal.loop-label-preserved
loop-label-preserved c =
    let member : Member = record { label = c.loop-label.label; object = c.key-object.result; mask = record { 0 = 31 }; cookie = 7 } in
    ids_after (with_pushed (told_as c.loop-label.sets.sets member (record { 0 = 0 }))) c.key-set.result.serial c.loop-label.sets.sets c.add.new.self.sets c.in_ok-add.ensures.added
    ∙ c.loop-label.invariant
