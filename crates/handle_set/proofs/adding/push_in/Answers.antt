use Rattle.std.proofs.Common.{◌∙◌, ◌<◌, ◌++◌, ◌∷◌, [], length, get_or, sym, ap, subst}
use Rattle.handle_set.specs.declared.records.TrackedMember.{TrackedMember}
use Rattle.handle_set.specs.declared.settle.OpenSet.{OpenSet}
use Rattle.handle_set.specs.Adding.{told_as, with_pushed}
use Rattle.handle_set.specs.Members.{is_label_in}
use Rattle.handle_set.specs.Sets.{IsUpToDate}
use Rattle.handle_set.proofs.Pushing.{has_room, new_label, pushed_held, pushed_once, pushed_others, pushed_ranked, pushed_rest, pushed_settled, pushed_whole}
use Rattle.handle_set.proofs.adding.push_in.Goals as goal

pub push-requires-clause-room : goal.push-requires-clause-room
push-requires-clause-room c = subst (λ (x : OpenSet). length x.members < 64) c.index-sets-place.is (has_room c.args.sets.now c.args.id c.open_place-place.result c.index-sets-place.result c.args.member c.args.events c.open_place-place.ensures.place c.open_place-place.ensures.within c.index-sets-place.is c.requires.settled c.requires.none c.requires.events)

pub push-requires-clause-new : goal.push-requires-clause-new
push-requires-clause-new c =
    ap (λ (t : TrackedMember). is_label_in (get_or c.args.sets.now c.open_place-place.result c.index-sets-place.result).members t.label) c.told_as-told.ensures
    ∙ ap (λ (x : OpenSet). is_label_in x.members c.args.member.label) (sym c.index-sets-place.is)
    ∙ new_label c.args.sets.now c.args.id c.open_place-place.result c.index-sets-place.result c.args.member c.args.events c.open_place-place.ensures.place c.open_place-place.ensures.within c.index-sets-place.is c.requires.settled c.requires.none c.requires.events

pub settle_after-requires-clause-ranked : goal.settle_after-requires-clause-ranked
settle_after-requires-clause-ranked c = pushed_ranked c.args.sets.now c.args.id c.open_place-place.result c.index-sets-place.result c.args.member c.args.events c.open_place-place.ensures.place c.open_place-place.ensures.within c.index-sets-place.is c.requires.settled c.requires.none c.requires.events _ (c.push.ensures ∙ ap (λ (t : TrackedMember). (get_or c.args.sets.now c.open_place-place.result c.index-sets-place.result).members ++ t ∷ []) c.told_as-told.ensures ∙ ap (λ (x : OpenSet). with_pushed (told_as c.args.sets.now c.args.member c.args.events) x.members) (sym c.index-sets-place.is)) c.adding_keeps_chains_short.ensures

pub settle_after-requires-clause-once : goal.settle_after-requires-clause-once
settle_after-requires-clause-once c = pushed_once c.args.sets.now c.args.id c.open_place-place.result c.index-sets-place.result c.args.member c.args.events c.open_place-place.ensures.place c.open_place-place.ensures.within c.index-sets-place.is c.requires.settled c.requires.none c.requires.events _ (c.push.ensures ∙ ap (λ (t : TrackedMember). (get_or c.args.sets.now c.open_place-place.result c.index-sets-place.result).members ++ t ∷ []) c.told_as-told.ensures ∙ ap (λ (x : OpenSet). with_pushed (told_as c.args.sets.now c.args.member c.args.events) x.members) (sym c.index-sets-place.is))

pub settle_after-requires-clause-held : goal.settle_after-requires-clause-held
settle_after-requires-clause-held c = pushed_held c.args.sets.now c.args.id c.open_place-place.result c.index-sets-place.result c.args.member c.args.events c.open_place-place.ensures.place c.open_place-place.ensures.within c.index-sets-place.is c.requires.settled c.requires.none c.requires.events _ (c.push.ensures ∙ ap (λ (t : TrackedMember). (get_or c.args.sets.now c.open_place-place.result c.index-sets-place.result).members ++ t ∷ []) c.told_as-told.ensures ∙ ap (λ (x : OpenSet). with_pushed (told_as c.args.sets.now c.args.member c.args.events) x.members) (sym c.index-sets-place.is)) c.args.holders.now c.requires.held c.requires.holder

pub settle_after-requires-clause-rest : goal.settle_after-requires-clause-rest
settle_after-requires-clause-rest c = pushed_rest c.args.sets.now c.args.id c.open_place-place.result c.index-sets-place.result c.args.member c.args.events c.open_place-place.ensures.place c.open_place-place.ensures.within c.index-sets-place.is c.requires.settled c.requires.none c.requires.events _ (c.push.ensures ∙ ap (λ (t : TrackedMember). (get_or c.args.sets.now c.open_place-place.result c.index-sets-place.result).members ++ t ∷ []) c.told_as-told.ensures ∙ ap (λ (x : OpenSet). with_pushed (told_as c.args.sets.now c.args.member c.args.events) x.members) (sym c.index-sets-place.is))

pub settle_after-requires-clause-others : goal.settle_after-requires-clause-others
settle_after-requires-clause-others c = pushed_others c.args.sets.now c.args.id c.open_place-place.result c.index-sets-place.result c.args.member c.args.events c.open_place-place.ensures.place c.open_place-place.ensures.within c.index-sets-place.is c.requires.settled c.requires.none c.requires.events _ (c.push.ensures ∙ ap (λ (t : TrackedMember). (get_or c.args.sets.now c.open_place-place.result c.index-sets-place.result).members ++ t ∷ []) c.told_as-told.ensures ∙ ap (λ (x : OpenSet). with_pushed (told_as c.args.sets.now c.args.member c.args.events) x.members) (sym c.index-sets-place.is)) c.is_ready_at-was.result c.is_ready_at-was.ensures

pub returns-clause-added : goal.returns-clause-added
returns-clause-added c = subst (λ xs. IsUpToDate xs c.settle_after.new.sets) (pushed_whole c.args.sets.now c.args.id c.open_place-place.result c.index-sets-place.result c.args.member c.args.events c.open_place-place.ensures.place c.open_place-place.ensures.within c.index-sets-place.is c.requires.settled c.requires.none c.requires.events _ (c.push.ensures ∙ ap (λ (t : TrackedMember). (get_or c.args.sets.now c.open_place-place.result c.index-sets-place.result).members ++ t ∷ []) c.told_as-told.ensures ∙ ap (λ (x : OpenSet). with_pushed (told_as c.args.sets.now c.args.member c.args.events) x.members) (sym c.index-sets-place.is))) c.settle_after.ensures.settled

pub returns-clause-settled : goal.returns-clause-settled
returns-clause-settled c =
    let ranked = pushed_ranked c.args.sets.now c.args.id c.open_place-place.result c.index-sets-place.result c.args.member c.args.events c.open_place-place.ensures.place c.open_place-place.ensures.within c.index-sets-place.is c.requires.settled c.requires.none c.requires.events _ (c.push.ensures ∙ ap (λ (t : TrackedMember). (get_or c.args.sets.now c.open_place-place.result c.index-sets-place.result).members ++ t ∷ []) c.told_as-told.ensures ∙ ap (λ (x : OpenSet). with_pushed (told_as c.args.sets.now c.args.member c.args.events) x.members) (sym c.index-sets-place.is)) c.adding_keeps_chains_short.ensures in
    pushed_settled c.args.sets.now c.args.id c.open_place-place.result c.index-sets-place.result c.args.member c.args.events c.open_place-place.ensures.place c.open_place-place.ensures.within c.index-sets-place.is c.requires.settled c.requires.none c.requires.events _ (c.push.ensures ∙ ap (λ (t : TrackedMember). (get_or c.args.sets.now c.open_place-place.result c.index-sets-place.result).members ++ t ∷ []) c.told_as-told.ensures ∙ ap (λ (x : OpenSet). with_pushed (told_as c.args.sets.now c.args.member c.args.events) x.members) (sym c.index-sets-place.is)) c.settle_after.new.sets c.settle_after.ensures.settled (ranked.0, c.settle_after.ensures.ranked ranked.0 ranked.1)
