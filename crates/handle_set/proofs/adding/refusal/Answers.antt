use Rattle.std.proofs.Common.{◌∙◌, sym, refl}
use Rattle.handle_set.proofs.Circles.{contains_is}
use Rattle.handle_set.proofs.adding.refusal.Goals as goal

pub returns-then-is_within : goal.returns-then-is_within
returns-then-is_within c =
    let circle = sym (contains_is c.args.sets.now c.args.id c.args.member.object.serial c.requires.once c.requires.ranked.0 c.requires.ranked.1) ∙ sym c.is_within.ensures ∙ c.if-is_within.true in
    rw circle refl

pub returns-then-has_labelled : goal.returns-then-has_labelled
returns-then-has_labelled c =
    let circle = sym (contains_is c.args.sets.now c.args.id c.args.member.object.serial c.requires.once c.requires.ranked.0 c.requires.ranked.1) ∙ sym c.is_within.ensures ∙ c.if-is_within.false in
    let label = sym c.has_labelled.ensures ∙ c.if-has_labelled.true in
    rw (circle, label) refl

pub returns-then-is_too_deep : goal.returns-then-is_too_deep
returns-then-is_too_deep c =
    let circle = sym (contains_is c.args.sets.now c.args.id c.args.member.object.serial c.requires.once c.requires.ranked.0 c.requires.ranked.1) ∙ sym c.is_within.ensures ∙ c.if-is_within.false in
    let label = sym c.has_labelled.ensures ∙ c.if-has_labelled.false in
    let deep = sym c.is_too_deep.ensures ∙ c.if-is_too_deep.true in
    rw (circle, label, deep) refl

pub returns-then-is_full : goal.returns-then-is_full
returns-then-is_full c =
    let circle = sym (contains_is c.args.sets.now c.args.id c.args.member.object.serial c.requires.once c.requires.ranked.0 c.requires.ranked.1) ∙ sym c.is_within.ensures ∙ c.if-is_within.false in
    let label = sym c.has_labelled.ensures ∙ c.if-has_labelled.false in
    let deep = sym c.is_too_deep.ensures ∙ c.if-is_too_deep.false in
    let full = sym c.is_full.ensures ∙ c.if-is_full.true in
    rw (circle, label, deep, full) refl

pub returns : goal.returns
returns c =
    let circle = sym (contains_is c.args.sets.now c.args.id c.args.member.object.serial c.requires.once c.requires.ranked.0 c.requires.ranked.1) ∙ sym c.is_within.ensures ∙ c.if-is_within.false in
    let label = sym c.has_labelled.ensures ∙ c.if-has_labelled.false in
    let deep = sym c.is_too_deep.ensures ∙ c.if-is_too_deep.false in
    let full = sym c.is_full.ensures ∙ c.if-is_full.false in
    rw (circle, label, deep, full) refl
