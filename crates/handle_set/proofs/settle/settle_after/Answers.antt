use Rattle.std.proofs.Common.{◌≡◌, ◌∙◌, Bool, true, false, sym, refl, arith, subst}
use mathlib.Core.Bool.{beq}
use Rattle.handle_set.specs.Sets.{ready_events}
use Rattle.handle_set.specs.Spreading.{IsSpread, everyone}
use Rattle.handle_set.proofs.Places.{get_some}
use Rattle.handle_set.proofs.Levels.{same_ranked}
use Rattle.handle_set.proofs.Spreading.{same_held}
use Rattle.handle_set.proofs.Telling.{spread_after}
use Rattle.handle_set.proofs.settle.settle_after.Goals as goal

equal : (a b : Bool) → beq a b ≡ true → a ≡ b
equal true true is = refl
equal false false is = refl
equal true false is = absurd (cc)
equal false true is = absurd (cc)

pub returns-then-ready-was-clause-settled : goal.returns-then-ready-was-clause-settled
returns-then-ready-was-clause-settled c =
    let found = get_some c.args.sets.now c.args.place c.requires.within in
    let ready = rw found.1 at c.is_ready_at-ready.ensures in
    let others = rw found.1 at c.requires.others in
    record { shape = refl; leaves = λ events follow. follow; exact = others (sym ready ∙ equal _ _ c.if-ready-was.true) }

pub spread-requires-clause-reach : goal.spread-requires-clause-reach
spread-requires-clause-reach c = (c.requires.ranked.0, c.requires.ranked.1, omega arith)

pub returns-clause-settled : goal.returns-clause-settled
returns-clause-settled c =
    let found = get_some c.args.sets.now c.args.place c.requires.within in
    let ready = rw found.1 at c.is_ready_at-ready.ensures in
    let id = rw found.1 at c.id_at-id.ensures in
    let rest = rw found.1 at c.requires.rest in
    let one = subst (λ n. IsSpread everyone n c.ready_events.result c.args.sets.now c.spread.new.sets) id c.spread.ensures in
    let two = subst (λ e. IsSpread everyone found.0.id e c.args.sets.now c.spread.new.sets) c.ready_events.ensures one in
    let three = subst (λ b. IsSpread everyone found.0.id (ready_events b) c.args.sets.now c.spread.new.sets) ready two in
    spread_after c.args.sets.now c.spread.new.sets c.args.place found.0 found.1 c.requires.once rest three

pub returns-clause-ranked : goal.returns-clause-ranked
returns-clause-ranked c = λ rank ranked. same_ranked rank c.spread.new.sets c.args.sets.now c.spread.ensures.shape ranked

pub returns-then-ready-was-clause-held : goal.returns-then-ready-was-clause-held
returns-then-ready-was-clause-held c = c.requires.held

pub returns-clause-held : goal.returns-clause-held
returns-clause-held c = same_held c.args.holders.now c.spread.new.sets c.args.sets.now c.spread.ensures.shape c.requires.held
