use Rattle.std.proofs.Common.{◌≤◌, ◌+◌, length, take, slice_index_or, sym, ap, subst, arith}
use Rattle.std.specs.List.{list_any}
use Rattle.handle_set.specs.Holders.{holders_in}
use Rattle.handle_set.specs.Sets.{AreOnce, is_number}
use Rattle.handle_set.specs.Spreading.{IsSpread, is_one}
use Rattle.handle_set.proofs.Levels.{same_ids, same_ranked}
use Rattle.handle_set.proofs.Spreading.{all_at, more_at, same_held, spread_all, spread_on, spread_past, to_none, to_quiet, to_reach, to_shape, to_turned}
use Rattle.handle_set.proofs.settle.+spread.Goals as goal

pub spread-spread_to-requires : goal.spread-spread_to-requires
spread-spread_to-requires n c =
    let same = c.loop-id.invariant.shape in (
      omega arith,
      (
        subst AreOnce (sym (same_ids c.loop-id.sets c.args.sets.now same)) c.requires.once,
        (
          same_held c.args.holders.now c.loop-id.sets c.args.sets.now same c.requires.held,
          (c.requires.reach.0, same_ranked c.requires.reach.0 c.loop-id.sets c.args.sets.now same c.requires.reach.1, c.requires.reach.2),
        ),
      ),
    )

pub spread-loop-id-preserved : goal.spread-loop-id-preserved
spread-loop-id-preserved n c =
    let ids = holders_in c.args.holders.now c.args.object in
    let item = ap (λ xs. slice_index_or xs c.loop-id.id-index 0) c.holders_of-ids.ensures in
    let next = subst (λ m. IsSpread (is_one m) c.args.object c.args.events c.loop-id.sets c.spread_to.new.sets) item c.spread_to.ensures in
    spread_on (λ m. list_any (is_number m) (take c.loop-id.id-index ids)) (is_one (slice_index_or ids c.loop-id.id-index 0)) (λ m. list_any (is_number m) (take (c.loop-id.id-index + 1) ids)) c.args.object c.args.events c.args.sets.now c.loop-id.sets c.spread_to.new.sets
    (c.requires.reach.0, c.requires.reach.1) (λ m some. more_at ids c.loop-id.id-index m some) c.loop-id.invariant next

pub spread-returns : goal.spread-returns
spread-returns n c =
    let ids = holders_in c.args.holders.now c.args.object in
    let long = ap length c.holders_of-ids.ensures in
    let past : length (holders_in c.args.holders.now c.args.object) ≤ c.loop-id.id-index = omega (arith, long, c.loop-id-test.false) in
    spread_all (λ m. list_any (is_number m) (take c.loop-id.id-index ids)) c.args.holders.now c.args.object c.args.events c.args.sets.now c.loop-id.sets c.requires.held (λ m is. all_at ids c.loop-id.id-index m past is) c.loop-id.invariant

pub spread_to-returns-then-sets-place : goal.spread_to-returns-then-sets-place
spread_to-returns-then-sets-place n c = spread_past c.args.object c.args.events c.args.sets.now c.args.id c.find_place-place.result c.find_place-place.ensures c.if-sets-place.true

pub spread_to-returns-then-not-tell_at : goal.spread_to-returns-then-not-tell_at
spread_to-returns-then-not-tell_at n c = to_quiet c.args.object c.args.events c.args.sets.now c.args.id c.find_place-place.result c.find_place-place.ensures c.if-sets-place.false c.requires.once c.tell_at.new.sets c.tell_at.ensures.told c.tell_at.result c.tell_at.ensures.turned c.if-not-tell_at.true

pub spread_to-returns-then-steps-eq0 : goal.spread_to-returns-then-steps-eq0
spread_to-returns-then-steps-eq0 n c = absurd (to_none c.args.object c.args.events c.args.sets.now c.args.id c.find_place-place.result c.find_place-place.ensures c.if-sets-place.false c.requires.once c.tell_at.new.sets c.tell_at.ensures.told c.tell_at.result c.tell_at.ensures.turned c.if-not-tell_at.false c.args.steps c.if-steps-eq0.true c.requires.reach)

pub spread_to-spread-requires : goal.spread_to-spread-requires
spread_to-spread-requires n c =
    let same = to_shape c.args.object c.args.events c.args.sets.now c.args.id c.find_place-place.result c.find_place-place.ensures c.if-sets-place.false c.requires.once c.tell_at.new.sets c.tell_at.ensures.told c.tell_at.result c.tell_at.ensures.turned in (
      omega (arith, c.if-steps-eq0.false),
      (
        subst AreOnce (sym (same_ids c.tell_at.new.sets c.args.sets.now same)) c.requires.once,
        (
          same_held c.args.holders.now c.tell_at.new.sets c.args.sets.now same c.requires.held,
          to_reach c.args.object c.args.events c.args.sets.now c.args.id c.find_place-place.result c.find_place-place.ensures c.if-sets-place.false c.requires.once c.tell_at.new.sets c.tell_at.ensures.told c.tell_at.result c.tell_at.ensures.turned c.if-not-tell_at.false c.args.steps c.if-steps-eq0.false c.requires.reach,
        ),
      ),
    )

pub spread_to-returns : goal.spread_to-returns
spread_to-returns n c = to_turned c.args.object c.args.events c.args.sets.now c.args.id c.find_place-place.result c.find_place-place.ensures c.if-sets-place.false c.requires.once c.tell_at.new.sets c.tell_at.ensures.told c.tell_at.result c.tell_at.ensures.turned c.if-not-tell_at.false c.is_ready_at-ready.result c.is_ready_at-ready.ensures c.ready_events.result c.ready_events.ensures c.spread.new.sets c.spread.ensures
