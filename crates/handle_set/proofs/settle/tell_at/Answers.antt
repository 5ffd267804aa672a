use Rattle.std.proofs.Common.{◌∙◌, not, set, get_or, sym, ap}
use mathlib.Core.Bool.{beq}
use Rattle.handle_set.specs.declared.settle.OpenSet.{OpenSet}
use Rattle.handle_set.specs.Sets.{has_ready, set_told, with_members}
use Rattle.handle_set.proofs.Places.{got, get_set, map_at_is}
use Rattle.handle_set.proofs.settle.tell_at.Goals as goal

pub returns-clause-told : goal.returns-clause-told
returns-clause-told c =
    let cur = c.args.sets.now in
    let place = c.args.place in
    let s = c.index-sets-place.result in
    let here = got cur place s c.requires c.index-sets-place.is in
    ap (λ ms. set cur place (with_members ms (get_or cur place s))) c.tell.ensures
    ∙ ap (λ (x : OpenSet). set cur place (set_told c.args.object c.args.events x)) (sym c.index-sets-place.is)
    ∙ sym (map_at_is (set_told c.args.object c.args.events) cur place s here)

pub returns-clause-turned : goal.returns-clause-turned
returns-clause-turned c =
    let cur = c.args.sets.now in
    let place = c.args.place in
    let s = c.index-sets-place.result in
    let f = set_told c.args.object c.args.events in
    let here = got cur place s c.requires c.index-sets-place.is in
    let written = ap (λ ms. set cur place (with_members ms (get_or cur place s))) c.tell.ensures
    ∙ ap (λ (x : OpenSet). set cur place (set_told c.args.object c.args.events x)) (sym c.index-sets-place.is) in
    let was = rw here at c.is_ready_at-was.ensures in
    let now = rw (written, get_set cur place (f s) s here) at c.is_ready_at.ensures in
    rw here (ap (λ a. not (beq a c.is_ready_at-was.result)) now ∙ ap (λ b. not (beq (has_ready (f s)) b)) was)
