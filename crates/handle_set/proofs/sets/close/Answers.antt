use Rattle.std.proofs.Common.{◌≡◌, ◌∙◌, ◌<◌, ◌≤◌, ℕ, List, length, sym, ap, subst, arith, map}
use Rattle.std.specs.List.{position_or_len, remove, filter}
use Rattle.handle_set.specs.declared.settle.OpenSet.{OpenSet}
use Rattle.handle_set.specs.Sets.{AreOnce, has_id, id_of, is_other_set}
use Rattle.handle_set.proofs.Opening.{all_others, one_left_out}
use Rattle.handle_set.proofs.sets.close.Goals as goal

taken : (sets : List OpenSet) (id place : ℕ) → AreOnce (map id_of sets) → place ≡ position_or_len (has_id id) sets → place < length sets → remove sets place ≡ filter (is_other_set id) sets
taken sets id place once is within = ap (remove sets) is ∙ one_left_out id sets once (subst (λ n. n < length sets) is within)

left : (sets : List OpenSet) (id place : ℕ) → place ≡ position_or_len (has_id id) sets → length sets ≤ place → sets ≡ filter (is_other_set id) sets
left sets id place is past = sym (all_others id sets (subst (λ n. length sets ≤ n) is past))

pub returns-then-place-len-clause-sets : goal.returns-then-place-len-clause-sets
returns-then-place-len-clause-sets c =
    let at = c.place_of-place.ensures ∙ ap (position_or_len (has_id c.args.id)) c.deref.ensures.value in
    c.remove.ensures.items ∙ taken c.args.sets.now.items c.args.id c.place_of-place.result c.requires at (omega (arith, c.len.ensures, c.if-place-len.true))

pub returns-then-place-len-clause-len : goal.returns-then-place-len-clause-len
returns-then-place-len-clause-len c = omega (arith, c.remove.ensures.len)

pub returns-else-place-len-clause-sets : goal.returns-else-place-len-clause-sets
returns-else-place-len-clause-sets c =
    let at = c.place_of-place.ensures ∙ ap (position_or_len (has_id c.args.id)) c.deref.ensures.value in
    left c.args.sets.now.items c.args.id c.place_of-place.result at (omega (arith, c.len.ensures, c.if-place-len.false))
