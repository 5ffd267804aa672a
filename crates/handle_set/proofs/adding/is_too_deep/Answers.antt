use Rattle.std.proofs.Common.{◌≡◌, ◌∙◌, ◌+◌, ℕ, List, sym, ap}
use Rattle.std.specs.Prelude.{nat_lt}
use Rattle.kernel_values.specs.declared.state.Object.{Object}
use Rattle.kernel_types.specs.Events.{chain_limit}
use Rattle.kernel_types.specs.Sets.{chain_through, depth_above, depth_below}
use Rattle.handle_set.specs.Chains.{objects_of}
use Rattle.handle_set.proofs.Changing.{past}
use Rattle.handle_set.proofs.Depths.{not_deep}
use Rattle.handle_set.proofs.adding.is_too_deep.Goals as goal

measured : (objects : List Object) (set object above below : ℕ) → above ≡ depth_above 8 objects set → below ≡ depth_below 8 objects object → nat_lt 8 (above + below) ≡ nat_lt chain_limit (chain_through objects set object)
unfolding chain_limit chain_through
measured objects set object above below a b = ap (λ n. nat_lt 8 (n + below)) a ∙ ap (λ n. nat_lt 8 (depth_above 8 objects set + n)) b

pub returns-then-sets-place_of : goal.returns-then-sets-place_of
returns-then-sets-place_of c = sym (not_deep c.args.sets.now c.args.id c.args.object (past (λ ms. ms) c.args.sets.now c.args.object c.place_of.result c.place_of.ensures c.if-sets-place_of.true))

pub returns : goal.returns
returns c = measured (objects_of c.args.sets.now) c.args.id c.args.object c.depth_above.result c.depth_below.result c.depth_above.ensures.value c.depth_below.ensures.value
