-- What is seen from one depth is seen one less deep.
use Rattle.std.proofs.Common.{◌≡◌, ℕ, zero, suc, ◌+◌, ◌-◌, ◌<◌, List, map, refl, arith}
use Rattle.kernel_values.specs.declared.state.Object.{Object}
use Rattle.kernel_types.specs.Objects.{object_of, set_of}
use Rattle.kernel_types.specs.Sets.{depth_below, depth_above, greatest, holders_of, members_of, one_more_if_set}
use Rattle.kernel_types.specs.Events.{events_within, object_events}

pub events_above : (depth : ℕ) (objects : List Object) (id : ℕ) → 0 < depth → events_within depth objects id ≡ object_events (events_within (depth - 1) objects) (object_of objects id)
events_above zero objects id h = absurd (omega arith)
events_above (suc depth) objects id h = let e : suc depth - 1 ≡ depth = omega arith in rw e refl

pub depth_below_less : (limit : ℕ) (objects : List Object) (id : ℕ) → 0 < limit
    → depth_below limit objects id ≡ one_more_if_set (set_of objects id) (greatest (map (depth_below (limit - 1) objects) (members_of (set_of objects id))))
depth_below_less zero objects id h = absurd (omega arith)
depth_below_less (suc limit) objects id h = let e : suc limit - 1 ≡ limit = omega arith in rw e refl

pub depth_above_less : (limit : ℕ) (objects : List Object) (id : ℕ) → 0 < limit
    → depth_above limit objects id ≡ greatest (map (depth_above (limit - 1) objects) (holders_of objects id)) + 1
depth_above_less zero objects id h = absurd (omega arith)
depth_above_less (suc limit) objects id h = let e : suc limit - 1 ≡ limit = omega arith in rw e refl
