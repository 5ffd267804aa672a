use Rattle.std.proofs.Common.{◌≡◌, ◌≤◌, ℕ, List, length, sym, ap, subst, arith}
use Rattle.std.proofs.lemmas.List.{with_items_is}
use Rattle.ns_bridge.specs.Waits.{IsKept}
use Rattle.ns_bridge.proofs.Blank.{blank_long}
use Rattle.ns_bridge.proofs.Telling.{opening_keeps}
use Rattle.ns_bridge.proofs.normal.NormalWorld.new.Goals as goal

pub invariant_of-result : goal.invariant_of-result
invariant_of-result c =
    let d = c.in_ok-driver.driver in
    let states = c.in_ok-states.states in
    let long : length c.new.new.mem ≡ 1048576 = omega (arith, c.new.auto.mem, ap length c.deref_mut.ensures.value, ap length c.in_ok-memory.ensures, blank_long) in
    let filled : length c.new.new.mem ≡ c.in_ok-memory.memory.len = omega (arith, c.new.auto.mem, c.deref_mut.ensures.len) in
    let few : c.len-count.result ≤ 4294967295 = omega arith in
    let kept = opening_keeps c.new.new.mem d.driver d.waits c.args.clients.now states c.args.queue c.len-count.result long c.in_ok-driver.ensures.driver c.in_ok-driver.ensures.waits
    c.in_ok-states.ensures c.len-count.ensures few in
    subst (λ (xs : List ℕ). IsKept xs d.driver d.waits states 0) (sym (with_items_is c.in_ok-memory.memory c.new.new.mem filled)) kept
