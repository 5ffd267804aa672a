use Rattle.std.proofs.Common.{◌≡◌, List, length, ℕ, Some, sym, ◌∙◌, ap, subst, arith}
use Rattle.std.proofs.lemmas.List.{with_items_is}
use Rattle.kernel_values.specs.declared.reply.Answer.{Answer}
use Rattle.kernel_values.specs.declared.world.ClientActivity.TheVariants as activity
use Rattle.kernel_values.specs.declared.world.ClientState.{ClientState}
use Rattle.kernel_types.specs.Limits.{FitsIn, full_room}
use Rattle.ns_driver.specs.Acts.{DriverOutcome}
use Rattle.ns_bridge.specs.Acts.{activity_at, client_resumed}
use Rattle.ns_bridge.specs.Parts.{Normal, parts}
use Rattle.ns_bridge.specs.Waits.{IsKept}
use Rattle.ns_bridge.proofs.Telling.{Ends, ended_fits, ended_keeps, ended_so, ends_so}
use Rattle.ns_bridge.proofs.normal.NormalWorld.resume.Goals as goal

pub invariant_of-self-2 : goal.invariant_of-self-2
invariant_of-self-2 c =
    let old = c.self.inside in
    let start = c.in-Some-Waiting.waiting in
    let wait = c.in-Some-Waiting.wait in
    let t : DriverOutcome = record { answer = c.in_ok-answer.answer; memory = c.act.new.mem; driver = c.act.new.self.driver } in
    let waits : activity_at old.clients c.args.client ≡ Some (activity.Waiting start wait) = cc in
    let e : Ends c.args.clock c.args.client start wait (parts old.memory.items old.driver.driver old.clients) t =
    ends_so c.args.clock c.args.client start wait old.memory.items c.deref.result.now c.deref_mut.result.now old.driver.driver old.driver.waits old.clients t c.wait_moves.result
    c.self.invariant.waits waits c.wait_moves.ensures c.if-not-wait_moves.false c.deref.ensures.value c.in_ok-answer.ensures.told c.deref_mut.ensures.value in
    let filled : length c.act.new.mem ≡ old.memory.len = omega (arith, c.act.auto.mem, c.deref_mut.ensures.len) in
    let long : length c.act.new.mem ≡ length old.memory.items = omega (arith, c.act.auto.mem, ap length c.deref_mut.ensures.value) in
    let kept = ended_keeps c.args.clock c.args.client start wait _ old.memory.items old.driver.driver old.driver.waits old.clients old.asked t c.act.new.self.waits
    c.self.invariant e long c.in_ok-answer.ensures.waits in
    subst (λ (xs : List ℕ). IsKept xs c.act.new.self.driver c.act.new.self.waits c.run_again.new.clients old.asked) (sym (with_items_is old.memory c.act.new.mem filled))
    (subst (λ (cs : List ClientState). IsKept c.act.new.mem c.act.new.self.driver c.act.new.self.waits cs old.asked) (sym c.run_again.ensures) kept)

pub returns-clause-done : goal.returns-clause-done
returns-clause-done c =
    let old = c.self.inside in
    let start = c.in-Some-Waiting.waiting in
    let wait = c.in-Some-Waiting.wait in
    let n : Normal = parts old.memory.items old.driver.driver old.clients in
    let t : DriverOutcome = record { answer = c.in_ok-answer.answer; memory = c.act.new.mem; driver = c.act.new.self.driver } in
    let waits : activity_at old.clients c.args.client ≡ Some (activity.Waiting start wait) = cc in
    let e : Ends c.args.clock c.args.client start wait n t =
    ends_so c.args.clock c.args.client start wait old.memory.items c.deref.result.now c.deref_mut.result.now old.driver.driver old.driver.waits old.clients t c.wait_moves.result
    c.self.invariant.waits waits c.wait_moves.ensures c.if-not-wait_moves.false c.deref.ensures.value c.in_ok-answer.ensures.told c.deref_mut.ensures.value in
    let filled : length c.act.new.mem ≡ old.memory.len = omega (arith, c.act.auto.mem, c.deref_mut.ensures.len) in
    ended_so c.args.clock c.args.client start c.args.start wait n t _ _ _ e c.if-waiting-start.false c.ended_answer.ensures (with_items_is old.memory c.act.new.mem filled) c.run_again.ensures
    ∙ ap (λ (m : Normal). client_resumed c.args.clock c.args.client c.args.start m) c.self.view_is

pub returns-clause-fits : goal.returns-clause-fits
returns-clause-fits c =
    let old = c.self.inside in
    let start = c.in-Some-Waiting.waiting in
    let wait = c.in-Some-Waiting.wait in
    let n : Normal = parts old.memory.items old.driver.driver old.clients in
    let t : DriverOutcome = record { answer = c.in_ok-answer.answer; memory = c.act.new.mem; driver = c.act.new.self.driver } in
    let waits : activity_at old.clients c.args.client ≡ Some (activity.Waiting start wait) = cc in
    let e : Ends c.args.clock c.args.client start wait n t =
    ends_so c.args.clock c.args.client start wait old.memory.items c.deref.result.now c.deref_mut.result.now old.driver.driver old.driver.waits old.clients t c.wait_moves.result
    c.self.invariant.waits waits c.wait_moves.ensures c.if-not-wait_moves.false c.deref.ensures.value c.in_ok-answer.ensures.told c.deref_mut.ensures.value in
    subst (λ (x : Answer). FitsIn full_room x) (sym c.ended_answer.ensures) (ended_fits c.args.clock c.args.client start wait n t e c.self.invariant.inboxes).fits
