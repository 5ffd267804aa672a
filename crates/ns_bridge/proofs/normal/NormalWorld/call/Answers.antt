use Rattle.std.proofs.Common.{◌≡◌, ℕ, true, List, length, Some, sym, ◌∙◌, ap, subst, arith, rules}
use Rattle.std.proofs.lemmas.List.{with_items_is}
use Rattle.kernel_values.specs.declared.world.ClientActivity.TheVariants as activity
use Rattle.kernel_values.specs.declared.world.ClientState.{ClientState}
use Rattle.kernel_values.specs.Calls.{is_client_call}
use Rattle.ns_bridge.specs.Acts.{Answered, activity_at, asked_of_driver}
use Rattle.ns_bridge.specs.Parts.{parts}
use Rattle.ns_bridge.specs.Waits.{IsKept}
use Rattle.ns_bridge.proofs.Telling.{asking_fits, asking_keeps, ending_keeps}
use Rattle.ns_bridge.proofs.normal.NormalWorld.call.Goals as goal

pub invariant_of-self-in-Driver : goal.invariant_of-self-in-Driver
invariant_of-self-in-Driver c =
    let old = c.self.inside in
    let new = c.ask_driver.new in
    let runs : activity_at old.clients c.args.client ≡ Some (activity.Running c.in-Some-Running.running) = cc in
    let made : is_client_call c.args.call.now ≡ true = search rules in
    let filled : length new.memory ≡ old.memory.len = omega (arith, c.ask_driver.auto.memory, c.deref_mut.ensures.len) in
    let long : length new.memory ≡ length old.memory.items = omega (arith, c.ask_driver.auto.memory, ap length c.deref_mut.ensures.value) in
    let done : Some (record { answer = c.in_ok-answer-in-Driver.answer; normal = parts new.memory new.driver.driver new.clients })
    ≡ asked_of_driver c.args.clock c.args.client c.args.call.now (parts old.memory.items old.driver.driver old.clients) =
    c.in_ok-answer-in-Driver.ensures.done ∙ ap (λ (xs : List ℕ). asked_of_driver c.args.clock c.args.client c.args.call.now (parts xs old.driver.driver old.clients)) c.deref_mut.ensures.value in
    let kept = asking_keeps c.args.clock c.args.client c.in-Some-Running.running c.args.call.now _ _ _ _ _ _ _ _ _ _ _ _ c.self.invariant runs made long done
    c.in_ok-answer-in-Driver.ensures.clients c.in_ok-answer-in-Driver.ensures.waits in
    subst (λ (xs : List ℕ). IsKept xs new.driver.driver new.driver.waits new.clients c.asked_after-self-inside.result) (sym (with_items_is old.memory new.memory filled))
    (subst (λ (k : ℕ). IsKept new.memory new.driver.driver new.driver.waits new.clients k) (sym c.asked_after-self-inside.ensures) kept)

pub returns-in_ok-answer-in-Driver-clause-fits : goal.returns-in_ok-answer-in-Driver-clause-fits
returns-in_ok-answer-in-Driver-clause-fits c =
    let old = c.self.inside in
    let new = c.ask_driver.new in
    let runs : activity_at old.clients c.args.client ≡ Some (activity.Running c.in-Some-Running.running) = cc in
    let made : is_client_call c.args.call.now ≡ true = search rules in
    let a : Answered = record { answer = c.in_ok-answer-in-Driver.answer; normal = parts new.memory new.driver.driver new.clients } in
    let done : Some a ≡ asked_of_driver c.args.clock c.args.client c.args.call.now (parts old.memory.items old.driver.driver old.clients) =
    c.in_ok-answer-in-Driver.ensures.done ∙ ap (λ (xs : List ℕ). asked_of_driver c.args.clock c.args.client c.args.call.now (parts xs old.driver.driver old.clients)) c.deref_mut.ensures.value in
    (asking_fits c.args.clock c.args.client c.in-Some-Running.running c.args.call.now (parts old.memory.items old.driver.driver old.clients) a runs made c.self.invariant.inboxes (sym done)).fits

pub invariant_of-self : goal.invariant_of-self
invariant_of-self c =
    let old = c.self.inside in
    subst (λ (cs : List ClientState). IsKept old.memory.items old.driver.driver old.driver.waits cs old.asked) (sym c.end.ensures)
    (ending_keeps c.args.client old.memory.items old.driver.driver old.driver.waits old.clients old.asked c.self.invariant)
