use Rattle.std.proofs.Common.{Option, ◌∙◌, ap}
use Rattle.kernel_values.specs.declared.world.ClientWaitOn.{ClientWaitOn}
use Rattle.ns_driver.specs.Acts.{DriverOutcome}
use Rattle.ns_driver.specs.Value.{wait_of}
use Rattle.ns_driver.specs.Worlds.{clients_with}
use Rattle.ns_bridge.proofs.Telling.{asking_is}
use Rattle.ns_bridge.proofs.normal.ask_driver.Goals as goal

pub returns-clause-done : goal.returns-clause-done
returns-clause-done c =
    let t : DriverOutcome = record { answer = c.in_ok-answer.answer; memory = c.act.new.mem; driver = c.act.new.self.driver } in
    asking_is c.args.clock c.args.client c.args.call.now c.in_ok-copy.copy c.in_ok-deadline.deadline c.args.memory.now c.args.driver.now.driver c.args.clients.now
    c.begin_to_wait.new.clients c.args.driver.now.waits c.act.new.self.waits (wait_of c.args.driver.now.waits c.args.client) t
    c.in_ok-copy.ensures c.in_ok-deadline.ensures c.requires.client c.in_ok-answer.ensures.told c.in_ok-answer.ensures.waits
    (c.begin_to_wait.ensures ∙ ap (λ (o : Option ClientWaitOn). clients_with c.args.client c.in_ok-deadline.deadline o c.args.clients.now) c.wait_of.ensures)
