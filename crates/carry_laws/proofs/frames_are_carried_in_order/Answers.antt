use Rattle.carry_laws.proofs.Histories.{carried}
use Rattle.carry_laws.proofs.frames_are_carried_in_order.Goals as goal

pub returns : goal.returns
returns c = λ scene entries lawful honest legal follows. carried scene entries lawful.queue honest legal follows
