use Rattle.std.proofs.Common.{refl}
use Rattle.kernel_log.proofs.Histories.{sound_more}
use Rattle.kernel_log.proofs.logged.Logged.step.Goals as goal

pub invariant_of-self : goal.invariant_of-self
invariant_of-self g c =
    sound_more _ _ c.args.event c.in-Ok-step.entry _ _ _ _ c.self.invariant c.in-Ok-step.ensures.done refl c.push.ensures.entries
    (rw (c.push.ensures.facts, c.end_facts-facts.ensures) refl)
