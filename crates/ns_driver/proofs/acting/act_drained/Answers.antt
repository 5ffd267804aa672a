-- proofs/acting/act_drained/Answers.antt
use Rattle.std.proofs.Common.{rules}
use Rattle.ns_driver.proofs.Carrying.{act_told, may_follow_drained, sound_after}
use Rattle.ns_driver.proofs.acting.act_drained.Goals as goal

pub plan-requires : goal.plan-requires
plan-requires c = may_follow_drained c.args.mem.now c.args.driver.now _ _ _ c.in_ok-found.ensures.driver c.requires.lawful

pub returns-clause-told : goal.returns-clause-told
returns-clause-told c =
    act_told c.args.mem.now _ c.args.driver.now c.in_ok-found.found.driver _ _ _ _ _ _ c.requires.lawful c.in_ok-found.ensures.driver c.in_ok-planned.ensures.done (search rules)

pub returns-clause-sound : goal.returns-clause-sound
returns-clause-sound c = sound_after _ _ _ c.in_ok-found.found.driver _ _ _ c.in_ok-found.ensures.sound c.in_ok-planned.ensures.done
