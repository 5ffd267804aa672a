use Rattle.handle_set.proofs.Holding.{kept_held, registered, registered_held}
use Rattle.handle_set.proofs.adding.add_in.Goals as goal

pub push_in-requires-clause-held : goal.push_in-requires-clause-held
push_in-requires-clause-held c = registered_held c.args.holders.now c.register.new.holders c.args.member.object.serial c.args.id c.in_ok-register.ensures.added c.args.sets.now c.requires.held

pub push_in-requires-clause-holder : goal.push_in-requires-clause-holder
push_in-requires-clause-holder c = registered c.args.holders.now c.register.new.holders c.args.member.object.serial c.args.id c.in_ok-register.ensures.added

pub returns-in_err-register-clause-held : goal.returns-in_err-register-clause-held
returns-in_err-register-clause-held c = kept_held c.args.holders.now c.register.new.holders c.in_err-register.ensures.same c.args.sets.now c.requires.held
