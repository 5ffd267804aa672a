use Rattle.std.proofs.Common.{drop, sym, subst}
use Rattle.handle_set.specs.Holders.{IsHeld}
use Rattle.handle_set.proofs.Changing.{dropping_fewer}
use Rattle.handle_set.proofs.Holding.{changed_held}
use Rattle.handle_set.proofs.changes.clear_in.Goals as goal

pub let_go-requires-clause-held : goal.let_go-requires-clause-held
let_go-requires-clause-held c = subst (IsHeld c.args.holders.now) (sym c.drop_first_in.ensures.members) (changed_held c.args.holders.now (drop 1) dropping_fewer c.args.sets.now c.args.id c.requires.held)
