use Rattle.std.proofs.Common.{arith}
use Rattle.handle_set.proofs.Spreading.{same_held}
use Rattle.handle_set.proofs.Telling.{spread_told, told_settled}
use Rattle.handle_set.proofs.changes.tell_in.Goals as goal

pub spread-requires-clause-reach : goal.spread-requires-clause-reach
spread-requires-clause-reach c = (c.requires.settled.ranked.0, c.requires.settled.ranked.1, omega arith)

pub returns-clause-told : goal.returns-clause-told
returns-clause-told c = spread_told c.args.object c.args.events c.args.sets.now c.spread.new.sets c.requires.settled c.requires.events c.spread.ensures

pub returns-clause-settled : goal.returns-clause-settled
returns-clause-settled c = told_settled c.args.object c.args.events c.args.sets.now c.spread.new.sets c.requires.settled (spread_told c.args.object c.args.events c.args.sets.now c.spread.new.sets c.requires.settled c.requires.events c.spread.ensures)

pub returns-clause-held : goal.returns-clause-held
returns-clause-held c = same_held c.args.holders.now c.spread.new.sets c.args.sets.now c.spread.ensures.shape c.requires.held
