use Rattle.turnstile.specs.Passes.{view}
use Rattle.turnstile.specs.Closing.{Gathers}
use Rattle.std.proofs.Common.{sym, subst}
use Rattle.turnstile.specs.declared.view.View.{View}
use Rattle.turnstile.proofs.Gathering.{rest_last, first_is_whole, gathers_first, gathers_more}
use Rattle.turnstile.proofs.lock.Turnstile.join_all.Goals as goal

pub loop-other-init : goal.loop-other-init
loop-other-init g c = let ps = c.args.passes.items in let rest = c.pop.new.self.items in let whole = c.unwrap-whole.result in
    let last = rest_last _ _ _ ps rest c.pop.result whole c.pop.ensures.items c.unwrap-whole.ensures c.requires.rest in record {
      rest = last.1;
      whole = first_is_whole _ _ _ whole last.2.0 last.2.1;
      gathers = gathers_first ps rest whole whole.number last.0 last.2.0.2.number_is;
    }

pub join-requires-clause-other : goal.join-requires-clause-other
join-requires-clause-other g c = (rest_last _ _ _ c.loop-other.passes.items c.pop-in-loop-other.new.self.items c.pop-in-loop-other.result c.in-Some.other c.pop-in-loop-other.ensures.items c.in-Some.is c.loop-other.invariant.rest).2.0

pub join-requires-clause-rests : goal.join-requires-clause-rests
join-requires-clause-rests g c = (rest_last _ _ _ c.loop-other.passes.items c.pop-in-loop-other.new.self.items c.pop-in-loop-other.result c.in-Some.other c.pop-in-loop-other.ensures.items c.in-Some.is c.loop-other.invariant.rest).2.1

pub loop-other-preserved : goal.loop-other-preserved
loop-other-preserved g c = let ps = c.loop-other.passes.items in let rest = c.pop-in-loop-other.new.self.items in let other = c.in-Some.other in
    let last = rest_last _ _ _ ps rest c.pop-in-loop-other.result other c.pop-in-loop-other.ensures.items c.in-Some.is c.loop-other.invariant.rest in
    let more = gathers_more c.args.passes.items ps rest other (view c.loop-other.whole) other.number last.0 last.2.0.2.number_is c.loop-other.invariant.gathers in record {
      rest = last.1;
      whole = c.join.ensures.pass;
      gathers = subst (λ (v : View). Gathers c.args.passes.items rest v) (sym c.join.ensures.view) more;
    }
