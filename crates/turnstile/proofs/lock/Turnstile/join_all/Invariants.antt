use Rattle.std.proofs.Common.{vec_len}
use Rattle.turnstile.specs.Names.{AllRest, IsWholeOf}
use Rattle.turnstile.specs.Passes.{view}
use Rattle.turnstile.specs.Closing.{Gathers}
use Rattle.turnstile.proofs.lock.Turnstile.join_all.Given as goal

abbrev pub invariant-loop-other : goal.invariant-loop-other
invariant-loop-other g l = record {
  rest : AllRest g.V.Recorded.origin l.self l.passes.items;
  whole : IsWholeOf g.V.Recorded.origin l.self l.whole;
  gathers : Gathers l.fn.passes.items l.passes.items (view l.whole);
}

abbrev pub decreases-loop-other : goal.decreases-loop-other
decreases-loop-other g l = vec_len l.passes
