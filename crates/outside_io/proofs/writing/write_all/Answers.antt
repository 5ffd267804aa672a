use Rattle.std.proofs.Common.{arith, ◌∙◌}
use Rattle.std.proofs.lemmas.Grind.{common_steps}
use Rattle.outside_io.proofs.Known.{wrote_more}
use Rattle.outside_io.proofs.writing.write_all.Goals as goal

pub loop-place-preserved : goal.loop-place-preserved
loop-place-preserved g c = record {
  within = grind (arith, common_steps, c.in_ok-place.ensures.some, c.loop-place.invariant.within);
  appended = wrote_more _ _ _ c.args.bytes.now c.loop-place.place c.in_ok-place.field-0 c.loop-place.invariant.appended (rw c.split_at.ensures.back at c.in_ok-place.ensures.appended);
  same = c.in_ok-place.ensures.cause.kept ∙ c.loop-place.invariant.same;
  turns = grind (arith, c.in_ok-place.ensures.some, c.in_ok-place.ensures.counted, c.loop-place.invariant.turns);
}
