use Rattle.std.proofs.Common.{arith}
use Rattle.scene_reader.proofs.Telling.{read_in_order}
use Rattle.scene_reader.proofs.Stepping.{goes_on, stops, is_over}
use Rattle.scene_reader.proofs.scene.read_scene.Goals as goal

pub loop-rest-init : goal.loop-rest-init
loop-rest-init c = record {
  goes_on = rw c.opening-reading.ensures.value (read_in_order c.args.bytes.now);
  counted = omega arith;
  lawful = c.opening-reading.ensures.lawful;
}

pub returns-in-Err-Fault : goal.returns-in-Err-Fault
returns-in-Err-Fault c =
    let step = rw c.in-Err-Fault.field-0-is at c.in-Err-Fault.ensures.exact in
    rw (stops _ c.loop-rest.rest.now c.first_line.result.0.now c.first_line.result.1.now c.loop-rest.reading c.loop-rest.at c.in-Err-Fault.kind c.first_line.ensures.lines step c.loop-rest.invariant.goes_on)
    (rw c.open_line-opened.ensures at c.refusal.ensures)

pub loop-rest-preserved : goal.loop-rest-preserved
loop-rest-preserved c = record {
  goes_on = goes_on _ c.loop-rest.rest.now c.first_line.result.0.now c.first_line.result.1.now c.loop-rest.reading c.in-Ok.next c.loop-rest.at c.first_line.ensures.lines c.in-Ok.ensures.exact c.loop-rest.invariant.goes_on;
  counted = omega (arith, c.loop-rest.invariant.counted, c.first_line.ensures.shorter);
  lawful = c.in-Ok.ensures.kept c.loop-rest.invariant.lawful;
}

pub returns : goal.returns
returns c = rw (is_over _ c.loop-rest.rest.now c.loop-rest.reading c.loop-rest.at (omega arith) c.loop-rest.invariant.goes_on) c.ended.ensures
