use Rattle.std.proofs.Common.{◌≡◌, ◌++◌, ◌-◌}
use Rattle.scene_lines.specs.Reading.{repeated}
use Rattle.scene_lines.proofs.repeats.push_repeated.Given as goal

abbrev pub invariant-loop : goal.invariant-loop
invariant-loop l = l.script ++ repeated (l.times - l.counter) l.body ≡ l.fn.script ++ repeated l.times l.body
