use Rattle.std.specs.Prelude.{bytes_eq}
use Rattle.std.proofs.Common.{◌≡◌, ◌∙◌}
use Rattle.script_lines.specs.Registers.{place_of}
use Rattle.script_lines.proofs.Cutting.{found_place, absent_place}
use Rattle.script_lines.proofs.registers.place_of.Goals as goal

pub returns-in-Some : goal.returns-in-Some
unfolding place_of
returns-in-Some c = found_place (λ other. bytes_eq other c.args.name.now) c.args.names.now c.in-Some.place c.in-Some.ensures

pub returns-in-None : goal.returns-in-None
unfolding place_of
returns-in-None c = c.len.ensures ∙ absent_place (λ other. bytes_eq other c.args.name.now) c.args.names.now c.in-None.ensures
