use Rattle.std.proofs.Common.{◌≡◌, drop}
use Rattle.std.specs.List.{fold}
use Rattle.kernel_types.specs.Scripts.{read_register}
use Rattle.script_actor.proofs.numbers.call_of.Given as goal

abbrev pub invariant-loop-read : goal.invariant-loop-read
invariant-loop-read l = fold (read_register l.registers) l.call (drop l.read-index l.read-items) ≡ fold (read_register l.registers) l.initial.call l.read-items
