use Rattle.std.proofs.Common.{◌≡◌, drop}
use Rattle.std.specs.List.{fold, zip}
use Rattle.kernel_types.specs.Scripts.{with_register}
use Rattle.script_actor.proofs.registers.Registers.set_all.Given as goal

abbrev pub invariant-loop-at : goal.invariant-loop-at
invariant-loop-at l = fold with_register l.self (zip (drop l.at l.numbers) (drop l.at l.values)) ≡ fold with_register l.initial.self (zip l.numbers l.values)
