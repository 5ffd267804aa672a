use Rattle.std.proofs.Common.{◌≡◌, drop}
use Rattle.kernel_types.specs.Reach.{is_in}
use Rattle.object_store.specs.Keys.{serials}
use Rattle.port.proofs.port.is_listed.Given as goal

-- the keys passed do not have the number
abbrev pub invariant-loop-key : goal.invariant-loop-key
invariant-loop-key l = is_in (serials (drop l.key-index l.keys)) l.serial ≡ is_in (serials l.keys) l.serial
