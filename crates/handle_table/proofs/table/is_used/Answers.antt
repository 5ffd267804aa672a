use Rattle.std.proofs.Common.{◌≡◌, ◌==◌, false, nat_lt, sym, ◌∙◌, arith}
use Rattle.std.proofs.lemmas.Bool.Decides.{nat_tests}
use Rattle.std.specs.Int.{bit_at}
use Rattle.std.proofs.lemmas.Nat.Bits.{bit_at_above}
use Rattle.handle_table.proofs.table.is_used.Goals as goal

pub returns-else-handle-lt64-clause-set : goal.returns-else-handle-lt64-clause-set
returns-else-handle-lt64-clause-set c =
    let above = bit_at_above c.args.used 64 c.args.handle c.ranges.used.fits c.if-handle-lt64.false in
    let unset : (bit_at c.args.used c.args.handle == 1) ≡ false = grind (arith, nat_tests) in
    let far : nat_lt c.args.handle 64 ≡ false = grind (arith, nat_tests) in
    far ∙ sym unset
