-- Digits that are no 64-bit number are past the bound.
use Rattle.std.proofs.Common.{◌≡◌, true, sym, rules, tests}
use Rattle.command_line.specs.Numbers.{is_number}
use Rattle.command_line.proofs.Numerals.{past_bound}
use Rattle.command_line.proofs.numbers.number_within.Goals as goal

pub returns-in_default-clause-exact : goal.returns-in_default-clause-exact
returns-in_default-clause-exact c =
    let digits : is_number c.args.digits c.args.word.now ≡ true = first_of (cc, search (rules, tests)) in
    sym (past_bound c.args.digits c.args.least c.args.most c.args.word.now c.in_default.field-0 digits c.ranges.most.fits c.in_default.ensures.value.0)
