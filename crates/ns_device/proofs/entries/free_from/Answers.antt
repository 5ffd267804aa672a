use Rattle.std.proofs.Common.{rules, ◌≡◌, ◌+◌, false, sym, ◌∙◌}
use Rattle.ns_device.specs.Entries.{is_free}
use Rattle.ns_device.proofs.Numbers.{number_passed}
use Rattle.ns_device.proofs.entries.free_from.Goals as goal

pub loop-secure-preserved : goal.loop-secure-preserved
loop-secure-preserved c =
    let taken : is_free c.args.entries.now c.loop-secure.secure ≡ false = search rules in
    sym (number_passed (is_free c.args.entries.now) c.loop-secure.secure (c.args.first + c.args.count) c.loop-secure-test.true taken) ∙ c.loop-secure.invariant
