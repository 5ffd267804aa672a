use Rattle.std.proofs.Common.{rules, ◌≤◌, ◌+◌, length, take, get_or, arith, sum_by, ap}
use Rattle.std.proofs.lemmas.List.Sums.{sum_by_more_le}
use Rattle.plain_objects.specs.Predicates.{names_on}
use Rattle.plain_kernel.proofs.Summing.{sum_fits}
use Rattle.plain_kernel.proofs.facts.sum_names.Goals as goal

pub overflow_add-sum : goal.overflow_add-sum
overflow_add-sum c =
    let names = c.args.names.now in
    let all : sum_by (names_on names) c.args.objects.now ≤ length names = sum_fits 0 c.args.next c.args.objects.now names c.requires in
    let more : sum_by (names_on names) (take c.loop-object.object-index c.args.objects.now) + names_on names (get_or c.args.objects.now c.loop-object.object-index c.object-item.result)
    ≤ sum_by (names_on names) c.args.objects.now = sum_by_more_le (names_on names) c.args.objects.now c.loop-object.object-index c.object-item.result c.loop-object-test.true in
    let le : c.loop-object.sum + c.names_on-sum.result ≤ length names = omega (arith, all, more, c.loop-object.invariant, c.names_on-sum.ensures, ap (names_on names) c.object-item.is) in
    search rules
