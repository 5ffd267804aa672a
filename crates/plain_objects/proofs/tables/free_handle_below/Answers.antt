use Rattle.std.proofs.Common.{rules, ◌≡◌, true, false, ◌∙◌, sym, ap}
use Rattle.std.specs.Option.{unwrap_or}
use Rattle.kernel_types.specs.Tables.{is_free}
use Rattle.plain_objects.specs.Counting.{free_below}
use Rattle.plain_objects.proofs.Numbers.{number_found, number_passed, numbers_end}
use Rattle.plain_objects.proofs.tables.free_handle_below.Goals as goal

pub returns-then-is_free_handle : goal.returns-then-is_free_handle
unfolding free_below
returns-then-is_free_handle c =
    let t : is_free c.args.table.now c.loop-handle.handle ≡ true = search rules in
    ap (λ o. unwrap_or o 0) (sym (number_found (is_free c.args.table.now) _ _ c.loop-handle-test.true t) ∙ c.loop-handle.invariant)

pub loop-handle-preserved : goal.loop-handle-preserved
loop-handle-preserved c =
    let t : is_free c.args.table.now c.loop-handle.handle ≡ false = search rules in
    sym (number_passed (is_free c.args.table.now) _ _ c.loop-handle-test.true t) ∙ c.loop-handle.invariant

pub returns : goal.returns
unfolding free_below
returns c = ap (λ o. unwrap_or o 0) (sym (numbers_end (is_free c.args.table.now) _ _ c.loop-handle-test.false) ∙ c.loop-handle.invariant)
