use Rattle.std.proofs.Common.{◌∙◌, ◌++◌, ◌∷◌, [], List, replicate, ap, arith}
use Rattle.std.proofs.lemmas.List.{replicate_more}
use Rattle.wait_events.specs.declared.watch.Watch.{Watch}
use Rattle.wait_events.specs.Waits.{no_watch}
use Rattle.wait_events.proofs.waits.new_tables.Goals as goal

pub loop-made-preserved : goal.loop-made-preserved
loop-made-preserved c = (
  c.push_reserved.ensures.items
      ∙ ap (λ (ts : List (List Watch)). ts ++ c.in_ok-new.field-0 ∷ []) c.loop-made.invariant.0
      ∙ ap (λ t. replicate c.loop-made._made (replicate 64 no_watch) ++ t ∷ []) c.in_ok-new.ensures
      ∙ replicate_more c.loop-made._made (replicate 64 no_watch),
  omega (arith, c.push_reserved.ensures.capacity, c.loop-made.invariant.1),
  omega (arith, c.push_reserved.ensures.len, c.loop-made.invariant.2),
)
