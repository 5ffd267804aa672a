use Rattle.std.proofs.Common.{◌≡◌, ◌∙◌, true, false, sym, arith}
use Rattle.virtqueue.specs.Chains.{has_next}
use Rattle.virtqueue.proofs.Walking.{walked_start, walked_long, walked_fault, walked_end, walked_more}
use Rattle.virtqueue.proofs.walk.parts_from.Goals as goal

pub walk-init : goal.walk-init
walk-init c = rw c.new-parts.ensures (walked_start _ _ _ c.requires.head)

pub returns-in-Some-clause-parts : goal.returns-in-Some-clause-parts
returns-in-Some-clause-parts c = sym (walked_fault _ _ _ _ _ _ _ c.walk.invariant (rw (← c.read-descriptor.ensures) (sym c.in-Some.ensures.first)))

pub push-requires : goal.push-requires
push-requires c = omega (arith, walked_long _ _ _ _ _ _ c.walk.invariant)

pub returns-then-not-has_next-clause-parts : goal.returns-then-not-has_next-clause-parts
returns-then-not-has_next-clause-parts c =
    let last : has_next c.read-descriptor.result ≡ false = sym c.has_next.ensures ∙ c.if-not-has_next.true in
    rw (c.push.ensures, c.part.ensures, c.read-descriptor.ensures)
    (sym (walked_end _ _ _ _ _ _ c.walk.invariant (rw (← c.read-descriptor.ensures) (sym c.in_default.ensures.first)) (rw (← c.read-descriptor.ensures) last)))

pub walk-preserved : goal.walk-preserved
walk-preserved c =
    let on : has_next c.read-descriptor.result ≡ true = sym c.has_next.ensures ∙ c.if-not-has_next.false in
    rw (c.push.ensures, c.part.ensures, c.read-descriptor.ensures)
    (walked_more _ _ _ _ _ _ c.walk.invariant (rw (← c.read-descriptor.ensures) (sym c.in_default.ensures.first)) (rw (← c.read-descriptor.ensures) on)
    (omega (arith, c.in_default.ensures.more on)) (rw (← c.read-descriptor.ensures) (c.in_default.ensures.next on)) (rw (← c.read-descriptor.ensures) c.in_default.ensures.inside))
