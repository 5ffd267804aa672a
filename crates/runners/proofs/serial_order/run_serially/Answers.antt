use Rattle.std.proofs.Common.{◌≡◌, ◌<◌, ◌+◌, ℕ, Option, length, sym, ◌∙◌, subst, arith}
use Rattle.kernel_types.specs.Turns.{history_limit, last_after}
use Rattle.runners.specs.declared.steps.Taken.{Taken}
use Rattle.runners.specs.declared.steps.Taken.TheVariants as taken
use Rattle.kernel_values.specs.Origin.{Origin}
use Rattle.run_laws.specs.Order.{IsBelow}
use Rattle.runners.specs.Runs.{TookTurn}
use Rattle.runners.proofs.Ending.{Left, serial_goes, ran_over, ran_full, history_grows}
use Rattle.runners.proofs.Serving.{never_unlawful}
use Rattle.runners.proofs.serial_order.run_serially.Goals as goal

pub returns-in_default : goal.returns-in_default
returns-in_default g c =
    ran_over c.args.shared.now c.loop-made.shared c.loop-made._made c.loop-made.last c.loop-made.invariant.origin c.loop-made.invariant.left (sym c.next_turn.ensures.turn ∙ c.in_default.is) c.in_default.ensures.end

pub turn-requires : goal.turn-requires
unfolding history_limit
turn-requires g c = omega (arith, c.loop-made.invariant.count)

pub loop-made-preserved : goal.loop-made-preserved
unfolding history_limit
loop-made-preserved g c =
    let took : TookTurn c.in-Some.turn c.loop-made.shared c.turn.new.self taken.Stepped =
    subst (λ (t : Taken). TookTurn c.in-Some.turn c.loop-made.shared c.turn.new.self t) c.in-Stepped.is c.in_ok-turn.ensures.taken in
    let below : c.loop-made._made < history_limit = omega arith in
    let last : c.last_after-last.result ≡ last_after c.loop-made.last c.in-Some.turn = c.last_after-last.ensures in
    record {
      origin = c.turn.ensures.origin ∙ c.loop-made.invariant.origin;
      count = history_grows c.loop-made.shared c.turn.new.self c.in-Some.turn c.loop-made._made took c.loop-made.invariant.count;
      last = subst (λ (o : Origin). IsBelow (length o.scripts) c.last_after-last.result) (sym c.turn.ensures.origin)
          (subst (λ (l : Option ℕ). IsBelow (length c.loop-made.shared.origin.scripts) l) (sym last) c.in-Some.ensures.last);
      left = subst (λ (l : Option ℕ). Left c.args.shared.now c.turn.new.self (c.loop-made._made + 1) l) (sym last)
          (serial_goes c.args.shared.now c.loop-made.shared c.turn.new.self c.loop-made._made c.loop-made.last c.in-Some.turn c.turn.ensures.origin took below
          (sym c.in-Some.ensures.turn) c.loop-made.invariant.left);
    }

pub returns : goal.returns
unfolding history_limit
returns g c =
    ran_full c.args.shared.now c.loop-made.shared c.loop-made._made c.loop-made.last c.loop-made.invariant.origin c.loop-made.invariant.left (omega arith) (omega arith) c.loop-made.invariant.count

pub unreachable-requires : goal.unreachable-requires
unreachable-requires g c =
    let took : TookTurn c.in-Some.turn c.loop-made.shared c.turn.new.self taken.Unlawful =
    subst (λ (t : Taken). TookTurn c.in-Some.turn c.loop-made.shared c.turn.new.self t) c.in-Unlawful.is c.in_ok-turn.ensures.taken in
    never_unlawful c.in-Some.turn c.loop-made.shared c.turn.new.self (c.goes_on.ensures c.in-Some.turn c.in-Some.ensures.lawful) took
