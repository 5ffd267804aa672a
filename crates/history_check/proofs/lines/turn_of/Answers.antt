use Rattle.std.proofs.Common.{ap, arith, length, subst, sym, ◌∙◌}
use Rattle.std.proofs.lemmas.Option.{slice_get_within}
use mathlib.Core.List.{IsPrefix}
use Rattle.history_check.specs.Fronts.{IsNamed, device_front, idle_front}
use Rattle.history_check.proofs.Lined.{named_more, none_of}
use Rattle.history_check.proofs.lines.turn_of.Goals as goal

pub loop-actor-preserved : goal.loop-actor-preserved
loop-actor-preserved c = named_more c.as_slice-all.result.now c.args.said.now c.loop-actor.actor c.index-all-actor.result c.as_slice.result.now c.index-all-actor.is (omega arith) c.as_slice.ensures
    (c.begins_with.ensures.no c.if-begins_with.false) c.loop-actor.invariant

pub returns-clause-none : goal.returns-clause-none
returns-clause-none c = (
  record {
    not_device = none_of (IsPrefix device_front c.args.said.now → ⊥) c.behind.result (sym c.is_some.ensures ∙ c.if-is_some.false) c.behind.ensures.none;
    not_idle = none_of (IsPrefix idle_front c.args.said.now → ⊥) c.behind-2.result (sym c.is_some-2.ensures ∙ c.if-is_some-2.false) c.behind-2.ensures.none;
  },
  λ n named. c.loop-actor.invariant n (omega (arith, ap length c.as_slice-all.ensures, slice_get_within c.args.names.now n named.name named.name_is))
      (subst (λ xs. IsNamed xs c.args.said.now n) (sym c.as_slice-all.ensures) named),
)
