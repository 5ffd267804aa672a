use Rattle.std.proofs.Common.{◌≡◌, List, length, sym, refl, ◌∙◌, subst, ap, arith}
use Rattle.kernel_values.specs.SceneLaw.{SceneValue}
use Rattle.kernel_values.specs.declared.scene.Turn.{Turn}
use Rattle.kernel_values.specs.declared.scene.Turn.TheVariants as turn
use Rattle.kernel_types.specs.Turns.{refused, ran, run_from}
use Rattle.kernel_types.specs.Step.{step}
use Rattle.runners.specs.Runs.{IsRunBy, run_told}
use Rattle.runners.proofs.Ending.{listed_is, listed_goes, listed_refused, listed_ran, listed_grows, run_is_by, whole_run, end_is, replay_ran, replay_refused, replay_unfinished, told_carries}
use Rattle.runners.proofs.replays.replay.Goals as goal

pub returns-in-Unlawful-clause-refused : goal.returns-in-Unlawful-clause-refused
returns-in-Unlawful-clause-refused g c =
    let turns : c.as_slice-turns.result.now ≡ c.args.scene.now.turns = c.as_slice-turns.ensures ∙ ap (λ (s : SceneValue). s.turns) c.scene.view_is in
    replay_refused c.args.scene.now c.loop-at.at (listed_is c.args.scene.now c.in_ok-shared.shared _ c.in_ok-shared.ensures.origin c.in_ok-shared.ensures.history
    (subst (λ (ts : List Turn). run_from step c.in_ok-shared.shared.origin.scripts 0 (run_told c.in_ok-shared.shared) ts ≡ refused c.loop-at.at) turns
    (listed_refused c.as_slice-turns.result.now c.in_ok-shared.shared c.loop-at.shared c.turn.new.self c.loop-at.at _ (turn.Actor 0) c.in-Ok.taken c.in-Ok.ensures.taken c.in-Unlawful.is (omega arith) refl c.loop-at.invariant.left)))

pub loop-at-preserved : goal.loop-at-preserved
loop-at-preserved g c = record {
  origin = c.turn.ensures.origin ∙ c.loop-at.invariant.origin;
  count = listed_grows c.loop-at.shared c.turn.new.self _ c.loop-at.at c.in-Ok.taken c.in-Ok.ensures.taken c.in-Stepped.is c.loop-at.invariant.count;
  left = listed_goes c.as_slice-turns.result.now c.in_ok-shared.shared c.loop-at.shared c.turn.new.self c.loop-at.at _ (turn.Actor 0) c.in-Ok.taken c.turn.ensures.origin c.in-Ok.ensures.taken c.in-Stepped.is (omega arith) refl c.loop-at.invariant.left;
}

pub returns-then-not-is_over-clause-refused : goal.returns-then-not-is_over-clause-refused
returns-then-not-is_over-clause-refused g c =
    let turns : c.as_slice-turns.result.now ≡ c.args.scene.now.turns = c.as_slice-turns.ensures ∙ ap (λ (s : SceneValue). s.turns) c.scene.view_is in
    let listed : run_from step c.in_ok-shared.shared.origin.scripts 0 (run_told c.in_ok-shared.shared) c.args.scene.now.turns ≡ ran (run_told c.loop-at.shared) =
    subst (λ (ts : List Turn). run_from step c.in_ok-shared.shared.origin.scripts 0 (run_told c.in_ok-shared.shared) ts ≡ ran (run_told c.loop-at.shared)) turns
    (listed_ran c.as_slice-turns.result.now c.in_ok-shared.shared c.loop-at.shared c.loop-at.at (omega arith) c.loop-at.invariant.left) in
    replay_unfinished c.args.scene.now (run_told c.loop-at.shared) (listed_is c.args.scene.now c.in_ok-shared.shared _ c.in_ok-shared.ensures.origin c.in_ok-shared.ensures.history listed)
    (sym c.is_over.ensures ∙ c.if-not-is_over.true) ∙ ap (λ (ts : List Turn). refused (length ts)) (sym turns)

pub returns-clause-whole : goal.returns-clause-whole
returns-clause-whole g c =
    let turns : c.as_slice-turns.result.now ≡ c.args.scene.now.turns = c.as_slice-turns.ensures ∙ ap (λ (s : SceneValue). s.turns) c.scene.view_is in
    let listed : run_from step c.in_ok-shared.shared.origin.scripts 0 (run_told c.in_ok-shared.shared) c.args.scene.now.turns ≡ ran (run_told c.loop-at.shared) =
    subst (λ (ts : List Turn). run_from step c.in_ok-shared.shared.origin.scripts 0 (run_told c.in_ok-shared.shared) ts ≡ ran (run_told c.loop-at.shared)) turns
    (listed_ran c.as_slice-turns.result.now c.in_ok-shared.shared c.loop-at.shared c.loop-at.at (omega arith) c.loop-at.invariant.left) in
    let run : IsRunBy c.args.scene.now c.args.scene.now.turns c.into_logged.result =
    run_is_by c.args.scene.now c.in_ok-shared.shared c.loop-at.shared c.into_logged.result c.args.scene.now.turns c.in_ok-shared.ensures.origin c.in_ok-shared.ensures.history c.loop-at.invariant.origin
    (listed_is c.args.scene.now c.in_ok-shared.shared _ c.in_ok-shared.ensures.origin c.in_ok-shared.ensures.history listed) c.into_logged.ensures.state c.into_logged.ensures.entries c.legal.ensures.legal c.legal.ensures.follows in
    replay_ran c.args.scene.now c.into_logged.result
    (whole_run c.args.scene.now c.into_logged.result c.args.scene.now.turns run (end_is c.loop-at.shared c.into_logged.result _ c.into_logged.ensures.state c.into_logged.ensures.entries (sym c.is_over.ensures ∙ c.if-not-is_over.false)))
    (end_is c.loop-at.shared c.into_logged.result _ c.into_logged.ensures.state c.into_logged.ensures.entries (sym c.is_over.ensures ∙ c.if-not-is_over.false))

pub returns-clause-carried : goal.returns-clause-carried
returns-clause-carried g c =
    told_carries c.frames_are_carried_in_order.ensures c.args.scene.now c.in_ok-shared.shared c.loop-at.shared c.into_logged.result c.is_lawful.ensures c.in_ok-shared.ensures.origin
    c.loop-at.invariant.origin c.into_logged.ensures.entries c.legal.ensures.legal c.legal.ensures.follows
