-- Lists of turns, and the serial turns, one by one.
use Rattle.std.proofs.Common.{◌≡◌, ℕ, zero, suc, ◌+◌, ◌-◌, ◌<◌, ◌≤◌, List, [], ◌∷◌, ◌++◌, length, Option, Some, None, refl, ap, sym, ◌∙◌, arith, length-append}
use Rattle.kernel_values.specs.SceneLaw.{SceneValue, scripts_of}
use Rattle.kernel_values.specs.declared.entry.Event.{Event}
use Rattle.kernel_values.specs.declared.scene.Turn.{Turn}
use Rattle.kernel_values.specs.declared.script.Command.{Command}
use Rattle.kernel_types.specs.Step.{Stepped, step}
use Rattle.kernel_types.specs.Turns.{Run, Outturn, ran, refused, grown, event_of, opening_run, run_by, run_event, run_turn, run_from, serial_from, next_turn, last_after}

-- a turn that was taken is one entry more

step_grows : (run next : Run) (e : Event) (r : Option Stepped) → step run.state e ≡ r → run_event step run (Some e) ≡ Some next → length next.entries ≡ length run.entries + 1
step_grows run next e None r_is is = absurd (cc (rw r_is at is))
step_grows run next e (Some stepped) r_is is =
    let found : grown run e stepped ≡ next = cc (rw r_is at is) in
    ap (λ (r : Run). length r.entries) (sym found) ∙ length-append run.entries _

event_grows : (run next : Run) (e : Option Event) → run_event step run e ≡ Some next → length next.entries ≡ length run.entries + 1
event_grows run next None is = absurd (cc)
event_grows run next (Some e) is = step_grows run next e (step run.state e) refl is

pub turn_grows : (scripts : List (List Command)) (run next : Run) (t : Turn) → run_turn step scripts run t ≡ Some next → length next.entries ≡ length run.entries + 1
turn_grows scripts run next t is = event_grows run next (event_of scripts run t) is

-- one turn of a list

pub from_turn : (scripts : List (List Command)) (k : ℕ) (run next : Run) (t : Turn) (turns : List Turn) → run_turn step scripts run t ≡ Some next
    → run_from step scripts k run (t ∷ turns) ≡ run_from step scripts (k + 1) next turns
from_turn scripts k run next t turns is = ap (λ (r : Option Run). elim r as (λ _. Outturn) [
  | None ↦ refused k
  | Some after ↦ run_from step scripts (k + 1) after turns
]) is

pub from_refused : (scripts : List (List Command)) (k : ℕ) (run : Run) (t : Turn) (turns : List Turn) → run_turn step scripts run t ≡ None
    → run_from step scripts k run (t ∷ turns) ≡ refused k
from_refused scripts k run t turns is = ap (λ (r : Option Run). elim r as (λ _. Outturn) [
  | None ↦ refused k
  | Some after ↦ run_from step scripts (k + 1) after turns
]) is

-- one turn behind a list

pub same_ran : (run result : Run) → ran run ≡ ran result → run ≡ result
same_ran run result is = cc

from_more : (scripts : List (List Command)) (k : ℕ) (first run next : Run) (turns : List Turn) (t : Turn) → run_from step scripts k first turns ≡ ran run
    → run_turn step scripts run t ≡ Some next → run_from step scripts k first (turns ++ t ∷ []) ≡ ran next
from_more scripts k first run next [] t is took =
    from_turn scripts k first next t [] (ap (λ (r : Run). run_turn step scripts r t) (same_ran first run is) ∙ took)
from_more scripts k first run next (u ∷ turns) t is took =
    let go : (o : Option Run) → run_turn step scripts first u ≡ o → run_from step scripts k first (u ∷ (turns ++ t ∷ [])) ≡ ran next =
    λ o. elim o as (λ v. run_turn step scripts first u ≡ v → run_from step scripts k first (u ∷ (turns ++ t ∷ [])) ≡ ran next) [
      | None ↦ λ none. let stopped : run_from step scripts k first (u ∷ turns) ≡ refused k = from_refused scripts k first u turns none in absurd (cc)
      | Some mid ↦ λ went. from_turn scripts k first mid u (turns ++ t ∷ []) went
          ∙ from_more scripts (k + 1) mid run next turns t (sym (from_turn scripts k first mid u turns went) ∙ is) took
    ] in
    go (run_turn step scripts first u) refl

pub run_more : (scene : SceneValue) (turns : List Turn) (run next : Run) (t : Turn) → run_by scene turns ≡ ran run → run_turn step (scripts_of scene) run t ≡ Some next
    → run_by scene (turns ++ t ∷ []) ≡ ran next
unfolding run_by
run_more scene turns run next t is took = from_more (scripts_of scene) 0 (opening_run scene) run next turns t is took

-- the serial turns, one by one

one_turn : (scripts : List (List Command)) (left : ℕ) (last : Option ℕ) (run next : Run) (t : Turn) → next_turn run.state last ≡ Some t
    → run_turn step scripts run t ≡ Some next → serial_from step scripts (suc left) last run ≡ t ∷ serial_from step scripts left (last_after last t) next
one_turn scripts left last run next t next_is is =
    ap (λ (o : Option Turn). elim o as (λ _. List Turn) [
      | None ↦ []
      | Some u ↦ elim (run_turn step scripts run u) as (λ _. List Turn) [
        | None ↦ []
        | Some after ↦ u ∷ serial_from step scripts left (last_after last u) after
      ]
    ]) next_is ∙ ap (λ (r : Option Run). elim r as (λ _. List Turn) [
      | None ↦ []
      | Some after ↦ t ∷ serial_from step scripts left (last_after last t) after
    ]) is

no_turns : (scripts : List (List Command)) (left : ℕ) (last : Option ℕ) (run : Run) → next_turn run.state last ≡ None → serial_from step scripts (suc left) last run ≡ []
no_turns scripts left last run none_left = ap (λ (o : Option Turn). elim o as (λ _. List Turn) [
  | None ↦ []
  | Some u ↦ elim (run_turn step scripts run u) as (λ _. List Turn) [
    | None ↦ []
    | Some after ↦ u ∷ serial_from step scripts left (last_after last u) after
  ]
]) none_left

pub serial_step : (scripts : List (List Command)) (limit k : ℕ) (last : Option ℕ) (run next : Run) (t : Turn) → k < limit → next_turn run.state last ≡ Some t
    → run_turn step scripts run t ≡ Some next
    → run_from step scripts k run (serial_from step scripts (limit - k) last run) ≡ run_from step scripts (k + 1) next (serial_from step scripts (limit - (k + 1)) (last_after last t) next)
serial_step scripts limit k last run next t below next_is is =
    let left : limit - k ≡ suc (limit - (k + 1)) = omega (arith, below) in
    let one : serial_from step scripts (suc (limit - (k + 1))) last run ≡ t ∷ serial_from step scripts (limit - (k + 1)) (last_after last t) next = one_turn scripts (limit - (k + 1)) last run next t next_is is in
    ap (λ n. run_from step scripts k run (serial_from step scripts n last run)) left
    ∙ (ap (λ ts. run_from step scripts k run ts) one ∙ from_turn scripts k run next t (serial_from step scripts (limit - (k + 1)) (last_after last t) next) is)

over_by : (scripts : List (List Command)) (left k : ℕ) (last : Option ℕ) (run : Run) → next_turn run.state last ≡ None
    → run_from step scripts k run (serial_from step scripts left last run) ≡ ran run
over_by scripts zero k last run none_left = refl
over_by scripts (suc left) k last run none_left = ap (λ (ts : List Turn). run_from step scripts k run ts) (no_turns scripts left last run none_left)

pub serial_over : (scripts : List (List Command)) (limit k : ℕ) (last : Option ℕ) (run : Run) → next_turn run.state last ≡ None
    → run_from step scripts k run (serial_from step scripts (limit - k) last run) ≡ ran run
serial_over scripts limit k last run none_left = over_by scripts (limit - k) k last run none_left

pub serial_full : (scripts : List (List Command)) (limit k : ℕ) (last : Option ℕ) (run : Run) → limit ≤ k
    → run_from step scripts k run (serial_from step scripts (limit - k) last run) ≡ ran run
serial_full scripts limit k last run past =
    let none_left : limit - k ≡ zero = omega (arith, past) in
    ap (λ n. run_from step scripts k run (serial_from step scripts n last run)) none_left
