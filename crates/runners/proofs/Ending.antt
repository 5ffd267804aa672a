-- What the runs come to, turn by turn and at their ends.
use Rattle.std.proofs.Common.{◌≡◌, ℕ, zero, suc, ◌+◌, ◌-◌, ◌<◌, ◌≤◌, Bool, true, false, List, [], ◌∷◌, length, Option, Some, None, refl, ap, sym, ◌∙◌, subst, arith, drop, get_or, drop-cons, add-one}
use Rattle.kernel_values.specs.declared.entry.Entry.{Entry}
use Rattle.kernel_values.specs.declared.scene.Turn.{Turn}
use Rattle.kernel_values.specs.declared.script.Command.{Command}
use Rattle.kernel_values.specs.declared.state.State.{State}
use Rattle.kernel_values.specs.Origin.{Origin}
use Rattle.kernel_values.specs.SceneLaw.{IsLawfulScene, SceneValue, scripts_of}
use Rattle.kernel_types.specs.Carried.{CarriedInOrder}
use Rattle.kernel_types.specs.Facts.{is_at_end}
use Rattle.kernel_types.specs.History.{Legal, state_after}
use Rattle.kernel_types.specs.Opening.{opening}
use Rattle.kernel_types.specs.Step.{step}
use Rattle.kernel_types.specs.Turns.{Run, Outturn, ran, refused, run_from, run_by, replay_of, whole_or_refused, serial_from, serial_turns, next_turn, last_after, history_limit}
use Rattle.kernel_types.specs.Whole.{FollowsScripts}
use Rattle.kernel_log.specs.Logs.{Log, state_of}
use Rattle.run_laws.proofs.SerialTurns.{from_refused, from_turn, serial_full, serial_over, serial_step, turn_grows}
use Rattle.runners.specs.Runs.{Carries, IsRun, ScriptedRun, origin_of, state_told, run_told, run_logged, RanSerially, IsRunBy, IsWholeRun, IsCutShort, IsReplay, TookTurn}
use Rattle.runners.specs.declared.steps.Taken.{Taken}
use Rattle.runners.specs.declared.steps.Taken.TheVariants as taken

-- the whole run

pub run_is_by : (scene : SceneValue) (told next : ScriptedRun) (log : Log) (turns : List Turn) → told.origin ≡ record { state = opening scene; scripts = scripts_of scene; made = 0 } → told.history ≡ []
    → next.origin ≡ told.origin → run_by scene turns ≡ ran (run_told next) → log.origin.state ≡ next.origin.state → log.journal.entries ≡ next.history
    → Legal next.origin.state next.history → FollowsScripts next.origin.scripts next.history → IsRunBy scene turns log
run_is_by scene told next log turns origin_is none_yet stays run_is log_state log_entries legal follows =
    let begins : next.origin ≡ record { state = opening scene; scripts = scripts_of scene; made = 0 } = stays ∙ origin_is in
    let state : next.origin.state ≡ opening scene = ap (λ (o : Origin). o.state) begins in
    let scripts : next.origin.scripts ≡ scripts_of scene = ap (λ (o : Origin). o.scripts) begins in
    let same : run_told next ≡ run_logged log =
    ap (λ (es : List Entry). record { state = state_after next.origin.state es; entries = es }) (sym log_entries)
    ∙ ap (λ (s : State). record { state = state_after s log.journal.entries; entries = log.journal.entries }) (sym log_state) in
    record {
      opening_is = log_state ∙ state;
      run_is = run_is ∙ ap (λ (r : Run). ran r) same;
      legal = subst (λ (es : List Entry). Legal (opening scene) es) (sym log_entries) (subst (λ (s : State). Legal s next.history) state legal);
      follows = subst (λ (es : List Entry). FollowsScripts (scripts_of scene) es) (sym log_entries) (subst (λ (cs : List (List Command)). FollowsScripts cs next.history) scripts follows);
    }

pub whole_run : (scene : SceneValue) (log : Log) (turns : List Turn) → IsRunBy scene turns log → is_at_end (state_of log) ≡ true → IsWholeRun scene turns log
whole_run scene log turns run over = record {
  run = run;
  whole = record {
    follows = run.follows;
    ended = subst (λ (s : State). is_at_end (state_after s log.journal.entries) ≡ true) run.opening_is over;
  };
}

-- a run from the opening, as its turns are counted

pub serial_is : (scene : SceneValue) (told next : ScriptedRun) → told.origin ≡ record { state = opening scene; scripts = scripts_of scene; made = 0 } → told.history ≡ []
    → run_from step told.origin.scripts 0 (run_told told) (serial_from step told.origin.scripts history_limit None (run_told told)) ≡ ran (run_told next)
    → run_by scene (serial_turns scene) ≡ ran (run_told next)
unfolding run_by serial_turns
serial_is scene told next origin_is none_yet run_is =
    let begins : run_told told ≡ record { state = opening scene; entries = [] } =
    ap (λ (es : List Entry). record { state = state_after told.origin.state es; entries = es }) none_yet ∙ ap (λ (o : Origin). record { state = o.state; entries = [] }) origin_is in
    let scripts : told.origin.scripts ≡ scripts_of scene = ap (λ (o : Origin). o.scripts) origin_is in
    sym (ap (λ (cs : List (List Command)). run_from step cs 0 (run_told told) (serial_from step cs history_limit None (run_told told))) scripts
    ∙ ap (λ (r : Run). run_from step (scripts_of scene) 0 r (serial_from step (scripts_of scene) history_limit None r)) begins) ∙ run_is

pub listed_is : (scene : SceneValue) (told : ScriptedRun) (outturn : Outturn) → told.origin ≡ record { state = opening scene; scripts = scripts_of scene; made = 0 } → told.history ≡ []
    → run_from step told.origin.scripts 0 (run_told told) scene.turns ≡ outturn → run_by scene scene.turns ≡ outturn
unfolding run_by
listed_is scene told outturn origin_is none_yet is =
    let begins : run_told told ≡ record { state = opening scene; entries = [] } =
    ap (λ (es : List Entry). record { state = state_after told.origin.state es; entries = es }) none_yet ∙ ap (λ (o : Origin). record { state = o.state; entries = [] }) origin_is in
    let scripts : told.origin.scripts ≡ scripts_of scene = ap (λ (o : Origin). o.scripts) origin_is in
    sym (ap (λ (cs : List (List Command)). run_from step cs 0 (run_told told) scene.turns) scripts ∙ ap (λ (r : Run). run_from step (scripts_of scene) 0 r scene.turns) begins) ∙ is

-- a replay

pub replay_ran : (scene : SceneValue) (log : Log) → IsWholeRun scene scene.turns log → is_at_end (state_of log) ≡ true → IsReplay scene log
unfolding replay_of
replay_ran scene log whole over = record {
  whole = whole;
  replay_is = ap (λ (o : Outturn). whole_or_refused (length scene.turns) o) whole.run.run_is ∙ rw over refl;
}

pub replay_refused : (scene : SceneValue) (k : ℕ) → run_by scene scene.turns ≡ refused k → replay_of scene ≡ refused k
unfolding replay_of
replay_refused scene k is = ap (λ (o : Outturn). whole_or_refused (length scene.turns) o) is

pub replay_unfinished : (scene : SceneValue) (run : Run) → run_by scene scene.turns ≡ ran run → is_at_end run.state ≡ false → replay_of scene ≡ refused (length scene.turns)
unfolding replay_of
replay_unfinished scene run is over = ap (λ (o : Outturn). whole_or_refused (length scene.turns) o) is ∙ rw over refl

-- the loop over the serial turns

abbrev pub Left : ScriptedRun → ScriptedRun → ℕ → Option ℕ → Type 0
Left told mid k last = run_from step mid.origin.scripts k (run_told mid) (serial_from step mid.origin.scripts (history_limit - k) last (run_told mid))
    ≡ run_from step told.origin.scripts 0 (run_told told) (serial_from step told.origin.scripts history_limit None (run_told told))

pub serial_goes : (told mid next : ScriptedRun) (k : ℕ) (last : Option ℕ) (t : Turn) → next.origin ≡ mid.origin → TookTurn t mid next taken.Stepped → k < history_limit
    → next_turn (state_told mid) last ≡ Some t → Left told mid k last → Left told next (k + 1) (last_after last t)
serial_goes told mid next k last t stays took below next_is left =
    ap (λ (o : Origin). run_from step o.scripts (k + 1) (run_told next) (serial_from step o.scripts (history_limit - (k + 1)) (last_after last t) (run_told next))) stays
    ∙ (sym (serial_step mid.origin.scripts history_limit k last (run_told mid) (run_told next) t below next_is took) ∙ left)

pub ran_over : (told mid : ScriptedRun) (k : ℕ) (last : Option ℕ) → mid.origin ≡ told.origin → Left told mid k last → next_turn (state_told mid) last ≡ None
    → is_at_end (state_told mid) ≡ true → RanSerially told mid
ran_over told mid k last stays left none_left over = record {
  origin_is = stays;
  run_is = sym left ∙ serial_over mid.origin.scripts history_limit k last (run_told mid) none_left;
  full = λ goes_on. absurd (cc (over, goes_on));
}

pub ran_full : (told mid : ScriptedRun) (k : ℕ) (last : Option ℕ) → mid.origin ≡ told.origin → Left told mid k last → history_limit ≤ k → k ≤ history_limit → length mid.history ≡ k → RanSerially told mid
ran_full told mid k last stays left past within count = record {
  origin_is = stays;
  run_is = sym left ∙ serial_full mid.origin.scripts history_limit k last (run_told mid) past;
  full = λ goes_on. omega (arith, count, past, within);
}

pub history_grows : (mid next : ScriptedRun) (t : Turn) (k : ℕ) → TookTurn t mid next taken.Stepped → length mid.history ≡ k → length next.history ≡ k + 1
history_grows mid next t k took count = omega (arith, turn_grows mid.origin.scripts (run_told mid) (run_told next) t took, count)

-- the loop over the turns that a scene lists

pub listed_grows : (mid next : ScriptedRun) (t : Turn) (k : ℕ) (came : Taken) → TookTurn t mid next came → came ≡ taken.Stepped → length mid.history ≡ k → length next.history ≡ k + 1
listed_grows mid next t k came took_it came_is count = history_grows mid next t k (subst (λ (u : Taken). TookTurn t mid next u) came_is took_it) count

abbrev pub LeftOf : List Turn → ScriptedRun → ScriptedRun → ℕ → Type 0
LeftOf turns told mid k = run_from step mid.origin.scripts k (run_told mid) (drop k turns) ≡ run_from step told.origin.scripts 0 (run_told told) turns

turns_from : (turns : List Turn) (k : ℕ) (t other : Turn) → k < length turns → t ≡ get_or turns k other → drop k turns ≡ t ∷ drop (k + 1) turns
turns_from turns k t other below is = rw (add-one, drop-cons turns k other) (ap (λ (u : Turn). u ∷ drop (suc k) turns) (sym is))

pub listed_goes : (turns : List Turn) (told mid next : ScriptedRun) (k : ℕ) (t other : Turn) (came : Taken) → next.origin ≡ mid.origin → TookTurn t mid next came → came ≡ taken.Stepped → k < length turns → t ≡ get_or turns k other
    → LeftOf turns told mid k → LeftOf turns told next (k + 1)
listed_goes turns told mid next k t other came stays took_it came_is below is left =
    let took : TookTurn t mid next taken.Stepped = subst (λ (u : Taken). TookTurn t mid next u) came_is took_it in
    ap (λ (o : Origin). run_from step o.scripts (k + 1) (run_told next) (drop (k + 1) turns)) stays
    ∙ (sym (ap (λ (ts : List Turn). run_from step mid.origin.scripts k (run_told mid) ts) (turns_from turns k t other below is)
    ∙ from_turn mid.origin.scripts k (run_told mid) (run_told next) t (drop (k + 1) turns) took) ∙ left)

pub listed_refused : (turns : List Turn) (told mid next : ScriptedRun) (k : ℕ) (t other : Turn) (came : Taken) → TookTurn t mid next came → came ≡ taken.Unlawful → k < length turns → t ≡ get_or turns k other
    → LeftOf turns told mid k → run_from step told.origin.scripts 0 (run_told told) turns ≡ refused k
listed_refused turns told mid next k t other came took_it came_is below is left =
    let took : TookTurn t mid next taken.Unlawful = subst (λ (u : Taken). TookTurn t mid next u) came_is took_it in
    sym left ∙ (ap (λ (ts : List Turn). run_from step mid.origin.scripts k (run_told mid) ts) (turns_from turns k t other below is)
    ∙ from_refused mid.origin.scripts k (run_told mid) t (drop (k + 1) turns) took.0)

drop_all : (turns : List Turn) (k : ℕ) → length turns ≤ k → drop k turns ≡ []
drop_all [] zero past = refl
drop_all [] (suc k) past = refl
drop_all (t ∷ turns) zero past = absurd (omega arith)
drop_all (t ∷ turns) (suc k) past = drop_all turns k (omega (arith, past))

pub listed_ran : (turns : List Turn) (told mid : ScriptedRun) (k : ℕ) → length turns ≤ k → LeftOf turns told mid k → run_from step told.origin.scripts 0 (run_told told) turns ≡ ran (run_told mid)
listed_ran turns told mid k past left = sym left ∙ ap (λ (ts : List Turn). run_from step mid.origin.scripts k (run_told mid) ts) (drop_all turns k past)

-- what the log that is handed over has come to

pub end_is : (next : ScriptedRun) (log : Log) (b : Bool) → log.origin.state ≡ next.origin.state → log.journal.entries ≡ next.history → is_at_end (state_told next) ≡ b → is_at_end (state_of log) ≡ b
end_is next log b state entries is =
    ap (λ (s : State). is_at_end (state_after s log.journal.entries)) state ∙ (ap (λ (es : List Entry). is_at_end (state_after next.origin.state es)) entries ∙ is)

pub cut_short : (scene : SceneValue) (next : ScriptedRun) (log : Log) → IsRunBy scene (serial_turns scene) log → log.journal.entries ≡ next.history → length next.history ≡ history_limit
    → is_at_end (state_of log) ≡ false → IsCutShort scene log
cut_short scene next log run entries full goes_on = record { run = run; full = ap length entries ∙ full; unfinished = goes_on }

-- a history that follows the scripts of a lawful scene carries its frames in order
pub told_carries : CarriedInOrder → (scene : SceneValue) (first told : ScriptedRun) (log : Log) → IsLawfulScene scene → first.origin ≡ origin_of scene → told.origin ≡ first.origin
    → log.journal.entries ≡ told.history → Legal told.origin.state told.history → FollowsScripts told.origin.scripts told.history → Carries scene log
told_carries law scene first told log lawful first_is told_is entries_are legal follows honest =
    let origin : told.origin ≡ origin_of scene = told_is ∙ first_is in
    let here : Legal (opening scene) log.journal.entries =
    subst (λ (es : List Entry). Legal (opening scene) es) (sym entries_are) (subst (λ (o : Origin). Legal o.state told.history) origin legal) in
    let by_scripts : FollowsScripts (scripts_of scene) log.journal.entries =
    subst (λ (es : List Entry). FollowsScripts (scripts_of scene) es) (sym entries_are) (subst (λ (o : Origin). FollowsScripts o.scripts told.history) origin follows) in
    law scene log.journal.entries lawful honest here by_scripts

pub run_carries : CarriedInOrder → (scene : SceneValue) (log : Log) → IsLawfulScene scene → IsRun (origin_of scene) log → Carries scene log
run_carries law scene log lawful run honest = law scene log.journal.entries lawful honest run.legal run.follows
