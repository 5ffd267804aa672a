-- Runs go on: no serial run of a scene ends before it is whole, unless it is as long as a run may be.
use Rattle.std.proofs.Common.{◌≡◌, ℕ, zero, suc, ◌+◌, ◌-◌, ◌<◌, Bool, true, false, cond, List, [], ◌∷◌, length, Option, Some, None, refl, ap, sym, ◌∙◌, subst, arith, inl, inr}
use Rattle.std.specs.Prelude.{◌⊎◌}
use Rattle.std.specs.List.{find}
use Rattle.std.proofs.lemmas.Option.{slice_get_within}
use Rattle.kernel_values.specs.SceneLaw.{SceneValue, IsLawfulScene, scripts_of}
use Rattle.kernel_values.specs.declared.entry.ActorStatus.{ActorStatus}
use Rattle.kernel_values.specs.declared.entry.Event.{Event}
use Rattle.kernel_values.specs.declared.scene.Turn.{Turn}
use Rattle.kernel_values.specs.declared.scene.Turn.TheVariants as turn
use Rattle.kernel_values.specs.declared.script.Command.{Command}
use Rattle.kernel_values.specs.declared.state.State.{State}
use Rattle.kernel_types.specs.Facts.{is_at_end, status_at}
use Rattle.kernel_types.specs.Step.{Stepped, step, statuses, device_has_work, idle_lawful}
use Rattle.kernel_types.specs.Turns.{Run, Outturn, ran, refused, grown, event_of, run_event, run_turn, run_from, run_by, opening_run, takes_turn, actors_in_turn, turn_or_kernel, next_turn, last_after, serial_from, serial_turns, history_limit}
use Rattle.run_laws.proofs.Counting.{actors_stay}
use Rattle.run_laws.proofs.SerialTurns.{from_turn, from_refused, same_ran, serial_step, serial_over, serial_full, turn_grows}
use Rattle.run_laws.proofs.Ordering.{first_low, whole_at_end}
use Rattle.run_laws.specs.Order.{IsBelow}
use Rattle.run_laws.specs.Progress.{CanBeTaken, IsWholeOrFull, MayTake}
use Rattle.run_laws.proofs.Opening.{placed_at_opening}
use Rattle.run_laws.proofs.Turning.{AtScripts, Taken, actor_taken, device_taken, idle_taken, kernel_taken, turn_keeps}

-- The next turn of the serial order is taken.

find_by : {A : Type 0} (p : A → Bool) (x first : A) (xs : List A) (b : Bool) → p first ≡ b → find p (first ∷ xs) ≡ Some x → (find p xs ≡ Some x → p x ≡ true) → p x ≡ true
find_by p x first xs true is found rest = let same : first ≡ x = cc (rw is at found) in ap p (sym same) ∙ is
find_by p x first xs false is found rest = rest (rw is at found)

find_holds : {A : Type 0} (p : A → Bool) (xs : List A) (x : A) → find p xs ≡ Some x → p x ≡ true
find_holds p [] x found = absurd (cc)
find_holds p (first ∷ xs) x found = find_by p x first xs (p first) refl found (λ later. find_holds p xs x later)

within_by : (s : State) (k : ℕ) (o : Option ActorStatus) → status_at s k ≡ o → takes_turn s k ≡ true → k < length (statuses s)
within_by s k None is takes = absurd (cc (rw is at takes))
within_by s k (Some found) is takes = slice_get_within (statuses s) k found is

kernel_last : (s : State) (last : Option ℕ) (t : Turn) (device idle : Bool) → cond device (Some turn.Device) (cond idle (Some turn.Idle) None) ≡ Some t → last_after last t ≡ last
kernel_last s last t true idle is = let same : turn.Device ≡ t = cc in subst (λ (u : Turn). last_after last u ≡ last) same refl
kernel_last s last t false true is = let same : turn.Idle ≡ t = cc in subst (λ (u : Turn). last_after last u ≡ last) same refl
kernel_last s last t false false is = absurd (cc)

taken_by : (scripts : List (List Command)) (run : Run) (last : Option ℕ) (t : Turn) (found : Option ℕ) → AtScripts scripts run
    → find (takes_turn run.state) (actors_in_turn last (length (statuses run.state))) ≡ found → turn_or_kernel run.state found ≡ Some t → Taken scripts run t
taken_by scripts run last t (Some k) placed found is =
    let takes : takes_turn run.state k ≡ true = find_holds (takes_turn run.state) (actors_in_turn last (length (statuses run.state))) k found in
    subst (λ (u : Turn). Taken scripts run u) (let same : turn.Actor k ≡ t = cc in same) (actor_taken scripts run k placed takes)
taken_by scripts run last t None placed found is = kernel_taken scripts run t placed is

next_taken : (scripts : List (List Command)) (run : Run) (last : Option ℕ) (t : Turn) → AtScripts scripts run → next_turn run.state last ≡ Some t → Taken scripts run t
unfolding next_turn
next_taken scripts run last t placed is = taken_by scripts run last t (find (takes_turn run.state) (actors_in_turn last (length (statuses run.state)))) placed refl is

below_by : (scripts : List (List Command)) (run : Run) (last : Option ℕ) (t : Turn) (found : Option ℕ) → AtScripts scripts run → IsBelow (length (statuses run.state)) last
    → find (takes_turn run.state) (actors_in_turn last (length (statuses run.state))) ≡ found → turn_or_kernel run.state found ≡ Some t
    → IsBelow (length (statuses run.state)) (last_after last t)
below_by scripts run last t (Some k) placed below found is =
    let takes : takes_turn run.state k ≡ true = find_holds (takes_turn run.state) (actors_in_turn last (length (statuses run.state))) k found in
    subst (λ (u : Turn). IsBelow (length (statuses run.state)) (last_after last u)) (let same : turn.Actor k ≡ t = cc in same)
    (within_by run.state k (status_at run.state k) refl takes)
below_by scripts run last t None placed below found is =
    subst (λ (o : Option ℕ). IsBelow (length (statuses run.state)) o) (sym (kernel_last run.state last t (device_has_work run.state) (idle_lawful run.state) is)) below

next_below : (scripts : List (List Command)) (run : Run) (last : Option ℕ) (t : Turn) → AtScripts scripts run → IsBelow (length (statuses run.state)) last → next_turn run.state last ≡ Some t
    → IsBelow (length (statuses run.state)) (last_after last t)
unfolding next_turn
next_below scripts run last t placed below is = below_by scripts run last t (find (takes_turn run.state) (actors_in_turn last (length (statuses run.state)))) placed below refl is

-- A turn leaves as many actors.

step_counts : (run next : Run) (e : Event) (o : Option Stepped) → step run.state e ≡ o → run_event step run (Some e) ≡ Some next → length (statuses next.state) ≡ length (statuses run.state)
step_counts run next e None o_is is = absurd (cc (rw o_is at is))
step_counts run next e (Some stepped) o_is is =
    let found : grown run e stepped ≡ next = cc (rw o_is at is) in
    let many : length (statuses stepped.state) ≡ length (statuses run.state) = rw o_is at (actors_stay run.state e) in
    ap (λ (r : Run). length (statuses r.state)) (sym found) ∙ many

event_counts : (run next : Run) (e : Option Event) → run_event step run e ≡ Some next → length (statuses next.state) ≡ length (statuses run.state)
event_counts run next None is = absurd (cc)
event_counts run next (Some e) is = step_counts run next e (step run.state e) refl is

turn_counts : (scripts : List (List Command)) (run next : Run) (t : Turn) → run_turn step scripts run t ≡ Some next → length (statuses next.state) ≡ length (statuses run.state)
turn_counts scripts run next t is = event_counts run next (event_of scripts run t) is

-- The serial run.

-- what is left of it comes to a run that is whole, or has this many entries
abbrev Ends : Outturn → ℕ → Type 0
Ends left most = (result : Run) × (left ≡ ran result) × ((is_at_end result.state ≡ true) ⊎ (length result.entries ≡ most))

serial_ends : (scripts : List (List Command)) (left limit k : ℕ) (last : Option ℕ) (run : Run) → left ≡ limit - k → AtScripts scripts run → IsBelow (length (statuses run.state)) last
    → Ends (run_from step scripts k run (serial_from step scripts (limit - k) last run)) (length run.entries + left)
serial_ends scripts zero limit k last run left_is placed below = (run, serial_full scripts limit k last run (omega (arith, left_is)), inr (omega arith))
serial_ends scripts (suc left) limit k last run left_is placed below =
    let Q : Option Turn → Type 0 = λ o. next_turn run.state last ≡ o → Ends (run_from step scripts k run (serial_from step scripts (limit - k) last run)) (length run.entries + suc left) in
    let go : (o : Option Turn) → Q o = λ o. elim o as (λ v. Q v) [
      | None ↦ λ none. (run, serial_over scripts limit k last run none, inl (whole_at_end run.state last (first_low (length (statuses run.state)) last below) none))
      | Some t ↦ λ next_is.
          let taken : Taken scripts run t = next_taken scripts run last t placed next_is in
          let below_next : IsBelow (length (statuses taken.next.state)) (last_after last t) =
          subst (λ n. IsBelow n (last_after last t)) (sym (turn_counts scripts run taken.next t taken.took)) (next_below scripts run last t placed below next_is) in
          let rest : Ends (run_from step scripts (k + 1) taken.next (serial_from step scripts (limit - (k + 1)) (last_after last t) taken.next)) (length taken.next.entries + left) =
          serial_ends scripts left limit (k + 1) (last_after last t) taken.next (omega (arith, left_is)) taken.placed below_next in (
            rest.0,
            serial_step scripts limit k last run taken.next t (omega (arith, left_is)) next_is taken.took ∙ rest.1,
            elim rest.2 [
              | inl over ↦ inl over
              | inr many ↦ inr (omega (arith, many, turn_grows scripts run taken.next t taken.took))
            ],
          )
    ] in
    go (next_turn run.state last) refl

serial_run : (scene : SceneValue) → IsLawfulScene scene → (run : Run) × (run_by scene (serial_turns scene) ≡ ran run) × IsWholeOrFull run
unfolding run_by serial_turns
serial_run scene lawful =
    let all : history_limit ≡ history_limit - 0 = omega arith in
    let ends : Ends (run_from step (scripts_of scene) 0 (opening_run scene) (serial_from step (scripts_of scene) (history_limit - 0) None (opening_run scene))) (0 + history_limit) =
    serial_ends (scripts_of scene) history_limit history_limit 0 None (opening_run scene) all (placed_at_opening scene lawful) tt in (
      ends.0,
      ap (λ n. run_from step (scripts_of scene) 0 (opening_run scene) (serial_from step (scripts_of scene) n None (opening_run scene))) all ∙ ends.1,
      elim ends.2 [
        | inl over ↦ inl over
        | inr many ↦ inr (omega (arith, many))
      ],
    )

pub is_run : (scene : SceneValue) → IsLawfulScene scene → (run : Run) × (run_by scene (serial_turns scene) ≡ ran run)
is_run scene lawful = let r : (run : Run) × (run_by scene (serial_turns scene) ≡ ran run) × IsWholeOrFull run = serial_run scene lawful in (r.0, r.1)

pub whole_or_full : (scene : SceneValue) (run : Run) → IsLawfulScene scene → run_by scene (serial_turns scene) ≡ ran run → IsWholeOrFull run
whole_or_full scene run lawful is =
    let r : (run : Run) × (run_by scene (serial_turns scene) ≡ ran run) × IsWholeOrFull run = serial_run scene lawful in
    subst (λ (result : Run). IsWholeOrFull result) (same_ran r.0 run (sym r.1 ∙ is)) r.2

-- Any turns.

turns_keep : (scripts : List (List Command)) (k : ℕ) (run result : Run) (turns : List Turn) → AtScripts scripts run → run_from step scripts k run turns ≡ ran result → AtScripts scripts result
turns_keep scripts k run result [] placed is = subst (λ (r : Run). AtScripts scripts r) (same_ran run result is) placed
turns_keep scripts k run result (t ∷ turns) placed is =
    let go : (o : Option Run) → run_turn step scripts run t ≡ o → AtScripts scripts result =
    λ o. elim o as (λ v. run_turn step scripts run t ≡ v → AtScripts scripts result) [
      | None ↦ λ none. let stopped : run_from step scripts k run (t ∷ turns) ≡ refused k = from_refused scripts k run t turns none in absurd (cc)
      | Some next ↦ λ took. turns_keep scripts (k + 1) next result turns (turn_keeps scripts run next t placed took) (sym (from_turn scripts k run next t turns took) ∙ is)
    ] in
    go (run_turn step scripts run t) refl

placed_after : (scene : SceneValue) (turns : List Turn) (run : Run) → IsLawfulScene scene → run_by scene turns ≡ ran run → AtScripts (scripts_of scene) run
unfolding run_by
placed_after scene turns run lawful is = turns_keep (scripts_of scene) 0 (opening_run scene) run turns (placed_at_opening scene lawful) is

can_be_taken : (scene : SceneValue) (run : Run) (t : Turn) → Taken (scripts_of scene) run t → CanBeTaken scene run t
can_be_taken scene run t taken = (taken.next, taken.took)

allowed_taken : (scripts : List (List Command)) (run : Run) (t : Turn) → AtScripts scripts run → MayTake run.state t → Taken scripts run t
allowed_taken scripts run (turn.Actor actor) placed may = actor_taken scripts run actor placed may
allowed_taken scripts run turn.Device placed may = device_taken scripts run placed may
allowed_taken scripts run turn.Idle placed may = idle_taken scripts run placed may

pub turn_takes : (scene : SceneValue) (turns : List Turn) (run : Run) (t : Turn) → IsLawfulScene scene → run_by scene turns ≡ ran run → MayTake run.state t → CanBeTaken scene run t
turn_takes scene turns run t lawful is may = can_be_taken scene run t (allowed_taken (scripts_of scene) run t (placed_after scene turns run lawful is) may)

pub next_takes : (scene : SceneValue) (turns : List Turn) (run : Run) (last : Option ℕ) (next : Turn) → IsLawfulScene scene → run_by scene turns ≡ ran run
    → next_turn run.state last ≡ Some next → CanBeTaken scene run next
next_takes scene turns run last next lawful is next_is =
    can_be_taken scene run next (next_taken (scripts_of scene) run last next (placed_after scene turns run lawful is) next_is)
