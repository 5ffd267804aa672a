-- An invariant: what every change of the core keeps. So every step keeps it, and it holds along every history.
use Rattle.std.proofs.Common.{◌≡◌, ℕ, ◌++◌, List, [], ◌∷◌, Option, Some, None, subst, sym, refl, ap}
use Rattle.kernel_values.specs.declared.call.Call.{Call}
use Rattle.kernel_values.specs.declared.entry.Entry.{Entry}
use Rattle.kernel_values.specs.declared.entry.Event.{Event}
use Rattle.kernel_values.specs.declared.entry.Seqs.{Seqs}
use Rattle.kernel_values.specs.declared.reply.Answer.{Answer}
use Rattle.kernel_values.specs.declared.state.CoreState.{CoreState}
use Rattle.kernel_values.specs.declared.state.State.{State}
use Rattle.kernel_types.specs.Applications.{started}
use Rattle.kernel_types.specs.Bridge.{bridging, unbridged}
use Rattle.kernel_types.specs.CoreStep.{core_idle}
use Rattle.kernel_types.specs.History.{next_state, state_after, state_or}
use Rattle.kernel_types.specs.Step.{Stepped, step}
use Rattle.kernel_types.specs.Sweep.{sweep}
use Rattle.kernel_types.specs.Threads.{running_activity, with_activity}
use Rattle.step_laws.specs.SmallChanges.{IsMade, Move, SmallChange, after, is_of_bridge, moves}
use Rattle.step_laws.specs.Walks.{asked_by, CoreChange, EndsSwept, IsWalk, MadeBy, ThreadChange, after_core, after_thread, core_moves, moves_of}
use Rattle.step_laws.specs.Walks.EndsSwept.{as_before, swept_last}
use Rattle.step_laws.specs.Walks.CoreChange.{app_served, by_call, by_small, end_bridged, end_unbridged, objects_swept, time_passed, wait_over}
use Rattle.step_laws.proofs.Rows.{row_keeps, telling_keeps}
use Rattle.step_laws.proofs.Steps.{StepWalks, step_walks, steps_walk}

pub record Invariant : Type 1 where
  pub holds : CoreState → Type 0
  pub small : (by : Option ℕ) (c : CoreState) → holds c → MadeBy by c → (change : SmallChange by c) → holds (after by c change)
  pub call : (app thread : ℕ) (asked : Call) (said : Answer) (c : CoreState) → holds c → (change : ThreadChange app thread asked said c) → holds (after_thread app thread asked said c change)
  pub resumed : (thread : ℕ) (c : CoreState) → holds c → holds (with_activity running_activity thread c)
  pub served : (place : ℕ) (c : CoreState) → holds c → holds (started place c)
  pub bridged : (end : ℕ) (c : CoreState) → holds c → IsMade is_of_bridge c end → holds (bridging end c)
  pub unbridged : (end : ℕ) (c : CoreState) → holds c → holds (unbridged end c)
  pub passed : (deadline : Option ℕ) (c : CoreState) → holds c → holds (core_idle deadline c)
  pub swept : (c : CoreState) → holds c → holds (sweep c)

module _ (L : Invariant) where
  pub change_keeps : (asked : Option Call) (c : CoreState) → L.holds c → (change : CoreChange asked c) → L.holds (after_core asked c change)
  change_keeps asked c k (by_small by made change) = L.small by c k made change
  change_keeps asked c k (by_call app thread begun said is change) = L.call app thread begun said c k change
  change_keeps asked c k (wait_over thread start found wait there waited) = L.resumed thread c k
  change_keeps asked c k (app_served place was there still) = L.served place c k
  change_keeps asked c k (end_bridged end given) = L.bridged end c k given
  change_keeps asked c k (end_unbridged end) = L.unbridged end c k
  change_keeps asked c k (time_passed deadline) = L.passed deadline c k
  change_keeps asked c k objects_swept = L.swept c k

  pub walk_keeps : {asked : Option Call} {seqs : Seqs} (c d : CoreState) → IsWalk asked c seqs d → L.holds c → L.holds d
  walk_keeps {asked} c d walked k = row_keeps (CoreChange asked) (after_core asked) L.holds (change_keeps asked) c d walked.walk.row k

  -- every step keeps it
  pub step_keeps : (s : State) (e : Event) (r : Stepped) → step s e ≡ Some r → L.holds s.core → L.holds r.state.core
  step_keeps s e r is k = walk_keeps s.core r.state.core (steps_walk s e r is) k

  next_keeps : (asked : Option Call) (s : State) (o : Option Stepped) → StepWalks asked s.core o → L.holds s.core → L.holds (state_or s o).core
  next_keeps asked s None walks k = k
  next_keeps asked s (Some stepped) walks k = walk_keeps s.core stepped.state.core walks k

  -- it holds after every history, from a state where it holds; where an event is not lawful, the state stays
  pub holds_along : (s : State) (entries : List Entry) → L.holds s.core → L.holds (state_after s entries).core
  holds_along s [] k = k
  holds_along s (entry ∷ entries) k = holds_along (next_state s entry.event) entries (next_keeps (asked_by entry.event) s (step s entry.event) (step_walks s entry.event) k)

-- What the sweep alone brings about holds after every step, since each ends with one or leaves the core, and so along every history.

module _ (P : CoreState → Type 0) (after_sweep : (c : CoreState) → P (sweep c)) where
  ends_hold : (c d : CoreState) → EndsSwept c d → P c → P d
  ends_hold c d (as_before is) k = subst P (sym is) k
  ends_hold c d (swept_last b is) k = subst P (sym is) (after_sweep b)

  next_holds : (asked : Option Call) (s : State) (o : Option Stepped) → StepWalks asked s.core o → P s.core → P (state_or s o).core
  next_holds asked s None walks k = k
  next_holds asked s (Some stepped) walks k = ends_hold s.core stepped.state.core walks.ends k

  pub swept_along : (s : State) (entries : List Entry) → P s.core → P (state_after s entries).core
  swept_along s [] k = k
  swept_along s (entry ∷ entries) k =
      swept_along (next_state s entry.event) entries (next_holds (asked_by entry.event) s (step s entry.event) (step_walks s entry.event) k)

-- An invariant in the light of the messages that moved.

abbrev pub retold : {X : Type 0} → (X → Move → X) → X → List Move → X
retold moved x [] = x
retold moved x (one ∷ told) = moved (retold moved x told) one

pub record TracedInvariant (X : Type 0) : Type 1 where
  pub holds : X → CoreState → Type 0
  pub moved : X → Move → X
  pub small : (by : Option ℕ) (x : X) (c : CoreState) → holds x c → (change : SmallChange by c) → holds (retold moved x (moves by c change)) (after by c change)
  pub call : (app thread : ℕ) (asked : Call) (said : Answer) (x : X) (c : CoreState) → holds x c → (change : ThreadChange app thread asked said c)
      → holds x (after_thread app thread asked said c change)
  pub resumed : (thread : ℕ) (x : X) (c : CoreState) → holds x c → holds x (with_activity running_activity thread c)
  pub served : (place : ℕ) (x : X) (c : CoreState) → holds x c → holds x (started place c)
  pub bridged : (end : ℕ) (x : X) (c : CoreState) → holds x c → IsMade is_of_bridge c end → holds x (bridging end c)
  pub unbridged : (end : ℕ) (x : X) (c : CoreState) → holds x c → holds x (unbridged end c)
  pub passed : (deadline : Option ℕ) (x : X) (c : CoreState) → holds x c → holds x (core_idle deadline c)
  pub swept : (x : X) (c : CoreState) → holds x c → holds x (sweep c)

module _ (X : Type 0) (L : TracedInvariant X) where
  retold_both : (x : X) (us told : List Move) → retold L.moved (retold L.moved x told) us ≡ retold L.moved x (us ++ told)
  retold_both x [] told = refl
  retold_both x (u ∷ us) told = ap (λ (y : X). L.moved y u) (retold_both x us told)

  change_told : (asked : Option Call) (x : X) (told : List Move) (c : CoreState) → L.holds (retold L.moved x told) c → (change : CoreChange asked c)
      → L.holds (retold L.moved x (core_moves asked c change ++ told)) (after_core asked c change)
  change_told asked x told c k (by_small by made change) =
      subst (λ (y : X). L.holds y (after by c change)) (retold_both x (moves by c change) told) (L.small by (retold L.moved x told) c k change)
  change_told asked x told c k (by_call app thread begun said is change) = L.call app thread begun said (retold L.moved x told) c k change
  change_told asked x told c k (wait_over thread start found wait there waited) = L.resumed thread (retold L.moved x told) c k
  change_told asked x told c k (app_served place was there still) = L.served place (retold L.moved x told) c k
  change_told asked x told c k (end_bridged end given) = L.bridged end (retold L.moved x told) c k given
  change_told asked x told c k (end_unbridged end) = L.unbridged end (retold L.moved x told) c k
  change_told asked x told c k (time_passed deadline) = L.passed deadline (retold L.moved x told) c k
  change_told asked x told c k objects_swept = L.swept (retold L.moved x told) c k

  pub walk_told : {asked : Option Call} {seqs : Seqs} (x : X) (c d : CoreState) → IsWalk asked c seqs d → L.holds x c → L.holds (retold L.moved x (moves_of seqs)) d
  walk_told {asked} x c d walked k =
      subst (λ (us : List Move). L.holds (retold L.moved x us) d) walked.walk.tells
      (telling_keeps (CoreChange asked) (after_core asked) (core_moves asked) (λ us b. L.holds (retold L.moved x us) b) (change_told asked x) c d walked.walk.row k)

  -- a step's entry says which messages moved
  pub step_told : (x : X) (s : State) (e : Event) (r : Stepped) → step s e ≡ Some r → L.holds x s.core → L.holds (retold L.moved x (moves_of r.seqs)) r.state.core
  step_told x s e r is k = walk_told x s.core r.state.core (steps_walk s e r is) k
