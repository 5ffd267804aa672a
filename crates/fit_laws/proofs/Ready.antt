-- In every state of every step, before each sweep of it, the objects fit, what is named is there, and chains of sets are short: so a sweep by counts may be made.
use Rattle.std.proofs.Common.{◌≡◌, ℕ, ◌+◌, ◌<◌, ◌≤◌, ◌==◌, ◌||◌, inl, inr, Bool, true, false, List, [], ◌∷◌, Option, Some, None, refl, ap, subst, arith, tests}
use Rattle.std.specs.Option.{is_some}
use Rattle.kernel_values.specs.SceneLaw.{SceneValue}
use Rattle.kernel_values.specs.declared.call.Call.{Call}
use Rattle.kernel_values.specs.declared.entry.Entry.{Entry}
use Rattle.kernel_values.specs.declared.reply.Answer.{Answer}
use Rattle.kernel_values.specs.declared.state.Body.TheVariants as body
use Rattle.kernel_values.specs.declared.state.CoreState.{CoreState}
use Rattle.kernel_values.specs.declared.state.HandleSet.{HandleSet}
use Rattle.kernel_values.specs.declared.state.Member.{Member}
use Rattle.kernel_values.specs.declared.state.Object.{Object}
use Rattle.kernel_values.specs.declared.state.TableEntry.{TableEntry}
use Rattle.kernel_types.specs.Applications.{application_ended, started}
use Rattle.kernel_types.specs.CoreStep.{core_idle}
use Rattle.kernel_types.specs.History.{state_after}
use Rattle.kernel_types.specs.Objects.{added, is_there, set_changed}
use Rattle.kernel_types.specs.Opening.{opening}
use Rattle.kernel_types.specs.Sets.{new_member, with_member}
use Rattle.kernel_types.specs.Sweep.{sweep}
use Rattle.kernel_types.specs.Tables.{entry_at, table_of}
use Rattle.kernel_types.specs.Threads.{running_activity, with_activity}
use Rattle.kernel_laws.proofs.Starts.{same_ended, same_idle, same_started}
use Rattle.kernel_laws.specs.Numbers.{RisesFrom}
use Rattle.set_laws.specs.Chains.{HasMember}
use Rattle.set_laws.proofs.Circles.{openings_short}
use Rattle.set_laws.proofs.Adding.{added_keeps_short, membership_before}
use Rattle.set_laws.proofs.Deepening.{small_shrinks, swept_shrinks}
use Rattle.set_laws.proofs.Lists.{IfThere}
use Rattle.set_laws.proofs.Shrinking.{Deep, deep_by, deep_new_set, shrinking_same}
use Rattle.step_laws.specs.SmallChanges.{after}
use Rattle.step_laws.specs.Walks.{CoreChange, MayJoin, Row, ThreadChange, after_core, after_thread}
use Rattle.step_laws.specs.Walks.CoreChange.{app_served, by_call, by_small, end_bridged, end_unbridged, objects_swept, time_passed, wait_over}
use Rattle.step_laws.specs.Walks.Row.{goes_on, stays}
use Rattle.step_laws.specs.Walks.ThreadChange.{app_over, app_started, member_added, set_made, thread_over, wait_begun}
use Rattle.step_laws.proofs.Invariants.{Invariant, holds_along}
use Rattle.step_laws.proofs.Rows.{row_keeps}
use Rattle.count_laws.specs.Thinning.{NamedThere}
use Rattle.set_laws.proofs.Known.{entry_known}
use Rattle.name_laws.proofs.There.{There, apart_there, change_there, histories_there, resumed_there, served_there}
use Rattle.fit_laws.specs.Fitting.{FittingCore}
use Rattle.fit_laws.specs.Sweeps.{BeforeSweep, BeforeSweeps, IsCountable, IsReady}
use Rattle.fit_laws.proofs.Looks.{rises_end}
use Rattle.fit_laws.proofs.Meeting.{fitting_fits}
use Rattle.fit_laws.proofs.Ranking.{fitting_ranked}
use Rattle.fit_laws.proofs.Steps.{change_fits, histories_fit, same_fits}

-- Chains of sets stay short.

same_deep : (c d : CoreState) → (d.objects ≡ c.objects) × (d.next ≡ c.next) → Deep c → Deep d
same_deep c d same k = deep_by c d (shrinking_same c d same) k

joined_deep : (c : CoreState) → Deep c → (id : ℕ) (set : HandleSet) (m : Member) → MayJoin c id set m.object m.label → m.object < c.next → Deep (set_changed (with_member m) id c)
joined_deep c k id set m may below = record {
  short = added_keeps_short c.objects id m k.short (ap (λ (o : Option HandleSet). is_some o) may.there) may.apart may.shallow;
  given = λ a b holds. elim (membership_before c.objects id m a b holds) [ inl was ↦ k.given a b was | inr new ↦ omega (arith, new.1, below) ];
}

-- what is there has a number that was given
there_below : (low : ℕ) (objects : List Object) (high n : ℕ) → RisesFrom low objects high → is_there objects n ≡ true → n < high
there_below low [] high n rises there = absurd (cc)
there_below low (object ∷ objects) high n rises there =
    let P : Bool → Type 0 = λ b. (object.id == n) ≡ b → (b || is_there objects n) ≡ true → n < high in
    let go : (b : Bool) → P b = λ b. elim b as (λ v. P v) [
      | true ↦ (λ e h. let same : object.id ≡ n = grind (arith, tests) in let end : object.id + 1 ≤ high = rises_end (object.id + 1) objects high rises.1 in omega (arith, end, same))
      | false ↦ (λ e h. there_below (object.id + 1) objects high n rises.1 h)
    ] in
    go (object.id == n) refl there

-- All of it together.

pub deep_of : (c : CoreState) → IsCountable c → Deep c
deep_of c k = record { short = k.short; given = k.given }

pub countable_by : (c : CoreState) → FittingCore c → NamedThere c → Deep c → IsCountable c
countable_by c fits there deep = record { fits = fits; there = there; short = deep.short; given = deep.given }

held_below : (c : CoreState) → FittingCore c → NamedThere c → (app handle : ℕ) (entry : TableEntry) → entry_at (table_of c app) handle ≡ Some entry → entry.object < c.next
held_below c fits there app handle entry held =
    let known : IfThere (λ (e : TableEntry). There c.objects e.object) (entry_at (table_of c app) handle) = entry_known (There c.objects) (There c.objects) c (apart_there c there) app handle in
    there_below 0 c.objects c.next entry.object fits.rises (subst (λ o. IfThere (λ (e : TableEntry). There c.objects e.object) o) held known)

call_deep : (app thread : ℕ) (asked : Call) (said : Answer) (c : CoreState) → IsCountable c → (change : ThreadChange app thread asked said c) → Deep (after_thread app thread asked said c change)
call_deep app thread asked said c k (set_made is made room) =
    let more : Deep (added (body.Set (record { members = [] })) c) = deep_new_set c (deep_of c k) in
    record { short = more.short; given = more.given }
call_deep app thread asked said c k (member_added held handle mask cookie id set entry is here may) =
    joined_deep c (deep_of c k) id set (new_member handle entry.object mask cookie) may
    (held_below c k.fits k.there app handle entry here)
call_deep app thread asked said c k (wait_begun on awaits goes is) = record { short = k.short; given = k.given }
call_deep app thread asked said c k (app_started place was found still connects) = same_deep c (started place c) (same_started place c) (deep_of c k)
call_deep app thread asked said c k (thread_over ends) = record { short = k.short; given = k.given }
call_deep app thread asked said c k (app_over ends) = same_deep c (application_ended app c) (same_ended app c) (deep_of c k)

change_deep : (asked : Option Call) (c : CoreState) → IsCountable c → (change : CoreChange asked c) → Deep (after_core asked c change)
change_deep asked c k (by_small by made change) = deep_by c (after by c change) (small_shrinks by c change) (deep_of c k)
change_deep asked c k (by_call app thread begun said is change) = call_deep app thread begun said c k change
change_deep asked c k (wait_over thread start found wait there waited) = record { short = k.short; given = k.given }
change_deep asked c k (app_served place was there still) = same_deep c (started place c) (same_started place c) (deep_of c k)
change_deep asked c k (end_bridged end given) = record { short = k.short; given = k.given }
change_deep asked c k (end_unbridged end) = record { short = k.short; given = k.given }
change_deep asked c k (time_passed deadline) = same_deep c (core_idle deadline c) (same_idle c deadline) (deep_of c k)
change_deep asked c k objects_swept = deep_by c (sweep c) (swept_shrinks c) (deep_of c k)

pub change_countable : (asked : Option Call) (c : CoreState) → IsCountable c → (change : CoreChange asked c) → IsCountable (after_core asked c change)
change_countable asked c k change = countable_by (after_core asked c change) (change_fits asked c change k.fits) (change_there asked c change k.there) (change_deep asked c k change)

pub ready : (c : CoreState) → IsCountable c → IsReady c
ready c k = record { fit = fitting_fits c k.fits; ranked = fitting_ranked c k.fits k.short; there = k.there }

pub swept_countable : (c : CoreState) → IsCountable c → IsCountable (sweep c)
swept_countable c k = change_countable None c k objects_swept

-- At each sweep of a row.

before_sweep : (asked : Option Call) (c : CoreState) → IsCountable c → (change : CoreChange asked c) → BeforeSweep IsReady asked c change
before_sweep asked c k objects_swept = ready c k
before_sweep asked c k (by_small by made change) = tt
before_sweep asked c k (by_call app thread begun said is change) = tt
before_sweep asked c k (wait_over thread start found wait there waited) = tt
before_sweep asked c k (app_served place was there still) = tt
before_sweep asked c k (end_bridged end given) = tt
before_sweep asked c k (end_unbridged end) = tt
before_sweep asked c k (time_passed deadline) = tt

pub row_countable : (asked : Option Call) (c d : CoreState) → IsCountable c → Row (CoreChange asked) (after_core asked) c d → IsCountable d
row_countable asked c d k row = row_keeps (CoreChange asked) (after_core asked) IsCountable (λ b well change. change_countable asked b well change) c d row k

pub before_sweeps : (asked : Option Call) (c d : CoreState) → IsCountable c → (row : Row (CoreChange asked) (after_core asked) c d) → BeforeSweeps IsReady asked c d row
before_sweeps asked c d k (stays _ is) = tt
before_sweeps asked c d k (goes_on _ b row change is) = (before_sweep asked b (row_countable asked c b k row) change, before_sweeps asked c b k row)

-- Histories.

pub well : Invariant
well = record {
  holds = IsCountable;
  small = λ by c k made change. change_countable None c k (by_small by made change);
  call = λ app thread asked said c k change. change_countable (Some asked) c k (by_call app thread asked said refl change);
  resumed = λ thread c k. countable_by (with_activity running_activity thread c) k.fits (resumed_there thread c k.there) (record { short = k.short; given = k.given });
  served = λ place c k. countable_by (started place c) (same_fits c (started place c) (same_started place c) k.fits) (served_there place c k.there)
      (same_deep c (started place c) (same_started place c) (deep_of c k));
  bridged = λ end c k given. change_countable None c k (end_bridged end given);
  unbridged = λ end c k. change_countable None c k (end_unbridged end);
  passed = λ deadline c k. change_countable None c k (time_passed deadline);
  swept = λ c k. change_countable None c k objects_swept;
}

no_member : (a b : ℕ) → HasMember [] a b → b < 0
no_member a b holds = absurd (cc)

opening_deep : (scene : SceneValue) → Deep (opening scene).core
unfolding opening
opening_deep scene = record { short = openings_short scene; given = no_member }

pub opening_countable : (scene : SceneValue) → IsCountable (opening scene).core
opening_countable scene = countable_by (opening scene).core (histories_fit scene []) (histories_there scene []) (opening_deep scene)

pub histories_countable : (scene : SceneValue) (entries : List Entry) → IsCountable (state_after (opening scene) entries).core
unfolding well
histories_countable scene entries = holds_along well (opening scene) entries (opening_countable scene)

pub histories_ready : (scene : SceneValue) (entries : List Entry) (asked : Option Call) (d : CoreState) (row : Row (CoreChange asked) (after_core asked) (state_after (opening scene) entries).core d)
    → BeforeSweeps IsReady asked (state_after (opening scene) entries).core d row
histories_ready scene entries asked d row = before_sweeps asked (state_after (opening scene) entries).core d (histories_countable scene entries) row
