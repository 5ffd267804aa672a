-- Every step keeps names given and states sound, so every history does.
use Rattle.std.proofs.Common.{◌≡◌, ◌<◌, ℕ, ◌+◌, ◌++◌, ◌==◌, true, false, cond, List, [], ◌∷◌, map, Option, Some, None, refl, arith}
use Rattle.std.specs.List.{AllByRecursion, enumerate_from, flat_map}
use Rattle.std.proofs.lemmas.List.Elements.{All-from_recursion, recursion_from_All}
use Rattle.kernel_values.specs.SceneLaw.{SceneValue}
use Rattle.kernel_values.specs.declared.entry.Entry.{Entry}
use Rattle.kernel_values.specs.declared.entry.Event.{Event}
use Rattle.kernel_values.specs.declared.scene.App.{App}
use Rattle.kernel_values.specs.declared.scene.Manifest.{Manifest}
use Rattle.kernel_values.specs.declared.state.Activity.TheVariants as activity
use Rattle.kernel_values.specs.declared.state.Application.{Application}
use Rattle.kernel_values.specs.declared.state.CoreState.{CoreState}
use Rattle.kernel_values.specs.declared.state.HandleSet.{HandleSet}
use Rattle.kernel_values.specs.declared.state.Member.{Member}
use Rattle.kernel_values.specs.declared.state.Object.{Object}
use Rattle.kernel_values.specs.declared.state.State.{State}
use Rattle.kernel_values.specs.declared.state.TableEntry.{TableEntry}
use Rattle.kernel_values.specs.declared.state.Thread.{Thread}
use Rattle.kernel_types.specs.History.{Legal, next_state, state_after, state_or}
use Rattle.kernel_types.specs.Names.{Name, activity_names, held_by, named_in, naming, object_names, root, table_names, wait_names}
use Rattle.kernel_types.specs.Objects.{set_of}
use Rattle.kernel_types.specs.Opening.{opening, opening_activity, opening_app, opening_core, opening_threads}
use Rattle.kernel_types.specs.Reach.{is_in}
use Rattle.kernel_types.specs.Sets.{members_of}
use Rattle.kernel_types.specs.Step.{Stepped, step}
use Rattle.kernel_types.specs.Tables.{table_of}
use Rattle.kernel_laws.specs.Numbers.{HasRisingNumbers}
use Rattle.kernel_laws.proofs.Rising.{steps_rise}
use Rattle.kernel_laws.proofs.Within.{all_find}
use Rattle.set_laws.specs.Chains.{ChainFrom, NamesGivenNumbers}
use Rattle.set_laws.specs.Soundness.{IsSound, NamesAreGiven}
use Rattle.set_laws.proofs.Circles.{no_circle, openings_short}
use Rattle.set_laws.proofs.Counting.{first_or_later}
use Rattle.set_laws.proofs.Deepening.{steps_keep_short}
use Rattle.set_laws.proofs.Lists.{IfThere, all_appended, all_first, all_flat, all_last, all_mapped, all_unflat, all_unmapped, all_weaker}
use Rattle.set_laws.proofs.Known.{KnowsMembers, KnowsNames, KnowsTable, set_known, table_known}
use Rattle.set_laws.proofs.Known.{apart as apart_known, together as together_known}
use Rattle.set_laws.proofs.Naming.{Given}
use Rattle.set_laws.proofs.NamingChanges.{walk_names}
use Rattle.step_laws.proofs.Steps.{steps_walk}

-- The entries that name objects, as one list and by where they stand.

module _ (c : CoreState) where
  abbrev IsGiven : Name → Type 0
  IsGiven name = name.object < c.next

  pub apart : NamesAreGiven c → Given c
  apart given = apart_known (λ x. x < c.next) c (recursion_from_All IsGiven (naming c) given)

  pub together : Given c → NamesAreGiven c
  together k = All-from_recursion IsGiven (naming c) (together_known (λ x. x < c.next) c k)

-- What chains of sets need of it.

in_members : (n b : ℕ) (ms : List Member) → KnowsMembers (λ x. x < n) ms → is_in (map (λ member. member.object) ms) b ≡ true → b < n
in_members n b [] all is = absurd (cc)
in_members n b (m ∷ ms) all is =
    first_or_later m.object (map (λ member. member.object) ms) b (b < n) is (λ same. omega (arith, same, all.0)) (λ more. in_members n b ms all.1 more)

in_set : (n b : ℕ) (o : Option HandleSet) → IfThere (λ (set : HandleSet). KnowsMembers (λ x. x < n) set.members) o → is_in (members_of o) b ≡ true → b < n
in_set n b None all is = absurd (cc)
in_set n b (Some set) all is = in_members n b set.members all is

pub given_numbers : (c : CoreState) → Given c → NamesGivenNumbers c
given_numbers c k = record {
  entries = λ app handle entry is. all_find (λ (e : TableEntry). e.object < c.next) (λ e. e.handle == handle) (table_of c app) (table_known (λ x. x < c.next) (λ x. x < c.next) c k app) entry is;
  members = λ set member holds. in_set c.next member (set_of c.objects set) (set_known (λ x. x < c.next) (λ x. x < c.next) c k set) holds;
}

-- Openings.

opened_tables : (apps : List App) → AllByRecursion (λ (a : Application). KnowsTable (λ x. x < 0) a.table) (map opening_app apps)
opened_tables [] = tt
opened_tables (app ∷ apps) = (tt, opened_tables apps)

opened_activity : (manifest : Manifest) → KnowsNames (λ x. x < 0) (activity_names (opening_activity manifest))
opened_activity manifest =
    elim manifest.deferred as (λ b. KnowsNames (λ x. x < 0) (activity_names (cond b activity.Off (activity.Running 1)))) [ true ↦ tt | false ↦ tt ]

abbrev WaitsForNothing : Thread → Type 0
WaitsForNothing t = KnowsNames (λ x. x < 0) (activity_names t.activity)

opened_scripts : {X : Type 0} (place : ℕ) (manifest : Manifest) (scripts : List X)
    → AllByRecursion WaitsForNothing (map (λ script. record { app = place; activity = opening_activity manifest }) scripts)
opened_scripts place manifest [] = tt
opened_scripts place manifest (script ∷ scripts) = (opened_activity manifest, opened_scripts place manifest scripts)

opened_threads : (place : ℕ) (apps : List App) → AllByRecursion WaitsForNothing (flat_map opening_threads (enumerate_from place apps))
opened_threads place [] = tt
opened_threads place (app ∷ apps) =
    all_appended WaitsForNothing (opening_threads (place, app)) (flat_map opening_threads (enumerate_from (place + 1) apps)) (opened_scripts place app.manifest app.threads) (opened_threads (place + 1) apps)

pub openings_given : (scene : SceneValue) → NamesAreGiven (opening scene).core
unfolding opening
openings_given scene = together (opening_core scene.apps) (record {
  tables = opened_tables scene.apps;
  bridged = tt;
  waits = opened_threads 0 scene.apps;
  objects = tt;
})

opening_rises : (scene : SceneValue) → HasRisingNumbers (opening scene)
unfolding opening
opening_rises scene = omega arith

pub openings_sound : (scene : SceneValue) → IsSound (opening scene)
openings_sound scene = record { rising = opening_rises scene; given = openings_given scene; chains = openings_short scene }

-- Steps.

pub steps_keep_given : (s : State) (e : Event) (r : Stepped) → NamesAreGiven s.core → step s e ≡ Some r → NamesAreGiven r.state.core
steps_keep_given s e r given is = together r.state.core (walk_names s.core r.state.core (steps_walk s e r is) (apart s.core given))

pub steps_keep_sound : (s : State) (e : Event) (r : Stepped) → IsSound s → step s e ≡ Some r → IsSound r.state
steps_keep_sound s e r sound is = record {
  rising = steps_rise s e r sound.rising is;
  given = steps_keep_given s e r sound.given is;
  chains = steps_keep_short s e r (given_numbers s.core (apart s.core sound.given)) sound.chains is;
}

-- Histories.

sound_or : (s : State) → IsSound s → (o : Option Stepped) → ((r : Stepped) → o ≡ Some r → IsSound r.state) → IsSound (state_or s o)
sound_or s sound None keeps = sound
sound_or s sound (Some stepped) keeps = keeps stepped refl

-- where the event is not lawful, the state stays
pub next_sound : (s : State) (e : Event) → IsSound s → IsSound (next_state s e)
next_sound s e sound = sound_or s sound (step s e) (λ r is. steps_keep_sound s e r sound is)

pub histories_sound : (s : State) (entries : List Entry) → IsSound s → Legal s entries → IsSound (state_after s entries)
histories_sound s [] sound legal = sound
histories_sound s (entry ∷ entries) sound legal =
    histories_sound (next_state s entry.event) entries (next_sound s entry.event sound) legal.1

pub opened_histories_sound : (scene : SceneValue) (entries : List Entry) → Legal (opening scene) entries → IsSound (state_after (opening scene) entries)
opened_histories_sound scene entries legal = histories_sound (opening scene) entries (openings_sound scene) legal

pub never_in_itself : (scene : SceneValue) (entries : List Entry) (set : ℕ) (between : List ℕ) → Legal (opening scene) entries
    → ChainFrom (state_after (opening scene) entries).core.objects set (between ++ set ∷ []) → ⊥
never_in_itself scene entries set between legal circle =
    no_circle (state_after (opening scene) entries).core.objects set between (opened_histories_sound scene entries legal).chains circle
