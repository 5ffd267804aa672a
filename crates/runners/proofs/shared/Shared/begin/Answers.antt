use Rattle.std.proofs.Common.{List, sym, ◌∙◌, ap, subst}
use Rattle.std.specs.Prelude.{slice_set}
use Rattle.kernel_values.specs.declared.entry.ActorStatus.TheVariants as status
use Rattle.kernel_values.specs.declared.entry.Event.TheVariants as event
use Rattle.runners.specs.Places.{Sound}
use Rattle.runners.specs.Runs.{ScriptedRun}
use Rattle.runners.specs.declared.place.Place.{Place}
use Rattle.runners.proofs.Stepping.{set_set}
use Rattle.runners.proofs.Counts.{counted_step, other_is, self_is}
use Rattle.runners.proofs.Turning.{Stands, counts_room, may_step, over_call, sound_call, stands_running, status_here, taken_call, within}
use Rattle.runners.proofs.shared.Shared.begin.Goals as goal

pub invariant_of-self-in_err-call : goal.invariant_of-self-in_err-call
invariant_of-self-in_err-call g c =
    let s : Stands c.args.self.now c.self.inside.scripts (slice_set c.self.inside.places.items c.args.actor c.start_anew.new.self) c.self.inside.logged c.args.actor c.args.start c.start_anew.new.self (status.Running c.args.start) =
    stands_running c.args.self.now c.self.inside.scripts c.self.inside.places.items c.self.inside.logged c.args.actor c.args.start c.in-Some.script.now c.index_mut-place.result.now c.start_anew.new.self (sym c.self.view_is)
    c.self.invariant.sound c.legal.ensures.legal c.requires.runs (sym c.in-Some.ensures) c.index_mut-place.ensures.value c.in_ok-start_anew.ensures.anew in
    record { sound = s.sound; counted = c.self.invariant.counted }

pub invariant_of-self-in_default-2 : goal.invariant_of-self-in_default-2
invariant_of-self-in_default-2 g c =
    let s : Stands c.args.self.now c.self.inside.scripts (slice_set c.self.inside.places.items c.args.actor c.start_anew.new.self) c.self.inside.logged c.args.actor c.args.start c.start_anew.new.self (status.Running c.args.start) =
    stands_running c.args.self.now c.self.inside.scripts c.self.inside.places.items c.self.inside.logged c.args.actor c.args.start c.in-Some.script.now c.index_mut-place.result.now c.start_anew.new.self (sym c.self.view_is)
    c.self.invariant.sound c.legal.ensures.legal c.requires.runs (sym c.in-Some.ensures) c.index_mut-place.ensures.value c.in_ok-start_anew.ensures.anew in
    record { sound = s.sound; counted = c.self.invariant.counted }

pub returns-in_default-2-clause-taken : goal.returns-in_default-2-clause-taken
returns-in_default-2-clause-taken g c =
    let s : Stands c.args.self.now c.self.inside.scripts (slice_set c.self.inside.places.items c.args.actor c.start_anew.new.self) c.self.inside.logged c.args.actor c.args.start c.start_anew.new.self (status.Running c.args.start) =
    stands_running c.args.self.now c.self.inside.scripts c.self.inside.places.items c.self.inside.logged c.args.actor c.args.start c.in-Some.script.now c.index_mut-place.result.now c.start_anew.new.self (sym c.self.view_is)
    c.self.invariant.sound c.legal.ensures.legal c.requires.runs (sym c.in-Some.ensures) c.index_mut-place.ensures.value c.in_ok-start_anew.ensures.anew in (
      over_call c.args.self.now c.self.inside.scripts (slice_set c.self.inside.places.items c.args.actor c.start_anew.new.self) c.self.inside.logged c.args.actor c.args.start c.start_anew.new.self s
          (sym c.in_ok-call.ensures ∙ c.in_default-2.is),
      ap (λ (t : ScriptedRun). t.history) c.self.view_is,
    )

pub step_of-requires-clause-room : goal.step_of-requires-clause-room
step_of-requires-clause-room g c = may_step c.args.self.now c.self.inside.scripts c.self.inside.places.items c.self.inside.logged (sym c.self.view_is) c.self.invariant.sound c.requires.room

pub invariant_of-self-2 : goal.invariant_of-self-2
invariant_of-self-2 g c =
    let s : Stands c.args.self.now c.self.inside.scripts (slice_set c.self.inside.places.items c.args.actor c.start_anew.new.self) c.self.inside.logged c.args.actor c.args.start c.start_anew.new.self (status.Running c.args.start) =
    stands_running c.args.self.now c.self.inside.scripts c.self.inside.places.items c.self.inside.logged c.args.actor c.args.start c.in-Some.script.now c.index_mut-place.result.now c.start_anew.new.self (sym c.self.view_is)
    c.self.invariant.sound c.legal.ensures.legal c.requires.runs (sym c.in-Some.ensures) c.index_mut-place.ensures.value c.in_ok-start_anew.ensures.anew in
    record {
      sound = subst (λ (places : List Place). Sound c.self.inside.scripts places c.step_of.new.logged) (set_set c.self.inside.places.items c.args.actor c.start_anew.new.self c.step_of.new.place)
          (sound_call c.step_of.result c.args.self.now c.self.inside.scripts (slice_set c.self.inside.places.items c.args.actor c.start_anew.new.self) c.self.inside.logged c.step_of.new.logged c.args.actor c.args.start
          c.start_anew.new.self c.step_of.new.place c.in-Some-2.call s c.requires.room (sym c.in_ok-call.ensures ∙ c.in-Some-2.is) c.step_of.ensures.made c.step_of.ensures.log c.step_of.ensures.place);
      counted = counted_step c.step_of.result c.self.inside.scripts c.self.inside.counts.items c.step_of.new.counts.items c.self.inside.logged c.step_of.new.logged
          (event.Begin (record { 0 = c.args.actor }) c.args.start c.in-Some-2.call) c.args.actor c.start_anew.new.self c.step_of.new.place c.self.invariant.counted
          (within c.self.inside.scripts c.self.inside.places.items c.self.inside.counts.items c.self.inside.logged c.args.actor (status.Running c.args.start) c.self.invariant s.status_is)
          (self_is c.args.actor) (λ other apart. other_is c.args.actor other apart) c.step_of.ensures.made c.step_of.ensures.counted c.step_of.ensures.log c.step_of.ensures.stays;
    }

pub step_of-requires-clause-within : goal.step_of-requires-clause-within
step_of-requires-clause-within g c =
    within c.self.inside.scripts c.self.inside.places.items c.self.inside.counts.items c.self.inside.logged c.args.actor (status.Running c.args.start) c.self.invariant
    (status_here c.args.self.now c.self.inside.scripts c.self.inside.logged c.args.actor (status.Running c.args.start) (sym c.self.view_is) c.requires.runs)

pub step_of-requires-clause-counts : goal.step_of-requires-clause-counts
step_of-requires-clause-counts g c =
    counts_room c.args.self.now c.self.inside.scripts c.self.inside.places.items c.self.inside.counts.items c.self.inside.logged c.args.actor (status.Running c.args.start) (sym c.self.view_is) c.self.invariant
    c.requires.runs c.requires.room

pub returns-clause-taken : goal.returns-clause-taken
returns-clause-taken g c =
    let s : Stands c.args.self.now c.self.inside.scripts (slice_set c.self.inside.places.items c.args.actor c.start_anew.new.self) c.self.inside.logged c.args.actor c.args.start c.start_anew.new.self (status.Running c.args.start) =
    stands_running c.args.self.now c.self.inside.scripts c.self.inside.places.items c.self.inside.logged c.args.actor c.args.start c.in-Some.script.now c.index_mut-place.result.now c.start_anew.new.self (sym c.self.view_is)
    c.self.invariant.sound c.legal.ensures.legal c.requires.runs (sym c.in-Some.ensures) c.index_mut-place.ensures.value c.in_ok-start_anew.ensures.anew in
    taken_call c.step_of.result c.args.self.now c.self.inside.scripts (slice_set c.self.inside.places.items c.args.actor c.start_anew.new.self) c.self.inside.logged c.step_of.new.logged c.args.actor c.args.start
    c.start_anew.new.self c.step_of.new.place c.in-Some-2.call s (sym c.in_ok-call.ensures ∙ c.in-Some-2.is) c.step_of.ensures.made
