use Rattle.std.proofs.Common.{sym}
use Rattle.kernel_values.specs.declared.entry.ActorStatus.TheVariants as status
use Rattle.kernel_values.specs.declared.entry.Event.TheVariants as event
use Rattle.runners.proofs.Counts.{counted_step, other_is, self_is}
use Rattle.runners.proofs.Turning.{Stands, counts_room, may_step, sound_resume, stands_waiting, status_here, taken_resume, within}
use Rattle.runners.proofs.shared.Shared.resume.Goals as goal

pub step_of-requires-clause-room : goal.step_of-requires-clause-room
step_of-requires-clause-room g c = may_step c.args.self.now c.self.inside.scripts c.self.inside.places.items c.self.inside.logged (sym c.self.view_is) c.self.invariant.sound c.requires.room

pub invariant_of-self : goal.invariant_of-self
invariant_of-self g c =
    let s : Stands c.args.self.now c.self.inside.scripts c.self.inside.places.items c.self.inside.logged c.args.actor c.args.start c.index_mut-place.result.now (status.Waiting c.args.start) =
    stands_waiting c.args.self.now c.self.inside.scripts c.self.inside.places.items c.self.inside.logged c.args.actor c.args.start c.index_mut-place.result.now (sym c.self.view_is) c.self.invariant.sound
    c.legal.ensures.legal c.requires.waits c.index_mut-place.ensures.value in
    record {
      sound = sound_resume c.step_of.result c.args.self.now c.self.inside.scripts c.self.inside.places.items c.self.inside.logged c.step_of.new.logged c.args.actor c.args.start c.index_mut-place.result.now c.step_of.new.place
          s c.requires.room c.step_of.ensures.made c.step_of.ensures.log c.step_of.ensures.place;
      counted = counted_step c.step_of.result c.self.inside.scripts c.self.inside.counts.items c.step_of.new.counts.items c.self.inside.logged c.step_of.new.logged
          (event.Resume (record { 0 = c.args.actor }) c.args.start) c.args.actor c.index_mut-place.result.now c.step_of.new.place c.self.invariant.counted
          (within c.self.inside.scripts c.self.inside.places.items c.self.inside.counts.items c.self.inside.logged c.args.actor (status.Waiting c.args.start) c.self.invariant s.status_is)
          (self_is c.args.actor) (λ other apart. other_is c.args.actor other apart) c.step_of.ensures.made c.step_of.ensures.counted c.step_of.ensures.log c.step_of.ensures.stays;
    }

pub step_of-requires-clause-within : goal.step_of-requires-clause-within
step_of-requires-clause-within g c =
    within c.self.inside.scripts c.self.inside.places.items c.self.inside.counts.items c.self.inside.logged c.args.actor (status.Waiting c.args.start) c.self.invariant
    (status_here c.args.self.now c.self.inside.scripts c.self.inside.logged c.args.actor (status.Waiting c.args.start) (sym c.self.view_is) c.requires.waits)

pub step_of-requires-clause-counts : goal.step_of-requires-clause-counts
step_of-requires-clause-counts g c =
    counts_room c.args.self.now c.self.inside.scripts c.self.inside.places.items c.self.inside.counts.items c.self.inside.logged c.args.actor (status.Waiting c.args.start) (sym c.self.view_is) c.self.invariant
    c.requires.waits c.requires.room

pub returns-clause-taken : goal.returns-clause-taken
returns-clause-taken g c =
    let s : Stands c.args.self.now c.self.inside.scripts c.self.inside.places.items c.self.inside.logged c.args.actor c.args.start c.index_mut-place.result.now (status.Waiting c.args.start) =
    stands_waiting c.args.self.now c.self.inside.scripts c.self.inside.places.items c.self.inside.logged c.args.actor c.args.start c.index_mut-place.result.now (sym c.self.view_is) c.self.invariant.sound
    c.legal.ensures.legal c.requires.waits c.index_mut-place.ensures.value in
    taken_resume c.step_of.result c.args.self.now c.self.inside.scripts c.self.inside.places.items c.self.inside.logged c.step_of.new.logged c.args.actor c.args.start c.index_mut-place.result.now c.step_of.new.place
    s c.step_of.ensures.made
