use Rattle.std.proofs.Common.{◌∙◌, ap, map, replicate}
use Rattle.runners.specs.Places.{first_place}
use Rattle.runners.proofs.Counts.{counted_new}
use Rattle.runners.proofs.Starting.{sound_new}
use Rattle.runners.proofs.shared.Shared.new.Goals as goal

pub invariant_of-result : goal.invariant_of-result
invariant_of-result g c = record {
  sound = sound_new c.args.scene.now c.in-Ok.scripts c.in-Ok-places_of.places.items c.new-2.result c.is_lawful.ensures c.in-Ok.ensures.scripts c.in-Ok.ensures.few
      (c.in-Ok-places_of.ensures ∙ ap (λ scripts. map first_place scripts) c.as_slice.ensures) (c.new-2.ensures.state ∙ c.requires.state) (c.new-2.ensures.made ∙ c.requires.made) c.new-2.ensures.entries;
  counted = counted_new c.in-Ok.scripts c.in-Ok-none_answered.counts.items c.new-2.result
      (c.in-Ok-none_answered.ensures ∙ ap (λ many. replicate many 0) c.len.ensures) c.new-2.ensures.entries;
}
