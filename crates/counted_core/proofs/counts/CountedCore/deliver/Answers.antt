use Rattle.std.proofs.Common.{ℕ, sym, subst, List}
use Rattle.counted_core.specs.Sending.{AllThere, held_object}
use Rattle.counted_core.proofs.Entries.{parts_there}
use Rattle.counted_core.proofs.counts.CountedCore.deliver.Goals as goal

pub add_message-requires-clause-parts : goal.add_message-requires-clause-parts
unfolding held_object
add_message-requires-clause-parts c =
    subst (λ (l : List ℕ). AllThere l c.args.self.now) (sym c.in_ok-objects.ensures) (parts_there c.args.self.now c.args.app c.args.parts.now c.sound.ensures c.requires.held)
