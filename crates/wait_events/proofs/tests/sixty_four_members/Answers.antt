use Rattle.std.proofs.Common.{sym, subst}
use Rattle.handle_set.specs.Sets.{CanHave}
use Rattle.wait_events.proofs.Filling.{can_have}
use Rattle.wait_events.proofs.tests.sixty_four_members.Goals as goal

pub changed-requires : goal.changed-requires
changed-requires g c = subst (λ n. CanHave c.fill.new.sets.sets n (record { 0 = 8 })) (sym c.key-last.ensures) (can_have c.fill.new.sets.sets 63 (record { 0 = 8 }) c.fill.ensures)
