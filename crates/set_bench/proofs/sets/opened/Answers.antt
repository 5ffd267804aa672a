use Rattle.std.proofs.Common.{◌∙◌, ap, sym}
use Rattle.handle_set.specs.Sets.{Memberships, is_member}
use Rattle.set_bench.proofs.Opened.{none_of, none_still, shut}
use Rattle.set_bench.proofs.sets.opened.Goals as goal
use Rattle.set_bench.proofs.sets.opened.Goals.{then-is_none+in_ok-open_set, else-is_none}

pub open_set-requires-clause-new : goal.open_set-requires-clause-new
open_set-requires-clause-new c = shut c.loop-serial.sets.sets c.key-set.result.serial (sym c.ready.ensures ∙ none_of c.ready.result c.if-is_none.ensures)

pub loop-serial-preserved : goal.loop-serial-preserved
loop-serial-preserved c object = elim c.if-is_none.branch [
  | then-is_none+in_ok-open_set w ↦ ap (λ (s : Memberships). is_member s.sets object) w.sets-is ∙ none_still c.loop-serial.sets.sets w.open_set.new.self.sets c.key-set.result.serial c.loop-serial.invariant w.in_ok-open_set.ensures.opened object
  | else-is_none w ↦ ap (λ (s : Memberships). is_member s.sets object) w.sets-is ∙ c.loop-serial.invariant object
]
