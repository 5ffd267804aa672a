use Rattle.std.proofs.Common.{subst, sym, ◌<◌, arith}
use Rattle.history_check.proofs.Lined.{behind_fewer}
use Rattle.history_check.proofs.Taken.{limit_is, opening_fits}
use Rattle.kernel_types.specs.Kernel.{step_limit}
use Rattle.history_check.specs.Verdicts.{line_count}
use Rattle.history_check.proofs.check.check_text.Goals as goal

pub check_entries-checked-requires-clause-fit : goal.check_entries-checked-requires-clause-fit
check_entries-checked-requires-clause-fit g c = opening_fits c.args.scene.now c.in-Ok.actors _ c.is_lawful.ensures c.in-Ok.ensures c.requires.state

pub check_entries-checked-requires-clause-lines : goal.check_entries-checked-requires-clause-lines
check_entries-checked-requires-clause-lines g c = subst (λ bytes. line_count bytes < step_limit) (sym c.first_line.ensures.behind) (behind_fewer c.args.text.now step_limit (omega (arith, limit_is)) c.requires.lines)
