-- Of a command without threads what was done is the run of its plan; a run by threads has none.
use Rattle.std.proofs.Common.{map, string_bytes}
use Rattle.command_line.specs.Commands.{command_in}
use Rattle.trusty_main.specs.Plans.{plain_in}
use Rattle.trusty_main.proofs.Commanding.{done_plain}
use Rattle.trusty_main.proofs.trusty.trusty.Goals as goal

pub returns-in-None-clause-done : goal.returns-in-None-clause-done
unfolding plain_in
returns-in-None-clause-done g c = λ is. done_plain (command_in (map string_bytes c.args.words.now)) _ _ _ _ (c.trusty_plain.ensures.told is) (c.trusty_plain.ensures.reported is)
