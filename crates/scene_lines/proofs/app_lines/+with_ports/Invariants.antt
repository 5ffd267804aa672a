use Rattle.std.proofs.Common.{length}
use Rattle.scene_lines.proofs.app_lines.+with_ports.Given as goal

abbrev pub decreases-with_ports : goal.decreases-with_ports
decreases-with_ports l = length l.ports.now
