use Rattle.std.proofs.Common.{length}
use Rattle.plain_objects.proofs.installs.+install_all_in.Given as goal

abbrev pub decreases-install_all_in : goal.decreases-install_all_in
decreases-install_all_in l = length l.objects.now
