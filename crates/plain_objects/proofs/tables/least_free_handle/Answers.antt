use Rattle.kernel_types.specs.Tables.{free_handle}
use Rattle.plain_objects.specs.Counting.{free_below}
use Rattle.plain_objects.proofs.tables.least_free_handle.Goals as goal

pub returns : goal.returns
unfolding free_handle free_below
returns c = c.free_handle_below.ensures
