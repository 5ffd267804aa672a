use Rattle.std.proofs.Common.{rules, ◌≤◌, ◌+◌}
use Rattle.object_store.specs.Stock.{total_names}
use Rattle.counted_core.specs.Sending.{named_more}
use Rattle.counted_core.proofs.Naming.{More, name_one}
use Rattle.counted_core.proofs.pushes.+name_all.Goals as goal

pub name_all-requires : goal.name_all-requires
name_all-requires t c =
    let more : More 0 c.args.store.now.next c.key_of.result.serial c.args.store.now.items = name_one 0 c.args.store.now.next c.key_of.result.serial c.args.store.now.items c.sound.ensures in
    let total : total_names (named_more c.args.store.now.items c.key_of.result.serial) ≤ total_names c.args.store.now.items + 1 = more.total in
    let least : total_names c.name.new.self.items ≤ total_names c.args.store.now.items + 1 = rw c.name.ensures total in
    search rules
