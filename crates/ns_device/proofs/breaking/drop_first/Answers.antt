use Rattle.std.proofs.lemmas.List.{take_rest}
use Rattle.ns_device.proofs.Names.{named_after}
use Rattle.ns_device.proofs.breaking.drop_first.Goals as goal

pub returns-clause-named : goal.returns-clause-named
returns-clause-named g c =
    rw (take_rest c.args.entries.now 1) (named_after _ _ c.args.entries.now _ c.requires.some c.ns_drop.ensures.dropped c.requires.named)
