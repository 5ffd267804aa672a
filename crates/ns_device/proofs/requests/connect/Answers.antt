use Rattle.std.proofs.Common.{◌∙◌, ap}
use Rattle.kernel_types.specs.Device.{free_secure}
use Rattle.ns_device.proofs.Inserted.{connect_is}
use Rattle.ns_device.proofs.requests.connect.Goals as goal

pub returns-in-Ok-clause-done : goal.returns-in-Ok-clause-done
returns-in-Ok-clause-done g c =
    connect_is _ _ c.args.device.now c.args.src c.in-Ok.end.0 c.free_secure.result c.in_ok-entries.place _ _ c.args.path.now c.in_ok-entries.entries c.set_end.new.entries
    (c.free_secure.ensures ∙ ap free_secure c.as_slice.ensures) c.in_ok-entries.ensures.entries c.in_ok-entries.ensures.place c.set_end.ensures c.in-Ok.ensures.ok
