-- A send as far as its parts.
use Rattle.std.specs.Prelude.{ℕ, List, Option, Some, None, length, nat_lt, if◌then◌else◌}
use Rattle.kernel_values.specs.declared.errno.Errno.TheVariants as errno
use Rattle.kernel_values.specs.declared.state.ChannelEnd.{ChannelEnd}
use Rattle.kernel_values.specs.declared.state.CoreState.{CoreState}
use Rattle.kernel_values.specs.declared.state.TableEntry.{TableEntry}
use Rattle.kernel_types.specs.Events.{is_disconnected}
use Rattle.kernel_types.specs.Messages.{is_unconnected, part_limit, send_parts}
use Rattle.kernel_types.specs.Outcome.{Outcome, refuses}

-- a send whose parts are not looked into
unfoldable pub send_with_parts : CoreState → ℕ → List TableEntry → Option ℕ → List ℕ → List ℕ → Outcome
send_with_parts c id table peer bytes parts = send_parts c id table peer bytes parts

-- `send` from an end, as far as its parts
abbrev pub send_by_end : CoreState → ℕ → List TableEntry → List ℕ → List ℕ → Option ChannelEnd → Outcome
send_by_end c id table bytes parts None = refuses errno.InvalidArgs c
send_by_end c id table bytes parts (Some end) =
    (if nat_lt part_limit (length parts) then refuses errno.InvalidArgs c
    else if is_unconnected end.state then refuses errno.NotReady c
    else if is_disconnected end.state then refuses errno.ChannelClosed c
    else if nat_lt end.size (length bytes) then refuses errno.TooBig c
    else send_with_parts c id table end.peer bytes parts)
