-- The changes of one end that leave which objects its messages name.
use Rattle.kernel_values.specs.declared.state.ChannelEnd.{ChannelEnd}
use Rattle.kernel_types.specs.Bridge.{with_error}
use Rattle.kernel_types.specs.Connects.{accepted_end, unready}
use Rattle.kernel_types.specs.Messages.{blocked_end, unblocked_end, with_opened}
use Rattle.kernel_types.specs.Reports.{reported_end}
use Rattle.counted_core.specs.declared.ends.EndChange.{EndChange}
use Rattle.counted_core.specs.declared.ends.EndChange.TheVariants as change

abbrev pub end_after : EndChange → ChannelEnd → ChannelEnd
end_after change.Block = blocked_end
end_after change.Unblock = unblocked_end
end_after change.Decide = unready
end_after (change.Report events) = reported_end events.0
end_after change.Fail = with_error
end_after (change.Accept ready) = accepted_end ready
end_after (change.Open id) = with_opened id
