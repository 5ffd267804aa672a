-- What a report of the program stands for.
use Rattle.std.specs.Prelude.{◌≡◌, ⊤, Option, Some, None}
use Rattle.kernel_values.specs.declared.reply.Reply.{Reply}
use Rattle.kernel_values.specs.declared.reply.Reply.TheVariants as reply
use Rattle.kernel_values.specs.declared.state.CoreState.{CoreState}
use Rattle.core_waits.specs.declared.reports.Report.{Report}
use Rattle.kernel_types.specs.Reports.{Reported}

abbrev pub reported : Report → CoreState → Reported
reported report c = record { handle = report.handle; events = report.events; cookie = report.cookie; core = c }

abbrev pub reported_if : Option Report → CoreState → Option Reported
reported_if None c = None
reported_if (Some report) c = Some (reported report c)

-- where nothing is reported, the state stays
abbrev pub kept_if : Option Report → CoreState → CoreState → Type 0
kept_if None old new = new ≡ old
kept_if (Some report) old new = ⊤

abbrev pub reply_of : Report → Reply
reply_of report = reply.Event report.handle (record { 0 = report.events }) report.cookie
