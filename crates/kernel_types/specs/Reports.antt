-- What a wait would report now, or nothing, and the state after the report.
use Rattle.std.specs.Prelude.{ℕ, Bool, true, List, [], ◌∷◌, ◌++◌, ◌==◌, ◌&&◌, not, nat_lt, Option, Some, None, if◌then◌else◌}
use Rattle.std.specs.List.{filter, find}
use Rattle.kernel_values.specs.declared.state.Object.{Object}
use Rattle.kernel_values.specs.declared.state.ChannelEnd.{ChannelEnd}
use Rattle.kernel_values.specs.declared.state.HandleSet.{HandleSet}
use Rattle.kernel_values.specs.declared.state.Member.{Member}
use Rattle.kernel_values.specs.declared.state.TableEntry.{TableEntry}
use Rattle.kernel_values.specs.declared.state.Application.{Application}
use Rattle.kernel_values.specs.declared.state.WaitOn.{WaitOn}
use Rattle.kernel_values.specs.declared.state.WaitOn.TheVariants as wait_on
use Rattle.kernel_values.specs.declared.state.CoreState.{CoreState}
use Rattle.kernel_values.specs.declared.reply.Reply.{Reply}
use Rattle.kernel_values.specs.declared.reply.Reply.TheVariants as reply
use Rattle.kernel_types.specs.Objects.{map_at, set_of, set_changed, end_changed}
use Rattle.kernel_types.specs.Tables.{table_of}
use Rattle.kernel_types.specs.Events.{events_of, masked_events, is_ready_member, has_event, ready_event, send_unblocked_event}
use Rattle.std.specs.Prelude.{slice_get}

-- an event with the number and the cookie under which it is reported
pub record Reported : Type 0 where
  pub handle : ℕ
  pub events : ℕ
  pub cookie : ℕ
  pub core : CoreState

abbrev pub event_reply : Reported → Reply
event_reply reported = reply.Event reported.handle (record { 0 = reported.events }) reported.cookie

-- READY of an end and SEND_UNBLOCKED are reported once
abbrev pub reported_end : ℕ → ChannelEnd → ChannelEnd
reported_end events end = record end {
  ready = end.ready && not (has_event events ready_event);
  unblocked = end.unblocked && not (has_event events send_unblocked_event);
}

abbrev pub cleared : ℕ → ℕ → CoreState → CoreState
cleared events id c = end_changed (reported_end events) id c

-- a port or an end: all its events
abbrev pub plain_report : CoreState → ℕ → ℕ → ℕ → ℕ → Option Reported
plain_report c id handle cookie events =
    (if events == 0 then None else Some (record { handle = handle; events = events; cookie = cookie; core = cleared events id c }))

-- the reported member goes last
abbrev pub with_last : Member → HandleSet → HandleSet
with_last member set = record set { members = filter (λ other. not (other.label == member.label)) set.members ++ member ∷ [] }

-- a set: the first member that has an event of its mask, by its label, with those events and its cookie
abbrev pub member_report : CoreState → ℕ → Option Member → Option Reported
member_report c id None = None
member_report c id (Some member) = Some (record {
  handle = member.label;
  events = masked_events (events_of c.objects) member;
  cookie = member.cookie;
  core = cleared (masked_events (events_of c.objects) member) member.object (set_changed (with_last member) id c);
})

abbrev pub set_or_plain_report : CoreState → ℕ → ℕ → ℕ → Option HandleSet → Option Reported
set_or_plain_report c id handle cookie None = plain_report c id handle cookie (events_of c.objects id)
set_or_plain_report c id handle cookie (Some set) = member_report c id (find (is_ready_member (events_of c.objects)) set.members)

-- `waitany`: the first entry of the table with an event, looking first at the numbers after the one last reported

abbrev pub last_of : Option Application → Option ℕ
last_of None = None
last_of (Some app) = app.last

abbrev pub is_after : Option ℕ → TableEntry → Bool
is_after None entry = true
is_after (Some last) entry = nat_lt last entry.handle

abbrev pub in_turn : Option ℕ → List TableEntry → List TableEntry
in_turn last table = filter (is_after last) table ++ filter (λ entry. not (is_after last entry)) table

abbrev pub has_events : List Object → TableEntry → Bool
has_events objects entry = not (events_of objects entry.object == 0)

abbrev pub with_last_reported : ℕ → ℕ → CoreState → CoreState
with_last_reported app handle c = record c { apps = map_at (λ a. record a { last = Some handle }) c.apps app }

abbrev pub entry_report : CoreState → ℕ → Option TableEntry → Option Reported
entry_report c app None = None
entry_report c app (Some entry) = Some (record {
  handle = entry.handle;
  events = events_of c.objects entry.object;
  cookie = entry.cookie;
  core = with_last_reported app entry.handle (cleared (events_of c.objects entry.object) entry.object c);
})

abbrev pub any_report : CoreState → ℕ → Option Reported
any_report c app = entry_report c app (find (has_events c.objects) (in_turn (last_of (slice_get c.apps app)) (table_of c app)))

-- what a wait of a thread of `app` would report; a connect reports nothing
unfoldable pub report_of : CoreState → ℕ → WaitOn → Option Reported
report_of c app (wait_on.Object object handle cookie) = set_or_plain_report c object handle cookie (set_of c.objects object)
report_of c app (wait_on.Connect end handle) = None
report_of c app wait_on.Any = any_report c app
