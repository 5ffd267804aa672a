-- Every change of the core keeps the objects fitting, so every step does, and they fit in every history.
use Rattle.std.proofs.Common.{◌≡◌, ℕ, false, List, [], ◌∷◌, Option, Some, None, refl, sym, ap, subst}
use Rattle.kernel_values.specs.SceneLaw.{SceneValue}
use Rattle.kernel_values.specs.declared.call.Call.{Call}
use Rattle.kernel_values.specs.declared.entry.Entry.{Entry}
use Rattle.kernel_values.specs.declared.reply.Answer.{Answer}
use Rattle.kernel_values.specs.declared.state.Body.TheVariants as body
use Rattle.kernel_values.specs.declared.state.ChannelEnd.{ChannelEnd}
use Rattle.kernel_values.specs.declared.state.CoreState.{CoreState}
use Rattle.kernel_values.specs.declared.state.Port.{Port}
use Rattle.kernel_types.specs.Applications.{application_ended, started}
use Rattle.kernel_types.specs.Connects.{accept_client, accepted_end, peer_of}
use Rattle.kernel_types.specs.CoreStep.{core_idle}
use Rattle.kernel_types.specs.History.{state_after}
use Rattle.kernel_types.specs.Memories.{new_memory, written}
use Rattle.kernel_types.specs.Messages.{free_id, part_objects, peer_end, with_message}
use Rattle.kernel_types.specs.Objects.{end_changed, end_of, port_changed, port_of}
use Rattle.kernel_types.specs.Opening.{opening}
use Rattle.kernel_types.specs.Ports.{new_port}
use Rattle.kernel_types.specs.Reports.{with_last}
use Rattle.kernel_types.specs.Sets.{new_member, remasked, with_member, without_label}
use Rattle.kernel_types.specs.Tables.{table_of}
use Rattle.kernel_laws.proofs.Starts.{same_ended, same_idle, same_started}
use Rattle.step_laws.specs.SmallChanges.{Carries, Mark, MayDeliver, SmallChange, after, after_accept, marked_by}
use Rattle.step_laws.specs.SmallChanges.Carries.{no_parts, parts_held}
use Rattle.step_laws.specs.SmallChanges.Mark.{mark_blocked, mark_unblocked, mark_decided, mark_reported, mark_error}
use Rattle.step_laws.specs.SmallChanges.SmallChange.{cookie_changed, entry_removed, entry_installed, parts_installed, last_changed, memory_made, client_made, pair_made, port_made, member_removed, member_remasked, member_put_last, memory_written, message_sent, message_opened, message_retired, end_marked, end_accepted}
use Rattle.step_laws.specs.Walks.{CoreChange, ThreadChange, after_core, after_thread}
use Rattle.step_laws.specs.Walks.ThreadChange.{app_over, app_started, member_added, set_made, thread_over, wait_begun}
use Rattle.step_laws.proofs.Invariants.{Invariant, change_keeps, holds_along}
use Rattle.fit_laws.specs.Fitting.{Fitting, FittingCore}
use Rattle.fit_laws.proofs.Accepting.{all_accepted, fit_accepted}
use Rattle.fit_laws.proofs.Appending.{fit_added}
use Rattle.fit_laws.proofs.Marking.{IsQuiet, IsSent, blocked_quiet, error_quiet, fit_memory, fit_quiet, fit_sent, fit_set, opened_quiet, pushed_quiet, reported_quiet, retired_quiet, sent_memories, unblocked_quiet, unready_quiet}
use Rattle.fit_laws.proofs.Pairing.{fit_pair, fit_waiting}
use Rattle.fit_laws.proofs.Publishing.{fit_published}
use Rattle.fit_laws.proofs.Sweeping.{fit_swept}
use Rattle.fit_laws.proofs.Witness.{fit_nothing}

-- where objects and the next number stay
pub same_fits : (c d : CoreState) → (d.objects ≡ c.objects) × (d.next ≡ c.next) → FittingCore c → FittingCore d
same_fits c d same k = subst (λ n. Fitting d.objects n) (sym same.1) (subst (λ os. Fitting os c.next) (sym same.0) k)

mark_quiet : (mark : Mark) → IsQuiet (marked_by mark)
mark_quiet mark_blocked = blocked_quiet
mark_quiet mark_unblocked = unblocked_quiet
mark_quiet mark_decided = unready_quiet
mark_quiet (mark_reported events) = reported_quiet events
mark_quiet mark_error = error_quiet

-- a message goes to a connected end, or has no parts
sent_fits : (by : Option ℕ) (c : CoreState) → FittingCore c → (from : ℕ) (source : ChannelEnd) (to : ℕ) (end : ChannelEnd) (bytes parts : List ℕ)
    → MayDeliver c from source to end bytes → Carries by c source parts → FittingCore (end_changed (with_message bytes parts) to c)
sent_fits by c k from source to end bytes parts may (no_parts none) =
    subst (λ (l : List ℕ). FittingCore (end_changed (with_message bytes l) to c)) (sym none) (fit_quiet c.objects c.next k (with_message bytes []) (pushed_quiet bytes) to)
sent_fits by c k from source to end bytes parts may (parts_held app handles of_app are connected lasting few held sendable) =
    let objects : List ℕ = part_objects (table_of c app) handles in
    let sent : IsSent c.objects from to objects = record {
      end = source;
      there = may.source_there;
      connected = connected;
      lasting = lasting;
      to = may.peer;
      memories = sent_memories c (table_of c app) (peer_end c.objects source.peer) handles sendable;
    } in
    subst (λ (l : List ℕ). FittingCore (end_changed (with_message bytes l) to c)) (sym are) (fit_sent c.objects c.next k bytes objects from to sent)

accept_objects : (id server : ℕ) (rest : List ℕ) (client : Option ℕ) (c d : CoreState) → accept_client client (end_changed (accepted_end false) server (port_changed (λ p. record p { pending = rest }) id c)) ≡ d
    → (d.objects ≡ all_accepted id server rest client c.objects) × (d.next ≡ c.next)
accept_objects id server rest None c d is = (ap (λ (x : CoreState). x.objects) (sym is), ap (λ (x : CoreState). x.next) (sym is))
accept_objects id server rest (Some client) c d is = (ap (λ (x : CoreState). x.objects) (sym is), ap (λ (x : CoreState). x.next) (sym is))

accepted_fits : (c : CoreState) → FittingCore c → (id server : ℕ) (rest : List ℕ) (port : Port) → port_of c.objects id ≡ Some port → port.pending ≡ server ∷ rest
    → FittingCore (after_accept id server rest c)
accepted_fits c k id server rest port there first =
    let client : Option ℕ = peer_of (end_of c.objects server) in
    let d : CoreState = after_accept id server rest c in
    let same : (d.objects ≡ all_accepted id server rest client c.objects) × (d.next ≡ c.next) = accept_objects id server rest client c d refl in
    subst (λ n. Fitting d.objects n) (sym same.1) (subst (λ os. Fitting os c.next) (sym same.0) (fit_accepted c.objects c.next k id server rest port there first))

small_fits : (by : Option ℕ) (c : CoreState) → FittingCore c → (change : SmallChange by c) → FittingCore (after by c change)
small_fits by c k (cookie_changed app of_app handle cookie entry held) = k
small_fits by c k (entry_removed app of_app handle entry held) = k
small_fits by c k (entry_installed app of_app object nameable room) = k
small_fits by c k (parts_installed app of_app id number count end message there is_open room) = k
small_fits by c k (last_changed app of_app entry first) = k
small_fits by c k (memory_made size flags lawful) = fit_added c.objects c.next k (body.Memory (new_memory size flags)) tt
small_fits by c k (client_made client path way) = fit_waiting client path c k
small_fits by c k (pair_made client path id port way lets) = fit_pair client id port c k
small_fits by c k (port_made path bufs size flags lawful free) = fit_published (new_port path bufs size flags) c k
small_fits by c k (member_removed id label set there known) = fit_set c.objects c.next k (without_label label) id
small_fits by c k (member_remasked id label mask cookie set there known) = fit_set c.objects c.next k (remasked label mask cookie) id
small_fits by c k (member_put_last id member set there ready) = fit_set c.objects c.next k (with_last member) id
small_fits by c k (memory_written id offset bytes memory there range writable) = fit_memory c.objects c.next k (written offset bytes) id
small_fits by c k (message_sent from source to end bytes parts may carries) = sent_fits by c k from source to end bytes parts may carries
small_fits by c k (message_opened id end message there first) = fit_quiet c.objects c.next k _ (opened_quiet (free_id end.messages)) id
small_fits by c k (message_retired id number end message there is_open) = fit_quiet c.objects c.next k _ (retired_quiet number) id
small_fits by c k (end_marked mark id) = fit_quiet c.objects c.next k (marked_by mark) (mark_quiet mark) id
small_fits by c k (end_accepted app of_app id server rest port there first room) =
    let joined : FittingCore (after_accept id server rest c) = accepted_fits c k id server rest port there first in
    record { rises = joined.rises; fits = joined.fits }

call_fits : (app thread : ℕ) (asked : Call) (said : Answer) (c : CoreState) → FittingCore c → (change : ThreadChange app thread asked said c) → FittingCore (after_thread app thread asked said c change)
call_fits app thread asked said c k (set_made is made room) = fit_added c.objects c.next k (body.Set (record { members = [] })) tt
call_fits app thread asked said c k (member_added held handle mask cookie id set entry is here may) = fit_set c.objects c.next k (with_member (new_member handle entry.object mask cookie)) id
call_fits app thread asked said c k (wait_begun on awaits goes is) = k
call_fits app thread asked said c k (app_started place was there still connects) = same_fits c (started place c) (same_started place c) k
call_fits app thread asked said c k (thread_over ends) = k
call_fits app thread asked said c k (app_over ends) = same_fits c (application_ended app c) (same_ended app c) k

pub fitting : Invariant
fitting = record {
  holds = FittingCore;
  small = λ by c k made change. small_fits by c k change;
  call = call_fits;
  resumed = λ thread c k. k;
  served = λ place c k. same_fits c (started place c) (same_started place c) k;
  bridged = λ end c k given. k;
  unbridged = λ end c k. k;
  passed = λ deadline c k. same_fits c (core_idle deadline c) (same_idle c deadline) k;
  swept = λ c k. fit_swept c k;
}

pub change_fits : (asked : Option Call) (c : CoreState) (change : CoreChange asked c) → FittingCore c → FittingCore (after_core asked c change)
unfolding fitting
change_fits asked c change k = change_keeps fitting asked c k change

opening_fits : (scene : SceneValue) → FittingCore (opening scene).core
unfolding opening
opening_fits scene = fit_nothing _

pub histories_fit : (scene : SceneValue) (entries : List Entry) → FittingCore (state_after (opening scene) entries).core
unfolding fitting
histories_fit scene entries = holds_along fitting (opening scene) entries (opening_fits scene)
