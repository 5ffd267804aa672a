-- Every step keeps chains of sets short.
use Rattle.std.proofs.Common.{◌≡◌, ℕ, ◌+◌, Bool, true, false, List, [], Option, Some, None, refl, sym, ap, subst, arith}
use Rattle.std.specs.List.{filter}
use Rattle.std.specs.Option.{is_some}
use Rattle.kernel_values.specs.declared.call.Call.{Call}
use Rattle.kernel_values.specs.declared.call.Call.TheVariants as call
use Rattle.kernel_values.specs.declared.entry.Event.{Event}
use Rattle.kernel_values.specs.declared.entry.Seqs.{Seqs}
use Rattle.kernel_values.specs.declared.reply.Answer.{Answer}
use Rattle.kernel_values.specs.declared.state.Body.{Body}
use Rattle.kernel_values.specs.declared.state.Body.TheVariants as body
use Rattle.kernel_values.specs.declared.state.ChannelEnd.{ChannelEnd}
use Rattle.kernel_values.specs.declared.state.CoreState.{CoreState}
use Rattle.kernel_values.specs.declared.state.EndState.TheVariants as end_state
use Rattle.kernel_values.specs.declared.state.HandleSet.{HandleSet}
use Rattle.kernel_values.specs.declared.state.Member.{Member}
use Rattle.kernel_values.specs.declared.state.Port.{Port}
use Rattle.kernel_values.specs.declared.state.State.{State}
use Rattle.kernel_types.specs.Applications.{application_ended, started}
use Rattle.kernel_types.specs.Bridge.{bridging, unbridged}
use Rattle.kernel_types.specs.Connects.{accept_client, accepted_end, peer_of}
use Rattle.kernel_types.specs.CoreStep.{core_idle}
use Rattle.kernel_types.specs.Events.{events_of, is_ready_member}
use Rattle.kernel_types.specs.Memories.{new_memory, written}
use Rattle.kernel_types.specs.Messages.{free_id, with_message, with_opened, without_opened}
use Rattle.kernel_types.specs.Tables.{install}
use Rattle.kernel_types.specs.Objects.{added, changed, end_changed, end_of, new_end, on_body, on_end, on_memory, on_port, on_set, port_changed, set_changed, with_objects}
use Rattle.kernel_types.specs.Ports.{new_port, server_end}
use Rattle.kernel_types.specs.Reach.{is_in}
use Rattle.kernel_types.specs.Sets.{new_member, remasked, with_member, without_label}
use Rattle.kernel_types.specs.Step.{Stepped, step}
use Rattle.kernel_types.specs.Sweep.{cut_end, kept, pruned, pruned_port, reached, sweep}
use Rattle.kernel_laws.proofs.Starts.{same_ended, same_idle, same_started}
use Rattle.set_laws.specs.Chains.{HasShortChains, NamesGivenNumbers}
use Rattle.set_laws.proofs.Adding.{added_keeps_short}
use Rattle.set_laws.proofs.Lessening.{found_member, less_remasked, less_without, shrunk_last}
use Rattle.set_laws.proofs.Shrinking.{Deep, Shrinking, Shrinks, calm_end, deep_by, deep_new_set, quiet_memory, quiet_port, short_by, shrinking_both, shrinking_same, shrinks_added, shrinks_published, shrunk_changed, shrunk_filtered, shrunk_mapped}
use Rattle.step_laws.specs.SmallChanges.{SmallChange, after, marked_by}
use Rattle.step_laws.specs.SmallChanges.SmallChange.{client_made, cookie_changed, end_accepted, end_marked, entry_installed, entry_removed, last_changed, member_put_last, member_remasked, member_removed, memory_made, memory_written, message_opened, message_retired, message_sent, pair_made, parts_installed, port_made}
use Rattle.step_laws.specs.Walks.{CoreChange, IsWalk, ThreadChange, after_core, after_thread}
use Rattle.step_laws.specs.Walks.CoreChange.{app_served, by_call, by_small, end_bridged, end_unbridged, objects_swept, time_passed, wait_over}
use Rattle.step_laws.specs.Walks.ThreadChange.{app_over, app_started, member_added, set_made, thread_over, wait_begun}
use Rattle.step_laws.proofs.Rows.{row_keeps}
use Rattle.step_laws.proofs.Steps.{steps_walk}

-- All changes but a new set and a new member leave of each set no more than was there.

one_shrinks : (c : CoreState) (f : Body → Body) → Shrinks f → (id : ℕ) → Shrinking c (with_objects (changed f c.objects id) c)
one_shrinks c f shrinks id = record { next = omega arith; less = shrunk_changed f shrinks c.objects id }

end_shrinks : (c : CoreState) (f : ChannelEnd → ChannelEnd) (id : ℕ) → Shrinking c (end_changed f id c)
end_shrinks c f id = one_shrinks c (on_end f) (calm_end f) id

client_shrinks : (c : CoreState) (client : Option ℕ) → Shrinking c (accept_client client c)
client_shrinks c None = shrinking_same c c (refl, refl)
client_shrinks c (Some client) = end_shrinks c (accepted_end true) client

pub small_shrinks : (by : Option ℕ) (c : CoreState) (change : SmallChange by c) → Shrinking c (after by c change)
small_shrinks by c (cookie_changed app of_app handle cookie entry held) = shrinking_same c _ (refl, refl)
small_shrinks by c (entry_removed app of_app handle entry held) = shrinking_same c _ (refl, refl)
small_shrinks by c (entry_installed app of_app object nameable room) = shrinking_same c _ (refl, refl)
small_shrinks by c (parts_installed app of_app id number count end message there is_open room) = shrinking_same c _ (refl, refl)
small_shrinks by c (last_changed app of_app entry first) = shrinking_same c _ (refl, refl)
small_shrinks by c (memory_made size flags lawful) = shrinks_added c (body.Memory (new_memory size flags)) refl
small_shrinks by c (client_made client path way) = shrinks_added c (body.End (new_end None end_state.Waiting (Some path) (Some client) 0 0)) refl
small_shrinks by c (pair_made client path id port way lets) =
    let one : Body = body.End (new_end (Some (c.next + 1)) end_state.Connecting None (Some client) port.bufs port.size) in
    let other : Body = server_end c.next port.bufs port.size in
    let both : CoreState = added other (added one c) in
    shrinking_both c both _ (shrinking_both c (added one c) both (shrinks_added c one refl) (shrinks_added (added one c) other refl)) (one_shrinks both (on_port _) (quiet_port _) id)
small_shrinks by c (port_made path bufs size flags lawful free) = shrinks_published c (new_port path bufs size flags)
small_shrinks by c (member_removed id label set there known) = one_shrinks c (on_set (without_label label)) (less_without label) id
small_shrinks by c (member_remasked id label mask cookie set there known) = one_shrinks c (on_set (remasked label mask cookie)) (less_remasked label mask cookie) id
small_shrinks by c (member_put_last id member set there ready) =
    record { next = omega arith; less = shrunk_last member set (found_member (is_ready_member (events_of c.objects)) set.members member ready) c.objects id there }
small_shrinks by c (memory_written id offset bytes memory there range writable) = one_shrinks c (on_memory (written offset bytes)) (quiet_memory (written offset bytes)) id
small_shrinks by c (message_sent from source to end bytes parts may carries) = end_shrinks c (with_message bytes parts) to
small_shrinks by c (message_opened id end message there first) = end_shrinks c (with_opened (free_id end.messages)) id
small_shrinks by c (message_retired id number end message there is_open) = end_shrinks c (without_opened number) id
small_shrinks by c (end_marked mark id) = end_shrinks c (marked_by mark) id
small_shrinks by c (end_accepted app of_app id server rest port there first room) =
    let less : CoreState = port_changed (λ p. record p { pending = rest }) id c in
    let ends : CoreState = end_changed (accepted_end false) server less in
    let here : Shrinking c less = one_shrinks c (on_port (λ p. record p { pending = rest })) (quiet_port (λ p. record p { pending = rest })) id in
    let client : Option ℕ = peer_of (end_of c.objects server) in
    let both : Shrinking c (accept_client client ends) = shrinking_both c ends (accept_client client ends) (shrinking_both c less ends here (end_shrinks less (accepted_end false) server)) (client_shrinks ends client) in
    record { next = both.next; less = both.less }

pub swept_shrinks : (c : CoreState) → Shrinking c (sweep c)
unfolding sweep pruned kept
swept_shrinks c =
    let prune : Port → Port = pruned_port (reached c) c.objects in
    let less : CoreState = pruned (reached c) c in
    let marked : List ℕ = reached less in
    let there : CoreState = with_objects (filter (λ object. is_in marked object.id) less.objects) less in
    let cut : Shrinking c less = record { next = omega arith; less = shrunk_mapped (on_body (on_port prune)) (λ object. refl) (λ object. quiet_port prune object.body) c.objects } in
    let fewer : Shrinking less there = record { next = omega arith; less = shrunk_filtered (is_in marked) less.objects } in
    shrinking_both c there (sweep c) (shrinking_both c less there cut fewer)
    (record { next = omega arith; less = shrunk_mapped (on_body (on_end (cut_end marked))) (λ object. refl) (λ object. calm_end (cut_end marked) object.body) there.objects })

-- A step makes a set or adds a member, by its call, and not both. So a new set is no member of any that was there.

abbrev adds : Option Call → Bool
adds (Some (call.SetAdd set handle mask cookie)) = true
adds _ = false

abbrev Chained : Bool → CoreState → Type 0
Chained true c = HasShortChains c.objects
Chained false c = Deep c

less_chained : (b : Bool) (c d : CoreState) → Shrinking c d → Chained b c → Chained b d
less_chained true c d shrinks short = short_by c d shrinks short
less_chained false c d shrinks deep = deep_by c d shrinks deep

chained : (b : Bool) (c : CoreState) → Deep c → Chained b c
chained true c deep = deep.short
chained false c deep = deep

chains_short : (b : Bool) (c : CoreState) → Chained b c → HasShortChains c.objects
chains_short true c short = short
chains_short false c deep = deep.short

set_chained : (app : ℕ) (c : CoreState) → Deep c → Deep (install app c.next (added (body.Set (record { members = [] })) c))
set_chained app c deep = let more : Deep (added (body.Set (record { members = [] })) c) = deep_new_set c deep in record { short = more.short; given = more.given }

thread_chained : (app thread : ℕ) (asked : Call) (said : Answer) (c : CoreState) → Chained (adds (Some asked)) c → (change : ThreadChange app thread asked said c)
    → Chained (adds (Some asked)) (after_thread app thread asked said c change)
thread_chained app thread asked said c k (set_made is made room) =
    subst (λ (x : Call). Chained (adds (Some x)) c → Chained (adds (Some x)) (install app c.next (added (body.Set (record { members = [] })) c))) (sym is) (set_chained app c) k
thread_chained app thread asked said c k (member_added held handle mask cookie id set entry is here may) =
    let member : Member = new_member handle entry.object mask cookie in
    let joined : HasShortChains c.objects → HasShortChains (changed (on_set (with_member member)) c.objects id) =
    λ short. added_keeps_short c.objects id member short (ap (λ (o : Option HandleSet). is_some o) may.there) may.apart may.shallow in
    subst (λ (x : Call). Chained (adds (Some x)) c → Chained (adds (Some x)) (set_changed (with_member member) id c)) (sym is) joined k
thread_chained app thread asked said c k (wait_begun on awaits goes is) = less_chained (adds (Some asked)) c _ (shrinking_same c _ (refl, refl)) k
thread_chained app thread asked said c k (app_started place was there still connects) = less_chained (adds (Some asked)) c _ (shrinking_same c (started place c) (same_started place c)) k
thread_chained app thread asked said c k (thread_over ends) = less_chained (adds (Some asked)) c _ (shrinking_same c _ (refl, refl)) k
thread_chained app thread asked said c k (app_over ends) = less_chained (adds (Some asked)) c _ (shrinking_same c (application_ended app c) (same_ended app c)) k

change_chained : (asked : Option Call) (c : CoreState) → Chained (adds asked) c → (change : CoreChange asked c) → Chained (adds asked) (after_core asked c change)
change_chained asked c k (by_small by made change) = less_chained (adds asked) c (after by c change) (small_shrinks by c change) k
change_chained asked c k (by_call app thread begun said is change) =
    subst (λ (o : Option Call). Chained (adds o) c → Chained (adds o) (after_thread app thread begun said c change)) (sym is) (λ old. thread_chained app thread begun said c old change) k
change_chained asked c k (wait_over thread start found wait there waited) = less_chained (adds asked) c _ (shrinking_same c _ (refl, refl)) k
change_chained asked c k (app_served place was there still) = less_chained (adds asked) c (started place c) (shrinking_same c (started place c) (same_started place c)) k
change_chained asked c k (end_bridged end given) = less_chained (adds asked) c _ (shrinking_same c (bridging end c) (refl, refl)) k
change_chained asked c k (end_unbridged end) = less_chained (adds asked) c _ (shrinking_same c (unbridged end c) (refl, refl)) k
change_chained asked c k (time_passed deadline) = less_chained (adds asked) c (core_idle deadline c) (shrinking_same c (core_idle deadline c) (same_idle c deadline)) k
change_chained asked c k objects_swept = less_chained (adds asked) c (sweep c) (swept_shrinks c) k

pub walk_short : {asked : Option Call} {seqs : Seqs} (c d : CoreState) → IsWalk asked c seqs d → Deep c → HasShortChains d.objects
walk_short {asked} c d walked deep =
    chains_short (adds asked) d
    (row_keeps (CoreChange asked) (after_core asked) (Chained (adds asked)) (change_chained asked) c d walked.walk.row (chained (adds asked) c deep))

pub steps_keep_short : (s : State) (e : Event) (r : Stepped) → NamesGivenNumbers s.core → HasShortChains s.core.objects → step s e ≡ Some r → HasShortChains r.state.core.objects
steps_keep_short s e r names short is = walk_short s.core r.state.core (steps_walk s e r is) (record { short = short; given = names.members })
