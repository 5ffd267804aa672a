-- The shapes of changes, for invariants that need no evidence: six in place of twenty.
use Rattle.std.proofs.Common.{◌+◌, ◌++◌, ℕ, Bool, true, false, List, [], ◌∷◌, map, Option, Some, None, refl}
use Rattle.std.specs.List.{filter}
use Rattle.kernel_values.specs.declared.state.Application.{Application}
use Rattle.kernel_values.specs.declared.state.Body.{Body}
use Rattle.kernel_values.specs.declared.state.Body.TheVariants as body
use Rattle.kernel_values.specs.declared.state.CoreState.{CoreState}
use Rattle.kernel_values.specs.declared.state.EndState.TheVariants as end_state
use Rattle.kernel_values.specs.declared.state.Port.{Port}
use Rattle.kernel_types.specs.Connects.{accept_client, accepted_end, peer_of}
use Rattle.kernel_types.specs.Memories.{written}
use Rattle.kernel_types.specs.Messages.{free_id, with_message, with_opened, without_opened}
use Rattle.kernel_types.specs.Objects.{added, changed, end_changed, end_of, new_end, on_body, on_end, on_memory, on_port, on_set, port_changed, with_objects}
use Rattle.kernel_types.specs.Ports.{new_port, publish, server_end}
use Rattle.kernel_types.specs.Reach.{is_in}
use Rattle.kernel_types.specs.Reports.{with_last}
use Rattle.kernel_types.specs.Sets.{remasked, without_label}
use Rattle.kernel_types.specs.Sweep.{cut_end, kept, pruned, pruned_port, reached, sweep}
use Rattle.step_laws.specs.SmallChanges.{SmallChange, after, after_accept, marked_by}
use Rattle.step_laws.specs.SmallChanges.SmallChange.{cookie_changed, entry_removed, entry_installed, parts_installed, last_changed, memory_made, client_made, pair_made, port_made, member_removed, member_remasked, member_put_last, memory_written, message_sent, message_opened, message_retired, end_marked, end_accepted}
use Rattle.step_laws.specs.Walks.{Row}
use Rattle.step_laws.specs.Walks.Row.{goes_on, stays}
use Rattle.step_laws.proofs.Rows.{row_keeps}

pub data Shape (c : CoreState) : Type 0 where
  of_apps : (apps : List Application) → Shape c
  of_one : (f : Body → Body) (id : ℕ) → Shape c
  of_all : (f : Body → Body) → Shape c
  of_fewer : (p : ℕ → Bool) → Shape c
  of_more : (b : Body) → Shape c
  of_port : (port : Port) → Shape c

abbrev pub shaped : (c : CoreState) → Shape c → CoreState
shaped c (of_apps apps) = record c { apps = apps }
shaped c (of_one f id) = with_objects (changed f c.objects id) c
shaped c (of_all f) = with_objects (map (on_body f) c.objects) c
shaped c (of_fewer p) = with_objects (filter (λ object. p object.id) c.objects) c
shaped c (of_more b) = added b c
shaped c (of_port port) = publish port c

abbrev pub Shapes : CoreState → CoreState → Type 0
Shapes c d = Row Shape shaped c d

only : (c : CoreState) (shape : Shape c) → Shapes c (shaped c shape)
only c shape = goes_on (shaped c shape) c (stays c refl) shape refl

-- two ends that are accepted, of which the client's may be there no more
accepted_shapes : (id server : ℕ) (rest : List ℕ) (c : CoreState) (client : Option ℕ)
    → Shapes c (accept_client client (end_changed (accepted_end false) server (port_changed (λ p. record p { pending = rest }) id c)))
accepted_shapes id server rest c client =
    let less : CoreState = port_changed (λ p. record p { pending = rest }) id c in
    let both : Shapes c (end_changed (accepted_end false) server less) =
    goes_on _ less (only c (of_one (on_port (λ p. record p { pending = rest })) id)) (of_one (on_end (accepted_end false)) server) refl in
    elim client as (λ o. Shapes c (accept_client o (end_changed (accepted_end false) server less))) [
      | None ↦ both
      | Some other ↦ goes_on _ (end_changed (accepted_end false) server less) both (of_one (on_end (accepted_end true)) other) refl
    ]

pub shapes : (by : Option ℕ) (c : CoreState) (change : SmallChange by c) → Shapes c (after by c change)
shapes by c (cookie_changed app of_app handle cookie entry held) = only c (of_apps _)
shapes by c (entry_removed app of_app handle entry held) = only c (of_apps _)
shapes by c (entry_installed app of_app object nameable room) = only c (of_apps _)
shapes by c (parts_installed app of_app id number count end message there is_open room) = only c (of_apps _)
shapes by c (last_changed app of_app entry first) = only c (of_apps _)
shapes by c (memory_made size flags lawful) = only c (of_more _)
shapes by c (client_made client path way) = only c (of_more _)
shapes by c (pair_made client path id port way lets) =
    let one : Body = body.End (new_end (Some (c.next + 1)) end_state.Connecting None (Some client) port.bufs port.size) in
    let other : Body = server_end c.next port.bufs port.size in
    goes_on _ (added other (added one c)) (goes_on _ (added one c) (only c (of_more one)) (of_more other) refl) (of_one (on_port (λ p. record p { pending = p.pending ++ (c.next + 1) ∷ [] })) id) refl
shapes by c (port_made path bufs size flags lawful free) = only c (of_port (new_port path bufs size flags))
shapes by c (member_removed id label set there known) = only c (of_one (on_set (without_label label)) id)
shapes by c (member_remasked id label mask cookie set there known) = only c (of_one (on_set (remasked label mask cookie)) id)
shapes by c (member_put_last id member set there ready) = only c (of_one (on_set (with_last member)) id)
shapes by c (memory_written id offset bytes memory there range writable) = only c (of_one (on_memory (written offset bytes)) id)
shapes by c (message_sent from source to end bytes parts may carries) = only c (of_one (on_end (with_message bytes parts)) to)
shapes by c (message_opened id end message there first) = only c (of_one (on_end (with_opened (free_id end.messages))) id)
shapes by c (message_retired id number end message there is_open) = only c (of_one (on_end (without_opened number)) id)
shapes by c (end_marked mark id) = only c (of_one (on_end (marked_by mark)) id)
shapes by c (end_accepted app of_app id server rest port there first room) =
    let both : CoreState = after_accept id server rest c in
    goes_on _ both (accepted_shapes id server rest c (peer_of (end_of c.objects server))) (of_apps _) refl

swept_shapes : (c : CoreState) → Shapes c (sweep c)
unfolding sweep pruned kept
swept_shapes c =
    let less : CoreState = pruned (reached c) c in
    let there : CoreState = with_objects (filter (λ object. is_in (reached less) object.id) less.objects) less in
    goes_on _ there (goes_on _ less (only c (of_all (on_port (pruned_port (reached c) c.objects)))) (of_fewer (is_in (reached less))) refl) (of_all (on_end (cut_end (reached less)))) refl

-- what every shape keeps, every small change and the sweep keep
module _ (P : CoreState → Type 0) (keeps : (c : CoreState) → P c → (shape : Shape c) → P (shaped c shape)) where
  pub by_shapes : (by : Option ℕ) (c : CoreState) → P c → (change : SmallChange by c) → P (after by c change)
  by_shapes by c k change = row_keeps Shape shaped P keeps c (after by c change) (shapes by c change) k

  pub swept_by_shapes : (c : CoreState) → P c → P (sweep c)
  swept_by_shapes c k = row_keeps Shape shaped P keeps c (sweep c) (swept_shapes c) k
