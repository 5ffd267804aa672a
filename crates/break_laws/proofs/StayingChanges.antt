-- Every small change and the sweep leave ends and pending lists so.
use Rattle.std.proofs.Common.{◌≡◌, ◌≤◌, ◌<◌, ℕ, ◌+◌, ◌==◌, ◌||◌, inl, inr, Bool, true, false, cond, List, [], ◌∷◌, ◌++◌, drop, map, Option, Some, None, refl, sym, ◌∙◌, ap, subst, arith, tests}
use Rattle.std.specs.List.{AllByRecursion, filter}
use Rattle.std.specs.Option.{option_map}
use Rattle.kernel_values.specs.declared.state.Body.{Body}
use Rattle.kernel_values.specs.declared.state.Body.TheVariants as body
use Rattle.kernel_values.specs.declared.state.ChannelEnd.{ChannelEnd}
use Rattle.kernel_values.specs.declared.state.Connector.{Connector}
use Rattle.kernel_values.specs.declared.state.CoreState.{CoreState}
use Rattle.kernel_values.specs.declared.state.EndState.{EndState}
use Rattle.kernel_values.specs.declared.state.EndState.TheVariants as end_state
use Rattle.kernel_values.specs.declared.state.HandleSet.{HandleSet}
use Rattle.kernel_values.specs.declared.state.MemoryRef.{MemoryRef}
use Rattle.kernel_values.specs.declared.state.Object.{Object}
use Rattle.kernel_values.specs.declared.state.Port.{Port}
use Rattle.kernel_types.specs.Connects.{accept_client, accepted_end, peer_of, pending_pair}
use Rattle.kernel_types.specs.Memories.{new_memory, written}
use Rattle.kernel_types.specs.Messages.{free_id, has_unsendable_part, is_bridge_end, is_normal_world, part_objects, peer_end, with_message, with_opened, without_opened}
use Rattle.kernel_types.specs.Names.{message_objects}
use Rattle.kernel_types.specs.Objects.{added, as_end, as_port, changed, end_changed, end_in, end_of, new_end, object_of, on_body, on_end, on_memory, on_port, on_set, place_of, port_changed, port_in, port_of, set_if, with_objects}
use Rattle.kernel_types.specs.Ports.{admits_client, admitted, connecting_end, decided, decided_end, denied_end, new_port, new_server, publish, server_end, server_of, waits_for}
use Rattle.kernel_types.specs.Reach.{is_in}
use Rattle.kernel_types.specs.Reports.{with_last}
use Rattle.kernel_types.specs.Sets.{remasked, without_label}
use Rattle.kernel_types.specs.Sweep.{cut_end, has_marked_peer, kept, pruned, pruned_port, reached, sweep}
use Rattle.kernel_types.specs.Tables.{table_of}
use Rattle.step_laws.specs.SmallChanges.{Carries, Mark, MayDeliver, SmallChange, after, after_accept, marked_by}
use Rattle.step_laws.specs.SmallChanges.Carries.{no_parts, parts_held}
use Rattle.step_laws.specs.SmallChanges.Mark.{mark_blocked, mark_unblocked, mark_decided, mark_reported, mark_error}
use Rattle.step_laws.specs.SmallChanges.SmallChange.{cookie_changed, entry_removed, entry_installed, parts_installed, last_changed, memory_made, client_made, pair_made, port_made, member_removed, member_remasked, member_put_last, memory_written, message_sent, message_opened, message_retired, end_marked, end_accepted}
use Rattle.step_laws.specs.Walks.Row.{goes_on, stays}
use Rattle.step_laws.proofs.Leaving.{row_leaves}
use Rattle.fit_laws.proofs.Marking.{opened_quiet, pushed_quiet, retired_quiet}
use Rattle.fit_laws.proofs.Numbers.{in_either, in_one}
use Rattle.break_laws.specs.Breaks.{pending_in}
use Rattle.break_laws.proofs.Namers.{both_of, in_filtered}
use Rattle.break_laws.proofs.Staying.{IsEndOf, IsNew, Stays, end_stays, memory_stays, port_stays, same_end, set_stays, stays_all, stays_fewer, stays_more, stays_one, stays_same, stays_twice}

-- Ends.

marked_so : (mark : Mark) (end : ChannelEnd) → IsEndOf end (marked_by mark end)
marked_so mark_blocked end = record { client = refl; mute = λ normal object names. names }
marked_so mark_unblocked end = record { client = refl; mute = λ normal object names. names }
marked_so mark_decided end = record { client = refl; mute = λ normal object names. names }
marked_so (mark_reported events) end = record { client = refl; mute = λ normal object names. names }
marked_so mark_error end = record { client = refl; mute = λ normal object names. names }

accepted_so : (ready : Bool) (end : ChannelEnd) → IsEndOf end (accepted_end ready end)
accepted_so ready end = record { client = refl; mute = λ normal object names. names }

decided_so : (port : Port) (first : ℕ) (clients : List ℕ) (id : ℕ) (end : ChannelEnd) → IsEndOf end (decided_end port first clients id end)
decided_so port first clients id end =
    let joined : ChannelEnd = connecting_end (server_of first clients id) port.bufs port.size end in
    elim (waits_for port.path end) as (λ b. IsEndOf end (cond b (cond (admits_client port.flags end.client) joined (denied_end end)) end)) [
      | true ↦ elim (admits_client port.flags end.client) as (λ b. IsEndOf end (cond b joined (denied_end end))) [
        | true ↦ record { client = refl; mute = λ normal object names. names }
        | false ↦ record { client = refl; mute = λ normal object names. names }
      ]
      | false ↦ same_end end
    ]

module _ (m : ℕ) where
  on_one : (c : CoreState) (f : ChannelEnd → ChannelEnd) → ((end : ChannelEnd) → IsEndOf end (f end)) → (id : ℕ) → Stays m c (end_changed f id c)
  on_one c f keeps id = stays_one m c (on_end f) (end_stays m f keeps) id

  -- A message: it has no parts, or it does not go to an end of the bridge.

  same_change : (f g : Body → Body) (objects : List Object) (id : ℕ) → option_map (on_body f) (object_of objects id) ≡ option_map (on_body g) (object_of objects id) → changed f objects id ≡ changed g objects id
  same_change f g objects id same = ap (set_if objects (place_of objects id)) same

  abbrev sent_if : List ℕ → List ℕ → ChannelEnd → ChannelEnd
  sent_if bytes parts end = cond (is_normal_world end.client) end (with_message bytes parts end)

  sent_if_so : (bytes parts : List ℕ) (end : ChannelEnd) → IsEndOf end (sent_if bytes parts end)
  sent_if_so bytes parts end =
      let P : Bool → Type 0 = λ b. is_normal_world end.client ≡ b → IsEndOf end (cond b end (with_message bytes parts end)) in
      let go : (b : Bool) → P b = λ b. elim b as (λ v. P v) [
        | true ↦ (λ is. same_end end)
        | false ↦ (λ is. record { client = refl; mute = λ normal object names. let bad : false ≡ true = sym is ∙ normal in absurd (cc) })
      ] in
      go (is_normal_world end.client) refl

  abbrev SeenAlike : (ChannelEnd → ChannelEnd) → (ChannelEnd → ChannelEnd) → Option Object → Type 0
  SeenAlike f g o = option_map (on_body (on_end f)) o ≡ option_map (on_body (on_end g)) o

  seen_alike : (f g : ChannelEnd → ChannelEnd) (end : ChannelEnd) → f end ≡ g end → (o : Option Object) → as_end o ≡ Some end → SeenAlike f g o
  seen_alike f g end same None is = refl
  seen_alike f g end same (Some x) is =
      elim x.body as (λ b. end_in b ≡ Some end → SeenAlike f g (Some (record x { body = b }))) [
        | body.Port port ↦ (λ k. refl)
        | body.End old ↦ (λ k. let eq : old ≡ end = cc in ap (λ (v : ChannelEnd). Some (record x { body = body.End v })) (ap f eq ∙ (same ∙ ap g (sym eq))))
        | body.Set set ↦ (λ k. refl)
        | body.Memory memory ↦ (λ k. refl)
      ] is

  sent_away : (c : CoreState) (bytes parts : List ℕ) (to : ℕ) (end : ChannelEnd) → end_of c.objects to ≡ Some end → is_normal_world end.client ≡ false → Stays m c (end_changed (with_message bytes parts) to c)
  sent_away c bytes parts to end there apart =
      let same : sent_if bytes parts end ≡ with_message bytes parts end = ap (λ b. cond b end (with_message bytes parts end)) apart in
      let lists : changed (on_end (sent_if bytes parts)) c.objects to ≡ changed (on_end (with_message bytes parts)) c.objects to =
      same_change (on_end (sent_if bytes parts)) (on_end (with_message bytes parts)) c.objects to (seen_alike (sent_if bytes parts) (with_message bytes parts) end same (object_of c.objects to) there) in
      subst (λ (l : List Object). Stays m c (with_objects l c)) lists (on_one c (sent_if bytes parts) (sent_if_so bytes parts) to)

  sent_bare : (c : CoreState) (bytes : List ℕ) (to : ℕ) → Stays m c (end_changed (with_message bytes []) to c)
  sent_bare c bytes to = on_one c (with_message bytes []) (λ end. record { client = refl; mute = λ normal object names. (pushed_quiet bytes).fewer end object names }) to

  or_neither : (a b : Bool) → (a || b) ≡ false → b ≡ false
  or_neither true b is = absurd (cc)
  or_neither false b is = is

  sent_stays : (by : Option ℕ) (c : CoreState) (from : ℕ) (source : ChannelEnd) (to : ℕ) (end : ChannelEnd) (bytes parts : List ℕ) → MayDeliver c from source to end bytes → Carries by c source parts
      → Stays m c (end_changed (with_message bytes parts) to c)
  sent_stays by c from source to end bytes parts may (no_parts none) = subst (λ (l : List ℕ). Stays m c (end_changed (with_message bytes l) to c)) (sym none) (sent_bare c bytes to)
  sent_stays by c from source to end bytes parts may (parts_held app handles of_app are connected lasting few held sendable) =
      let go : (hs : List ℕ) → has_unsendable_part c (table_of c app) (peer_end c.objects source.peer) hs ≡ false → Stays m c (end_changed (with_message bytes (part_objects (table_of c app) hs)) to c) = λ hs.
      elim hs as (λ v. has_unsendable_part c (table_of c app) (peer_end c.objects source.peer) v ≡ false → Stays m c (end_changed (with_message bytes (part_objects (table_of c app) v)) to c)) [
        | [] ↦ (λ is. sent_bare c bytes to)
        | h ∷ rest ↦ (λ is.
            let apart : is_bridge_end (peer_end c.objects source.peer) ≡ false = or_neither _ (is_bridge_end (peer_end c.objects source.peer)) is in
            let other : is_normal_world end.client ≡ false =
            sym (ap is_bridge_end (ap (peer_end c.objects) may.peer ∙ may.there)) ∙ apart in
            sent_away c bytes (part_objects (table_of c app) (h ∷ rest)) to end may.there other)
      ] in
      subst (λ (l : List ℕ). Stays m c (end_changed (with_message bytes l) to c)) (sym are) (go handles sendable)

  -- New objects.

  quiet_new : (id : ℕ) (b : Body) → m ≤ id → ((end : ChannelEnd) → end_in b ≡ Some end → (carried : ℕ) → is_in (message_objects end.messages) carried ≡ true → ⊥)
      → ((n : ℕ) → n < m → is_in (pending_in b) n ≡ true → ⊥) → IsNew m (record { id = id; body = b })
  quiet_new id b above mute lists = record { above = above; mute = mute; lists = lists }

  new_end_quiet : (id : ℕ) (peer : Option ℕ) (path : Option (List ℕ)) (client : Option Connector) (slots size : ℕ) (state : EndState) → m ≤ id
      → IsNew m (record { id = id; body = body.End (new_end peer state path client slots size) })
  new_end_quiet id peer path client slots size state above =
      quiet_new id (body.End (new_end peer state path client slots size)) above
      (λ end is carried names. let same : new_end peer state path client slots size ≡ end = cc in
      let none : is_in (message_objects end.messages) carried ≡ false = ap (λ (v : ChannelEnd). is_in (message_objects v.messages) carried) (sym same) in
      let bad : false ≡ true = sym none ∙ names in absurd (cc))
      (λ n low lists. absurd (cc))

  memory_new : (id : ℕ) (memory : MemoryRef) → m ≤ id → IsNew m (record { id = id; body = body.Memory memory })
  memory_new id memory above = quiet_new id (body.Memory memory) above (λ end is. absurd (cc)) (λ n low lists. absurd (cc))

  pub set_new : (id : ℕ) (set : HandleSet) → m ≤ id → IsNew m (record { id = id; body = body.Set set })
  set_new id set above = quiet_new id (body.Set set) above (λ end is. absurd (cc)) (λ n low lists. absurd (cc))

  pub stays_added : (c : CoreState) (b : Body) → IsNew m (record { id = c.next; body = b }) → Stays m c (added b c)
  stays_added c b fresh = stays_more m c (added b c) ((record { id = c.next; body = b }) ∷ []) refl (fresh, tt)

  -- a port lists one more, which has a number that was not given
  listed_more : (server : ℕ) → m ≤ server → (port : Port) (n : ℕ) → n < m → is_in (port.pending ++ server ∷ []) n ≡ true → is_in port.pending n ≡ true
  listed_more server above port n low lists =
      elim (in_either port.pending (server ∷ []) n lists) [
        | inl old ↦ old
        | inr new ↦ let eq : server ≡ n = in_one server n new in absurd (omega (arith, eq, low, above))
      ]

  pair_stays : (client : Connector) (id : ℕ) (port : Port) (c : CoreState) → m ≤ c.next → Stays m c (pending_pair client id port c)
  pair_stays client id port c le =
      let one : Body = body.End (new_end (Some (c.next + 1)) end_state.Connecting None (Some client) port.bufs port.size) in
      let other : Body = server_end c.next port.bufs port.size in
      let f : Port → Port = λ p. record p { pending = p.pending ++ (c.next + 1) ∷ [] } in
      let first : CoreState = added one c in
      let both : CoreState = added other first in
      let here : Stays m c first = stays_added c one (new_end_quiet c.next (Some (c.next + 1)) None (Some client) port.bufs port.size end_state.Connecting le) in
      let there : Stays m first both = stays_added first other (new_end_quiet (c.next + 1) (Some c.next) None None port.bufs port.size end_state.Connecting (omega (arith, le))) in
      let listed : Stays m both (port_changed f id both) = stays_one m both (on_port f) (port_stays m f (listed_more (c.next + 1) (omega (arith, le)))) id in
      stays_twice m c both (port_changed f id both) (stays_twice m c first both here there) listed

  -- A port that is published.

  servers_new : (port : Port) (first : ℕ) (clients xs : List ℕ) → m ≤ first → AllByRecursion (IsNew m) (map (new_server port first clients) xs)
  servers_new port first clients [] le = tt
  servers_new port first clients (x ∷ xs) le =
      (new_end_quiet (server_of first clients x) (Some x) None None port.bufs port.size end_state.Connecting (omega (arith, le)), servers_new port first clients xs le)

  listed_above : (first : ℕ) (clients xs : List ℕ) (n : ℕ) → is_in (map (server_of first clients) xs) n ≡ true → first ≤ n
  listed_above first clients [] n lists = absurd (cc)
  listed_above first clients (x ∷ xs) n lists =
      let P : Bool → Type 0 = λ b. (server_of first clients x == n) ≡ b → (b || is_in (map (server_of first clients) xs) n) ≡ true → first ≤ n in
      let go : (b : Bool) → P b = λ b. elim b as (λ v. P v) [
        | true ↦ (λ e k. let eq : server_of first clients x ≡ n = grind (arith, tests) in omega (arith, eq))
        | false ↦ (λ e k. listed_above first clients xs n k)
      ] in
      go (server_of first clients x == n) refl lists

  publish_stays : (port : Port) (c : CoreState) → m ≤ c.next → Stays m c (publish port c)
  publish_stays port c le =
      let first : ℕ = c.next + 1 in
      let clients : List ℕ = admitted port c.objects in
      let old : CoreState = with_objects (map (decided port first clients) c.objects) c in
      let made : Object = record { id = c.next; body = body.Port (record port { pending = map (server_of first clients) clients }) } in
      let more : List Object = made ∷ map (new_server port first clients) clients in
      let here : Stays m c old = stays_all m c (decided port first clients) (λ o. refl) (λ o. end_stays m (decided_end port first clients o.id) (decided_so port first clients o.id) o.body) in
      let port_new : IsNew m made =
      quiet_new c.next (body.Port (record port { pending = map (server_of first clients) clients })) le (λ end is. absurd (cc))
      (λ n low lists. let above : first ≤ n = listed_above first clients clients n lists in absurd (omega (arith, above, low, le))) in
      stays_twice m c old (publish port c) here (stays_more m old (publish port c) more refl (port_new, servers_new port first clients clients (omega (arith, le))))

  -- Two ends that are accepted.

  port_alike : (f g : Port → Port) (port : Port) → f port ≡ g port → (o : Option Object) → as_port o ≡ Some port → option_map (on_body (on_port f)) o ≡ option_map (on_body (on_port g)) o
  port_alike f g port same None is = refl
  port_alike f g port same (Some x) is =
      elim x.body as (λ b. port_in b ≡ Some port → option_map (on_body (on_port f)) (Some (record x { body = b })) ≡ option_map (on_body (on_port g)) (Some (record x { body = b }))) [
        | body.Port old ↦ (λ k. let eq : old ≡ port = cc in ap (λ (v : Port). Some (record x { body = body.Port v })) (ap f eq ∙ (same ∙ ap g (sym eq))))
        | body.End end ↦ (λ k. refl)
        | body.Set set ↦ (λ k. refl)
        | body.Memory memory ↦ (λ k. refl)
      ] is

  -- the port's list without its first
  fewer_rest : (server : ℕ) (rest : List ℕ) (c : CoreState) (id : ℕ) (port : Port) → port_of c.objects id ≡ Some port → port.pending ≡ server ∷ rest
      → Stays m c (port_changed (λ p. record p { pending = rest }) id c)
  fewer_rest server rest c id port there first =
      let tail_of : Port → Port = λ p. record p { pending = drop 1 p.pending } in
      let to_rest : Port → Port = λ p. record p { pending = rest } in
      let same : tail_of port ≡ to_rest port = ap (λ l. record port { pending = drop 1 l }) first in
      let lists : changed (on_port tail_of) c.objects id ≡ changed (on_port to_rest) c.objects id =
      same_change (on_port tail_of) (on_port to_rest) c.objects id (port_alike tail_of to_rest port same (object_of c.objects id) there) in
      let fewer : (xs : List ℕ) (n : ℕ) → is_in (drop 1 xs) n ≡ true → is_in xs n ≡ true = λ xs n.
      elim xs as (λ v. is_in (drop 1 v) n ≡ true → is_in v n ≡ true) [ [] ↦ (λ k. k) | x ∷ ys ↦ (λ k. elim (x == n) as (λ b. (b || is_in ys n) ≡ true) [ true ↦ refl | false ↦ k ]) ] in
      subst (λ (l : List Object). Stays m c (with_objects l c)) lists (stays_one m c (on_port tail_of) (port_stays m tail_of (λ p n low k. fewer p.pending n k)) id)

  accepted_client_stays : (c : CoreState) (client : Option ℕ) → Stays m c (accept_client client c)
  accepted_client_stays c None = stays_same m c c refl
  accepted_client_stays c (Some client) = on_one c (accepted_end true) (accepted_so true) client

  accepted_stays : (id server : ℕ) (rest : List ℕ) (port : Port) (c : CoreState) → port_of c.objects id ≡ Some port → port.pending ≡ server ∷ rest → Stays m c (after_accept id server rest c)
  accepted_stays id server rest port c there first =
      let less : CoreState = port_changed (λ p. record p { pending = rest }) id c in
      let ends : CoreState = end_changed (accepted_end false) server less in
      let client : Option ℕ = peer_of (end_of c.objects server) in
      stays_twice m c ends (accept_client client ends) (stays_twice m c less ends (fewer_rest server rest c id port there first) (on_one less (accepted_end false) (accepted_so false) server))
      (accepted_client_stays ends client)

  -- The sweep.

  pub sweep_stays : (c : CoreState) → Stays m c (sweep c)
  unfolding sweep pruned kept
  sweep_stays c =
      let prune : Port → Port = pruned_port (reached c) c.objects in
      let less : CoreState = pruned (reached c) c in
      let marked : List ℕ = reached less in
      let fewer : CoreState = with_objects (filter (λ object. is_in marked object.id) less.objects) less in
      let one : Stays m c less = stays_all m c (on_body (on_port prune)) (λ o. refl) (λ o. port_stays m prune (λ port n low lists.
      (both_of (has_marked_peer (reached c) (end_of c.objects n)) (is_in port.pending n) (sym (in_filtered (λ server. has_marked_peer (reached c) (end_of c.objects server)) port.pending n) ∙ lists)).1) o.body) in
      let two : Stays m less fewer = stays_fewer m less (is_in marked) in
      let three : Stays m fewer (sweep c) = stays_all m fewer (on_body (on_end (cut_end marked))) (λ o. refl)
      (λ o. end_stays m (cut_end marked) (λ end. record { client = refl; mute = λ normal object names. names }) o.body) in
      stays_twice m c fewer (sweep c) (stays_twice m c less fewer one two) three

  pub small_stays : (by : Option ℕ) (c : CoreState) → m ≤ c.next → (change : SmallChange by c) → Stays m c (after by c change)
  small_stays by c le (cookie_changed app of_app handle cookie entry held) = stays_same m c _ refl
  small_stays by c le (entry_removed app of_app handle entry held) = stays_same m c _ refl
  small_stays by c le (entry_installed app of_app object nameable room) = stays_same m c _ refl
  small_stays by c le (parts_installed app of_app id number count end message there is_open room) = stays_same m c _ refl
  small_stays by c le (last_changed app of_app entry first) = stays_same m c _ refl
  small_stays by c le (memory_made size flags lawful) = stays_added c (body.Memory (new_memory size flags)) (memory_new c.next (new_memory size flags) le)
  small_stays by c le (client_made client path way) =
      stays_added c (body.End (new_end None end_state.Waiting (Some path) (Some client) 0 0)) (new_end_quiet c.next None (Some path) (Some client) 0 0 end_state.Waiting le)
  small_stays by c le (pair_made client path id port way lets) = pair_stays client id port c le
  small_stays by c le (port_made path bufs size flags lawful free) = publish_stays (new_port path bufs size flags) c le
  small_stays by c le (member_removed id label set there known) = stays_one m c (on_set (without_label label)) (set_stays m (without_label label)) id
  small_stays by c le (member_remasked id label mask cookie set there known) = stays_one m c (on_set (remasked label mask cookie)) (set_stays m (remasked label mask cookie)) id
  small_stays by c le (member_put_last id member set there ready) = stays_one m c (on_set (with_last member)) (set_stays m (with_last member)) id
  small_stays by c le (memory_written id offset bytes memory there range writable) = stays_one m c (on_memory (written offset bytes)) (memory_stays m (written offset bytes)) id
  small_stays by c le (message_sent from source to end bytes parts may carries) = sent_stays by c from source to end bytes parts may carries
  small_stays by c le (message_opened id end message there first) =
      on_one c (with_opened (free_id end.messages)) (λ e. record { client = refl; mute = λ normal object names. (opened_quiet (free_id end.messages)).fewer e object names }) id
  small_stays by c le (message_retired id number end message there is_open) =
      on_one c (without_opened number) (λ e. record { client = refl; mute = λ normal object names. (retired_quiet number).fewer e object names }) id
  small_stays by c le (end_marked mark id) = on_one c (marked_by mark) (marked_so mark) id
  small_stays by c le (end_accepted app of_app id server rest port there first room) =
      stays_twice m c (after_accept id server rest c) _ (accepted_stays id server rest port c there first) (stays_same m (after_accept id server rest c) _ refl)

-- none changes which ends the bridge names
pub bridged_same : (by : Option ℕ) (c : CoreState) (change : SmallChange by c) → (after by c change).bridged ≡ c.bridged
bridged_same by c change = (row_leaves by c (after by c change) (goes_on (after by c change) c (stays c refl) change refl)).bridged
