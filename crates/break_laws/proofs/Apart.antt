-- At every moment of every history the kernel keeps apart what is its own: what is held is neither an end of the bridge nor pending, and no message at an
-- end of the bridge carries anything.
use Rattle.std.proofs.Common.{◌≡◌, ◌≤◌, ◌<◌, ℕ, ◌==◌, ◌&&◌, ◌||◌, inl, inr, Bool, true, false, cond, not, List, [], ◌∷◌, Option, Some, None, refl, sym, ◌∙◌, ap, subst, arith, tests}
use Rattle.std.specs.Prelude.{slice_get}
use Rattle.std.specs.List.{AllByRecursion, list_any}
use Rattle.std.specs.Option.{is_some, option_map}
use Rattle.kernel_values.specs.SceneLaw.{SceneValue}
use Rattle.kernel_values.specs.declared.call.Call.{Call}
use Rattle.kernel_values.specs.declared.entry.Entry.{Entry}
use Rattle.kernel_values.specs.declared.reply.Answer.{Answer}
use Rattle.kernel_values.specs.declared.state.Application.{Application}
use Rattle.kernel_values.specs.declared.state.Body.{Body}
use Rattle.kernel_values.specs.declared.state.Body.TheVariants as body
use Rattle.kernel_values.specs.declared.state.ChannelEnd.{ChannelEnd}
use Rattle.kernel_values.specs.declared.state.Connector.{Connector}
use Rattle.kernel_values.specs.declared.state.Connector.TheVariants as connector
use Rattle.kernel_values.specs.declared.state.CoreState.{CoreState}
use Rattle.kernel_values.specs.declared.state.EndState.TheVariants as end_state
use Rattle.kernel_values.specs.declared.state.HandleSet.{HandleSet}
use Rattle.kernel_values.specs.declared.state.Object.{Object}
use Rattle.kernel_values.specs.declared.state.Port.{Port}
use Rattle.kernel_values.specs.declared.state.TableEntry.{TableEntry}
use Rattle.kernel_values.specs.declared.state.Thread.{Thread}
use Rattle.kernel_laws.proofs.Found.{found, found_is}
use Rattle.kernel_laws.proofs.Starts.{same_ended, same_idle, same_started}
use Rattle.kernel_types.specs.Applications.{application_ended, is_started_again, started, without_app}
use Rattle.kernel_types.specs.Bridge.{bridging, unbridged}
use Rattle.kernel_types.specs.Connects.{accept_client, accepted_end, peer_of}
use Rattle.kernel_types.specs.CoreStep.{core_idle}
use Rattle.kernel_types.specs.History.{state_after}
use Rattle.kernel_types.specs.Messages.{is_bridge_end, is_normal_world}
use Rattle.kernel_types.specs.Names.{Name, activity_names, message_objects}
use Rattle.kernel_types.specs.Objects.{added, as_end, as_port, end_changed, end_in, end_of, is_there, object_of, on_end, on_port, on_set, port_changed, port_in, port_of}
use Rattle.kernel_types.specs.Opening.{opening, opening_core}
use Rattle.kernel_types.specs.Reach.{is_in}
use Rattle.kernel_types.specs.Sets.{new_member, with_member}
use Rattle.kernel_types.specs.Sweep.{cut_end, is_live, kept, pruned, pruned_port, reached, sweep}
use Rattle.kernel_types.specs.Threads.{running_activity, with_activity}
use Rattle.step_laws.proofs.Invariants.{Invariant, holds_along}
use Rattle.step_laws.proofs.Leaving.{Untouched, sweep_leaves}
use Rattle.step_laws.proofs.TurnLeaving.{idle_leaves, started_left}
use Rattle.step_laws.proofs.There.{new_made}
use Rattle.step_laws.specs.SmallChanges.{IsMade, SmallChange, after, after_accept, is_app_connector, is_of_app, is_of_bridge}
use Rattle.step_laws.specs.SmallChanges.SmallChange.{end_accepted}
use Rattle.step_laws.specs.Walks.{MadeBy, ThreadChange, after_thread}
use Rattle.step_laws.specs.Walks.CoreChange.{by_call, by_small, end_bridged, end_unbridged, objects_swept, time_passed}
use Rattle.step_laws.specs.Walks.ThreadChange.{app_over, app_started, member_added, set_made, thread_over, wait_begun}
use Rattle.set_laws.proofs.Deepening.{small_shrinks, swept_shrinks}
use Rattle.set_laws.proofs.Known.{Known, weaker}
use Rattle.set_laws.proofs.Soundness.{openings_given}
use Rattle.set_laws.proofs.Soundness.{apart as given_apart}
use Rattle.set_laws.proofs.Lists.{all_weaker}
use Rattle.count_laws.specs.Thinning.{In, IsPending, NamedThere}
use Rattle.count_laws.proofs.Counting.{cut_object, of_kept, of_pruned, pruned_object}
use Rattle.name_laws.proofs.There.{change_there, histories_there, resumed_there, served_there}
use Rattle.fit_laws.specs.Fitting.{FittingCore, IsMated, IsServer}
use Rattle.fit_laws.proofs.Looks.{end_at, ends_same, port_leaves_end}
use Rattle.fit_laws.proofs.Meeting.{in_found}
use Rattle.fit_laws.proofs.Numbers.{in_either, in_one}
use Rattle.fit_laws.proofs.Steps.{change_fits, histories_fit, same_fits}
use Rattle.break_laws.specs.Breaks.{is_pending}
use Rattle.break_laws.specs.Held.{HeldAre, IsOpen, KeepsApart, held_in}
use Rattle.break_laws.proofs.HeldChanges.{call_held, idled_held, resumed_held, small_held, started_held}
use Rattle.break_laws.proofs.Keeping.{all_of, held_of, never_true}
use Rattle.break_laws.proofs.Namers.{both_of, in_filtered, named}
use Rattle.break_laws.proofs.Namers.Namer.{by_bridge}
use Rattle.break_laws.proofs.Staying.{Kept, Stays, set_stays, stays_one, stays_same, stays_twice}
use Rattle.break_laws.proofs.Staying.Came.{is_new, was_there}
use Rattle.break_laws.proofs.StayingChanges.{bridged_same, set_new, small_stays, stays_added, sweep_stays}
use Rattle.break_laws.proofs.Surviving.{pends_at}

-- what may be held: its number was given, it is no end of the bridge, and no port lists it
record IsFree (c : CoreState) (n : ℕ) : Type 0 where
  low : n < c.next
  kind : is_bridge_end (end_of c.objects n) ≡ false
  apart : is_pending c.objects n ≡ false

record IsBridges (c : CoreState) (n : ℕ) : Type 0 where
  low : n < c.next
  kind : is_there c.objects n ≡ true → is_bridge_end (end_of c.objects n) ≡ true

record IsApart (c : CoreState) : Type 0 where
  fits : FittingCore c
  there : NamedThere c
  held : HeldAre (IsFree c) c
  bridged : (n : ℕ) → is_in c.bridged n ≡ true → IsBridges c n
  mute : (n object : ℕ) (end : ChannelEnd) → end_of c.objects n ≡ Some end → is_normal_world end.client ≡ true → is_in (message_objects end.messages) object ≡ true → ⊥

-- an end of the bridge
record BridgeEnd (o : Option ChannelEnd) : Type 0 where
  end : ChannelEnd
  there : o ≡ Some end
  normal : is_normal_world end.client ≡ true

bridge_end : (o : Option ChannelEnd) → is_bridge_end o ≡ true → BridgeEnd o
bridge_end None is = absurd (cc)
bridge_end (Some end) is = record { end = end; there = refl; normal = is }

some_end : (o : Option ChannelEnd) → is_some o ≡ true → (end : ChannelEnd) × (o ≡ Some end)
some_end None is = absurd (cc)
some_end (Some end) is = (end, refl)

held_weaker : (P Q : ℕ → Type 0) → ((n : ℕ) → P n → Q n) → (c : CoreState) → HeldAre P c → HeldAre Q c
held_weaker P Q up c k = record {
  tables = all_weaker (λ (a : Application). AllByRecursion (λ (e : TableEntry). P e.object) a.table) (λ (a : Application). AllByRecursion (λ (e : TableEntry). Q e.object) a.table)
      (λ a all. all_weaker (λ (e : TableEntry). P e.object) (λ (e : TableEntry). Q e.object) (λ e is. up e.object is) a.table all) c.apps k.tables;
  waits = all_weaker (λ (t : Thread). AllByRecursion (λ (e : Name). P e.object) (activity_names t.activity)) (λ (t : Thread). AllByRecursion (λ (e : Name). Q e.object) (activity_names t.activity))
      (λ t all. all_weaker (λ (e : Name). P e.object) (λ (e : Name). Q e.object) (λ e is. up e.object is) (activity_names t.activity) all) c.threads k.waits;
  objects = all_weaker (λ (o : Object). AllByRecursion P (held_in o.body)) (λ (o : Object). AllByRecursion Q (held_in o.body)) (λ o all. all_weaker P Q up (held_in o.body) all) c.objects k.objects;
}

-- What stays.

module _ (c d : CoreState) (stays : Stays c.next c d) (le : c.next ≤ d.next) where
  kind_stays : (n : ℕ) → n < c.next → is_bridge_end (end_of c.objects n) ≡ false → is_bridge_end (end_of d.objects n) ≡ false
  kind_stays n low apart =
      never_true (is_bridge_end (end_of d.objects n)) (λ is.
      let b : BridgeEnd (end_of d.objects n) = bridge_end (end_of d.objects n) is in
      elim (stays.ends n b.end b.there) [
        | was_there w ↦ let bad : false ≡ true = sym apart ∙ (ap is_bridge_end w.there ∙ (ap is_normal_world (sym w.is.client) ∙ b.normal)) in absurd (cc)
        | is_new above none ↦ absurd (omega (arith, above, low))
      ])

  free_stays : (n : ℕ) → IsFree c n → IsFree d n
  free_stays n k = record {
    low = omega (arith, k.low, le);
    kind = kind_stays n k.low k.kind;
    apart = never_true (is_pending d.objects n) (λ pends. let bad : false ≡ true = sym k.apart ∙ stays.pends n k.low pends in absurd (cc));
  }

  bridges_stay : (n : ℕ) → IsBridges c n → IsBridges d n
  bridges_stay n k = record {
    low = omega (arith, k.low, le);
    kind = λ there.
        let was : Kept c d n = stays.keeps n k.low there in
        let b : BridgeEnd (end_of c.objects n) = bridge_end (end_of c.objects n) (k.kind was.there) in
        let now : (end : ChannelEnd) × (end_of d.objects n ≡ Some end) = some_end (end_of d.objects n) (was.ends (ap is_some b.there)) in
        elim (stays.ends n now.0 now.1) [
          | was_there w ↦
              let same : Some b.end ≡ Some w.old = sym b.there ∙ w.there in
              let eq : b.end ≡ w.old = cc in
              ap is_bridge_end now.1 ∙ (ap is_normal_world (w.is.client ∙ ap (λ (e : ChannelEnd). e.client) (sym eq)) ∙ b.normal)
          | is_new above none ↦ absurd (omega (arith, above, k.low))
        ];
  }

  mute_stays : ((n object : ℕ) (end : ChannelEnd) → end_of c.objects n ≡ Some end → is_normal_world end.client ≡ true → is_in (message_objects end.messages) object ≡ true → ⊥)
      → (n object : ℕ) (end : ChannelEnd) → end_of d.objects n ≡ Some end → is_normal_world end.client ≡ true → is_in (message_objects end.messages) object ≡ true → ⊥
  mute_stays mute n object end there normal names =
      elim (stays.ends n end there) [
        | was_there w ↦ let was_normal : is_normal_world w.old.client ≡ true = ap is_normal_world (sym w.is.client) ∙ normal in
            mute n object w.old w.there was_normal (w.is.mute was_normal object names)
        | is_new above none ↦ none normal object names
      ]

  -- with what is held, and the bridge's ends
  apart_then : IsApart c → FittingCore d → NamedThere d → HeldAre (IsFree d) d → ((n : ℕ) → is_in d.bridged n ≡ true → is_in c.bridged n ≡ true) → IsApart d
  apart_then k fits there held fewer = record {
    fits = fits;
    there = there;
    held = held;
    bridged = λ n is. bridges_stay n (k.bridged n (fewer n is));
    mute = mute_stays k.mute;
  }

  held_then : IsApart c → HeldAre (IsFree d) c
  held_then k = held_weaker (IsFree c) (IsFree d) free_stays c k.held

-- What an application made is free, and what the bridge made is the bridge's.

record Kind (such : Body → Bool) (c : CoreState) (n : ℕ) : Type 0 where
  x : Object
  at : object_of c.objects n ≡ Some x
  is : such x.body ≡ true

kind_in : (such : Body → Bool) (objects : List Object) (n : ℕ) → list_any (λ other. other.id == n && such other.body) objects ≡ true → (x : Object) × In x objects × (x.id ≡ n) × (such x.body ≡ true)
kind_in such [] n is = absurd (cc)
kind_in such (o ∷ objects) n is =
    let P : Bool → Type 0 = λ b. (o.id == n && such o.body) ≡ b → (b || list_any (λ other. other.id == n && such other.body) objects) ≡ true → (x : Object) × In x (o ∷ objects) × (x.id ≡ n) × (such x.body ≡ true) in
    let go : (b : Bool) → P b = λ b. elim b as (λ v. P v) [
      | true ↦ (λ e k. let both : ((o.id == n) ≡ true) × (such o.body ≡ true) = both_of (o.id == n) (such o.body) e in
          let here : (o.id == n) ≡ true = both.0 in
          let same : o.id ≡ n = grind (arith, tests) in (o, inl refl, same, both.1))
      | false ↦ (λ e k. let more : (x : Object) × In x objects × (x.id ≡ n) × (such x.body ≡ true) = kind_in such objects n k in (more.0, inr more.1, more.2, more.3))
    ] in
    go (o.id == n && such o.body) refl is

kind_of : (such : Body → Bool) (c : CoreState) → FittingCore c → (n : ℕ) → list_any (λ other. other.id == n && such other.body) c.objects ≡ true → Kind such c n
kind_of such c fits n is =
    let w : (x : Object) × In x c.objects × (x.id ≡ n) × (such x.body ≡ true) = kind_in such c.objects n is in
    record {
      x = w.0;
      at = found_is c.objects n ∙ (ap (found c.objects) (sym w.2) ∙ in_found 0 c.objects c.next fits.rises w.0 w.1);
      is = w.3;
    }

app_kind : (b : Body) → is_of_app b ≡ true → is_bridge_end (end_in b) ≡ false
app_kind (body.Port port) is = refl
app_kind (body.End end) is = elim end.client as (λ o. is_app_connector o ≡ true → is_normal_world o ≡ false) [
  | None ↦ (λ k. refl)
  | Some who ↦ elim who as (λ w. is_app_connector (Some w) ≡ true → is_normal_world (Some w) ≡ false) [ connector.App app ↦ (λ k. refl) | connector.NormalWorld ↦ (λ k. absurd (cc)) ]
] is
app_kind (body.Set set) is = refl
app_kind (body.Memory memory) is = refl

app_client : (o : Option Connector) → is_app_connector o ≡ true → is_some o ≡ true
app_client None is = absurd (cc)
app_client (Some who) is = refl

bridge_kind : (b : Body) → is_of_bridge b ≡ true → is_bridge_end (end_in b) ≡ true
bridge_kind (body.Port port) is = absurd (cc)
bridge_kind (body.End end) is = is
bridge_kind (body.Set set) is = absurd (cc)
bridge_kind (body.Memory memory) is = absurd (cc)

-- a pending server end
server_of_pending : (c : CoreState) → FittingCore c → (n : ℕ) → is_pending c.objects n ≡ true → IsServer (end_of c.objects) n
server_of_pending c fits n pends =
    let p : IsPending c.objects n = pends_at c.objects n pends in
    let at : port_of c.objects p.at.id ≡ Some p.port = ap as_port (found_is c.objects p.at.id ∙ in_found 0 c.objects c.next fits.rises p.at p.within) ∙ ap port_in p.is in
    fits.fits.pending p.at.id n p.port at p.lists

no_server : (b : Body) (end : ChannelEnd) → is_of_app b ≡ true → end_in b ≡ Some end → is_some end.client ≡ false → ⊥
no_server (body.Port port) end is there none = absurd (cc)
no_server (body.End other) end is there none =
    let same : other ≡ end = cc in
    let bad : false ≡ true = sym none ∙ (ap (λ (e : ChannelEnd). is_some e.client) (sym same) ∙ app_client other.client is) in absurd (cc)
no_server (body.Set set) end is there none = absurd (cc)
no_server (body.Memory memory) end is there none = absurd (cc)

made_free : (c : CoreState) → FittingCore c → (n : ℕ) → IsMade is_of_app c n → IsFree c n
made_free c fits n made =
    let k : Kind is_of_app c n = kind_of is_of_app c fits n made.made in
    record {
      low = made.given;
      kind = ap (λ o. is_bridge_end (as_end o)) k.at ∙ app_kind k.x.body k.is;
      apart = never_true (is_pending c.objects n) (λ pends.
          let s : IsServer (end_of c.objects) n = server_of_pending c fits n pends in
          no_server k.x.body s.end k.is (sym (ap as_end k.at) ∙ s.there) s.side);
    }

made_bridges : (c : CoreState) → FittingCore c → (n : ℕ) → IsMade is_of_bridge c n → IsBridges c n
made_bridges c fits n made =
    let k : Kind is_of_bridge c n = kind_of is_of_bridge c fits n made.made in
    record { low = made.given; kind = λ there. ap (λ o. is_bridge_end (as_end o)) k.at ∙ bridge_kind k.x.body k.is }

-- A pending server end that is accepted.

no_client_at_all : (o : Option Connector) → is_some o ≡ false → is_normal_world o ≡ false
no_client_at_all None is = refl
no_client_at_all (Some who) is = absurd (cc)

accepted_end_of : (o : Option ℕ) (ends : CoreState) (server : ℕ) (end fin : ChannelEnd) → end_of ends.objects server ≡ Some end → end.state ≡ end_state.Connected
    → end_of (accept_client o ends).objects server ≡ Some fin → fin.state ≡ end_state.Connected
accepted_end_of None ends server end fin there state is =
    let same : Some end ≡ Some fin = sym there ∙ is in
    let eq : end ≡ fin = cc in
    ap (λ (e : ChannelEnd). e.state) (sym eq) ∙ state
accepted_end_of (Some client) ends server end fin there state is =
    let at : end_of (accept_client (Some client) ends).objects server ≡ cond (client == server) (Some (accepted_end true end)) (Some end) =
    end_at (accepted_end true) ends.objects client server ∙ ap (λ o. cond (client == server) (option_map (accepted_end true) o) o) there in
    let P : Bool → Type 0 = λ b. cond b (Some (accepted_end true end)) (Some end) ≡ Some fin → fin.state ≡ end_state.Connected in
    let go : (b : Bool) → P b = λ b. elim b as (λ v. P v) [
      | true ↦ (λ k. let eq : accepted_end true end ≡ fin = cc in ap (λ (e : ChannelEnd). e.state) (sym eq))
      | false ↦ (λ k. let eq : end ≡ fin = cc in ap (λ (e : ChannelEnd). e.state) (sym eq) ∙ state)
    ] in
    go (client == server) (sym at ∙ is)

module _ (c : CoreState) (fits : FittingCore c) (id server : ℕ) (rest : List ℕ) (port : Port) (there : port_of c.objects id ≡ Some port) (first : port.pending ≡ server ∷ rest) where
  is_server : IsServer (end_of c.objects) server
  is_server =
      let here : (server == server) ≡ true = grind (arith, tests) in
      fits.fits.pending id server port there (ap (λ l. is_in l server) first ∙ ap (λ b. b || is_in rest server) here)

  server_low : server < c.next
  server_low =
      let mated : IsMated (end_of c.objects) server is_server.end = fits.fits.live server is_server.end is_server.there (ap is_live is_server.state) in
      fits.fits.low mated.number server mated.mate mated.there mated.back

  server_kind : is_bridge_end (end_of c.objects server) ≡ false
  server_kind = ap is_bridge_end is_server.there ∙ no_client_at_all is_server.end.client is_server.side

  -- it is pending no more, since it is Connected
  accepted_apart : FittingCore (after_accept id server rest c) → is_pending (after_accept id server rest c).objects server ≡ false
  accepted_apart later =
      let less : CoreState = port_changed (λ p. record p { pending = rest }) id c in
      let ends : CoreState = end_changed (accepted_end false) server less in
      let here : (server == server) ≡ true = grind (arith, tests) in
      let at : end_of ends.objects server ≡ Some (accepted_end false is_server.end) =
      end_at (accepted_end false) less.objects server server
      ∙ (ap (λ b. cond b (option_map (accepted_end false) (end_of less.objects server)) (end_of less.objects server)) here
      ∙ ap (option_map (accepted_end false)) (ends_same _ (port_leaves_end _) c.objects id server ∙ is_server.there)) in
      never_true (is_pending (after_accept id server rest c).objects server) (λ pends.
      let s : IsServer (end_of (after_accept id server rest c).objects) server = server_of_pending (after_accept id server rest c) later server pends in
      let connected : s.end.state ≡ end_state.Connected = accepted_end_of (peer_of (end_of c.objects server)) ends server (accepted_end false is_server.end) s.end at refl s.there in
      let bad : end_state.Connecting ≡ end_state.Connected = sym s.state ∙ connected in absurd (cc))

-- Small changes.

module _ (by : Option ℕ) (c : CoreState) (k : IsApart c) (made_by : MadeBy by c) (change : SmallChange by c) where
  abbrev d : CoreState
  d = after by c change

  small_le : c.next ≤ d.next
  small_le = (small_shrinks by c change).next

  small_so : Stays c.next c d
  small_so = small_stays c.next by c (omega arith) change

  small_fit : FittingCore d
  small_fit = change_fits None c (by_small by made_by change) k.fits

  small_there : NamedThere d
  small_there = change_there None c (by_small by made_by change) k.there

  made_is_free : (object : ℕ) → IsMade is_of_app c object → IsFree d object
  made_is_free object made = free_stays c d small_so small_le object (made_free c k.fits object made)

  small_bridged : (n : ℕ) → is_in d.bridged n ≡ true → is_in c.bridged n ≡ true
  small_bridged n is = ap (λ l. is_in l n) (sym (bridged_same by c change)) ∙ is

  small_with : HeldAre (IsFree d) d → IsApart d
  small_with held = apart_then c d small_so small_le k small_fit small_there held small_bridged

small_apart : (by : Option ℕ) (c : CoreState) → IsApart c → MadeBy by c → (change : SmallChange by c) → IsApart (after by c change)
small_apart by c k made_by (end_accepted app of_app id server rest port there first room) =
    let change : SmallChange by c = end_accepted app of_app id server rest port there first room in
    let d : CoreState = after by c change in
    let joined : FittingCore d = small_fit by c k made_by change in
    let free : IsFree d server = record {
      low = omega (arith, server_low c k.fits id server rest port there first, small_le by c k made_by change);
      kind = kind_stays c d (small_so by c k made_by change) (small_le by c k made_by change) server (server_low c k.fits id server rest port there first) (server_kind c k.fits id server rest port there first);
      apart = accepted_apart c k.fits id server rest port there first (record { rises = joined.rises; fits = joined.fits });
    } in
    small_with by c k made_by change
    (small_held (IsFree d) c (held_then c d (small_so by c k made_by change) (small_le by c k made_by change) k) (made_is_free by c k made_by change) by change free)
small_apart by c k made_by change =
    small_with by c k made_by change
    (small_held (IsFree (after by c change)) c (held_then c (after by c change) (small_so by c k made_by change) (small_le by c k made_by change) k) (made_is_free by c k made_by change) by change tt)

-- Calls, and what else changes.

started_bridged : (place : ℕ) (c : CoreState) → (started place c).bridged ≡ c.bridged
started_bridged place c = (started_left place c).bridged

ended_bridged : (app : ℕ) (c : CoreState) → (application_ended app c).bridged ≡ c.bridged
unfolding application_ended
ended_bridged app c =
    elim (is_started_again (slice_get c.apps app)) as (λ b. (cond b (started app (without_app app c)) (without_app app c)).bridged ≡ c.bridged) [
      | true ↦ started_bridged app (without_app app c)
      | false ↦ refl
    ]

-- where objects stay, and the numbers
same_then : (c d : CoreState) → IsApart c → (d.objects ≡ c.objects) × (d.next ≡ c.next) → NamedThere d → ((n : ℕ) → is_in d.bridged n ≡ true → is_in c.bridged n ≡ true)
    → (HeldAre (IsFree d) c → HeldAre (IsFree d) d) → IsApart d
same_then c d k same there fewer held =
    let le : c.next ≤ d.next = omega (arith, same.1) in
    let so : Stays c.next c d = stays_same c.next c d same.0 in
    apart_then c d so le k (same_fits c d same k.fits) there (held (held_then c d so le k)) fewer

call_there : (app thread : ℕ) (asked : Call) (said : Answer) (c : CoreState) → NamedThere c → (change : ThreadChange app thread asked said c) → NamedThere (after_thread app thread asked said c change)
call_there app thread asked said c there change = change_there (Some asked) c (by_call app thread asked said refl change) there

call_fits_so : (app thread : ℕ) (asked : Call) (said : Answer) (c : CoreState) → FittingCore c → (change : ThreadChange app thread asked said c) → FittingCore (after_thread app thread asked said c change)
call_fits_so app thread asked said c fits change = change_fits (Some asked) c (by_call app thread asked said refl change) fits

call_next : (app thread : ℕ) (asked : Call) (said : Answer) (c : CoreState) (change : ThreadChange app thread asked said c) → c.next ≤ (after_thread app thread asked said c change).next
call_next app thread asked said c (set_made is by room) = omega arith
call_next app thread asked said c (member_added held handle mask cookie id set entry is here may) = omega arith
call_next app thread asked said c (wait_begun on awaits goes is) = omega arith
call_next app thread asked said c (app_started place was there still connects) = omega (arith, (same_started place c).1)
call_next app thread asked said c (thread_over ends) = omega arith
call_next app thread asked said c (app_over ends) = omega (arith, (same_ended app c).1)

call_stays : (app thread : ℕ) (asked : Call) (said : Answer) (c : CoreState) (change : ThreadChange app thread asked said c) → Stays c.next c (after_thread app thread asked said c change)
call_stays app thread asked said c (set_made is by room) =
    let one : Body = body.Set (record { members = [] }) in
    stays_twice c.next c (added one c) _ (stays_added c.next c one (set_new c.next c.next (record { members = [] }) (omega arith))) (stays_same c.next (added one c) _ refl)
call_stays app thread asked said c (member_added held handle mask cookie id set entry is here may) =
    let f : HandleSet → HandleSet = with_member (new_member handle entry.object mask cookie) in
    stays_one c.next c (on_set f) (set_stays c.next f) id
call_stays app thread asked said c (wait_begun on awaits goes is) = stays_same c.next c _ refl
call_stays app thread asked said c (app_started place was there still connects) = stays_same c.next c (started place c) (same_started place c).0
call_stays app thread asked said c (thread_over ends) = stays_same c.next c _ refl
call_stays app thread asked said c (app_over ends) = stays_same c.next c (application_ended app c) (same_ended app c).0

call_bridged : (app thread : ℕ) (asked : Call) (said : Answer) (c : CoreState) (change : ThreadChange app thread asked said c) → (after_thread app thread asked said c change).bridged ≡ c.bridged
call_bridged app thread asked said c (set_made is by room) = refl
call_bridged app thread asked said c (member_added held handle mask cookie id set entry is here may) = refl
call_bridged app thread asked said c (wait_begun on awaits goes is) = refl
call_bridged app thread asked said c (app_started place was there still connects) = started_bridged place c
call_bridged app thread asked said c (thread_over ends) = refl
call_bridged app thread asked said c (app_over ends) = ended_bridged app c

module _ (app thread : ℕ) (asked : Call) (said : Answer) (c : CoreState) (k : IsApart c) (change : ThreadChange app thread asked said c) where
  abbrev called : CoreState
  called = after_thread app thread asked said c change

  call_with : HeldAre (IsFree called) called → IsApart called
  call_with held =
      apart_then c called (call_stays app thread asked said c change) (call_next app thread asked said c change) k (call_fits_so app thread asked said c k.fits change)
      (call_there app thread asked said c k.there change) held (λ n is. ap (λ l. is_in l n) (sym (call_bridged app thread asked said c change)) ∙ is)

  call_made_free : (object : ℕ) → IsMade is_of_app c object → IsFree called object
  call_made_free object made = free_stays c called (call_stays app thread asked said c change) (call_next app thread asked said c change) object (made_free c k.fits object made)

  call_old : HeldAre (IsFree called) c
  call_old = held_then c called (call_stays app thread asked said c change) (call_next app thread asked said c change) k

call_apart : (app thread : ℕ) (asked : Call) (said : Answer) (c : CoreState) → IsApart c → (change : ThreadChange app thread asked said c) → IsApart (after_thread app thread asked said c change)
call_apart app thread asked said c k (set_made is by room) =
    let change : ThreadChange app thread asked said c = set_made is by room in
    let d : CoreState = after_thread app thread asked said c change in
    let one : Body = body.Set (record { members = [] }) in
    let made : IsMade is_of_app (added one c) c.next = new_made is_of_app one c refl in
    let free : IsFree d c.next = made_free d (call_fits_so app thread asked said c k.fits change) c.next (record { given = made.given; there = made.there; made = made.made }) in
    call_with app thread asked said c k change
    (call_held (IsFree d) c (call_old app thread asked said c k change) (call_made_free app thread asked said c k change) app thread asked said change free)
call_apart app thread asked said c k change =
    call_with app thread asked said c k change
    (call_held (IsFree (after_thread app thread asked said c change)) c (call_old app thread asked said c k change) (call_made_free app thread asked said c k change) app thread asked said change tt)

-- The sweep.

swept_next : (c : CoreState) → c.next ≤ (sweep c).next
swept_next c = (swept_shrinks c).next

cut_holds : (m : List ℕ) (b : Body) → held_in (on_end (cut_end m) b) ≡ held_in b
cut_holds m (body.Port port) = refl
cut_holds m (body.End end) = refl
cut_holds m (body.Set set) = refl
cut_holds m (body.Memory memory) = refl

pruned_holds : (f : Port → Port) (b : Body) → held_in (on_port f b) ≡ held_in b
pruned_holds f (body.Port port) = refl
pruned_holds f (body.End end) = refl
pruned_holds f (body.Set set) = refl
pruned_holds f (body.Memory memory) = refl

swept_apps : (c : CoreState) → (sweep c).apps ≡ c.apps
unfolding sweep pruned kept
swept_apps c = refl

swept_held : (P : ℕ → Type 0) (c : CoreState) → HeldAre P c → HeldAre P (sweep c)
unfolding sweep
swept_held P c k =
    let u : CoreState = pruned (reached c) c in
    let m : List ℕ = reached u in
    let roots_same : Untouched c (sweep c) = sweep_leaves c in
    record {
      tables = subst (λ (apps : List Application). AllByRecursion (λ (a : Application). AllByRecursion (λ (e : TableEntry). P e.object) a.table) apps) (sym (swept_apps c)) k.tables;
      waits = subst (λ (threads : List Thread). AllByRecursion (λ (t : Thread). AllByRecursion (λ (e : Name). P e.object) (activity_names t.activity)) threads) (sym roots_same.threads) k.waits;
      objects = all_of (λ (o : Object). AllByRecursion P (held_in o.body)) (kept m u).objects (λ y h.
          let z : (z : Object) × In z u.objects × (is_in m z.id ≡ true) × (cut_object m z ≡ y) = of_kept m u y h in
          let x : (x : Object) × In x c.objects × (pruned_object (reached c) c.objects x ≡ z.0) = of_pruned (reached c) c z.0 z.1 in
          let same : held_in x.0.body ≡ held_in y.body =
          sym (pruned_holds (pruned_port (reached c) c.objects) x.0.body) ∙ (ap (λ (o : Object). held_in o.body) x.2 ∙ (sym (cut_holds m z.0.body) ∙ ap (λ (o : Object). held_in o.body) z.3)) in
          subst (λ (l : List ℕ). AllByRecursion P l) same (held_of P c.objects x.0 k.objects x.1));
    }

swept_apart : (c : CoreState) → IsApart c → IsApart (sweep c)
swept_apart c k =
    let d : CoreState = sweep c in
    let so : Stays c.next c d = sweep_stays c.next c in
    let le : c.next ≤ d.next = swept_next c in
    apart_then c d so le k (change_fits None c objects_swept k.fits) (change_there None c objects_swept k.there) (swept_held (IsFree d) c (held_then c d so le k))
    (λ n is. ap (λ l. is_in l n) (sym (sweep_leaves c).bridged) ∙ is)

-- All changes.

bridging_apart : (end : ℕ) (c : CoreState) → IsApart c → IsMade is_of_bridge c end → IsApart (bridging end c)
bridging_apart end c k made =
    let d : CoreState = bridging end c in
    let so : Stays c.next c d = stays_same c.next c d refl in
    let le : c.next ≤ d.next = omega arith in
    let held : HeldAre (IsFree d) c = held_then c d so le k in
    record {
      fits = record { rises = k.fits.rises; fits = k.fits.fits };
      there = change_there None c (end_bridged end made) k.there;
      held = record { tables = held.tables; waits = held.waits; objects = held.objects };
      bridged = λ n is.
          elim (in_either c.bridged (end ∷ []) n is) [
            | inl old ↦ bridges_stay c d so le n (k.bridged n old)
            | inr new ↦ let eq : end ≡ n = in_one end n new in bridges_stay c d so le n (subst (λ m. IsBridges c m) eq (made_bridges c k.fits end made))
          ];
      mute = k.mute;
    }

unbridged_apart : (end : ℕ) (c : CoreState) → IsApart c → IsApart (unbridged end c)
unbridged_apart end c k =
    same_then c (unbridged end c) k (refl, refl) (change_there None c (end_unbridged end) k.there)
    (λ n is. (both_of (not (n == end)) (is_in c.bridged n) (sym (in_filtered (λ other. not (other == end)) c.bridged n) ∙ is)).1)
    (λ held. record { tables = held.tables; waits = held.waits; objects = held.objects })

pub apart : Invariant
apart = record {
  holds = IsApart;
  small = small_apart;
  call = call_apart;
  resumed = λ thread c k. same_then c (with_activity running_activity thread c) k (refl, refl) (resumed_there thread c k.there) (λ n is. is) (λ held. resumed_held (IsFree (with_activity running_activity thread c)) c held thread);
  served = λ place c k. same_then c (started place c) k (same_started place c) (served_there place c k.there) (λ n is. ap (λ l. is_in l n) (sym (started_bridged place c)) ∙ is)
      (λ held. started_held (IsFree (started place c)) c held place);
  bridged = bridging_apart;
  unbridged = unbridged_apart;
  passed = λ deadline c k. same_then c (core_idle deadline c) k (same_idle c deadline) (change_there None c (time_passed deadline) k.there) (λ n is. ap (λ l. is_in l n) (sym (idle_leaves c deadline)) ∙ is)
      (λ held. idled_held (IsFree (core_idle deadline c)) c held deadline);
  swept = swept_apart;
}

-- Histories.

opening_held : (scene : SceneValue) → HeldAre (IsFree (opening_core scene.apps)) (opening_core scene.apps)
unfolding opening
opening_held scene =
    let c : CoreState = opening_core scene.apps in
    let none : Known (λ x. x < 0) c = given_apart c (openings_given scene) in
    let free : Known (IsFree c) c = weaker (λ x. x < 0) c none (IsFree c) (λ x low. absurd (omega (arith, low))) in
    record { tables = free.tables; waits = free.waits; objects = tt }

none_in : (xs : List ℕ) → ((n : ℕ) → is_in xs n ≡ true → ⊥) → xs ≡ []
none_in [] never = refl
none_in (x ∷ xs) never = let here : (x == x) ≡ true = grind (arith, tests) in absurd (never x (ap (λ b. b || is_in xs x) here))

keeps_apart : (c : CoreState) → IsApart c → KeepsApart c
keeps_apart c k =
    let kind : (n : ℕ) → is_in c.bridged n ≡ true → is_bridge_end (end_of c.objects n) ≡ true = λ n is.
    (k.bridged n is).kind (k.there n (named c n (by_bridge is))) in
    record {
      held = held_weaker (IsFree c) (IsOpen c)
          (λ n free. (never_true (is_in c.bridged n) (λ is. let bad : false ≡ true = sym free.kind ∙ kind n is in absurd (cc)), free.apart)) c k.held;
      apart = λ n is. never_true (is_pending c.objects n) (λ pends.
          let s : IsServer (end_of c.objects) n = server_of_pending c k.fits n pends in
          let bad : false ≡ true = sym (ap is_bridge_end s.there ∙ no_client_at_all s.end.client s.side) ∙ kind n is in absurd (cc));
      ends = λ n is.
          let b : BridgeEnd (end_of c.objects n) = bridge_end (end_of c.objects n) (kind n is) in
          record { end = b.end; there = b.there; mute = none_in (message_objects b.end.messages) (λ object names. k.mute n object b.end b.there b.normal names) };
    }

opening_apart : (scene : SceneValue) → IsApart (opening scene).core
unfolding opening
opening_apart scene = record {
  fits = histories_fit scene [];
  there = histories_there scene [];
  held = opening_held scene;
  bridged = λ n is. absurd (cc);
  mute = λ n object end there normal names. let bad : None ≡ Some end = there in absurd (cc);
}

pub histories_apart : (scene : SceneValue) (entries : List Entry) → KeepsApart (state_after (opening scene) entries).core
unfolding apart
histories_apart scene entries = keeps_apart (state_after (opening scene) entries).core (holds_along apart (opening scene) entries (opening_apart scene))
