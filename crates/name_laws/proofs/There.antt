-- Each object that an entry names is there: every change keeps it, so it holds along every history.
use Rattle.std.proofs.Common.{◌≡◌, ℕ, ◌+◌, ◌<◌, ◌==◌, ◌||◌, inl, inr, Bool, true, false, cond, List, [], ◌∷◌, ◌++◌, map, Option, Some, None, refl, ◌∙◌, ap, subst, arith, tests, ◌↔◌}
use Rattle.std.specs.List.{AllByRecursion}
use Rattle.std.proofs.lemmas.List.Elements.{recursion_from_All}
use Rattle.std.proofs.lemmas.List.Folds.{list_any-append}
use Rattle.kernel_values.specs.SceneLaw.{SceneValue}
use Rattle.kernel_values.specs.declared.call.Call.{Call}
use Rattle.kernel_values.specs.declared.entry.Entry.{Entry}
use Rattle.kernel_values.specs.declared.reply.Answer.{Answer}
use Rattle.kernel_values.specs.declared.state.Body.{Body}
use Rattle.kernel_values.specs.declared.state.Body.TheVariants as body
use Rattle.kernel_values.specs.declared.state.Connector.{Connector}
use Rattle.kernel_values.specs.declared.state.CoreState.{CoreState}
use Rattle.kernel_values.specs.declared.state.EndState.TheVariants as end_state
use Rattle.kernel_values.specs.declared.state.Object.{Object}
use Rattle.kernel_values.specs.declared.state.Port.{Port}
use Rattle.kernel_values.specs.declared.state.State.{State}
use Rattle.kernel_types.specs.Applications.{started}
use Rattle.kernel_types.specs.Connects.{accept_client, accepted_end, peer_of, pending_pair}
use Rattle.kernel_types.specs.CoreStep.{core_idle}
use Rattle.kernel_types.specs.Facts.{names_at}
use Rattle.kernel_types.specs.History.{Legal, state_after}
use Rattle.kernel_types.specs.Names.{Name, names_of, naming}
use Rattle.kernel_types.specs.Objects.{added, changed, end_changed, end_of, is_there, new_end, on_end, on_memory, on_port, on_set, port_changed}
use Rattle.kernel_types.specs.Opening.{opening}
use Rattle.kernel_types.specs.Ports.{admitted, decided, new_port, new_server, publish, server_end, server_of}
use Rattle.kernel_types.specs.Reach.{Among}
use Rattle.kernel_types.specs.Sweep.{pruned, reached, sweep}
use Rattle.kernel_types.specs.Threads.{running_activity, with_activity}
use Rattle.kernel_laws.proofs.Starts.{same_ended, same_idle, same_started}
use Rattle.set_laws.proofs.Lists.{all_weaker}
use Rattle.set_laws.proofs.Soundness.{openings_given}
use Rattle.object_laws.proofs.Living.{none_outlives}
use Rattle.object_laws.proofs.Sweeping.{swept_iff}
use Rattle.step_laws.specs.SmallChanges.{SmallChange, after}
use Rattle.step_laws.specs.SmallChanges.SmallChange.{cookie_changed, entry_removed, entry_installed, parts_installed, last_changed, memory_made, client_made, pair_made, port_made, member_removed, member_remasked, member_put_last, memory_written, message_sent, message_opened, message_retired, end_marked, end_accepted}
use Rattle.step_laws.specs.Walks.{CoreChange, ThreadChange, after_core, after_thread}
use Rattle.step_laws.specs.Walks.ThreadChange.{app_over, app_started, member_added, set_made, thread_over, wait_begun}
use Rattle.step_laws.proofs.Invariants.{Invariant, change_keeps, holds_along}
use Rattle.step_laws.proofs.There.{there_changed}
use Rattle.count_laws.specs.Thinning.{NamedThere}
use Rattle.count_laws.proofs.Dropping.{left_names}
use Rattle.count_laws.proofs.Holding.{counted_in, someone}
use Rattle.set_laws.proofs.KnownChanges.{NewCalled, NewKnown, bridging_known, call_known, idled_known, running_known, small_known, started_known, unbridged_known}
use Rattle.set_laws.proofs.Known.{Known, Knows, acted, apart, together, weaker}

abbrev pub There : List Object → ℕ → Type 0
There objects x = is_there objects x ≡ true

-- An object that is there stays there, but for the sweep.

there_more : (objects more : List Object) (x : ℕ) → There objects x → There (objects ++ more) x
there_more objects more x there = list_any-append (λ (object : Object). object.id == x) objects more ∙ ap (λ b. b || is_there more x) there

or_true : (b : Bool) → (b || true) ≡ true
or_true true = refl
or_true false = refl

there_last : (objects more : List Object) (x : ℕ) → There more x → There (objects ++ more) x
there_last objects more x there =
    list_any-append (λ (object : Object). object.id == x) objects more ∙ (ap (λ b. is_there objects x || b) there ∙ or_true (is_there objects x))

there_mapped : (h : Object → Object) → ((object : Object) → (h object).id ≡ object.id) → (objects : List Object) (x : ℕ) → is_there (map h objects) x ≡ is_there objects x
there_mapped h keeps [] x = refl
there_mapped h keeps (object ∷ objects) x = ap (λ (n : ℕ). (n == x) || is_there (map h objects) x) (keeps object) ∙ ap (λ b. (object.id == x) || b) (there_mapped h keeps objects x)

there_one : (f : Body → Body) (objects : List Object) (id x : ℕ) → There objects x → There (changed f objects id) x
there_one f objects id x there = there_changed f objects id x ∙ there

pair_keeps : (client : Connector) (id : ℕ) (port : Port) (c : CoreState) (x : ℕ) → There c.objects x → There (pending_pair client id port c).objects x
pair_keeps client id port c x there =
    let one : Body = body.End (new_end (Some (c.next + 1)) end_state.Connecting None (Some client) port.bufs port.size) in
    let first : List Object = c.objects ++ (record { id = c.next; body = one }) ∷ [] in
    let both : List Object = first ++ (record { id = c.next + 1; body = server_end c.next port.bufs port.size }) ∷ [] in
    there_one (on_port (λ p. record p { pending = p.pending ++ (c.next + 1) ∷ [] })) both id x
    (there_more first ((record { id = c.next + 1; body = server_end c.next port.bufs port.size }) ∷ []) x
    (there_more c.objects ((record { id = c.next; body = one }) ∷ []) x there))

publish_keeps : (port : Port) (c : CoreState) (x : ℕ) → There c.objects x → There (publish port c).objects x
publish_keeps port c x there =
    let clients : List ℕ = admitted port c.objects in
    there_more (map (decided port (c.next + 1) clients) c.objects) _ x (there_mapped (decided port (c.next + 1) clients) (λ object. refl) c.objects x ∙ there)

accept_keeps : (client : Option ℕ) (c : CoreState) (x : ℕ) → There c.objects x → There (accept_client client c).objects x
accept_keeps None c x there = there
accept_keeps (Some client) c x there = there_one (on_end (accepted_end true)) c.objects client x there

small_keeps : (by : Option ℕ) (c : CoreState) (change : SmallChange by c) (x : ℕ) → There c.objects x → There (after by c change).objects x
small_keeps by c (cookie_changed app of_app handle cookie entry held) x there = there
small_keeps by c (entry_removed app of_app handle entry held) x there = there
small_keeps by c (entry_installed app of_app object nameable room) x there = there
small_keeps by c (parts_installed app of_app id number count end message found is_open room) x there = there
small_keeps by c (last_changed app of_app entry first) x there = there
small_keeps by c (memory_made size flags lawful) x there = there_more c.objects _ x there
small_keeps by c (client_made client path way) x there = there_more c.objects _ x there
small_keeps by c (pair_made client path id port way lets) x there = pair_keeps client id port c x there
small_keeps by c (port_made path bufs size flags lawful free) x there = publish_keeps (new_port path bufs size flags) c x there
small_keeps by c (member_removed id label set found known) x there = there_one (on_set _) c.objects id x there
small_keeps by c (member_remasked id label mask cookie set found known) x there = there_one (on_set _) c.objects id x there
small_keeps by c (member_put_last id member set found ready) x there = there_one (on_set _) c.objects id x there
small_keeps by c (memory_written id offset bytes memory found range writable) x there = there_one (on_memory _) c.objects id x there
small_keeps by c (message_sent from source to end bytes parts may carries) x there = there_one (on_end _) c.objects to x there
small_keeps by c (message_opened id end message found first) x there = there_one (on_end _) c.objects id x there
small_keeps by c (message_retired id number end message found is_open) x there = there_one (on_end _) c.objects id x there
small_keeps by c (end_marked mark id) x there = there_one (on_end _) c.objects id x there
small_keeps by c (end_accepted app of_app id server rest port found first room) x there =
    let less : CoreState = port_changed (λ p. record p { pending = rest }) id c in
    accept_keeps (peer_of (end_of c.objects server)) (end_changed (accepted_end false) server less) x
    (there_one (on_end (accepted_end false)) less.objects server x (there_one (on_port (λ p. record p { pending = rest })) c.objects id x there))

-- What a change makes and names is there.

pair_new : (client : Connector) (id : ℕ) (port : Port) (c : CoreState) → There (pending_pair client id port c).objects (c.next + 1)
pair_new client id port c =
    let one : Body = body.End (new_end (Some (c.next + 1)) end_state.Connecting None (Some client) port.bufs port.size) in
    let first : List Object = c.objects ++ (record { id = c.next; body = one }) ∷ [] in
    let other : List Object = (record { id = c.next + 1; body = server_end c.next port.bufs port.size }) ∷ [] in
    let same : (c.next + 1 == c.next + 1) ≡ true = grind (arith, tests) in
    there_one (on_port (λ p. record p { pending = p.pending ++ (c.next + 1) ∷ [] })) (first ++ other) id (c.next + 1)
    (there_last first other (c.next + 1) (ap (λ b. b || false) same))

servers_new : (port : Port) (first : ℕ) (clients xs : List ℕ) → Knows (There (map (new_server port first clients) xs)) (map (server_of first clients) xs)
servers_new port first clients [] = tt
servers_new port first clients (x ∷ xs) =
    let n : ℕ = server_of first clients x in
    let rest : List Object = map (new_server port first clients) xs in
    let same : (n == n) ≡ true = grind (arith, tests) in (
      ap (λ b. b || is_there rest n) same,
      all_weaker (There rest) (There (new_server port first clients x ∷ rest)) (λ y there. ap (λ b. (n == y) || b) there ∙ or_true (n == y))
          (map (server_of first clients) xs) (servers_new port first clients xs),
    )

new_there : (by : Option ℕ) (c : CoreState) (change : SmallChange by c) → NewKnown (There (after by c change).objects) by c change
new_there by c (pair_made client path id port way lets) = pair_new client id port c
new_there by c (port_made path bufs size flags lawful free) =
    let port : Port = new_port path bufs size flags in
    let clients : List ℕ = admitted port c.objects in
    let old : List Object = map (decided port (c.next + 1) clients) c.objects in
    let servers : List Object = map (new_server port (c.next + 1) clients) clients in
    let made : Object = record { id = c.next; body = body.Port (record port { pending = map (server_of (c.next + 1) clients) clients }) } in
    all_weaker (There servers) (There (old ++ made ∷ servers))
    (λ x there. there_last old (made ∷ servers) x (ap (λ b. (c.next == x) || b) there ∙ or_true (c.next == x)))
    (map (server_of (c.next + 1) clients) clients) (servers_new port (c.next + 1) clients clients)
new_there by c _ = tt

-- As one fact on how often an object is named, and by where each name stands.

of_all : (P : ℕ → Type 0) (names : List Name) → AllByRecursion (λ (name : Name). P name.object) names → (n : Name) → Among n names → P n.object
of_all P [] all n among = absurd among
of_all P (first ∷ names) all n (inl same) = subst (λ (m : Name). P m.object) same all.0
of_all P (first ∷ names) all n (inr among) = of_all P names all.1 n among

named_known : (P : ℕ → Type 0) (c : CoreState) → Known P c → (object : ℕ) → 0 < names_of (naming c) object → P object
named_known P c k object some =
    let name : (n : Name) × Among n (naming c) × (n.object ≡ object) = someone (naming c) object some in
    subst P name.2 (of_all P (naming c) (together P c k) name.0 name.1)

all_named : (P : ℕ → Type 0) (whole : List Name) → ((object : ℕ) → 0 < names_of whole object → P object) → (names : List Name) → ((n : Name) → Among n names → Among n whole)
    → AllByRecursion (λ (name : Name). P name.object) names
all_named P whole known [] within = tt
all_named P whole known (first ∷ names) within =
    (known first.object (counted_in whole first (within first (inl refl))), all_named P whole known names (λ n among. within n (inr among)))

pub apart_there : (c : CoreState) → NamedThere c → Known (There c.objects) c
apart_there c there = apart (There c.objects) c (all_named (There c.objects) (naming c) there (naming c) (λ n among. among))

together_there : (c d : CoreState) → d.objects ≡ c.objects → Known (There c.objects) d → NamedThere d
together_there c d same k object some = ap (λ (objects : List Object). is_there objects object) same ∙ named_known (There c.objects) d k object some

-- The changes.

small_there : (by : Option ℕ) (c : CoreState) → NamedThere c → (change : SmallChange by c) → NamedThere (after by c change)
small_there by c there change =
    let d : CoreState = after by c change in
    let up : (x : ℕ) → There c.objects x → There d.objects x = small_keeps by c change in
    let old : Known (There d.objects) c = weaker (There c.objects) c (apart_there c there) (There d.objects) up in
    together_there d d refl (small_known (There d.objects) c old (λ such x given. up x given.there) by change (new_there by c change))

call_keeps : (app thread : ℕ) (asked : Call) (said : Answer) (c : CoreState) (change : ThreadChange app thread asked said c) (x : ℕ) → There c.objects x
    → There (after_thread app thread asked said c change).objects x
call_keeps app thread asked said c (set_made is made room) x there = there_more c.objects _ x there
call_keeps app thread asked said c (member_added held handle mask cookie id set entry is here may) x there = there_one (on_set _) c.objects id x there
call_keeps app thread asked said c (wait_begun on awaits goes is) x there = there
call_keeps app thread asked said c (app_started place was found still connects) x there = ap (λ (objects : List Object). is_there objects x) (same_started place c).0 ∙ there
call_keeps app thread asked said c (thread_over ends) x there = there
call_keeps app thread asked said c (app_over ends) x there = ap (λ (objects : List Object). is_there objects x) (same_ended app c).0 ∙ there

set_new : (c : CoreState) → There (added (body.Set (record { members = [] })) c).objects c.next
set_new c =
    let same : (c.next == c.next) ≡ true = grind (arith, tests) in
    there_last c.objects ((record { id = c.next; body = body.Set (record { members = [] }) }) ∷ []) c.next (ap (λ b. b || false) same)

called_there : (app thread : ℕ) (asked : Call) (said : Answer) (c : CoreState) (change : ThreadChange app thread asked said c)
    → NewCalled (There (after_thread app thread asked said c change).objects) app thread asked said c change
called_there app thread asked said c (set_made is made room) = set_new c
called_there app thread asked said c _ = tt

call_there : (app thread : ℕ) (asked : Call) (said : Answer) (c : CoreState) → NamedThere c → (change : ThreadChange app thread asked said c) → NamedThere (after_thread app thread asked said c change)
call_there app thread asked said c there change =
    let d : CoreState = after_thread app thread asked said c change in
    let up : (x : ℕ) → There c.objects x → There d.objects x = call_keeps app thread asked said c change in
    let old : Known (There d.objects) c = weaker (There c.objects) c (apart_there c there) (There d.objects) up in
    together_there d d refl (call_known (There d.objects) c old (λ such x given. up x given.there) app thread asked said change (called_there app thread asked said c change))

-- what a sweep leaves named was named
swept_names : (c : CoreState) (object : ℕ) → 0 < names_of (naming (sweep c)) object → 0 < names_of (naming c) object
unfolding sweep
swept_names c object some = left_names (reached c) (reached (pruned (reached c) c)) c object some

swept_there : (c : CoreState) → NamedThere c → NamedThere (sweep c)
swept_there c there object some = (swept_iff c object).1 (there object (swept_names c object some), some)

pub resumed_there : (thread : ℕ) (c : CoreState) → NamedThere c → NamedThere (with_activity running_activity thread c)
resumed_there thread c there =
    together_there c (with_activity running_activity thread c) refl (acted (There c.objects) (There c.objects) c (apart_there c there) running_activity (running_known (There c.objects)) thread)

pub served_there : (place : ℕ) (c : CoreState) → NamedThere c → NamedThere (started place c)
served_there place c there = together_there c (started place c) (same_started place c).0 (started_known (There c.objects) place c (apart_there c there))

pub naming_there : Invariant
naming_there = record {
  holds = NamedThere;
  small = λ by c k made change. small_there by c k change;
  call = call_there;
  resumed = resumed_there;
  served = served_there;
  bridged = λ end c k given. together_there c _ refl (bridging_known (There c.objects) c (apart_there c k) end given.there);
  unbridged = λ end c k. together_there c _ refl (unbridged_known (There c.objects) c (apart_there c k) end);
  passed = λ deadline c k. together_there c (core_idle deadline c) (same_idle c deadline).0 (idled_known (There c.objects) c (apart_there c k) deadline);
  swept = λ c k. swept_there c k;
}

pub change_there : (asked : Option Call) (c : CoreState) (change : CoreChange asked c) → NamedThere c → NamedThere (after_core asked c change)
unfolding naming_there
change_there asked c change k = change_keeps naming_there asked c k change

-- Histories. In an opening state nothing is named.

below_none : (names : List Name) → AllByRecursion (λ (name : Name). name.object < 0) names → (object : ℕ) → 0 < names_of names object → ⊥
below_none [] all object some = absurd (omega (arith, some))
below_none (first ∷ names) all object some = absurd (omega (arith, all.0))

opening_there : (scene : SceneValue) → NamedThere (opening scene).core
unfolding opening
opening_there scene object some =
    absurd (below_none (naming (opening scene).core) (recursion_from_All (λ (name : Name). name.object < 0) (naming (opening scene).core) (openings_given scene)) object some)

pub histories_there : (scene : SceneValue) (entries : List Entry) → NamedThere (state_after (opening scene) entries).core
unfolding naming_there
histories_there scene entries = holds_along naming_there (opening scene) entries (opening_there scene)

-- What is there is named, by the law on ends of objects.
there_named : (scene : SceneValue) (before after : List Entry) (object : ℕ) → Legal (opening scene) (before ++ after)
    → is_there (state_after (opening scene) before).core.objects object ≡ true → 0 < names_of (naming (state_after (opening scene) before).core) object
there_named scene before after object legal there =
    let s : State = state_after (opening scene) before in
    let names : ℕ = names_of (naming s.core) object in
    let is : names_at s object ≡ Some names = ap (λ (b : Bool). cond b (Some names) None) there in
    none_outlives scene before after object names legal is

pub exactly_named : (scene : SceneValue) (before after : List Entry) (object : ℕ) → Legal (opening scene) (before ++ after)
    → (is_there (state_after (opening scene) before).core.objects object ≡ true) ↔ (0 < names_of (naming (state_after (opening scene) before).core) object)
exactly_named scene before after object legal = (there_named scene before after object legal, λ some. histories_there scene before object some)
