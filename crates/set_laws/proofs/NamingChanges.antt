-- Every small change leaves what is named with numbers that were given, so every step does.
use Rattle.std.proofs.Common.{Bool, List, None, Option, Some, [], arith, cond, false, length, map, not, refl, subst, suc, sym, tests, true, ℕ, ◌+◌, ◌<◌, ◌≤◌, ◌==◌, ◌||◌, ◌∷◌, ◌≡◌}
use Rattle.std.specs.List.{AllByRecursion, filter, position_or_len}
use Rattle.kernel_values.specs.declared.call.Call.{Call}
use Rattle.kernel_values.specs.declared.entry.Seqs.{Seqs}
use Rattle.kernel_values.specs.declared.reply.Answer.{Answer}
use Rattle.kernel_values.specs.declared.state.Body.{Body}
use Rattle.kernel_values.specs.declared.state.CoreState.{CoreState}
use Rattle.kernel_values.specs.declared.state.Object.{Object}
use Rattle.kernel_values.specs.declared.state.Port.{Port}
use Rattle.kernel_types.specs.Applications.{application_ended, started}
use Rattle.kernel_types.specs.Connects.{accept_client, accepted_end, peer_of}
use Rattle.kernel_types.specs.CoreStep.{core_idle}
use Rattle.kernel_types.specs.Objects.{end_changed, end_of, on_body, on_end, on_port, port_changed, with_objects}
use Rattle.kernel_types.specs.Ports.{admitted, new_port, server_of}
use Rattle.kernel_types.specs.Reach.{is_in}
use Rattle.kernel_types.specs.Sweep.{cut_end, has_marked_peer, kept, pruned, pruned_port, reached, sweep}
use Rattle.kernel_types.specs.Tables.{install}
use Rattle.kernel_types.specs.Threads.{running_activity}
use Rattle.kernel_laws.proofs.Starts.{same_ended, same_idle, same_started}
use Rattle.set_laws.proofs.Counting.{among_first, among_later}
use Rattle.set_laws.proofs.Known.{Known, Knows, KnowsBody, acted, on_end_known, on_port_known}
use Rattle.set_laws.proofs.KnownChanges.{NewCalled, NewKnown, bridging_known, call_known, idled_known, running_known, small_known, started_known, unbridged_known}
use Rattle.set_laws.proofs.Lists.{all_filtered, all_mapped, all_weaker}
use Rattle.set_laws.proofs.Naming.{Given, Named, raised}
use Rattle.step_laws.specs.SmallChanges.{IsMade, SmallChange, after, after_accept}
use Rattle.step_laws.specs.SmallChanges.SmallChange.{client_made, end_accepted, memory_made, pair_made, port_made}
use Rattle.step_laws.specs.Walks.{IsWalk, ThreadChange, after_thread}
use Rattle.step_laws.specs.Walks.ThreadChange.{app_over, app_started, set_made}
use Rattle.step_laws.proofs.Invariants.{Invariant, walk_keeps}

-- A port that is published gives its server ends the numbers after its own.

placed : (x : ℕ) (xs : List ℕ) → is_in xs x ≡ true → position_or_len (λ other. other == x) xs < length xs
placed x [] is = absurd (cc)
placed x (y ∷ ys) is =
    let P : Bool → Type 0 = λ b. (b || is_in ys x) ≡ true → cond (not b) (1 + position_or_len (λ other. other == x) ys) 0 < suc (length ys) in
    let go : (b : Bool) → P b = λ b. elim b as (λ v. P v) [ true ↦ (λ k. omega arith) | false ↦ (λ k. omega (arith, placed x ys k)) ] in
    go (y == x) is

each_in : (xs : List ℕ) → AllByRecursion (λ x. is_in xs x ≡ true) xs
each_in [] = tt
each_in (x ∷ xs) = (
  among_first x xs x (grind (arith, tests)),
  all_weaker (λ (y : ℕ). is_in xs y ≡ true) (λ (y : ℕ). is_in (x ∷ xs) y ≡ true) (λ y is. among_later x xs y is) xs (each_in xs),
)

servers_below : (first : ℕ) (clients : List ℕ) → Knows (λ x. x < first + length clients) (map (server_of first clients) clients)
servers_below first clients =
    all_mapped (λ (x : ℕ). is_in clients x ≡ true) (λ (x : ℕ). x < first + length clients) (server_of first clients)
    (λ x is. omega (arith, placed x clients is)) clients (each_in clients)

accepted_next : (client : Option ℕ) (c : CoreState) → (accept_client client c).next ≡ c.next
accepted_next None c = refl
accepted_next (Some client) c = refl

-- What is given is below any later number, so what is known of what was named is known of what is.

module _ (c : CoreState) (k : Given c) (m : ℕ) (le : c.next ≤ m) where
  given_below : (such : Body → Bool) (x : ℕ) → IsMade such c x → x < m
  given_below such x given = omega (arith, given.given, le)

  small_below : (by : Option ℕ) (change : SmallChange by c) → NewKnown (λ x. x < m) by c change → Named m (after by c change)
  small_below by change new = small_known (λ x. x < m) c (raised c.next c k m le) given_below by change new

  call_below : (app thread : ℕ) (asked : Call) (said : Answer) (change : ThreadChange app thread asked said c) → NewCalled (λ x. x < m) app thread asked said c change
      → Named m (after_thread app thread asked said c change)
  call_below app thread asked said change new = call_known (λ x. x < m) c (raised c.next c k m le) given_below app thread asked said change new

small_names : (by : Option ℕ) (c : CoreState) → Given c → (change : SmallChange by c) → Given (after by c change)
small_names by c k (memory_made size flags lawful) = small_below c k (c.next + 1) (omega arith) by (memory_made size flags lawful) tt
small_names by c k (client_made client path way) = small_below c k (c.next + 1) (omega arith) by (client_made client path way) tt
small_names by c k (pair_made client path id port way lets) = small_below c k (c.next + 1 + 1) (omega arith) by (pair_made client path id port way lets) (omega arith)
small_names by c k (port_made path bufs size flags lawful free) =
    let clients : List ℕ = admitted (new_port path bufs size flags) c.objects in
    small_below c k (c.next + 1 + length clients) (omega arith) by (port_made path bufs size flags lawful free) (servers_below (c.next + 1) clients)
small_names by c k (end_accepted app of_app id server rest port there first room) =
    let less : CoreState = port_changed (λ p. record p { pending = rest }) id c in
    let one : CoreState = end_changed (accepted_end false) server less in
    subst (λ (n : ℕ). Named n (install app server (after_accept id server rest c))) (sym (accepted_next (peer_of (end_of c.objects server)) one))
    (small_below c k c.next (omega arith) by (end_accepted app of_app id server rest port there first room) tt)
small_names by c k change = small_below c k c.next (omega arith) by change tt

-- neither a start nor an end of an application gives a number

started_names : (app : ℕ) (c : CoreState) → Given c → Given (started app c)
started_names app c k = subst (λ (n : ℕ). Named n (started app c)) (sym (same_started app c).1) (started_known (λ x. x < c.next) app c k)

thread_names : (app thread : ℕ) (asked : Call) (said : Answer) (c : CoreState) → Given c → (change : ThreadChange app thread asked said c) → Given (after_thread app thread asked said c change)
thread_names app thread asked said c k (set_made is made room) = call_below c k (c.next + 1) (omega arith) app thread asked said (set_made is made room) (omega arith)
thread_names app thread asked said c k (app_started place was there still connects) = started_names place c k
thread_names app thread asked said c k (app_over ends) =
    subst (λ (n : ℕ). Named n (application_ended app c)) (sym (same_ended app c).1) (call_below c k c.next (omega arith) app thread asked said (app_over ends) tt)
thread_names app thread asked said c k change = call_below c k c.next (omega arith) app thread asked said change tt

idled_names : (deadline : Option ℕ) (c : CoreState) → Given c → Given (core_idle deadline c)
idled_names deadline c k = subst (λ (n : ℕ). Named n (core_idle deadline c)) (sym (same_idle c deadline).1) (idled_known (λ x. x < c.next) c k deadline)

-- The sweep takes names away, and gives none.

changed_all : (P : ℕ → Type 0) (c : CoreState) → Known P c → (h : Object → Object) → ((object : Object) → KnowsBody P object.body → KnowsBody P (h object).body)
    → Known P (with_objects (map h c.objects) c)
changed_all P c k h keeps = record {
  tables = k.tables;
  bridged = k.bridged;
  waits = k.waits;
  objects = all_mapped (λ (o : Object). KnowsBody P o.body) (λ (o : Object). KnowsBody P o.body) h keeps c.objects k.objects;
}

fewer : (P : ℕ → Type 0) (c : CoreState) → Known P c → (p : Object → Bool) → Known P (with_objects (filter p c.objects) c)
fewer P c k p = record {
  tables = k.tables;
  bridged = k.bridged;
  waits = k.waits;
  objects = all_filtered (λ (o : Object). KnowsBody P o.body) p c.objects k.objects;
}

swept_names : (c : CoreState) → Given c → Given (sweep c)
unfolding sweep pruned kept
swept_names c k =
    let P : ℕ → Type 0 = λ x. x < c.next in
    let seen : List ℕ = reached c in
    let prune : Port → Port = pruned_port seen c.objects in
    let less : CoreState = pruned seen c in
    let cut : Known P less = changed_all P c k (on_body (on_port prune)) (λ o below. on_port_known P P prune
    (λ p all. all_filtered P (λ server. has_marked_peer seen (end_of c.objects server)) p.pending all) o.body below) in
    let marked : List ℕ = reached less in
    let there : CoreState = with_objects (filter (λ object. is_in marked object.id) less.objects) less in
    let few : Known P there = fewer P less cut (λ object. is_in marked object.id) in
    changed_all P there few (on_body (on_end (cut_end marked))) (λ o below. on_end_known P P (cut_end marked) (λ e all. all) o.body below)

naming_given : Invariant
naming_given = record {
  holds = Given;
  small = λ by c k made change. small_names by c k change;
  call = thread_names;
  resumed = λ thread c k. acted (λ x. x < c.next) (λ x. x < c.next) c k running_activity (running_known (λ x. x < c.next)) thread;
  served = λ place c k. started_names place c k;
  bridged = λ end c k given. bridging_known (λ x. x < c.next) c k end given.given;
  unbridged = λ end c k. unbridged_known (λ x. x < c.next) c k end;
  passed = λ deadline c k. idled_names deadline c k;
  swept = swept_names;
}

-- every step keeps what is named given, and so does what the bridge asks of the core
pub walk_names : {asked : Option Call} {seqs : Seqs} (c d : CoreState) → IsWalk asked c seqs d → Given c → Given d
unfolding naming_given
walk_names c d walked k = walk_keeps naming_given c d walked k
