-- Steps of clients, from a state in which every client stands.
use Rattle.std.proofs.Common.{◌≡◌, ℕ, ◌+◌, ◌-◌, Bool, true, false, cond, List, [], ◌∷◌, ◌++◌, Option, Some, None, length, refl, ap, sym, ◌∙◌, subst, arith}
use Rattle.std.proofs.lemmas.Bool.Decides.{nat_tests}
use Rattle.std.specs.Prelude.{nat_lt, slice_get}
use Rattle.kernel_values.specs.declared.call.Call.{Call}
use Rattle.kernel_values.specs.declared.call.Call.TheVariants as call
use Rattle.kernel_values.specs.declared.entry.ActorStatus.TheVariants as status
use Rattle.kernel_values.specs.declared.entry.Entry.{Entry}
use Rattle.kernel_values.specs.declared.entry.Event.TheVariants as event
use Rattle.kernel_values.specs.declared.errno.Errno.TheVariants as errno
use Rattle.kernel_values.specs.declared.reply.Answer.{Answer}
use Rattle.kernel_values.specs.declared.reply.Reply.TheVariants as reply
use Rattle.kernel_values.specs.declared.state.State.{State}
use Rattle.kernel_values.specs.declared.world.ClientActivity.{ClientActivity}
use Rattle.kernel_values.specs.declared.world.ClientActivity.TheVariants as activity
use Rattle.kernel_values.specs.declared.world.ClientState.{ClientState}
use Rattle.kernel_values.specs.declared.world.ClientWait.{ClientWait}
use Rattle.kernel_values.specs.declared.world.ClientWaitOn.{ClientWaitOn}
use Rattle.kernel_values.specs.declared.world.ClientWaitOn.TheVariants as wait_on
use Rattle.kernel_values.specs.declared.world.Connection.{Connection}
use Rattle.kernel_values.specs.declared.world.ConnectionStatus.{ConnectionStatus}
use Rattle.kernel_values.specs.declared.world.ConnectionStatus.TheVariants as connection_status
use Rattle.kernel_values.specs.declared.world.World.{World}
use Rattle.kernel_types.specs.Clients.{Acted, answer_of_wait, client_changed, client_ended, client_running, client_waiting, connect_answer, connect_answer_of, end_by_answer, end_of_ns_wait, is_closed, ns_act, ns_gives, ns_refuses, receive_answer, receive_from, with_client}
use Rattle.kernel_types.specs.Drains.{connection_of, drained}
use Rattle.kernel_types.specs.Objects.{map_at}
use Rattle.kernel_types.specs.Outcome.{no_seqs}
use Rattle.kernel_types.specs.Step.{beside_core, client_begin, client_resume, client_status, step, runs_again}
use Rattle.kernel_types.specs.Waits.{is_due}
use Rattle.step_laws.specs.Walks.{is_ending}
use Rattle.kernel_values.specs.Calls.{is_of_client}
use Rattle.run_laws.proofs.ClientCalling.{Calls, act_calls, drained_same}
use Rattle.run_laws.proofs.ClientCalling.Calls.{over, stays, waits}
use Rattle.run_laws.proofs.ClientPlaces.{ClientStands, ClientsStand, one_changes, one_stays}
use Rattle.run_laws.proofs.Finals.{IsFinal, answered_final}
use Rattle.run_laws.proofs.Longer.{FitsCall, IsOf, begin_is_of, entry_with, resume_is_of, self_is}
use Rattle.run_laws.proofs.Standings.{Standings}

-- The end of a wait leaves the clients, and answers.

abbrev SameIf : World → Option Acted → Type 0
SameIf w None = Unit {0}
SameIf w (Some acted) = (acted.world.clients ≡ w.clients) × IsFinal acted.answer

same_if : (w : World) (b : Bool) (one other : Option Acted) → SameIf w one → SameIf w other → SameIf w (cond b one other)
same_if w true one other p q = p
same_if w false one other p q = q

receive_same : (w : World) (connection : Connection) (inbox : List (List ℕ)) → SameIf w (receive_from connection inbox w)
receive_same w connection (bytes ∷ rest) = (refl, refl)
receive_same w connection [] = same_if w (is_closed connection.status) (Some (ns_refuses errno.ChannelClosed w)) None (refl, refl) tt

connect_same : (w : World) (asked : Connection) (status : ConnectionStatus) → SameIf w (connect_answer_of asked status w)
connect_same w asked connection_status.Asked = tt
connect_same w asked (connection_status.Established remote size) = (refl, refl)
connect_same w asked (connection_status.Denied status) = (refl, refl)
connect_same w asked connection_status.Shut = (refl, refl)

connect_answer_same : (w : World) (asked : Option Connection) → SameIf w (connect_answer asked w)
connect_answer_same w None = tt
connect_answer_same w (Some asked) = connect_same w asked asked.status

receive_answer_same : (w : World) (connection : Option Connection) → SameIf w (receive_answer connection w)
receive_answer_same w None = tt
receive_answer_same w (Some connection) = receive_same w connection connection.inbox

answer_same : (w : World) (on : ClientWaitOn) → SameIf w (answer_of_wait on w)
unfolding answer_of_wait
answer_same w (wait_on.Connect conn) = connect_answer_same w (connection_of w.driver.connections conn)
answer_same w (wait_on.Receive conn) = receive_answer_same w (connection_of w.driver.connections conn)

end_by_same : (clock : ℕ) (wait : ClientWait) (got : Option Acted) (w : World) → SameIf w got → SameIf w (end_by_answer clock wait got w)
end_by_same clock wait (Some acted) w same = same
end_by_same clock wait None w same =
    same_if w wait.cancelled (Some (ns_refuses errno.Cancelled w)) _ (refl, refl) (same_if w (is_due clock wait.deadline) (Some (ns_refuses errno.TimedOut w)) None (refl, refl) tt)

end_same_if : (clock : ℕ) (wait : ClientWait) (w : World) → SameIf w (end_of_ns_wait clock wait w)
unfolding end_of_ns_wait
end_same_if clock wait w = end_by_same clock wait (answer_of_wait wait.on w) w (answer_same w wait.on)

pub end_same : (clock : ℕ) (wait : ClientWait) (w : World) (acted : Acted) → end_of_ns_wait clock wait (drained w) ≡ Some acted
    → (acted.world.clients ≡ w.clients) × IsFinal acted.answer
end_same clock wait w acted is =
    let same : (acted.world.clients ≡ (drained w).clients) × IsFinal acted.answer = subst (λ (x : Option Acted). SameIf (drained w) x) is (end_same_if clock wait (drained w)) in
    (same.0 ∙ drained_same w, same.1)

-- What a step of the client `k` comes to, behind so many threads, where it stands as it does.

module _ (S : Standings) (entries : List Entry) (threads : ℕ) (w : World) (k start : ℕ) (client : ClientState) where
  abbrev AtClient : ClientActivity → Type 0
  AtClient a = (slice_get w.clients k ≡ Some client) × (client.activity ≡ a)

  here : (a : ClientActivity) → AtClient a → (other : ClientState) → slice_get w.clients k ≡ Some other → other.activity ≡ a
  here a at other is = let found : slice_get w.clients k ≡ Some client = at.0 in ap (λ (x : ClientState). x.activity) (let same : other ≡ client = cc in same) ∙ at.1

  -- the client does something else now, and stands at the longer history
  moved : (entry : Entry) (a : ClientActivity) (change : ClientActivity → ClientActivity) → AtClient a → S.client (threads + k)
      → S.fits (entries ++ entry ∷ []) (threads + k) (client_status (change a))
      → (other : ClientState) → slice_get w.clients k ≡ Some other → ClientStands S (entries ++ entry ∷ []) (threads + k) (change other.activity)
  moved entry a change at known fits other is =
      subst (λ (b : ClientActivity). ClientStands S (entries ++ entry ∷ []) (threads + k) (change b)) (sym (here a at other is)) (record { known = known; fits = fits })

  -- its call

  abbrev pub begun_entry : Call → Acted → Entry
  begun_entry asked acted = entry_with (event.Begin (record { 0 = threads + k }) start asked) acted.answer no_seqs

  is_begun : (asked : Call) (acted : Acted) → IsOf (threads + k) start (begun_entry asked acted)
  is_begun asked acted = begin_is_of (threads + k) start asked (begun_entry asked acted) refl

  ended_now : (asked : Call) (acted : Acted) → AtClient (activity.Running start) → S.client (threads + k) → acted.world.clients ≡ map_at (client_changed client_ended) w.clients k
      → ClientsStand S entries threads w.clients → ClientsStand S (entries ++ begun_entry asked acted ∷ []) threads acted.world.clients
  ended_now asked acted at known is all =
      let entry : Entry = begun_entry asked acted in
      subst (λ (clients : List ClientState). ClientsStand S (entries ++ entry ∷ []) threads clients) (sym is)
      (one_changes S entries entry threads k start w.clients client_ended (is_begun asked acted)
      (moved entry (activity.Running start) client_ended at known (S.ended (entries ++ entry ∷ []) (threads + k) start)) all)

  goes_on : (asked : Call) (acted : Acted) → AtClient (activity.Running start) → S.client (threads + k) → FitsCall S entries (threads + k) start asked
      → Calls k w acted → ClientsStand S entries threads w.clients → ClientsStand S (entries ++ begun_entry asked acted ∷ []) threads acted.world.clients
  goes_on asked acted at known own (stays is answers) all =
      let entry : Entry = begun_entry asked acted in
      subst (λ (clients : List ClientState). ClientsStand S (entries ++ entry ∷ []) threads clients) (sym is)
      (one_stays S entries entry threads k start w.clients (is_begun asked acted)
      (moved entry (activity.Running start) (λ a. a) at known (own.answered acted.answer no_seqs (answered_final false acted.answer answers))) all)
  goes_on asked acted at known own (waits wait unmarked is answer_is) all =
      let entry : Entry = begun_entry asked acted in
      let fits : S.fits (entries ++ entry ∷ []) (threads + k) (status.Waiting start) =
      subst (λ (given : Answer). S.fits (entries ++ entry_with (event.Begin (record { 0 = threads + k }) start asked) given no_seqs ∷ []) (threads + k) (status.Waiting start))
      (sym answer_is) (own.waits no_seqs) in
      subst (λ (clients : List ClientState). ClientsStand S (entries ++ entry ∷ []) threads clients) (sym is)
      (one_changes S entries entry threads k start w.clients (client_waiting wait) (is_begun asked acted)
      (moved entry (activity.Running start) (client_waiting wait) at known fits) all)
  goes_on asked acted at known own (over is answers) all = ended_now asked acted at known is all

  ends : (clock : ℕ) (asked : Call) (acted : Acted) → is_of_client asked ≡ true → is_ending asked ≡ true → ns_act clock k asked w ≡ Some acted
      → AtClient (activity.Running start) → S.client (threads + k) → ClientsStand S entries threads w.clients
      → ClientsStand S (entries ++ begun_entry asked acted ∷ []) threads acted.world.clients
  unfolding ns_act
  ends clock call.Finish acted kind ending is at known all =
      let same : acted ≡ ns_gives reply.Done (with_client client_ended k w) = cc in
      ended_now call.Finish acted at known (ap (λ (x : Acted). x.world.clients) same) all
  ends clock _ acted kind ending is at known all = absurd (cc)

  begun_by : (clock : ℕ) (asked : Call) (acted : Acted) (ending : Bool) → is_ending asked ≡ ending → is_of_client asked ≡ true → ns_act clock k asked w ≡ Some acted
      → AtClient (activity.Running start) → S.client (threads + k) → (is_ending asked ≡ false → FitsCall S entries (threads + k) start asked)
      → ClientsStand S entries threads w.clients → ClientsStand S (entries ++ begun_entry asked acted ∷ []) threads acted.world.clients
  begun_by clock asked acted true ending kind is at known own all = ends clock asked acted kind ending is at known all
  begun_by clock asked acted false goes kind is at known own all =
      goes_on asked acted at known (own goes) (act_calls k clock w asked acted is) all

  pub client_begun : (clock : ℕ) (asked : Call) (acted : Acted) → is_of_client asked ≡ true → ns_act clock k asked w ≡ Some acted
      → slice_get w.clients k ≡ Some client → client.activity ≡ activity.Running start → (is_ending asked ≡ false → FitsCall S entries (threads + k) start asked)
      → ClientsStand S entries threads w.clients → ClientsStand S (entries ++ begun_entry asked acted ∷ []) threads acted.world.clients
  client_begun clock asked acted kind is client_is activity_is own all =
      begun_by clock asked acted (is_ending asked) refl kind is (client_is, activity_is) (all k client client_is).known own all

  -- the end of its wait

  abbrev pub woken_entry : Acted → Entry
  woken_entry acted = entry_with (event.Resume (record { 0 = threads + k }) start) acted.answer no_seqs

  pub client_woken : (clock : ℕ) (wait : ClientWait) (acted : Acted) → end_of_ns_wait clock wait (drained w) ≡ Some acted
      → slice_get w.clients k ≡ Some client → client.activity ≡ activity.Waiting start wait → S.fits (entries ++ woken_entry acted ∷ []) (threads + k) (status.Running start)
      → ClientsStand S entries threads w.clients → ClientsStand S (entries ++ woken_entry acted ∷ []) threads (runs_again k acted).world.clients
  client_woken clock wait acted is client_is activity_is own all =
      let entry : Entry = woken_entry acted in
      subst (λ (clients : List ClientState). ClientsStand S (entries ++ entry ∷ []) threads (map_at (client_changed client_running) clients k)) (sym (end_same clock wait w acted is).0)
      (one_changes S entries entry threads k start w.clients client_running (resume_is_of (threads + k) start entry refl)
      (moved entry (activity.Waiting start wait) client_running (client_is, activity_is) (all k client client_is).known own) all)

-- The steps of the whole state.

pub is_no_thread : (n k : ℕ) → nat_lt (n + k) n ≡ false
is_no_thread n k = grind (arith, nat_tests)

pub behind : (n k : ℕ) → n + k - n ≡ k
behind n k = omega arith

pub client_begin_step : (s : State) (k start : ℕ) (client : ClientState) (asked : Call) (acted : Acted) → slice_get s.world.clients k ≡ Some client → client.activity ≡ activity.Running start
    → is_of_client asked ≡ true → ns_act s.core.clock k asked s.world ≡ Some acted
    → step s (event.Begin (record { 0 = length s.core.threads + k }) start asked) ≡ Some (beside_core s.core acted)
unfolding step client_begin
client_begin_step s k start client asked acted client_is activity_is kind is =
    rw (is_no_thread (length s.core.threads) k, behind (length s.core.threads) k, client_is, activity_is, self_is start, is) refl

pub client_resume_step : (s : State) (k start : ℕ) (client : ClientState) (wait : ClientWait) (acted : Acted) → slice_get s.world.clients k ≡ Some client
    → client.activity ≡ activity.Waiting start wait → end_of_ns_wait s.core.clock wait (drained s.world) ≡ Some acted
    → step s (event.Resume (record { 0 = length s.core.threads + k }) start) ≡ Some (beside_core s.core (runs_again k acted))
unfolding step client_resume
client_resume_step s k start client wait acted client_is activity_is is =
    rw (is_no_thread (length s.core.threads) k, behind (length s.core.threads) k, client_is, activity_is, self_is start, is) refl

pub client_stays_waiting : (s : State) (k start : ℕ) (client : ClientState) (wait : ClientWait) → slice_get s.world.clients k ≡ Some client
    → client.activity ≡ activity.Waiting start wait → end_of_ns_wait s.core.clock wait (drained s.world) ≡ None
    → step s (event.Resume (record { 0 = length s.core.threads + k }) start) ≡ None
unfolding step client_resume
client_stays_waiting s k start client wait client_is activity_is is =
    rw (is_no_thread (length s.core.threads) k, behind (length s.core.threads) k, client_is, activity_is, self_is start, is) refl
